-- The layout of a program transfer and the reader's order hold.
-- Assumes nothing.
use Rattle.std.specs.Prelude.{None, Some}
use mathlib.Core.Path.{◌≡◌, refl, ap, ◌∙◌}
use mathlib.Core.Bool.{Bool, true, false}
use mathlib.Core.List.{List, ◌++◌, append_assoc}
use Prim.Native.Nat.{ℕ, ◌+◌, ◌%◌}
use native.Mathlib.Omega.{arith}
use lib.ListN.{length, take, drop, length-append}
use lib.Seq.{take_at, drop_at}
use borrow.Author.Tests.{eq-eqb}
use Rattle.words.specs.Words.{count}
use Rattle.command.specs.Form.{Command, ProgramFlash, ProgramEeprom, Read, BlankCheck, EraseBlock, EraseChip, WriteByte, WriteHsb, StartReset, StartAt}
use Rattle.command.specs.Form.{ReadVersion, ReadByte, ReadHsb}
use Rattle.command.specs.Address.{bad_address}
use Rattle.command.specs.Transfer.{laid, padding, body_place, suffix_place, transfer_length, transfer_of, body_of, suffix_of, bad_length}
use Rattle.command.specs.Reader.{read_command}
use Rattle.command.specs.Ranges.{AddressRight}
use Rattle.command.specs.Layout.{Programs, flash, eeprom, Laid, Found, CarriesNone, Layout, ReaderOrder}
use Rattle.command.proofs.RangesHold.{address_told}
use Rattle.command.proofs.TransferLaws.{right_length}

module _ (a e : ℕ) (command pad new suffix : List ℕ) (as_laid : Laid a e command pad new suffix) where
  abbrev whole : List ℕ
  whole = command ++ pad ++ new ++ suffix

  as_many : length new ≡ count a e
  as_many = let n = as_laid.new_size in omega arith

  front : length (command ++ pad) ≡ body_place (padding a)
  front = simp length-append (omega (arith, as_laid.command_size_lem, as_laid.pad_size))

  whole_length : length whole ≡ transfer_length (padding a) (count a e)
  whole_length = simp length-append (omega (arith, as_laid.command_size_lem, as_laid.pad_size, as_laid.suffix_size_lem, as_many))

  body_found : body_of a e whole ≡ new
  body_found =
      ap (λ x. take (count a e) (drop (body_place (padding a)) x)) (append_assoc (command ++ pad) new suffix)
      ∙ ap (take (count a e)) (drop_at (command ++ pad) (new ++ suffix) (body_place (padding a)) front)
      ∙ take_at new suffix (count a e) as_many

  suffix_found : suffix_of a e whole ≡ suffix
  suffix_found =
      drop_at (command ++ pad ++ new) suffix (suffix_place (padding a) (count a e))
      (simp length-append (omega (arith, as_laid.command_size_lem, as_laid.pad_size, as_many)))

  -- either memory's command: its transfer goes by X and n
  found_by : (k : Command) → transfer_of k ≡ Some (laid (padding a) (count a e)) → Found k a e command pad new suffix
  found_by k q = record {
    right_length = rw (q, eq-eqb (length whole) (transfer_length (padding a) (count a e)) whole_length);
    body = body_found;
    rest = suffix_found;
    body_place_lem = rw q;
    suffix_place_lem = rw (q, as_many);
  }

transfer_told : (k : Command) (a e : ℕ) → Programs k a e → transfer_of k ≡ Some (laid (padding a) (count a e))
transfer_told _ _ _ (flash a e) = refl
transfer_told _ _ _ (eeprom a e) = refl

whole_told : (k : Command) (a e n : ℕ) → Programs k a e → a + n ≡ e + 1 → (d : List ℕ) → bad_length k d ≡ false → length d ≡ 48 + a % 32 + n
whole_told k a e n p h d q = right_length (padding a) (count a e) d (rw (transfer_told k a e p) at q) ∙ omega arith

no_transfer : (k : Command) → ((a e : ℕ) → Programs k a e → ⊥) → transfer_of k ≡ None
no_transfer (ProgramFlash a e) h = absurd (h a.0 e.0 (flash a e))
no_transfer (ProgramEeprom a e) h = absurd (h a.0 e.0 (eeprom a e))
no_transfer (Read r) h = refl
no_transfer (BlankCheck a e) h = refl
no_transfer (EraseBlock k) h = refl
no_transfer EraseChip h = refl
no_transfer (WriteByte i v) h = refl
no_transfer (WriteHsb v) h = refl
no_transfer StartReset h = refl
no_transfer (StartAt a) h = refl
no_transfer ReadVersion h = refl
no_transfer (ReadByte i) h = refl
no_transfer ReadHsb h = refl

none_carried : (k : Command) (d : List ℕ) → transfer_of k ≡ None → CarriesNone k d
none_carried k d q = record { right_length = rw q; body_place_lem = rw q; suffix_place_lem = rw q }

pub layout : Layout
layout = record {
  command_size_lem = refl;
  suffix_size_lem = refl;
  pad_size = λ a. refl;
  behind_pad = λ x. refl;
  found = λ k a e p command pad new suffix l. found_by a e command pad new suffix l k (transfer_told k a e p);
  whole = whole_told;
  transfer = transfer_told;
  none = no_transfer;
  no_transfer = λ k h d. none_carried k d (no_transfer k h);
}

-- ---- the reader's order

address_bad : (k : Command) → (AddressRight k → ⊥) → (t : Bool) → bad_address k ≡ t → t ≡ true
address_bad k h true q = refl
address_bad k h false q = absurd (h ((address_told k).told q))

pub reader_order : ReaderOrder
unfolding read_command
reader_order = record {
  unlisted = λ d f. rw f;
  bad_address_lem = λ d k f h. rw (f, address_bad k h (bad_address k) refl);
  bad_length_lem = λ d k f a l. rw (f, (address_told k).passes a, l);
  taken = λ d k f a l. rw (f, (address_told k).passes a, l);
  taken_00h = λ k p. refl;
  stall_0fh = (refl, refl);
  address_08h = (refl, refl);
}
