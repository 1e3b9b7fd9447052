-- The writer's refusals and its room hold in numbers.
-- Assumes nothing.
use Rattle.std.specs.Prelude.{Some}
use mathlib.Core.Logic.{◌⊎◌, inl, inr}
use mathlib.Core.Path.{◌≡◌, refl, ap, ◌∙◌}
use mathlib.Core.Bool.{Bool, true, false, not, ◌||◌, or-true}
use mathlib.Core.List.{List}
use Prim.Native.Nat.{ℕ, ◌≤◌}
use native.Mathlib.Omega.{arith}
use lib.Dec.{eqb}
use lib.ListN.{length, take, drop}
use lib.Seq.{take_at, drop_at}
use borrow.Author.Tests.{eq-eqb, eqb-true, le-leb, leb-true, lt-ltb, le-ltb, not-false}
use Rattle.words.specs.Words.{count, among}
use Rattle.words.proofs.WordsLaws.{or_false, overlay_front}
use Rattle.config.specs.Config.{writable, readable, fixed_indexes}
use Rattle.command.specs.Address.{bad_address}
use Rattle.command.specs.Transfer.{laid, padding}
use Rattle.command.specs.Ranges.{Unless, AddressRight}
use Rattle.command.proofs.RangesHold.{address_told}
use Rattle.command.specs.declared.command.Command.{Command}
use Rattle.command.specs.declared.command.Command.TheVariants.{ProgramFlash, ProgramEeprom, Read, BlankCheck, EraseBlock, EraseChip, WriteByte, WriteHsb}
use Rattle.command.specs.declared.command.Command.TheVariants.{StartReset, StartAt, ReadVersion, ReadByte, ReadHsb}
use Rattle.writer.specs.Writer.{bad_parts, bad_write, cannot_write, command_bytes, write_command, room_after, put_answer, put_room}
use Rattle.writer.specs.WriterOrder.{PartsRight, CarriedRight, Writable, WriterOrder}

-- a program transfer's data and suffix, of a forward range
parts_told : (a e x : ℕ) (d s : List ℕ) → a ≤ e → Unless (bad_parts (Some (laid x (count a e))) (length d) (length s)) (PartsRight a e d s)
parts_told a e x d s forward = record {
  told = λ q.
      let o = or_false (not (eqb (length d) (count a e))) (not (eqb (length s) 16)) q in
      let n = eqb-true (length d) (count a e) (not-false _ o.0) in
      record { body_size = omega arith; suffix_size_lem = eqb-true (length s) 16 (not-false _ o.1) };
  passes = λ r.
      let n = r.body_size in
      rw (eq-eqb (length d) (count a e) (omega arith), eq-eqb (length s) 16 r.suffix_size_lem);
}

written_told : (i : ℕ) → Unless (not (writable i)) (i ≤ 0x06)
written_told i = record { told = λ q. leb-true i 0x06 (not-false _ q); passes = λ h. rw (le-leb i 0x06 h) }

either : (t u : Bool) → (t || u) ≡ true → (t ≡ true) ⊎ (u ≡ true)
either true u q = inl refl
either false u q = inr q

read_told : (i : ℕ) → Unless (not (readable i)) ((i ≤ 0x06) ⊎ (among i fixed_indexes ≡ true))
read_told i = record { told = λ q. named (either (writable i) (among i fixed_indexes) (not-false _ q)); passes = λ h. passes h }
  where
    named : (writable i ≡ true) ⊎ (among i fixed_indexes ≡ true) → (i ≤ 0x06) ⊎ (among i fixed_indexes ≡ true)
    named (inl t) = inl (leb-true i 0x06 t)
    named (inr t) = inr t

    passes : (i ≤ 0x06) ⊎ (among i fixed_indexes ≡ true) → not (readable i) ≡ false
    passes (inl h) = rw (le-leb i 0x06 h)
    passes (inr t) = rw (t, or-true (writable i))

free : Unless false (Unit {0})
free = record { told = λ q. tt; passes = λ t. refl }

carried_told : (k : Command) (d s : List ℕ) → AddressRight k → Unless (bad_write k (length d) (length s)) (CarriedRight k d s)
carried_told (ProgramFlash a e) d s r = parts_told a.0 e.0 (padding a.0) d s r.forward
carried_told (ProgramEeprom a e) d s r = parts_told a.0 e.0 (padding a.0) d s r.forward
carried_told (Read x) d s r = free
carried_told (BlankCheck a e) d s r = free
carried_told (EraseBlock k) d s r = free
carried_told EraseChip d s r = free
carried_told (WriteByte i v) d s r = written_told i
carried_told (WriteHsb v) d s r = free
carried_told StartReset d s r = free
carried_told (StartAt a) d s r = free
carried_told ReadVersion d s r = free
carried_told (ReadByte i) d s r = read_told i
carried_told ReadHsb d s r = free

module _ (k : Command) (d s : List ℕ) where
  can : Writable k d s → cannot_write k d s ≡ false
  can w = rw ((address_told k).passes w.address_right, (carried_told k d s w.address_right).passes w.carried_right)

  can_not : (Writable k d s → ⊥) → (t : Bool) → cannot_write k d s ≡ t → t ≡ true
  can_not h true q = refl
  can_not h false q =
      let o = or_false (bad_address k) (bad_write k (length d) (length s)) q in
      let a = (address_told k).told o.0 in
      absurd (h (record { address_right = a; carried_right = (carried_told k d s a).told o.1 }))

pub writer_order : WriterOrder
unfolding write_command room_after put_answer put_room
writer_order k d s room = record {
  eight = λ h. let t = can_not k d s h (cannot_write k d s) refl in (rw t, rw t);
  nine = λ w h. let t = can k d s w in let l = lt-ltb (length room) (length (command_bytes k d s)) h in (rw (t, l), rw (t, l));
  written = λ w h.
      let t = can k d s w in
      let l = le-ltb (length room) (length (command_bytes k d s)) h in
      let bytes : List ℕ = command_bytes k d s in
      let front = overlay_front bytes room in (
        rw (t, l),
        rw (t, l) (ap (take (length bytes)) front ∙ take_at bytes (drop (length bytes) room) (length bytes) refl),
        rw (t, l) (ap (drop (length bytes)) front ∙ drop_at bytes (drop (length bytes) room) (length bytes) refl),
      );
  written_told = λ n. (refl, refl);
  unwritten_8 = refl;
  unwritten_9 = refl;
  unwritten_told = λ e. (refl, refl);
}
