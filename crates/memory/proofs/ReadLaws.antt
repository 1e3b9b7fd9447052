-- What reading a range leaves in the buffer, of a memory of any size.
-- Assumes nothing.
use Rattle.std.specs.Prelude.{if◌then◌else◌}
use mathlib.Core.Path.{◌≡◌, refl, sym, ◌∙◌}
use mathlib.Core.Logic.{inr}
use mathlib.Core.Bool.{Bool, true, false, ◌&&◌, and-eq-true_iff, false≢true}
use mathlib.Core.List.{List}
use Prim.Native.Nat.{ℕ, ◌<◌}
use native.Mathlib.Nat.{zero-add}
use native.Mathlib.Omega.{arith}
use lib.Dec.{leb, ltb}
use lib.ListN.{length, drop, get_or, length-drop, length-replicate, get_or-replicate}
use lib.Seq.{length-take-le, get_or-take, get_or-drop}
use borrow.Author.Tests.{le-leb, lt-ltb, leb-true, ltb-true}
use Rattle.words.specs.Words.{count, part, overlay, Programmed}
use Rattle.words.proofs.WordsLaws.{overlay_programmed}
use Rattle.memory.specs.Memory.{flash_size, blank_flash, BoardSizes}
use Rattle.memory.specs.Read.{copyable, copied, buffer_after, Readable, ReadOrNot, AnySizeRead, OwnSelected, OwnRead}

module _ (a e : ℕ) (m buffer : List ℕ) where
  copyable_readable : copyable a e m buffer ≡ true → Readable a e m buffer
  copyable_readable t =
      let three = (and-eq-true_iff (leb a e && ltb e (length m)) (leb (count a e) (length buffer))).0 t in
      let two = (and-eq-true_iff (leb a e) (ltb e (length m))).0 three.0 in
      let room = leb-true (count a e) (length buffer) three.1 in
      record { forward = leb-true a e two.0; inside = ltb-true e (length m) two.1; room = omega arith }

  pub readable_copyable : Readable a e m buffer → copyable a e m buffer ≡ true
  readable_copyable r = rw (le-leb a e r.forward, lt-ltb e (length m) r.inside, le-leb (count a e) (length buffer) (omega (arith, r)))

  -- the bytes of the range, laid over the buffer's front
  module _ (r : Readable a e m buffer) where
    pub length_part : length (part a e m) ≡ count a e
    length_part = length-take-le (count a e) (drop a m) (simp length-drop (omega (arith, r)))

    over_front : Programmed 0 (part a e m) buffer (overlay 0 (part a e m) buffer)
    over_front = overlay_programmed 0 (part a e m) buffer (omega (arith, r, length_part))

    is_read : ReadOrNot a e m buffer (overlay 0 (part a e m) buffer) (count a e)
    is_read = record {
      told = λ _. omega (arith, r);
      same_size = λ _. over_front.same_size;
      read = λ _ i h.
          let inside : i < count a e = omega arith in
          let laid : get_or (overlay 0 (part a e m) buffer) i 0 ≡ get_or (part a e m) i 0 =
          rw (zero-add i) at (over_front.new_values i (omega (arith, length_part))) in
          laid ∙ get_or-take (count a e) (drop a m) i 0 inside ∙ get_or-drop a m i 0;
      rest_stays = λ _ i h. over_front.others_stay i (inr (omega (arith, length_part)));
      not_read = λ n. absurd (n r);
    }

pub any_size_read : AnySizeRead
unfolding copied buffer_after
any_size_read a e m buffer = by (copyable a e m buffer) refl
  where
    by : (t : Bool) → copyable a e m buffer ≡ t → ReadOrNot a e m buffer (if t then overlay 0 (part a e m) buffer else buffer) (if t then count a e else 0)
    by true q = is_read a e m buffer (copyable_readable a e m buffer q)
    by false q =
        let not_so : Readable a e m buffer → ⊥ = λ r. false≢true (sym q ∙ readable_copyable a e m buffer r) in
        record {
          told = λ r. absurd (not_so r);
          same_size = λ r. absurd (not_so r);
          read = λ r. absurd (not_so r);
          rest_stays = λ r. absurd (not_so r);
          not_read = λ _. (refl, refl);
        }

pub own_selected : OwnSelected
own_selected = record {
  of_flash = λ a e f m. refl;
  of_eeprom = λ a e f m. refl;
  flash_ends = λ a e. (refl, refl);
  eeprom_ends = λ a e. (refl, refl);
}

pub own_read : OwnRead
own_read = record { of_flash = λ a e f m buffer. (refl, refl); of_eeprom = λ a e f m buffer. (refl, refl) }

pub board_sizes : BoardSizes
unfolding blank_flash
board_sizes = record {
  flash_bytes = refl;
  flash_last = refl;
  flash_in_pages = (refl, refl);
  eeprom_bytes = refl;
  flash_range_lem = λ a e. (refl, refl);
  eeprom_range_lem = λ a e. (refl, refl);
  addresses = λ n. (refl, refl, refl);
  blank_size = length-replicate {A = ℕ} flash_size 0xFF;
  blank_bytes = λ i h. get_or-replicate flash_size i 0xFF 0 h;
}
