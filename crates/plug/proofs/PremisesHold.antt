-- The premises of demand 3 are the weakest: different SSB, and after a full chip erase different HSB, are told by one read.
-- Assumes nothing.
use mathlib.Core.Path.{◌≡◌, refl, sym, ap, ◌∙◌}
use mathlib.Core.Bool.{Bool, true, false}
use mathlib.Core.List.{List, [], ◌∷◌}
use Prim.Native.Nat.{ℕ, ◌/◌, ◌%◌, ◌≤◌}
use native.Mathlib.Omega.{arith}
use lib.Dec.{ltb}
use lib.ListN.{length, get_or, length-replicate}
use borrow.Author.Tests.{ltb-true, ltb-false}
use Rattle.lines.specs.Text.{hex_digit}
use Rattle.record.specs.Digits.{digit_value}
use Rattle.plug.specs.Config.{level, byte_value, erased_config, Byte, Ssb, Hsb}
use Rattle.plug.specs.Levels.{Read, EraseChip}
use Rattle.plug.specs.Commands.{flash_size, form}
use Rattle.plug.specs.Answers.{value_text}
use Rattle.plug.specs.Step.{Board, board, next, Report, reports, did, perform, answer, step, blank_flash}
use Rattle.plug.specs.Order.{Taken}
use Rattle.plug.specs.LevelTwo.{read_ssb, erase_all, read_hsb, value_room, least_room, sent, SsbTold, HsbTold}
use Rattle.plug.proofs.ChipLaws.{store_all_chip}
use Rattle.plug.proofs.OrderHolds.{order}
use Rattle.plug.proofs.SecurityHolds.{at_every_level}

-- two digits tell a byte
digit_told : (d e : ℕ) (t u : Bool) → ltb d 10 ≡ t → ltb e 10 ≡ u → hex_digit d ≡ hex_digit e → d ≡ e
digit_told d e true true p q h = let z = rw (p, q) at h in omega arith
digit_told d e true false p q h = let z = rw (p, q) at h in omega (arith, ltb-true d 10 p, ltb-false e 10 q)
digit_told d e false true p q h = let z = rw (p, q) at h in omega (arith, ltb-false d 10 p, ltb-true e 10 q)
digit_told d e false false p q h = let z = rw (p, q) at h in omega arith

value_told : (v w : ℕ) → value_text v ≡ value_text w → v ≡ w
value_told v w q =
    let high = digit_told (v / 16) (w / 16) _ _ refl refl (ap (λ l. get_or l 0 0) q) in
    let low = digit_told (v % 16) (w % 16) _ _ refl refl (ap (λ l. get_or l 1 0) q) in
    omega arith

-- a read that is done, in a room that takes it
read_done : (b : Board) (cs : List ℕ) (x : Byte) (n : ℕ) → answer b cs ≡ did (Read x) (value_text (byte_value x b.config)) b.config []
    → value_room ≤ n → (step b cs n).text ≡ value_text (byte_value x b.config)
read_done b cs x n q h = ap (λ r. r.text) (order.fits b cs n (rw q h) ∙ q)

ssb_answer : (b : Board) → length b.flash ≡ flash_size → answer b read_ssb ≡ did (Read Ssb) (value_text b.config.ssb) b.config []
unfolding form perform digit_value
ssb_answer b h =
    let t : Taken b read_ssb = record { flash_size_lem = h; well_formed_lem = refl; sum_right = refl } in
    order.done b read_ssb (Read Ssb) t refl refl (at_every_level (level b.config))

pub ssb_told : SsbTold
ssb_told b b' z z' d n h q =
    d (value_told _ _ (sym (read_done b read_ssb Ssb n (ssb_answer b z) h) ∙ ap (λ r. r.text) q ∙ read_done b' read_ssb Ssb n (ssb_answer b' z') h))

-- the board after a full chip erase, at level 0
erased : (b : Board) (m : ℕ) → length b.flash ≡ flash_size → least_room ≤ m → next b (step b erase_all m) ≡ board (erased_config b.config) blank_flash
unfolding form perform digit_value
erased b m h l =
    let t : Taken b erase_all = record { flash_size_lem = h; well_formed_lem = refl; sum_right = refl } in
    let a = order.done b erase_all EraseChip t refl refl (at_every_level (level b.config)) in
    ap (next b) (order.fits b erase_all m (rw a l) ∙ a) ∙ ap (board (erased_config b.config)) (store_all_chip b.flash h)

length_blank : length blank_flash ≡ flash_size
unfolding blank_flash
length_blank = length-replicate {A = ℕ} flash_size 0xFF

hsb_answer : (b : Board) → let e = board (erased_config b.config) blank_flash in answer e read_hsb ≡ did (Read Hsb) (value_text b.config.hsb) e.config []
unfolding form perform digit_value
hsb_answer b =
    let e = board (erased_config b.config) blank_flash in
    order.done e read_hsb (Read Hsb) (record { flash_size_lem = length_blank; well_formed_lem = refl; sum_right = refl }) refl refl refl

-- the second report of such a run
second : List Report → List ℕ
second [] = []
second (r ∷ []) = []
second (r ∷ s ∷ rs) = s.text

hsb_read : (b : Board) (m n : ℕ) → length b.flash ≡ flash_size → least_room ≤ m → value_room ≤ n
    → second (reports b (sent erase_all m ∷ sent read_hsb n ∷ [])) ≡ value_text b.config.hsb
unfolding second
hsb_read b m n h l k = rw (erased b m h l) (read_done (board (erased_config b.config) blank_flash) read_hsb Hsb n (hsb_answer b) k)

pub hsb_told : HsbTold
hsb_told b b' z z' d m n l k q = d (value_told _ _ (sym (hsb_read b m n z l k) ∙ ap second q ∙ hsb_read b' m n z' l k))
