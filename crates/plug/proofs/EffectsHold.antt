-- The statements of specs/Effects.antt hold, by the shapes of an answer.
-- Assumes nothing.
use Rattle.std.specs.Prelude.{Option, None, Some}
use mathlib.Core.Path.{◌≡◌, refl, sym, ap, ◌∙◌, subst}
use mathlib.Core.Bool.{Bool, true, false, true≢false}
use mathlib.Core.List.{List}
use Prim.Native.Nat.{ℕ, ◌+◌, ◌-◌, ◌*◌, ◌≤◌, ◌<◌}
use native.Mathlib.Omega.{arith}
use lib.Dec.{lit≤}
use lib.ListN.{length}
use borrow.Author.Tests.{ltb-false}
use Rattle.words.proofs.WordsLaws.{or_false}
use Rattle.memory.specs.Memory.{page_size}
use Rattle.memory.specs.Pages.{pages_met}
use Rattle.memory.specs.declared.address.FlashAddress.{FlashAddress}
use Rattle.memory.proofs.ProgramLaws.{length_bytes_stores, bytes_stores_programmed}
use Rattle.memory.proofs.EraseLaws.{length_pages_erase, pages_erase_programmed}
use Rattle.plug.specs.Levels.{Command, Program, Display, BlankCheck, EraseBlock, EraseChip, Write, Read, StartReset, StartAt}
use Rattle.plug.specs.Commands.{flash_size, Block, Block0, Block1, Block2, Block3, block_page, block_pages, most_program, bad_range}
use Rattle.plug.specs.Step.{Board, Result, Outcome, Answered, StartedReset, StartedAt, Refused, perform}
use Rattle.plug.specs.Effects.{Leaves, Effects, MovesNothing, RefusalsMoveNothing, DoneOnly}
use Rattle.plug.proofs.ChipLaws.{length_chip, store_all_chip}
use Rattle.plug.proofs.Shape.{Passed, Shape, refuses, tells, does, shape, text_fits}

-- a program record's bytes: 1 to 128 of them, none past FFFFh
record Good (a : FlashAddress) (d : List ℕ) : Type 0 where
  some_bytes : 0 < length d
  not_many : length d ≤ most_program
  inside : a.0 + length d ≤ flash_size

good : (a : FlashAddress) (d : List ℕ) → bad_range (Program a) (length d) ≡ false → Good a d
good a d q =
    let two = or_false _ _ q in
    let one = or_false _ _ two.0 in
    record {
      some_bytes = ltb-false (length d) 1 one.0;
      not_many = ltb-false most_program (length d) one.1;
      inside = ltb-false flash_size (a.0 + length d) two.1;
    }

-- so few bytes meet two pages at most
two_pages : (a n : ℕ) → 0 < n → n ≤ most_program → pages_met a (a + n - 1) ≤ 2
two_pages a n h k = omega arith

-- the pages of a block lie in the flash
block_inside : (k : Block) → page_size * ((block_page k).0 + block_pages k) ≤ flash_size
block_inside Block0 = lit≤ tt
block_inside Block1 = lit≤ tt
block_inside Block2 = lit≤ tt
block_inside Block3 = lit≤ tt

leaves_did : (b : Board) (k : Command) (o : Option Command) (d : List ℕ) → Passed b k o d → Leaves b d (perform b k d)
unfolding perform
leaves_did b (Program a) o d p =
    let g = good a d p.range_right in
    let size = p.flash_size_lem in
    let met = length_bytes_stores a d b.flash g.some_bytes (omega arith) (omega arith) (omega arith) in
    record {
      flash = bytes_stores_programmed a d b.flash g.some_bytes (omega arith) (omega arith) (omega arith);
      config = refl;
      page_count_lem = (met, rw met (two_pages a.0 (length d) g.some_bytes g.not_many));
    }
leaves_did b (Display a e) o d p = record { flash = refl; config = refl; page_count_lem = refl }
leaves_did b (BlankCheck a e) o d p = record { flash = refl; config = refl; page_count_lem = refl }
leaves_did b (EraseBlock k) o d p =
    let there = block_inside k in
    let size = p.flash_size_lem in
    record {
      flash = pages_erase_programmed (block_page k) (block_pages k) b.flash (omega arith) (omega arith);
      config = refl;
      page_count_lem = length_pages_erase (block_page k) (block_pages k) b.flash (omega arith) (omega arith);
    }
leaves_did b EraseChip o d p = record { flash = store_all_chip b.flash p.flash_size_lem; config = refl; page_count_lem = length_chip b.flash p.flash_size_lem }
leaves_did b (Write s) o d p = record { flash = refl; config = refl; page_count_lem = refl }
leaves_did b (Read x) o d p = record { flash = refl; config = refl; page_count_lem = refl }
leaves_did b StartReset o d p = record { flash = refl; config = refl; page_count_lem = refl }
leaves_did b (StartAt a) o d p = record { flash = refl; config = refl; page_count_lem = refl }

leaves_shape : (b : Board) (o : Option Command) (d : List ℕ) (r : Result) → Shape b o d r → Leaves b d r
leaves_shape b o d r (refuses k t q) = subst (λ x. Leaves b d x) (sym q) (record { flash = refl; config = refl; page_count_lem = refl })
leaves_shape b o d r (tells t q) = subst (λ x. Leaves b d x) (sym q) (record { flash = refl; config = refl; page_count_lem = refl })
leaves_shape b o d r (does k p q) = subst (λ x. Leaves b d x) (sym q) (leaves_did b k o d p)

pub effects : Effects
effects b cs n = leaves_shape b _ _ _ (shape b cs n)

-- ---- refusals

abbrev is_refused : Outcome → Bool
is_refused Answered = false
is_refused StartedReset = false
is_refused (StartedAt a) = false
is_refused (Refused k) = true

abbrev refused_number : Outcome → ℕ
refused_number Answered = 0
refused_number StartedReset = 0
refused_number (StartedAt a) = 0
refused_number (Refused k) = k

-- an answer or a start is no refusal
never : {A : Type 0} (o : Outcome) (k : ℕ) → is_refused o ≡ false → o ≡ Refused k → A
never o k f q = absurd (true≢false (ap is_refused (sym q) ∙ f))

-- a command that is done is told as such
did_it : (b : Board) (k : Command) (d : List ℕ) → (is_refused (perform b k d).outcome ≡ false) × ((perform b k d).done ≡ Some k)
unfolding perform
did_it b (Program a) d = (refl, refl)
did_it b (Display a e) d = (refl, refl)
did_it b (BlankCheck a e) d = (refl, refl)
did_it b (EraseBlock k) d = (refl, refl)
did_it b EraseChip d = (refl, refl)
did_it b (Write s) d = (refl, refl)
did_it b (Read x) d = (refl, refl)
did_it b StartReset d = (refl, refl)
did_it b (StartAt a) d = (refl, refl)

refusal_moves : (b : Board) (o : Option Command) (d : List ℕ) (r : Result) (k : ℕ) → r.outcome ≡ Refused k → Shape b o d r → MovesNothing k r
refusal_moves b o d r k e (refuses j t q) =
    let same : j ≡ k = ap refused_number (sym (ap (λ x. x.outcome) q) ∙ e) in
    record { numbered = rw (← same) t; not_done = ap (λ x. x.done) q; nothing_said = ap (λ x. x.text) q }
refusal_moves b o d r k e (tells t q) = never _ k (ap (λ x. is_refused x.outcome) q) e
refusal_moves b o d r k e (does j p q) = never _ k (ap (λ x. is_refused x.outcome) q ∙ (did_it b j d).0) e

pub refusals_move_nothing : RefusalsMoveNothing
refusals_move_nothing b cs n k e = refusal_moves b _ _ _ k e (shape b cs n)

-- ---- what is done

some_same : {k j : Command} → Some k ≡ Some j → k ≡ j
some_same q = cc

none_some : {A : Type 0} {k : Command} → None ≡ Some k → A
none_some q = let z : ◌≡◌ {A = ℕ} 0 1 = cc in absurd (omega arith)

done_shape : (b : Board) (o : Option Command) (d : List ℕ) (r : Result) (k : Command) → r.done ≡ Some k → Shape b o d r → Passed b k o d
done_shape b o d r k e (refuses j t q) = none_some (sym (ap (λ x. x.done) q) ∙ e)
done_shape b o d r k e (tells t q) = none_some (sym (ap (λ x. x.done) q) ∙ e)
done_shape b o d r k e (does j p q) =
    let same : j ≡ k = some_same (sym (did_it b j d).1 ∙ sym (ap (λ x. x.done) q) ∙ e) in
    subst (λ x. Passed b x o d) same p

pub done_only : DoneOnly
done_only b cs n k e =
    let p = done_shape b _ _ _ k e (shape b cs n) in
    record {
      flash_size_lem = p.flash_size_lem;
      its_command = p.formed;
      range_right = p.range_right;
      allowed_there = p.level_right;
      answer_fits = text_fits b cs n;
    }
