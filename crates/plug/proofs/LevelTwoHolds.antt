-- The statements of specs/LevelTwo.antt hold. One record is answered alike by two boards with the same SSB and the same blank bytes, and
-- at level 2 it either moves nothing or is a full chip erase that is done; runs follow by induction.
-- Assumes nothing.
use Rattle.std.specs.Prelude.{if◌then◌else◌, Option, None, Some, Ok, Err}
use mathlib.Core.Path.{◌≡◌, refl, sym, ap, ◌∙◌, subst}
use mathlib.Core.Bool.{Bool, true, false, true≢false}
use mathlib.Core.List.{List, [], ◌∷◌}
use Prim.Native.Nat.{ℕ, zero, suc, ◌+◌, ◌*◌, ◌/◌, ◌%◌, ◌≤◌, ◌<◌}
use native.Mathlib.Omega.{arith}
use lib.Dec.{eqb, ltb, lit<, lit≤}
use lib.ListN.{length, get_or}
use borrow.Author.Tests.{eqb-true, eq-eqb, le-ltb, lt-ltb}
use Rattle.memory.specs.Memory.{flash_address}
use Rattle.blank.proofs.BlankLaws.{marks, used_in_same, used_in_one}
use Rattle.blank.proofs.SameBlankLaws.{same_marks, differ_at}
use Rattle.config.specs.Level.{ssb_level}
use Rattle.config.specs.declared.level.Level.TheVariants.{L2}
use Rattle.record.specs.Reader.{Reading, reading, data_read}
use Rattle.record.specs.RoundTrip.{Bytes, ReadsAs}
use Rattle.record.proofs.RoundTripHolds.{reads as reads_written}
use Rattle.record.specs.declared.reader.ReadError.TheVariants.{WrongChecksum, BadRecord, TooShort}
use Rattle.plug.specs.Config.{Config, delivered_config, level, erased_config, Fixed, Ssb, Bsb, Sbv, Hsb}
use Rattle.plug.specs.Levels.{Command, Program, Display, BlankCheck, EraseBlock, EraseChip, Write, Read, StartReset, StartAt, allowed}
use Rattle.plug.specs.Commands.{flash_size, form, bad_range}
use Rattle.plug.specs.Answers.{wrong_checksum_text, security_text, blank_text, value_text}
use Rattle.plug.specs.Step.{Board, board, Result, next, pages, refused, told, did, perform, obey, obey_form, answer_to, answer, in_room, step, blank_flash}
use Rattle.plug.specs.Step.{Event, take_record, Report, report, reports}
use Rattle.plug.specs.LevelTwo.{Alike, is_chip_erase, up_to_erase, KeptSecret, KeptSecretEver, check_data, blank_check_of, least_room, ToldApart, NotInLess}
use Rattle.plug.proofs.ChipLaws.{length_chip, store_all_chip}
use Rattle.plug.proofs.SecurityHolds.{at_every_level, no_write}
use Rattle.plug.proofs.Shape.{Passed, Shape, refuses, tells as only_told, does, shape}

-- ---- one record is answered alike

-- all of a result but the configuration and the bytes that are stored
pub record Same (r r' : Result) : Type 0 where
  pub outcome : r.outcome ≡ r'.outcome
  pub text : r.text ≡ r'.text
  pub page_count_lem : pages r ≡ pages r'
  pub done : r.done ≡ r'.done

same_if : (t : Bool) {x x' y y' : Result} → Same x x' → Same y y' → Same (if t then x else y) (if t then x' else y')
same_if true p q = p
same_if false p q = q

refused_same : (c c' : Config) (k : ℕ) → Same (refused c k) (refused c' k)
refused_same c c' k = record { outcome = refl; text = refl; page_count_lem = refl; done = refl }

told_same : (c c' : Config) (t : List ℕ) → Same (told c t) (told c' t)
told_same c c' t = record { outcome = refl; text = refl; page_count_lem = refl; done = refl }

in_room_same : (c c' : Config) (n : ℕ) (r r' : Result) → Same r r' → Same (in_room c n r) (in_room c' n r')
in_room_same c c' n r r' q =
    let t : ltb n (length r.text) ≡ ltb n (length r'.text) = ap (λ x. ltb n (length x)) q.text in
    rw (← t) (same_if (ltb n (length r.text)) (refused_same c c' 9) q)

module _ (c c' : Config) (f f' : List ℕ) (lv : level c ≡ L2) (s : c.ssb ≡ c'.ssb) (l : length f ≡ length f') (m : marks f ≡ marks f') where
  lv' : level c' ≡ L2
  lv' = ap ssb_level (sym s) ∙ lv

  -- what the level lets through, and what it does not
  let_through : length f ≡ flash_size → (k : Command) (d : List ℕ)
      → Same (if allowed k (level c) then perform (board c f) k d else told c security_text)
      (if allowed k (level c') then perform (board c' f') k d else told c' security_text)
  unfolding perform
  let_through h (Program a) d = rw (lv, lv') (told_same c c' security_text)
  let_through h (Display a e) d = rw (lv, lv') (told_same c c' security_text)
  let_through h (BlankCheck a e) d =
      rw (lv, lv') (record { outcome = refl; text = ap blank_text (used_in_same a.0 e.0 f f' m); page_count_lem = refl; done = refl })
  let_through h (EraseBlock k) d = rw (lv, lv') (told_same c c' security_text)
  let_through h EraseChip d = rw (lv, lv') (record {
    outcome = refl;
    text = refl;
    page_count_lem = length_chip f h ∙ sym (length_chip f' (sym l ∙ h));
    done = refl;
  })
  let_through h (Write w) d = rw (lv, lv', no_write w) (told_same c c' security_text)
  let_through h (Read (Fixed v)) d = rw (lv, lv') (record { outcome = refl; text = refl; page_count_lem = refl; done = refl })
  let_through h (Read Ssb) d = rw (lv, lv') (record { outcome = refl; text = ap value_text s; page_count_lem = refl; done = refl })
  let_through h (Read Bsb) d = rw (lv, lv') (told_same c c' security_text)
  let_through h (Read Sbv) d = rw (lv, lv') (told_same c c' security_text)
  let_through h (Read Hsb) d = rw (lv, lv') (told_same c c' security_text)
  let_through h StartReset d = rw (lv, lv') (record { outcome = refl; text = refl; page_count_lem = refl; done = refl })
  let_through h (StartAt a) d = rw (lv, lv') (record { outcome = refl; text = refl; page_count_lem = refl; done = refl })

  obey_same : length f ≡ flash_size → (o : Option Command) (d : List ℕ) → Same (obey_form (board c f) o d) (obey_form (board c' f') o d)
  unfolding obey
  obey_same h None d = refused_same c c' 17
  obey_same h (Some k) d = same_if (bad_range k (length d)) (refused_same c c' 17) (let_through h k d)

  answer_to_same : length f ≡ flash_size → (r : Reading) (d : List ℕ) → Same (answer_to (board c f) r d) (answer_to (board c' f') r d)
  answer_to_same h (Ok g) d = obey_same h (form g.kind g.offset d) d
  answer_to_same h (Err WrongChecksum) d = told_same c c' wrong_checksum_text
  answer_to_same h (Err BadRecord) d = refused_same c c' 17
  answer_to_same h (Err TooShort) d = refused_same c c' 9

  -- either flash has its size, or neither has
  sized : (cs : List ℕ) (t : Bool) → eqb (length f) flash_size ≡ t
      → Same (if t then answer_to (board c f) (reading cs) (data_read (reading cs) cs) else refused c 2)
      (if t then answer_to (board c' f') (reading cs) (data_read (reading cs) cs) else refused c' 2)
  sized cs true q = answer_to_same (eqb-true (length f) flash_size q) (reading cs) (data_read (reading cs) cs)
  sized cs false q = refused_same c c' 2

  answer_same : (cs : List ℕ) → Same (answer (board c f) cs) (answer (board c' f') cs)
  unfolding answer
  answer_same cs = rw (← l) (sized cs (eqb (length f) flash_size) refl)

  step_same : (cs : List ℕ) (n : ℕ) → Same (step (board c f) cs n) (step (board c' f') cs n)
  unfolding step
  step_same cs n = in_room_same c c' n (answer (board c f) cs) (answer (board c' f') cs) (answer_same cs)

-- ---- what a record at level 2 does: it moves nothing, or it is a full chip erase that is done

data Kept (b : Board) (r : Result) : Type 0 where
  quiet : next b r ≡ b → is_chip_erase r.done ≡ false → Kept b r
  wiped : next b r ≡ board (erased_config b.config) blank_flash → is_chip_erase r.done ≡ true → Kept b r

-- a command that level 2 does not allow has not passed
stopped : (b : Board) (k : Command) {o : Option Command} {d : List ℕ} → level b.config ≡ L2 → Passed b k o d → allowed k L2 ≡ false → ⊥
stopped b k lv p f = true≢false (sym p.level_right ∙ rw lv f)

kept_did : (b : Board) → level b.config ≡ L2 → (k : Command) (o : Option Command) (d : List ℕ) → Passed b k o d → Kept b (perform b k d)
unfolding perform
kept_did b lv (Program a) o d p = absurd (stopped b (Program a) lv p refl)
kept_did b lv (Display a e) o d p = quiet refl refl
kept_did b lv (BlankCheck a e) o d p = quiet refl refl
kept_did b lv (EraseBlock k) o d p = absurd (stopped b (EraseBlock k) lv p refl)
kept_did b lv EraseChip o d p = wiped (ap (board (erased_config b.config)) (store_all_chip b.flash p.flash_size_lem)) refl
kept_did b lv (Write w) o d p = absurd (stopped b (Write w) lv p (no_write w))
kept_did b lv (Read x) o d p = quiet refl refl
kept_did b lv StartReset o d p = quiet refl refl
kept_did b lv (StartAt a) o d p = quiet refl refl

kept_shape : (b : Board) → level b.config ≡ L2 → (o : Option Command) (d : List ℕ) (r : Result) → Shape b o d r → Kept b r
kept_shape b lv o d r (refuses k t q) = subst (λ x. Kept b x) (sym q) (quiet refl refl)
kept_shape b lv o d r (only_told t q) = subst (λ x. Kept b x) (sym q) (quiet refl refl)
kept_shape b lv o d r (does k p q) = subst (λ x. Kept b x) (sym q) (kept_did b lv k o d p)

kept : (b : Board) → level b.config ≡ L2 → (v : Event) → Kept b (take_record b v)
kept b lv v = kept_shape b lv _ _ _ (shape b v.record_characters v.room_size)

-- the same of two boards that are answered alike
data Both (b b' : Board) (r r' : Result) : Type 0 where
  both_quiet : next b r ≡ b → next b' r' ≡ b' → is_chip_erase r.done ≡ false → is_chip_erase r'.done ≡ false → Both b b' r r'
  both_wiped : next b r ≡ board (erased_config b.config) blank_flash → next b' r' ≡ board (erased_config b'.config) blank_flash
      → is_chip_erase r.done ≡ true → is_chip_erase r'.done ≡ true → Both b b' r r'

both : (b b' : Board) (r r' : Result) → is_chip_erase r.done ≡ is_chip_erase r'.done → Kept b r → Kept b' r' → Both b b' r r'
both b b' r r' q (quiet p x) (quiet p' x') = both_quiet p p' x x'
both b b' r r' q (wiped p x) (wiped p' x') = both_wiped p p' x x'
both b b' r r' q (quiet p x) (wiped p' x') = absurd (true≢false (sym x' ∙ sym q ∙ x))
both b b' r r' q (wiped p x) (quiet p' x') = absurd (true≢false (sym x ∙ q ∙ x'))

-- ---- runs

-- the reports of a run up to and including the first full chip erase that is done
cut : Board → List Event → List Report
cut b vs = reports b (up_to_erase b vs)

report_same : (r r' : Result) → Same r r' → report r ≡ report r'
report_same r r' q = rw (q.outcome, q.text, q.page_count_lem)

module _ (b b' : Board) (a : Alike b b') where
  same : (v : Event) → Same (take_record b v) (take_record b' v)
  same v =
      step_same b.config b'.config b.flash b'.flash a.at_level_2 a.same_ssb a.same_flash_size
      (same_marks b.flash b'.flash a.same_flash_size a.same_blank) v.record_characters v.room_size

  alike : (v : Event) → Both b b' (take_record b v) (take_record b' v)
  alike v =
      both b b' _ _ (ap is_chip_erase (same v).done) (kept b a.at_level_2 v) (kept b' (ap ssb_level (sym a.same_ssb) ∙ a.at_level_2) v)

  -- one record more
  cut_more : (v : Event) (vs : List Event) → Both b b' (take_record b v) (take_record b' v) → cut b vs ≡ cut b' vs → cut b (v ∷ vs) ≡ cut b' (v ∷ vs)
  unfolding cut
  cut_more v vs (both_quiet p p' x x') ih = rw (x, x', p, p', report_same _ _ (same v), ih)
  cut_more v vs (both_wiped p p' x x') ih = rw (x, x', report_same _ _ (same v))

  cut_same : (vs : List Event) → cut b vs ≡ cut b' vs
  unfolding cut
  cut_same [] = refl
  cut_same (v ∷ vs) = cut_more v vs (alike v) (cut_same vs)

pub kept_secret : KeptSecret
unfolding cut
kept_secret b b' a vs = cut_same b b' a vs

module _ (b b' : Board) (a : Alike b b') (h : b.config.hsb ≡ b'.config.hsb) where
  -- one record more: after a full chip erase the two boards are one
  ever_more : (v : Event) (vs : List Event) → Both b b' (take_record b v) (take_record b' v) → reports b vs ≡ reports b' vs
      → reports b (v ∷ vs) ≡ reports b' (v ∷ vs)
  ever_more v vs (both_quiet p p' x x') ih = rw (p, p', report_same _ _ (same b b' a v), ih)
  ever_more v vs (both_wiped p p' x x') ih = rw (p, p', report_same _ _ (same b b' a v), h)

  ever_same : (vs : List Event) → reports b vs ≡ reports b' vs
  ever_same [] = refl
  ever_same (v ∷ vs) = ever_more v vs (alike b b' a v) (ever_same vs)

pub kept_secret_ever : KeptSecretEver
kept_secret_ever b b' a h vs = ever_same b b' a h vs

-- ---- the converse

-- a blank check of the byte at x, which is FFh or not, done on a board of the configuration c
one_byte : ℕ → Config → Bool → Result
one_byte x c t = did (BlankCheck (flash_address x) (flash_address x)) (blank_text (if t then None else Some x)) c []

one_byte_same : (x : ℕ) (c : Config) (t : Bool) → Same (one_byte x c t) (one_byte x delivered_config t)
unfolding one_byte
one_byte_same x c t = record { outcome = refl; text = refl; page_count_lem = refl; done = refl }

-- its report in a room of n characters, in which no configuration stands
reported : ℕ → ℕ → Bool → Report
reported x n t = report (in_room delivered_config n (one_byte x delivered_config t))

module _ (x : ℕ) (lx : x < flash_size) where
  check_bytes : Bytes (check_data x)
  check_bytes zero = omega arith
  check_bytes (suc zero) = omega arith
  check_bytes (suc (suc zero)) = omega arith
  check_bytes (suc (suc (suc zero))) = omega arith
  check_bytes (suc (suc (suc (suc zero)))) = lit< tt
  check_bytes (suc (suc (suc (suc (suc i))))) = lit< tt

  reads : ReadsAs (blank_check_of x) 0x0000 0x04 (check_data x)
  reads = reads_written 0x0000 0x04 (check_data x) (record { offset_fits = lit< tt; kind_fits = lit< tt; data_fits = check_bytes }) (lit≤ tt)

  module _ (c : Config) (f : List ℕ) (h : length f ≡ flash_size) where
    checked : answer (board c f) (blank_check_of x) ≡ one_byte x c (eqb (get_or f x 0) 0xFF)
    unfolding answer form obey perform one_byte
    checked =
        let w : x / 256 * 256 + x % 256 ≡ x = omega arith in
        let hx : x < length f = omega arith in
        rw (
          eq-eqb (length f) flash_size h,
          reads.fields_read,
          reads.data_read_lem,
          w,
          le-ltb x x (omega arith),
          at_every_level (level c),
          used_in_one f x hx,
        )

    tells : (n : ℕ) → report (step (board c f) (blank_check_of x) n) ≡ reported x n (eqb (get_or f x 0) 0xFF)
    unfolding step reported
    tells n =
        let t = eqb (get_or f x 0) 0xFF in
        rw checked (report_same _ _ (in_room_same c delivered_config n (one_byte x c t) (one_byte x delivered_config t) (one_byte_same x c t)))

-- in a room of three or more a byte that is FFh is told by three characters, and one that is not by six or none
blank_size : (x n : ℕ) → least_room ≤ n → length (reported x n true).text ≡ 3
unfolding reported one_byte
blank_size x n h = rw (le-ltb n 3 h)

used_size : (x n : ℕ) (t : Bool) → ltb n 6 ≡ t → length (reported x n false).text ≡ 3 → ⊥
unfolding reported one_byte
used_size x n true q e = let z : ◌≡◌ {A = ℕ} 0 3 = rw q at e in absurd (omega arith)
used_size x n false q e = let z : ◌≡◌ {A = ℕ} 6 3 = rw q at e in absurd (omega arith)

told_differ : (x n : ℕ) → least_room ≤ n → (t t' : Bool) → reported x n t ≡ reported x n t' → t ≡ t'
told_differ x n h true true q = refl
told_differ x n h true false q = absurd (used_size x n (ltb n 6) refl (ap (λ r. length r.text) (sym q) ∙ blank_size x n h))
told_differ x n h false true q = absurd (used_size x n (ltb n 6) refl (ap (λ r. length r.text) q ∙ blank_size x n h))
told_differ x n h false false q = refl

pub told_apart : ToldApart
told_apart b b' z z' h =
    let w = differ_at b.flash b'.flash flash_size z h in
    let x = w.0 in (
      x,
      w.1,
      λ n k q. w.2 (told_differ x n k _ _ (sym (tells x w.1 b.config b.flash z n) ∙ q ∙ tells x w.1 b'.config b'.flash z' n)),
    )

-- in a smaller room neither answer fits
neither_fits : (x n : ℕ) → n < least_room → (t : Bool) → reported x n t ≡ report (refused delivered_config 9)
unfolding reported one_byte
neither_fits x n h true = rw (lt-ltb n 3 h)
neither_fits x n h false = let k : n < 6 = omega arith in rw (lt-ltb n 6 k)

pub not_in_less : NotInLess
not_in_less b b' z z' x n lx h =
    tells x lx b.config b.flash z n
    ∙ neither_fits x n h _
    ∙ sym (neither_fits x n h _)
    ∙ sym (tells x lx b'.config b'.flash z' n)
