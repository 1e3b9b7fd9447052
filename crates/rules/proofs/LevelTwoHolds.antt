-- The statements of specs/LevelTwo.antt hold. One request is answered alike by two boards with the same blank bytes, as data, and
-- at level 2 it either moves no memory and stays at level 2, or is an accepted full chip erase; runs follow by induction.
-- Assumes nothing.
use Rattle.std.specs.Prelude.{if◌then◌else◌, Option, None, Some}
use mathlib.Core.Path.{◌≡◌, refl, sym, ap, ◌∙◌, subst}
use mathlib.Core.Bool.{Bool, true, false, and-false}
use mathlib.Core.List.{List, [], ◌∷◌}
use Prim.Native.Nat.{ℕ, ◌+◌, ◌*◌, ◌/◌, ◌%◌, ◌<◌}
use native.Mathlib.Omega.{arith}
use lib.Dec.{lit<, lit≤, eqb}
use lib.ListN.{length, get_or}
use borrow.Author.Tests.{le-ltb, lt-leb}
use Rattle.memory.specs.Memory.{flash_size, eeprom_size, last_flash, flash_address, blank_flash}
use Rattle.memory.specs.Pages.{chip_stores}
use Rattle.blank.specs.Blank.{used_in}
use Rattle.config.specs.Config.{ssb_index}
use Rattle.config.specs.Level.{level}
use Rattle.memory.specs.declared.address.FlashAddress.{FlashAddress}
use Rattle.config.specs.declared.config.Config.{Config}
use Rattle.config.specs.declared.level.Level.TheVariants.{L2}
use Rattle.config.proofs.LevelLaws.{other_is_level_2}
use Rattle.memory.proofs.PagesLaws.{store_all_chip_stores}
use Rattle.blank.proofs.BlankLaws.{marks, used_in_same, used_in_one}
use Rattle.blank.proofs.SameBlankLaws.{same_marks, differ_at}
use Rattle.command.specs.Form.{form}
use Rattle.command.specs.declared.command.Command.{Command}
use Rattle.command.specs.declared.command.Command.TheVariants.{ProgramFlash, ProgramEeprom, Read, BlankCheck, EraseBlock, EraseChip, WriteByte, WriteHsb}
use Rattle.command.specs.declared.command.Command.TheVariants.{StartReset, StartAt, ReadVersion, ReadByte, ReadHsb}
use Rattle.rules.specs.Session.{Session, session, idle, Pending, Nothing, MemoryRead, BlankReport, OneByte, Start}
use Rattle.rules.specs.Result.{Board, board, Result, reply, next, Outcome}
use Rattle.rules.specs.Commands.{stall, perform, accept, blank_effect, obey, obey_form}
use Rattle.rules.specs.Requests.{Request, Dnload, Upload, GetStatus, GetState, ClrStatus, Abort, Other, request_of, dnload, end_plain}
use Rattle.rules.specs.Requests.{end_download, upload, send, respond}
use Rattle.rules.specs.Refusals.{refusal}
use Rattle.rules.specs.Step.{Event, Ask, PowerUp, ask, step, Report, reports, last_sent}
use Rattle.rules.specs.BenchCases.{Ready, Unnamed, download, ask_status}
use Rattle.rules.specs.LevelTwo.{is_chip_erase, up_to_erase, Unerased, Spoken, KeptSecret, KeptSecretEver, OddBoardsCovered, probe, ToldApart}
use Rattle.rules.proofs.Shape.{Passed, Shape, refused, still, did, shape}
use Rattle.rules.proofs.Ready.{commanded, status_of}

-- ---- one request is answered alike

upload_same : (st k : ℕ) (p : Pending) (busy : ℕ) (c : Config) (f f' e e' : List ℕ) → level c ≡ L2 → (n : ℕ)
    → upload (board (session st k p busy) c f e) n ≡ upload (board (session st k p busy) c f' e') n
unfolding upload send stall
upload_same st k Nothing busy c f f' e e' lv n = refl
upload_same st k (MemoryRead r) busy c f f' e e' lv n = rw (lv, and-false)
upload_same st k (BlankReport a) busy c f f' e e' lv n = refl
upload_same st k (OneByte v) busy c f f' e e' lv n = refl
upload_same st k (Start j a) busy c f f' e e' lv n = refl

module _ (s : Session) (c : Config) (f f' e e' : List ℕ) (lv : level c ≡ L2) (m : marks f ≡ marks f') where
  obey_same : (k : Command) (d : List ℕ) → obey (board s c f e) k d ≡ obey (board s c f' e') k d
  unfolding obey perform
  obey_same (ProgramFlash a z) d = rw lv
  obey_same (ProgramEeprom a z) d = rw lv
  obey_same (Read r) d = rw lv
  obey_same (BlankCheck a z) d = rw (used_in_same a.0 z.0 f f' m)
  obey_same (EraseBlock k) d = rw lv
  obey_same EraseChip d = refl
  obey_same (WriteByte i v) d = refl
  obey_same (WriteHsb v) d = rw lv
  obey_same StartReset d = refl
  obey_same (StartAt a) d = refl
  obey_same ReadVersion d = refl
  obey_same (ReadByte i) d = refl
  obey_same ReadHsb d = rw lv

  stall_same : stall (board s c f e) ≡ stall (board s c f' e')
  unfolding stall
  stall_same = refl

  obey_form_same : (o : Option Command) (d : List ℕ) → obey_form (board s c f e) o d ≡ obey_form (board s c f' e') o d
  obey_form_same None d = stall_same
  obey_form_same (Some k) d = obey_same k d

  dnload_same : (n : ℕ) (d : List ℕ) → dnload (board s c f e) n d ≡ dnload (board s c f' e') n d
  unfolding dnload end_download end_plain stall
  dnload_same n d = rw (obey_form_same (form d) d)

  respond_same : (q : Request) (d : List ℕ) → respond (board s c f e) q d ≡ respond (board s c f' e') q d
  unfolding respond stall
  respond_same (Dnload n) d = dnload_same n d
  respond_same (Upload n) d = upload_same s.state s.status s.pending s.busy c f f' e e' lv n
  respond_same GetStatus d = refl
  respond_same GetState d = refl
  respond_same ClrStatus d = refl
  respond_same Abort d = refl
  respond_same Other d = stall_same

module _ (f f' e e' : List ℕ) (hf : length f ≡ length f') (he : length e ≡ length e') (m : marks f ≡ marks f') where
  refusal_same : (s : Session) (c : Config) (setup d : List ℕ) (n : ℕ) → refusal (board s c f e) setup d n ≡ refusal (board s c f' e') setup d n
  unfolding refusal
  refusal_same s c setup d n = rw (hf, he)

  step_same : (s : Session) (c : Config) → level c ≡ L2 → (v : Event) → step (board s c f e) v ≡ step (board s c f' e') v
  unfolding step ask
  step_same s c lv (Ask setup d n) = rw (refusal_same s c setup d n, respond_same s c f f' e e' lv m (request_of setup) d)
  step_same s c lv PowerUp = refl

-- ---- what a request at level 2 does: no memory moves and the level stays, or it is an accepted full chip erase

data Kept (f : List ℕ) (r : Result) : Type 0 where
  quiet : r.stored ≡ [] → r.patched ≡ [] → level r.config ≡ L2 → is_chip_erase r.accepted ≡ false → Kept f r
  wiped : r.stored ≡ chip_stores → r.patched ≡ [] → length f ≡ flash_size → is_chip_erase r.accepted ≡ true → Kept f r

kept_blank : (b : Board) (a z : FlashAddress) → level b.config ≡ L2 → (o : Option ℕ)
    → Kept b.flash (accept (BlankCheck a z) (blank_effect b.config o))
kept_blank b a z lv None = quiet refl refl lv refl
kept_blank b a z lv (Some x) = quiet refl refl lv refl

-- no other configuration byte than SSB sets the level, and SSB's write does not pass
kept_byte : (b : Board) → level b.config ≡ L2 → (i v : ℕ) (d : List ℕ) → Passed b (WriteByte i v) d → (t : Bool) → eqb i ssb_index ≡ t
    → Kept b.flash (accept (WriteByte i v) (perform b (WriteByte i v) d))
unfolding perform
kept_byte b lv i v d p true q = let z = rw (q, lv) at p.level_right in absurd (omega arith)
kept_byte b lv i v d p false q = quiet refl refl (rw q lv) refl

kept_did : (b : Board) → level b.config ≡ L2 → (k : Command) (d : List ℕ) → Passed b k d → Kept b.flash (accept k (perform b k d))
unfolding perform
kept_did b lv (ProgramFlash a e) d p = let z = rw lv at p.level_right in absurd (omega arith)
kept_did b lv (ProgramEeprom a e) d p = let z = rw lv at p.level_right in absurd (omega arith)
kept_did b lv (Read r) d p = quiet refl refl lv refl
kept_did b lv (BlankCheck a z) d p = kept_blank b a z lv (used_in a.0 z.0 b.flash)
kept_did b lv (EraseBlock k) d p = let z = rw lv at p.level_right in absurd (omega arith)
kept_did b lv EraseChip d p = wiped refl refl p.flash_size_lem refl
kept_did b lv (WriteByte i v) d p = kept_byte b lv i v d p (eqb i ssb_index) refl
kept_did b lv (WriteHsb v) d p = let z = rw lv at p.level_right in absurd (omega arith)
kept_did b lv StartReset d p = quiet refl refl lv refl
kept_did b lv (StartAt a) d p = quiet refl refl lv refl
kept_did b lv ReadVersion d p = quiet refl refl lv refl
kept_did b lv (ReadByte i) d p = quiet refl refl lv refl
kept_did b lv ReadHsb d p = quiet refl refl lv refl

kept_reply : (b : Board) → level b.config ≡ L2 → (r : Result) (o : Outcome) (bs : List ℕ) (s : Session) → r ≡ reply b.config o bs s
    → Kept b.flash r
kept_reply b lv r o bs s q = subst (λ x. Kept b.flash x) (sym q) (quiet refl refl lv refl)

kept_shape : (b : Board) → level b.config ≡ L2 → (k : ℕ) (d : List ℕ) (r : Result) → Shape b k d r → Kept b.flash r
kept_shape b lv k d r (refused q) = kept_reply b lv r _ _ _ q
kept_shape b lv k d r (still o bs s z q) = kept_reply b lv r o bs s q
kept_shape b lv k d r (did c p q) = subst (λ x. Kept b.flash x) (sym q) (kept_did b lv c d p)

kept : (b : Board) → level b.config ≡ L2 → (v : Event) → Kept b.flash (step b v)
unfolding step
kept b lv (Ask setup d n) = kept_shape b lv (refusal b setup d n) d (ask b setup d n) (shape b setup d n)
kept b lv PowerUp = quiet refl refl lv refl

-- ---- runs

-- the board after a request that moves no memory, and after a full chip erase
next_quiet : (s : Session) (c : Config) (f e : List ℕ) (r : Result) → r.stored ≡ [] → r.patched ≡ []
    → next (board s c f e) r ≡ board r.session r.config f e
next_quiet s c f e r p q = rw (p, q)

next_wiped : (s : Session) (c : Config) (f e : List ℕ) (r : Result) → r.stored ≡ chip_stores → r.patched ≡ [] → length f ≡ flash_size
    → next (board s c f e) r ≡ board r.session r.config blank_flash e
next_wiped s c f e r p q h = rw (p, q, store_all_chip_stores f h)

-- the reports of a run up to and including the first full chip erase
cut : Board → List Event → List Report
cut b vs = reports b (up_to_erase b vs)

cut_none : (b b' : Board) → cut b [] ≡ cut b' []
unfolding cut
cut_none b b' = refl

module _ (f f' e e' : List ℕ) (hf : length f ≡ length f') (he : length e ≡ length e') (m : marks f ≡ marks f') where
  -- one request more
  cut_more : (v : Event) (vs : List Event) (s : Session) (c : Config) (r : Result) → Kept f r
      → ((s : Session) (c : Config) → level c ≡ L2 → cut (board s c f e) vs ≡ cut (board s c f' e') vs)
      → step (board s c f e) v ≡ r → step (board s c f' e') v ≡ r
      → cut (board s c f e) (v ∷ vs) ≡ cut (board s c f' e') (v ∷ vs)
  unfolding cut
  cut_more v vs s c r (quiet p q l a) ih x x' =
      rw (x, x', a, next_quiet s c f e r p q, next_quiet s c f' e' r p q, ih r.session r.config l)
  cut_more v vs s c r (wiped p q h a) ih x x' = rw (x, x', a)

  cut_same : (vs : List Event) (s : Session) (c : Config) → level c ≡ L2 → cut (board s c f e) vs ≡ cut (board s c f' e') vs
  cut_same [] s c lv = cut_none (board s c f e) (board s c f' e')
  cut_same (v ∷ vs) s c lv =
      cut_more v vs s c (step (board s c f e) v) (kept (board s c f e) lv v) (cut_same vs) refl (sym (step_same f f' e e' hf he m s c lv v))

module _ (f f' e : List ℕ) (hf : length f ≡ length f') (m : marks f ≡ marks f') where
  -- one request more, with equal EEPROMs: after a full chip erase the two boards are one
  ever_more : (v : Event) (vs : List Event) (s : Session) (c : Config) (r : Result) → Kept f r
      → ((s : Session) (c : Config) → level c ≡ L2 → reports (board s c f e) vs ≡ reports (board s c f' e) vs)
      → step (board s c f e) v ≡ r → step (board s c f' e) v ≡ r
      → reports (board s c f e) (v ∷ vs) ≡ reports (board s c f' e) (v ∷ vs)
  ever_more v vs s c r (quiet p q l a) ih x x' =
      rw (x, x', next_quiet s c f e r p q, next_quiet s c f' e r p q, ih r.session r.config l)
  ever_more v vs s c r (wiped p q h a) ih x x' =
      let h' : length f' ≡ flash_size = omega arith in
      rw (x, x', next_wiped s c f e r p q h, next_wiped s c f' e r p q h')

  ever_same : (vs : List Event) (s : Session) (c : Config) → level c ≡ L2 → reports (board s c f e) vs ≡ reports (board s c f' e) vs
  ever_same [] s c lv = refl
  ever_same (v ∷ vs) s c lv =
      ever_more v vs s c (step (board s c f e) v) (kept (board s c f e) lv v) (ever_same vs) refl (sym (step_same f f' e e hf refl m s c lv v))

-- ---- demand 3

pub kept_secret : KeptSecret
unfolding cut
kept_secret b b' a vs =
    let marks = same_marks b.flash b'.flash a.same_flash_size a.same_blank in
    cut_same b.flash b'.flash b.eeprom b'.eeprom a.same_flash_size a.same_eeprom_size marks vs b.session b.config a.at_level_2
    ∙ ap (λ s. cut (board s b.config b'.flash b'.eeprom) vs) a.same_session
    ∙ ap (λ c. cut (board b'.session c b'.flash b'.eeprom) vs) a.same_config

pub kept_secret_ever : KeptSecretEver
kept_secret_ever b b' a q vs =
    let marks = same_marks b.flash b'.flash a.same_flash_size a.same_blank in
    ever_same b.flash b'.flash b.eeprom a.same_flash_size marks vs b.session b.config a.at_level_2
    ∙ ap (λ s. reports (board s b.config b'.flash b.eeprom) vs) a.same_session
    ∙ ap (λ c. reports (board b'.session c b'.flash b.eeprom) vs) a.same_config
    ∙ ap (λ e. reports (board b'.session b'.config b'.flash e) vs) q

-- ---- of which boards and runs this speaks

not_erase : (o : Option Command) → (o ≡ Some EraseChip → ⊥) → is_chip_erase o ≡ false
not_erase None h = refl
not_erase (Some (ProgramFlash a e)) h = refl
not_erase (Some (ProgramEeprom a e)) h = refl
not_erase (Some (Read r)) h = refl
not_erase (Some (BlankCheck a e)) h = refl
not_erase (Some (EraseBlock k)) h = refl
not_erase (Some EraseChip) h = absurd (h refl)
not_erase (Some (WriteByte i v)) h = refl
not_erase (Some (WriteHsb v)) h = refl
not_erase (Some StartReset) h = refl
not_erase (Some (StartAt a)) h = refl
not_erase (Some ReadVersion) h = refl
not_erase (Some (ReadByte i)) h = refl
not_erase (Some ReadHsb) h = refl

to_the_end : (b : Board) (vs : List Event) → Unerased b vs → up_to_erase b vs ≡ vs
to_the_end b [] h = refl
to_the_end b (v ∷ vs) h = rw (not_erase (step b v).accepted h.0) (ap (λ x. v ∷ x) (to_the_end (next b (step b v)) vs h.1))

pub spoken : Spoken
spoken = record {
  boards = λ b f e l hf he m. record {
    at_level_2 = l;
    same_session = refl;
    same_config = refl;
    same_flash_size = hf;
    same_eeprom_size = he;
    same_blank = m;
  };
  runs = to_the_end;
}

pub odd_boards_covered : OddBoardsCovered
odd_boards_covered b = other_is_level_2 b.config

-- ---- the converse

-- what GETSTATUS says after a power-up and the blank check of one byte that is FFh or not
told : Bool → List ℕ
told blank = (if blank then 0x00 else 0x05) ∷ 0 ∷ 0 ∷ 0 ∷ 5 ∷ 0 ∷ []

module _ (s : Session) (c : Config) (f e : List ℕ) (hf : length f ≡ flash_size) (he : length e ≡ eeprom_size) (u : Unnamed) (x : ℕ) (h : x < flash_size) where
  checked : Bool → Session
  checked t = session 3 (if t then 0x00 else 0x05) (if t then Nothing else BlankReport (flash_address x)) 0

  after_check : (t : Bool) → (step (board (checked t) c f e) (ask_status u)).sent ≡ told t
  unfolding checked told
  after_check true = ap (λ r. r.sent) (status_of (session 3 0x00 Nothing 0) c f e hf he refl refl u)
  after_check false =
      ap (λ r. r.sent) (status_of (session 3 0x05 (BlankReport (flash_address x)) 0) c f e hf he (rw (le-ltb last_flash x (omega arith))) refl u)

  ready : Ready (level c) (board idle c f e)
  ready = record { in_state_2 = refl; valid = refl; flash_size_lem = hf; eeprom_size_lem = he; at_level = refl }

  check : List ℕ
  check = 0x03 ∷ 0x01 ∷ x / 256 ∷ x % 256 ∷ x / 256 ∷ x % 256 ∷ []

  settled : (t : Bool)
      → next (board idle c f e) (accept (BlankCheck (flash_address x) (flash_address x)) (blank_effect c (if t then None else Some x)))
      ≡ board (checked t) c f e
  unfolding checked
  settled true = refl
  settled false = refl

  after_power_up : next (board idle c f e) (step (board idle c f e) (download u check)) ≡ board (checked (eqb (get_or f x 0) 0xFF)) c f e
  unfolding check form obey perform
  after_power_up =
      let w : x / 256 * 256 + x % 256 ≡ x = omega arith in
      let hx : x < length f = omega arith in
      ap (next (board idle c f e)) (commanded ready u check (lit< tt) (lit≤ tt))
      ∙ rw (w, le-ltb x x (omega arith), lt-leb flash_size x h, used_in_one f x hx) (settled (eqb (get_or f x 0) 0xFF))

  tells : last_sent (board s c f e) (probe u x) ≡ told (eqb (get_or f x 0) 0xFF)
  unfolding step check
  tells = ap (λ y. (step y (ask_status u)).sent) after_power_up ∙ after_check (eqb (get_or f x 0) 0xFF)

told_differ : (t t' : Bool) → told t ≡ told t' → t ≡ t'
unfolding told
told_differ true true q = refl
told_differ true false q = absurd (let z : ◌≡◌ {A = ℕ} 0 5 = ap (λ l. get_or l 0 0) q in omega arith)
told_differ false true q = absurd (let z : ◌≡◌ {A = ℕ} 5 0 = ap (λ l. get_or l 0 0) q in omega arith)
told_differ false false q = refl

pub told_apart : ToldApart
told_apart b b' z z' h u =
    let w = differ_at b.flash b'.flash flash_size z.flash_size_lem h in (
      w.0,
      w.1,
      λ q. w.2 (told_differ _ _
          (sym (tells b.session b.config b.flash b.eeprom z.flash_size_lem z.eeprom_size_lem u w.0 w.1)
          ∙ q
          ∙ tells b'.session b'.config b'.flash b'.eeprom z'.flash_size_lem z'.eeprom_size_lem u w.0 w.1)),
    )
