-- The statements of specs/Effects.antt hold.
-- Assumes nothing.
use Rattle.std.specs.Prelude.{Option, None, Some, Ok}
use mathlib.Core.Logic.{◌⊎◌, inl, inr}
use mathlib.Core.Path.{◌≡◌, refl, sym, ap, ◌∙◌, subst}
use mathlib.Core.Bool.{Bool, true, false, not, false≢true, true≢false}
use mathlib.Core.List.{List, [], ◌∷◌}
use Prim.Native.Nat.{ℕ, ◌≤◌, ◌<◌}
use native.Mathlib.Omega.{arith}
use lib.Dec.{eqb, ltb}
use borrow.Author.Tests.{ne_eqb, le-ltb, eqb-true, eqb-false, ltb-false}
use lib.ListN.{length}
use Rattle.memory.specs.Memory.{flash_size, flash_pages, eeprom_size}
use Rattle.words.specs.Words.{among}
use Rattle.blank.specs.Blank.{used_in}
use Rattle.config.specs.Level.{level}
use Rattle.memory.specs.declared.address.FlashAddress.{FlashAddress}
use Rattle.memory.specs.declared.address.EepromAddress.{EepromAddress}
use Rattle.config.specs.declared.level.Level.TheVariants.{L0}
use Rattle.memory.specs.declared.address.Block.{Block}
use Rattle.memory.specs.Pages.{block_stores}
use Rattle.memory.specs.declared.address.Block.TheVariants.{Low, Middle, High}
use Rattle.words.proofs.WordsLaws.{overlay_programmed}
use Rattle.memory.proofs.PagesLaws.{program_stores_programmed, block_stores_programmed, store_all_chip_stores, length_program_stores, length_block_stores}
use Rattle.memory.proofs.PagesLaws.{length_chip_stores, pages_met_le}
use Rattle.command.specs.Form.{form}
use Rattle.command.specs.Address.{bad_address}
use Rattle.command.specs.Transfer.{body_of, bad_length}
use Rattle.command.specs.Reader.{parts_of, read_command}
use Rattle.command.specs.declared.command.Command.{Command}
use Rattle.command.specs.declared.command.Command.TheVariants.{ProgramFlash, ProgramEeprom, Read, BlankCheck, EraseBlock, EraseChip, WriteByte, WriteHsb}
use Rattle.command.specs.declared.command.Command.TheVariants.{StartReset, StartAt, ReadVersion, ReadByte, ReadHsb}
use Rattle.command.proofs.AddressLaws.{bad_ends_good}
use Rattle.command.proofs.ReaderLaws.{passed, taken}
use Rattle.writer.proofs.RoundTripHolds.{writes_back}
use Rattle.rules.specs.Result.{Board, Result, reply, Outcome, Done, Stall, Refused}
use Rattle.rules.specs.Session.{Nothing, idle}
use Rattle.rules.specs.Levels.{level_status}
use Rattle.rules.specs.Commands.{stall, perform, accept, blank_effect, forbidden, obey, obey_form}
use Rattle.rules.specs.Requests.{request_of, Request, Dnload, Upload, GetStatus, GetState, ClrStatus, Abort, Other, most_data, respond, dnload}
use Rattle.rules.specs.Requests.{command_states, abort_states}
use Rattle.rules.specs.Refusals.{refusal}
use Rattle.rules.specs.Step.{Ask, PowerUp, ask, power_up, step}
use Rattle.rules.specs.Effects.{PagesOf, Leaves, Effects, MovesNothing, RefusalsMoveNothing, RefusalsGiven, AcceptedOnly, Commands}
use Rattle.rules.specs.Effects.{AcceptedAlways, NotAcceptedSaid, StatusStays, WrittenBack, AnsweredIsWrittenBack, Awake}
use Rattle.rules.specs.BenchCases.{Ready, Unnamed, download}
use Rattle.rules.proofs.StepLaws.{through, empty_stalls, dnload_stalls, upload_stalls, clear_stalls}
use Rattle.rules.proofs.PerformLaws.{transfer_fit}
use Rattle.rules.proofs.Ready.{commanded, not_commanded, state_of}
use Rattle.rules.proofs.Shape.{Passed, Shape, refused, still, did, shape, is_refused, accepted_did}

-- an answer that changes neither memory nor configuration
leaves_still : (b : Board) (d : List ℕ) (r : Result) → r.stored ≡ [] → r.patched ≡ [] → r.config ≡ b.config → r.accepted ≡ None → Leaves b d r
leaves_still b d r s p c a = record { flash = rw (a, s); eeprom = rw (a, p); config = rw a c; page_count_lem = rw (a, s) }

leaves_blank : (b : Board) (a e : _) (d : List ℕ) (o : Option ℕ) → Leaves b d (accept (BlankCheck a e) (blank_effect b.config o))
leaves_blank b a e d None = record { flash = refl; eeprom = refl; config = refl; page_count_lem = refl }
leaves_blank b a e d (Some x) = record { flash = refl; eeprom = refl; config = refl; page_count_lem = refl }

leaves_flash : (b : Board) (a e : FlashAddress) (d : List ℕ) → Passed b (ProgramFlash a e) d
    → Leaves b d (accept (ProgramFlash a e) (perform b (ProgramFlash a e) d))
unfolding perform
leaves_flash b a e d p =
    let fit = transfer_fit flash_size a.0 e.0 d b.flash p.flash_size_lem p.address_right p.length_right in
    let few = pages_met_le a.0 e.0 (bad_ends_good flash_size a.0 e.0 p.address_right).short in
    record {
      flash = program_stores_programmed a.0 e.0 (body_of a.0 e.0 d) b.flash flash_pages p.flash_size_lem fit.forward
          (omega (arith, fit)) (omega (arith, fit));
      eeprom = refl;
      config = refl;
      page_count_lem = (length_program_stores a.0 e.0 _ b.flash, rw length_program_stores few);
    }

leaves_eeprom : (b : Board) (a e : EepromAddress) (d : List ℕ) → Passed b (ProgramEeprom a e) d
    → Leaves b d (accept (ProgramEeprom a e) (perform b (ProgramEeprom a e) d))
unfolding perform
leaves_eeprom b a e d p =
    let fit = transfer_fit eeprom_size a.0 e.0 d b.eeprom p.eeprom_size_lem p.address_right p.length_right in
    record {
      flash = refl;
      eeprom = overlay_programmed a.0 (body_of a.0 e.0 d) b.eeprom (omega (arith, fit));
      config = refl;
      page_count_lem = refl;
    }

pages_block : (k : Block) (f : List ℕ) → PagesOf (Some (EraseBlock k)) (length (block_stores k f))
pages_block Low f = length_block_stores Low f
pages_block Middle f = length_block_stores Middle f
pages_block High f = length_block_stores High f

leaves_did : (b : Board) (k : Command) (d : List ℕ) → Passed b k d → Leaves b d (accept k (perform b k d))
unfolding perform
leaves_did b (ProgramFlash a e) d p = leaves_flash b a e d p
leaves_did b (ProgramEeprom a e) d p = leaves_eeprom b a e d p
leaves_did b (Read r) d p = record { flash = refl; eeprom = refl; config = refl; page_count_lem = refl }
leaves_did b (BlankCheck a e) d p = leaves_blank b a e d (used_in a.0 e.0 b.flash)
leaves_did b (EraseBlock k) d p =
    record { flash = block_stores_programmed k b.flash p.flash_size_lem; eeprom = refl; config = refl; page_count_lem = pages_block k b.flash }
leaves_did b EraseChip d p =
    record { flash = store_all_chip_stores b.flash p.flash_size_lem; eeprom = refl; config = refl; page_count_lem = length_chip_stores }
leaves_did b (WriteByte i v) d p = record { flash = refl; eeprom = refl; config = refl; page_count_lem = refl }
leaves_did b (WriteHsb v) d p = record { flash = refl; eeprom = refl; config = refl; page_count_lem = refl }
leaves_did b StartReset d p = record { flash = refl; eeprom = refl; config = refl; page_count_lem = refl }
leaves_did b (StartAt a) d p = record { flash = refl; eeprom = refl; config = refl; page_count_lem = refl }
leaves_did b ReadVersion d p = record { flash = refl; eeprom = refl; config = refl; page_count_lem = refl }
leaves_did b (ReadByte i) d p = record { flash = refl; eeprom = refl; config = refl; page_count_lem = refl }
leaves_did b ReadHsb d p = record { flash = refl; eeprom = refl; config = refl; page_count_lem = refl }

leaves : (b : Board) (k : ℕ) (d : List ℕ) (r : Result) → Shape b k d r → Leaves b d r
leaves b k d r (refused q) = leaves_still b d r (ap (λ x. x.stored) q) (ap (λ x. x.patched) q) (ap (λ x. x.config) q) (ap (λ x. x.accepted) q)
leaves b k d r (still o bs s z q) = leaves_still b d r (ap (λ x. x.stored) q) (ap (λ x. x.patched) q) (ap (λ x. x.config) q)
    (ap (λ x. x.accepted) q)
leaves b k d r (did c p q) = subst (λ x. Leaves b d x) (sym q) (leaves_did b c d p)

pub effects : Effects
unfolding step
effects b (Ask setup d n) = leaves b (refusal b setup d n) d (ask b setup d n) (shape b setup d n)
effects b PowerUp = leaves_still b [] (power_up b) refl refl refl refl

-- ---- refusals

moves_nothing : (b : Board) (number k : ℕ) (d : List ℕ) (r : Result) → Shape b number d r → r.outcome ≡ Refused k → MovesNothing b k number r
moves_nothing b number k d r (refused q) e =
    let o : Refused number ≡ Refused k = sym (ap (λ x. x.outcome) q) ∙ e in
    record { its_number = cc; nothing_sent = rw q; no_pages = rw q; board_stays = rw q; reply_stays = λ p. rw q }
moves_nothing b number k d r (still o bs s z q) e =
    let w : true ≡ false = ap is_refused (sym e ∙ ap (λ x. x.outcome) q) ∙ z in
    absurd (let n : ◌≡◌ {A = ℕ} 0 1 = cc in omega arith)
moves_nothing b number k d r (did c p q) e =
    let w : true ≡ false = ap is_refused (sym e ∙ ap (λ x. x.outcome) q) in
    absurd (let n : ◌≡◌ {A = ℕ} 0 1 = cc in omega arith)

pub refusals_move_nothing : RefusalsMoveNothing
refusals_move_nothing b setup d n k = moves_nothing b (refusal b setup d n) k d (ask b setup d n) (shape b setup d n)

pub refusals_given : RefusalsGiven
unfolding ask
refusals_given b setup d n h = rw (ne_eqb (refusal b setup d n) 0 h)

-- ---- what is accepted

pub accepted_only : AcceptedOnly
unfolding read_command
accepted_only b setup d n k e =
    let a = accepted_did b setup d n k e in
    let p = a.passed in
    let q = a.answer in
    record {
      read = rw (p.formed, p.address_right, p.length_right);
      allowed = p.level_right;
      done = ap (λ x. x.outcome) q;
      in_state_3 = ap (λ x. x.session.state) q;
      busy_set = rw q;
    }

-- a command's answer, when DNLOAD gives one
pub commands_answer : (b : Board) (setup d : List ℕ) (n : ℕ) → Commands b setup d n → ask b setup d n ≡ obey_form b (form d) d
unfolding ask respond dnload
commands_answer b setup d n c =
    let m : ℕ = c.bytes in
    rw (c.not_refused, c.dnload, le-ltb most_data m c.not_too_many, ne_eqb m 0 (omega (arith, c.some_bytes)), c.in_state)

pub accepted_always : AcceptedAlways
unfolding obey
accepted_always b setup d n k c q a =
    let p = passed d k q in
    ap (λ x. x.accepted) (commands_answer b setup d n c ∙ ap (λ o. obey_form b o d) p.formed) ∙ rw (a, p.address_right, p.length_right)

-- an answer accepts a command, or state 10 is left
abbrev Said : Result → Type 0
Said r = r.accepted ≡ None → r.session.state ≡ 10

said_stall : (b : Board) → Said (stall b)
unfolding stall
said_stall b q = refl

said : (b : Board) (d : List ℕ) (o : Option Command) → Said (obey_form b o d)
unfolding obey
said b d None = said_stall b
said b d (Some k) =
    through Said (forbidden b k) (λ q. refl) (through Said (bad_address k) (λ q. refl) (through Said (bad_length k d) (said_stall b)
    (λ q. absurd (let n : ◌≡◌ {A = ℕ} 0 1 = cc in omega arith))))

pub not_accepted_said : NotAcceptedSaid
unfolding ask respond dnload
not_accepted_said b setup d n m q g some_bytes =
    rw (q, g, ne_eqb m 0 (λ z. omega arith))
    (through Said (ltb most_data m) (said_stall b) (through Said (among b.session.state command_states) (said b d (form d)) (said_stall b)))

-- ---- an error status

-- a request in state 10 writes nothing and keeps state and status; what is pending stays or is cleared, and no page more is waited for
pub record Kept (b : Board) (r : Result) : Type 0 where
  pub stored : r.stored ≡ []
  pub patched : r.patched ≡ []
  pub config : r.config ≡ b.config
  pub state : r.session.state ≡ 10
  pub status : r.session.status ≡ b.session.status
  pub pending : (r.session.pending ≡ b.session.pending) ⊎ (r.session.pending ≡ Nothing)
  pub busy : r.session.busy ≤ b.session.busy

module _ (b : Board) (ten : b.session.state ≡ 10) where
  kept_stall : Kept b (stall b)
  unfolding stall
  kept_stall = record { stored = refl; patched = refl; config = refl; state = refl; status = rw ten; pending = inr refl; busy = omega arith }

  kept_still : (o : Outcome) (bs : List ℕ) → Kept b (reply b.config o bs b.session)
  kept_still o bs = record { stored = refl; patched = refl; config = refl; state = ten; status = refl; pending = inl refl; busy = omega arith }

  kept_respond : (q : Request) (d : List ℕ) → (q ≡ ClrStatus → ⊥) → Kept b (respond b q d)
  unfolding respond
  kept_respond (Dnload n) d h = rw (dnload_stalls b n d (empty_stalls b (rw ten) (rw ten)) (rw ten)) kept_stall
  kept_respond (Upload n) d h = rw (upload_stalls b n (rw ten)) kept_stall
  kept_respond GetStatus d h =
      record { stored = refl; patched = refl; config = refl; state = rw ten; status = refl; pending = inl refl; busy = rw ten (omega arith) }
  kept_respond GetState d h = kept_still Done (b.session.state ∷ [])
  kept_respond ClrStatus d h = absurd (h refl)
  kept_respond Abort d h = rw (clear_stalls b abort_states 0 (rw ten)) kept_stall
  kept_respond Other d h = kept_stall

  -- whichever request it is, but a CLRSTATUS that is not refused
  pub kept : (setup d : List ℕ) (n : ℕ) → (request_of setup ≡ ClrStatus → refusal b setup d n ≡ 0 → ⊥) → Kept b (ask b setup d n)
  unfolding ask
  kept setup d n h = go (eqb (refusal b setup d n) 0) refl
    where
      go : (t : Bool) → eqb (refusal b setup d n) 0 ≡ t → Kept b (ask b setup d n)
      go true q = rw q (kept_respond (request_of setup) d (λ e. h e (eqb-true (refusal b setup d n) 0 q)))
      go false q = rw q (kept_still (Refused (refusal b setup d n)) [])

pub status_stays : StatusStays
status_stays b setup d n ten h = let k = kept b ten setup d n (λ e z. h e) in (k.state, k.status)

-- ---- the reader and the board

-- at level 0 nothing but an SSB value is forbidden, and a write of a byte has neither an address nor a length to be wrong
forbidden_plain : (k : Command) (d : List ℕ) → not (eqb (level_status k L0) 0x00) ≡ true → (bad_address k ≡ false) × (bad_length k d ≡ false)
forbidden_plain (WriteByte i v) d q = (refl, refl)
forbidden_plain (ProgramFlash a e) d q = absurd (false≢true q)
forbidden_plain (ProgramEeprom a e) d q = absurd (false≢true q)
forbidden_plain (Read r) d q = absurd (false≢true q)
forbidden_plain (BlankCheck a e) d q = absurd (false≢true q)
forbidden_plain (EraseBlock b) d q = absurd (false≢true q)
forbidden_plain EraseChip d q = absurd (false≢true q)
forbidden_plain (WriteHsb v) d q = absurd (false≢true q)
forbidden_plain StartReset d q = absurd (false≢true q)
forbidden_plain (StartAt a) d q = absurd (false≢true q)
forbidden_plain ReadVersion d q = absurd (false≢true q)
forbidden_plain (ReadByte i) d q = absurd (false≢true q)
forbidden_plain ReadHsb d q = absurd (false≢true q)

-- which tests stop a command that is neither stalled nor given 08h
answered : (b : Board) (k : Command) (d : List ℕ) → level b.config ≡ L0 → (t u w : Bool) → forbidden b k ≡ t → bad_address k ≡ u → bad_length k d ≡ w
    → ((obey b k d).outcome ≡ Stall → ⊥) → ((obey b k d).session.status ≡ 0x08 → ⊥) → (bad_address k ≡ false) × (bad_length k d ≡ false)
unfolding obey stall
answered b k d l true u w f a e s v = forbidden_plain k d (rw l at f)
answered b k d l false true w f a e s v = absurd (v (rw (f, a)))
answered b k d l false false true f a e s v = absurd (s (rw (f, a, e)))
answered b k d l false false false f a e s v = (a, e)

read_form_lem : (b : Board) (d : List ℕ) (o : Option Command) → form d ≡ o → level b.config ≡ L0
    → ((obey_form b o d).outcome ≡ Stall → ⊥) → ((obey_form b o d).session.status ≡ 0x08 → ⊥) → (k : Command) × (read_command d ≡ Ok (k, parts_of k d))
unfolding stall
read_form_lem b d None f l s v = absurd (s refl)
read_form_lem b d (Some k) f l s v =
    let p = answered b k d l (forbidden b k) (bad_address k) (bad_length k d) refl refl refl s v in
    (k, taken d k (record { formed = f; address_right = p.0; length_right = p.1 }))

answered_is_read : (b : Board) → Ready L0 b → (u : Unnamed) (d : List ℕ) → 0 < length d → length d ≤ most_data
    → ((step b (download u d)).outcome ≡ Stall → ⊥) → ((step b (download u d)).session.status ≡ 0x08 → ⊥)
    → (k : Command) × (read_command d ≡ Ok (k, parts_of k d))
answered_is_read b r u d h m s v =
    let e = commanded r u d h m in
    read_form_lem b d (form d) refl r.at_level (λ q. s (ap (λ x. x.outcome) e ∙ q)) (λ q. v (ap (λ x. x.session.status) e ∙ q))

pub answered_is_written_back : AnsweredIsWrittenBack
unfolding stall
answered_is_written_back b r u p each s v = go (ltb most_data (length p)) (eqb (length p) 0) refl refl
  where
    go : (t w : Bool) → ltb most_data (length p) ≡ t → eqb (length p) 0 ≡ w → WrittenBack p
    go true w e f = absurd (s (ap (λ x. x.outcome) (not_commanded r u p true w e f (λ q z. true≢false q))))
    go false true e f = absurd (s (ap (λ x. x.outcome) (not_commanded r u p false true e f (λ q z. true≢false z))))
    go false false e f =
        let k = answered_is_read b r u p (omega (arith, eqb-false (length p) 0 f)) (ltb-false most_data (length p) e) s v in
        record { command = k.0; read = k.1; written = λ z room h. writes_back p k.0 each k.1 z room h }

-- ---- power-up

pub awake : Awake
unfolding step
awake b h u = ap (λ x. x.sent) (state_of idle b.config b.flash b.eeprom h.flash_size_lem h.eeprom_size_lem refl refl u)
