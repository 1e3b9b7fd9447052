-- Every answer has one of three shapes: a refusal; a reply that changes neither memory nor configuration; or what an accepted
-- command does. This is the one walk through the rules: the laws of effects and of level 2 go by its cases.
-- Assumes nothing.
use Rattle.std.specs.Prelude.{if◌then◌else◌, Option, None, Some}
use mathlib.Core.Path.{◌≡◌, refl, sym, ap, ◌∙◌, subst}
use mathlib.Core.Bool.{Bool, true, false, ◌&&◌}
use mathlib.Core.List.{List, []}
use Prim.Native.Nat.{ℕ}
use native.Mathlib.Omega.{arith}
use lib.Dec.{eqb, ltb}
use lib.ListN.{length}
use borrow.Author.Tests.{eqb-true, not-false}
use Rattle.words.specs.Words.{among}
use Rattle.memory.specs.Memory.{flash_size, eeprom_size}
use Rattle.config.specs.Level.{level}
use Rattle.command.specs.Form.{form}
use Rattle.command.specs.Address.{bad_address}
use Rattle.command.specs.Transfer.{bad_length}
use Rattle.command.specs.declared.command.Command.{Command}
use Rattle.rules.specs.Session.{Session, Pending, Nothing, MemoryRead, BlankReport, OneByte, Start}
use Rattle.rules.specs.Levels.{level_status}
use Rattle.rules.specs.Result.{Board, Result, reply, Outcome, Done, Stall, Started, Refused}
use Rattle.rules.specs.Commands.{stall, perform, accept, forbidden, obey, obey_form}
use Rattle.rules.specs.Requests.{Request, Dnload, Upload, GetStatus, GetState, ClrStatus, Abort, Other, request_of, start_pending, start_of}
use Rattle.rules.specs.Requests.{clr_states, abort_states, end_plain, start_states, end_download, most_data, command_states, dnload}
use Rattle.rules.specs.Requests.{upload_states, sendable, send, upload, respond}
use Rattle.rules.specs.Refusals.{refusal}
use Rattle.rules.specs.Step.{ask}
use Rattle.rules.proofs.StepLaws.{unrefused}

-- a command that passed the sizes, the form, the level, the address and the length
pub record Passed (b : Board) (k : Command) (d : List ℕ) : Type 0 where
  pub formed : form d ≡ Some k
  pub flash_size_lem : length b.flash ≡ flash_size
  pub eeprom_size_lem : length b.eeprom ≡ eeprom_size
  pub level_right : level_status k (level b.config) ≡ 0x00
  pub address_right : bad_address k ≡ false
  pub length_right : bad_length k d ≡ false

abbrev pub is_refused : Outcome → Bool
is_refused Done = false
is_refused Stall = false
is_refused (Started k a) = false
is_refused (Refused n) = true

pub data Shape (b : Board) (number : ℕ) (d : List ℕ) (r : Result) : Type 0 where
  refused : r ≡ reply b.config (Refused number) [] b.session → Shape b number d r
  still : (o : Outcome) (bs : List ℕ) (s : Session) → is_refused o ≡ false → r ≡ reply b.config o bs s → Shape b number d r
  did : (k : Command) → Passed b k d → r ≡ accept k (perform b k d) → Shape b number d r

-- through a test
pick : {b : Board} {number : ℕ} {d : List ℕ} (t : Bool) {x y : Result} → (t ≡ true → Shape b number d x) → (t ≡ false → Shape b number d y)
    → Shape b number d (if t then x else y)
pick true p q = p refl
pick false p q = q refl

-- a start is no refusal
start_plain : (p : Pending) → is_refused (start_of p) ≡ false
start_plain Nothing = refl
start_plain (MemoryRead r) = refl
start_plain (BlankReport a) = refl
start_plain (OneByte v) = refl
start_plain (Start k a) = refl

module _ (b : Board) (number : ℕ) (d : List ℕ) (hf : length b.flash ≡ flash_size) (he : length b.eeprom ≡ eeprom_size) where
  of_stall : Shape b number d (stall b)
  unfolding stall
  of_stall = still _ _ _ refl refl

  of_obey : (k : Command) → form d ≡ Some k → Shape b number d (obey b k d)
  unfolding obey
  of_obey k f =
      pick (forbidden b k) (λ x. still _ _ _ refl refl) (λ x.
      pick (bad_address k) (λ y. still _ _ _ refl refl) (λ y.
      pick (bad_length k d) (λ z. of_stall) (λ z.
      did k (record {
        formed = f;
        flash_size_lem = hf;
        eeprom_size_lem = he;
        level_right = eqb-true _ 0x00 (not-false _ x);
        address_right = y;
        length_right = z;
      }) refl)))

  of_form : (o : Option Command) → form d ≡ o → Shape b number d (obey_form b o d)
  of_form None f = of_stall
  of_form (Some k) f = of_obey k f

  of_end_download : Shape b number d (end_download b)
  unfolding end_download end_plain
  of_end_download =
      pick (among b.session.state start_states && start_pending b.session.pending)
      (λ x. still _ _ _ (start_plain b.session.pending) refl) (λ x.
      pick (eqb b.session.state 5) (λ y. still _ _ _ refl refl) (λ y. of_stall))

  of_respond : (q : Request) → Shape b number d (respond b q d)
  unfolding respond dnload upload send
  of_respond (Dnload n) =
      pick (ltb most_data n) (λ x. of_stall) (λ x.
      pick (eqb n 0) (λ y. of_end_download) (λ y.
      pick (among b.session.state command_states) (λ z. of_form (form d) refl) (λ z. of_stall)))
  of_respond (Upload n) =
      pick (among b.session.state upload_states && ltb 0 n && sendable b.session.pending (level b.config))
      (λ x. still _ _ _ refl refl) (λ x. of_stall)
  of_respond GetStatus = still _ _ _ refl refl
  of_respond GetState = still _ _ _ refl refl
  of_respond ClrStatus = pick (among b.session.state clr_states) (λ x. still _ _ _ refl refl) (λ x. of_stall)
  of_respond Abort = pick (among b.session.state abort_states) (λ x. still _ _ _ refl refl) (λ x. of_stall)
  of_respond Other = of_stall

pub shape : (b : Board) (setup d : List ℕ) (n : ℕ) → Shape b (refusal b setup d n) d (ask b setup d n)
unfolding ask
shape b setup d n =
    pick (eqb (refusal b setup d n) 0)
    (λ x. let h = unrefused b setup d n (eqb-true _ 0 x) in of_respond b (refusal b setup d n) d h.flash_size_lem h.eeprom_size_lem (request_of setup))
    (λ x. refused refl)

-- an answer that accepted a command is what the command does
pub record Did (b : Board) (d : List ℕ) (k : Command) (r : Result) : Type 0 where
  pub passed : Passed b k d
  pub answer : r ≡ accept k (perform b k d)

accepted_by : (b : Board) (number : ℕ) (d : List ℕ) (k : Command) (r : Result) → Shape b number d r → r.accepted ≡ Some k → Did b d k r
accepted_by b number d k r (refused q) e =
    let z : None ≡ Some k = sym (ap (λ x. x.accepted) q) ∙ e in
    absurd (let n : ◌≡◌ {A = ℕ} 0 1 = cc in omega arith)
accepted_by b number d k r (still o bs s t q) e =
    let z : None ≡ Some k = sym (ap (λ x. x.accepted) q) ∙ e in
    absurd (let n : ◌≡◌ {A = ℕ} 0 1 = cc in omega arith)
accepted_by b number d k r (did c p q) e =
    let z : Some c ≡ Some k = sym (ap (λ x. x.accepted) q) ∙ e in
    let same : c ≡ k = cc in
    subst (λ y. Did b d y r) same (record { passed = p; answer = q })

pub accepted_did : (b : Board) (setup d : List ℕ) (n : ℕ) (k : Command) → (ask b setup d n).accepted ≡ Some k → Did b d k (ask b setup d n)
accepted_did b setup d n k = accepted_by b (refusal b setup d n) d k (ask b setup d n) (shape b setup d n)
