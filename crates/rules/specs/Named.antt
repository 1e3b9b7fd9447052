-- What is built of its parts has each of them in its place: a session, a board, and the results that a statement names by their parts. Proved in
-- proofs/NamedHolds.antt.
use Rattle.std.specs.Prelude.{◌≡◌, false, List, [], ◌∷◌, ℕ, ◌≤◌, ◌<◌, length, None, Some}
use Rattle.words.specs.Words.{overlay}
use Rattle.memory.specs.Pages.{program_stores, block_stores, chip_stores}
use Rattle.config.specs.Level.{level}
use Rattle.config.specs.declared.config.Config.{Config}
use Rattle.command.specs.Form.{form}
use Rattle.command.specs.Address.{bad_address}
use Rattle.command.specs.Transfer.{body_of, bad_length}
use Rattle.command.specs.declared.command.Command.{Command}
use Rattle.command.specs.declared.command.Command.TheVariants.{ProgramFlash, ProgramEeprom, Read, BlankCheck, EraseBlock, EraseChip, WriteByte, WriteHsb}
use Rattle.command.specs.declared.command.Command.TheVariants.{StartReset, StartAt, ReadVersion, ReadByte, ReadHsb}
use Rattle.rules.specs.Session.{Session, Pending, Nothing, session, idle_with, idle}
use Rattle.rules.specs.Levels.{level_status}
use Rattle.rules.specs.Result.{Board, board, Patch, patch_all, Outcome, Result, Done, pages, reply}
use Rattle.rules.specs.Commands.{Effect, stall, set_status, perform, accept, obey_form}
use Rattle.rules.specs.Requests.{Dnload, Upload, GetStatus, GetState, ClrStatus, Abort, Other}
use Rattle.rules.specs.Requests.{get_status, get_state, clr_status, abort, dnload, upload, respond, request_of}
use Rattle.rules.specs.Refusals.{refusal}
use Rattle.rules.specs.Step.{ask}
use Rattle.rules.specs.RefusalOrder.{In}
use Rattle.rules.specs.States.{Stalls}
use Rattle.rules.specs.Answered.{bare}

-- what an accepted command stores: the pages of its range, of its block or of the whole flash, one after another, or its bytes of the EEPROM
abbrev pub Stores : Command → Board → List ℕ → Effect → Type 0
Stores (ProgramFlash a e) b d x = (x.stored ≡ program_stores a.0 e.0 (body_of a.0 e.0 d) b.flash) × (x.patched ≡ [])
Stores (ProgramEeprom a e) b d x = (x.stored ≡ []) × (x.patched ≡ record { at = a; bytes = body_of a.0 e.0 d } ∷ [])
Stores (Read r) b d x = (x.stored ≡ []) × (x.patched ≡ [])
Stores (BlankCheck a e) b d x = (x.stored ≡ []) × (x.patched ≡ [])
Stores (EraseBlock k) b d x = (x.stored ≡ block_stores k b.flash) × (x.patched ≡ [])
Stores EraseChip b d x = (x.stored ≡ chip_stores) × (x.patched ≡ [])
Stores (WriteByte i v) b d x = (x.stored ≡ []) × (x.patched ≡ [])
Stores (WriteHsb v) b d x = (x.stored ≡ []) × (x.patched ≡ [])
Stores StartReset b d x = (x.stored ≡ []) × (x.patched ≡ [])
Stores (StartAt a) b d x = (x.stored ≡ []) × (x.patched ≡ [])
Stores ReadVersion b d x = (x.stored ≡ []) × (x.patched ≡ [])
Stores (ReadByte i) b d x = (x.stored ≡ []) × (x.patched ≡ [])
Stores ReadHsb b d x = (x.stored ≡ []) × (x.patched ≡ [])

pub record Named : Type 0 where
  -- "Session record: state, status, and what is pending", and "a busy page count"
  pub of_session : (state status busy : ℕ) (p : Pending) → session state status p busy ≡ record { state = state; status = status; pending = p; busy = busy }
  pub of_idle : (busy : ℕ) → (idle_with busy ≡ session 2 0x00 Nothing busy) × (idle ≡ session 2 0x00 Nothing 0)
  pub of_board : (s : Session) (c : Config) (f e : List ℕ) → board s c f e ≡ record { session = s; config = c; flash = f; eeprom = e }
  pub of_bare : (s : Session) (c : Config) → bare s c ≡ record { session = s; config = c; flash = []; eeprom = [] }
  -- "It equals the pages that the definition stores"
  pub of_pages : (r : Result) → pages r ≡ length r.stored
  -- bytes of the EEPROM, one after another: each from its address on
  pub of_patches : (p : Patch) (ps : List Patch) (m : List ℕ) → patch_all (p ∷ ps) m ≡ patch_all ps (overlay p.at.0 p.bytes m)
  pub no_patch : (m : List ℕ) → patch_all [] m ≡ m
  -- outcome, what is sent and the session after it; "memory and configuration stay", and no command is accepted
  pub of_reply : (c : Config) (o : Outcome) (bs : List ℕ) (s : Session)
      → reply c o bs s ≡ record { outcome = o; sent = bs; session = s; config = c; stored = []; patched = []; accepted = None }
  pub of_stall : (b : Board) → Stalls b (stall b)
  -- each request is answered by what is said of it
  pub of_requests : (b : Board) (d : List ℕ) → (respond b GetStatus d ≡ get_status b) × (respond b GetState d ≡ get_state b)
      × (respond b ClrStatus d ≡ clr_status b) × (respond b Abort d ≡ abort b) × (respond b Other d ≡ stall b)
  pub of_transfers : (b : Board) (n : ℕ) (d : List ℕ) → (respond b (Dnload n) d ≡ dnload b n d) × (respond b (Upload n) d ≡ upload b n)
  -- a request that is not refused is answered so, and DNLOAD's 1 to 1,103 bytes are a command in states 2 and 5
  pub of_ask : (b : Board) (setup d : List ℕ) (n : ℕ) → refusal b setup d n ≡ 0 → ask b setup d n ≡ respond b (request_of setup) d
  pub of_command : (b : Board) (n : ℕ) (d : List ℕ) → 0 < n → n ≤ 1103 → In b.session.state (2 ∷ 5 ∷ []) → dnload b n d ≡ obey_form b (form d) d
  pub of_accepted : (b : Board) (k : Command) (d : List ℕ) → form d ≡ Some k → level_status k (level b.config) ≡ 0x00 → bad_address k ≡ false
      → bad_length k d ≡ false → obey_form b (form d) d ≡ accept k (perform b k d)
  -- "A status above is set with state 10 and nothing pending, and nothing else moves."
  pub of_status : (b : Board) (status : ℕ) → set_status b status ≡ reply b.config Done [] (session 10 status Nothing b.session.busy)
  pub of_stores : (b : Board) (k : Command) (d : List ℕ) → Stores k b d (perform b k d)
  -- "An accepted command sets status 00h, state 3 and what is pending", and what it stores is stored
  pub of_accept : (k : Command) (x : Effect) → accept k x ≡ record {
    outcome = Done;
    sent = [];
    session = session 3 x.status x.pending (length x.stored);
    config = x.config;
    stored = x.stored;
    patched = x.patched;
    accepted = Some k;
  }
