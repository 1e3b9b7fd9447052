-- A board that is ready takes a DNLOAD of 1 to 1,103 bytes for a command and stalls at any other, and answers GETSTATUS.
-- Assumes nothing.
use mathlib.Core.Path.{◌≡◌, refl, ◌∙◌}
use mathlib.Core.Bool.{Bool, true, false}
use mathlib.Core.List.{List}
use Prim.Native.Nat.{ℕ, ◌+◌, ◌*◌, ◌/◌, ◌%◌, ◌≤◌, ◌<◌}
use native.Mathlib.Omega.{arith}
use lib.Dec.{eqb, ltb}
use lib.ListN.{length}
use borrow.Author.Tests.{le-ltb, eq-eqb, ne_eqb}
use Rattle.config.specs.declared.config.Config.{Config}
use Rattle.config.specs.declared.level.Level.{Level}
use Rattle.memory.specs.Memory.{flash_size, eeprom_size}
use Rattle.command.specs.Form.{form}
use Rattle.rules.specs.Session.{Session}
use Rattle.rules.specs.Result.{Board, board}
use Rattle.rules.specs.Commands.{stall, obey_form}
use Rattle.rules.specs.Requests.{most_data, request_of, respond, end_plain, end_download, dnload, get_status, get_state}
use Rattle.rules.specs.Refusals.{refusal, reply_size, bad_session}
use Rattle.rules.specs.Step.{step, ask}
use Rattle.rules.specs.BenchCases.{Ready, Unnamed, download, ask_status, ask_state}

responded : {l : Level} {b : Board} → Ready l b → (u : Unnamed) (d : List ℕ) → step b (download u d) ≡ dnload b (length d) d
unfolding step ask refusal request_of respond
responded {l} {b} r u d =
    let n : ℕ = length d in
    let w : n % 256 + 256 * (n / 256) ≡ n = omega arith in
    let t4 : eqb n n ≡ true = eq-eqb n n refl in
    let t5 : ltb u.room reply_size ≡ false = le-ltb u.room reply_size u.enough in
    let t6 : bad_session b.session ≡ false = r.valid in
    rw (r.flash_size_lem, r.eeprom_size_lem, w, t4, t5, t6, r.in_state_2)

pub commanded : {l : Level} {b : Board} → Ready l b → (u : Unnamed) (d : List ℕ) → 0 < length d → length d ≤ most_data
    → step b (download u d) ≡ obey_form b (form d) d
unfolding dnload
commanded r u d p q =
    let t7 : ltb most_data (length d) ≡ false = le-ltb most_data (length d) q in
    let t8 : eqb (length d) 0 ≡ false = ne_eqb (length d) 0 (omega arith) in
    responded r u d ∙ rw (t7, t8, r.in_state_2)

-- data of no bytes, or of more than 1,103, stalls
pub not_commanded : {l : Level} {b : Board} → Ready l b → (u : Unnamed) (d : List ℕ) (t v : Bool) → ltb most_data (length d) ≡ t → eqb (length d) 0 ≡ v
    → (t ≡ false → v ≡ false → ⊥) → step b (download u d) ≡ stall b
unfolding dnload end_download end_plain
not_commanded r u d true v p q h = responded r u d ∙ rw p
not_commanded r u d false true p q h = responded r u d ∙ rw (p, q, r.in_state_2)
not_commanded r u d false false p q h = absurd (h refl refl)

-- a request that sends no data, of any valid session but that of a running application
module _ (s : Session) (c : Config) (f e : List ℕ) (hf : length f ≡ flash_size) (he : length e ≡ eeprom_size) (valid : bad_session s ≡ false)
    (stopped : eqb s.state 0 ≡ false) (u : Unnamed) where
  pub status_of : step (board s c f e) (ask_status u) ≡ get_status (board s c f e)
  unfolding step ask refusal request_of respond
  status_of =
      let t5 : ltb u.room reply_size ≡ false = le-ltb u.room reply_size u.enough in
      rw (hf, he, t5, valid, stopped)

  pub state_of : step (board s c f e) (ask_state u) ≡ get_state (board s c f e)
  unfolding step ask refusal request_of respond
  state_of =
      let t5 : ltb u.room reply_size ≡ false = le-ltb u.room reply_size u.enough in
      rw (hf, he, t5, valid, stopped)
