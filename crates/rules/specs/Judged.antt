-- P4 of 02: "Refusals: as before, in the same order.": a program transfer is judged alike, whichever memory it programs. The statement is
-- proved in proofs/JudgedHolds.antt.
use Rattle.std.specs.Prelude.{◌≡◌, List, ◌∷◌, ℕ, ◌<◌}
use Rattle.words.specs.Words.{high_first}
use Rattle.memory.specs.Memory.{eeprom_size}
use Rattle.command.specs.Form.{form}
use Rattle.rules.specs.Result.{Board, Result}
use Rattle.rules.specs.Commands.{obey_form}

-- the data of a program transfer, with 00h for flash and 01h for EEPROM, and what comes after that
abbrev pub transfer_with : ℕ → List ℕ → List ℕ
transfer_with code rest = 0x01 ∷ code ∷ rest

-- a board's answer to it
abbrev pub answer_to : Board → ℕ → List ℕ → Result
answer_to b code rest = obey_form b (form (transfer_with code rest)) (transfer_with code rest)

-- one outcome, and one session but for the busy count, which is P5's: EEPROM has no pages to wait for
pub record SameVerdict (r r' : Result) : Type 0 where
  pub outcome : r.outcome ≡ r'.outcome
  pub state : r.session.state ≡ r'.session.state
  pub status : r.session.status ≡ r'.session.status
  pub pending : r.session.pending ≡ r'.session.pending

-- two transfers that differ in the second byte alone, and whose last address is one of both memories, are judged alike
abbrev pub JudgedAlike : Type 0
JudgedAlike = (b : Board) (rest : List ℕ) → high_first rest 2 < eeprom_size → SameVerdict (answer_to b 0x00 rest) (answer_to b 0x01 rest)
