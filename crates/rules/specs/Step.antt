-- One request or power-up, and runs of them. Assumes nothing: these are definitions and a statement.
use Rattle.std.specs.Prelude.{if◌then◌else◌, ◌≡◌, List, [], ◌∷◌, ℕ, eqb, replicate}
use Rattle.memory.specs.Memory.{blank_flash, eeprom_size}
use Rattle.config.specs.Config.{delivered_config}
use Rattle.config.specs.declared.config.Config.{Config}
use Rattle.rules.specs.Session.{Session, session, Nothing, idle}
use Rattle.rules.specs.Result.{Board, board, Result, reply, next, pages, Outcome, Done, Refused}
use Rattle.rules.specs.Requests.{request_of, respond}
use Rattle.rules.specs.Refusals.{refusal}

-- what happens to a board: a request with its setup, its data and the size of the reply buffer, whose content no answer looks at;
-- or a power-up
pub data Event : Type 0 where
  Ask : List ℕ → List ℕ → ℕ → Event
  PowerUp : Event

-- "A refusal gives its number, length 0 and 0 pages; session, memories, configuration and reply stay."
unfoldable pub ask : Board → List ℕ → List ℕ → ℕ → Result
ask b setup d n =
    if eqb (refusal b setup d n) 0 then respond b (request_of setup) d else
    reply b.config (Refused (refusal b setup d n)) [] b.session

-- "Power-up sets state 2, status 00h, nothing pending, and keeps the rest."; P5 of 02: "The count is cleared by .. power-up"
abbrev pub power_up : Board → Result
power_up b = reply b.config Done [] idle

unfoldable pub step : Board → Event → Result
step b (Ask setup d n) = ask b setup d n
step b PowerUp = power_up b

-- each event by its own name
pub record Events : Type 0 where
  pub asked : (b : Board) (setup d : List ℕ) (n : ℕ) → step b (Ask setup d n) ≡ ask b setup d n
  pub powered_up : (b : Board) → step b PowerUp ≡ reply b.config Done [] (session 2 0x00 Nothing 0)

-- the board after a run
abbrev pub after : Board → List Event → Board
after b [] = b
after b (v ∷ vs) = after (next b (step b v)) vs

-- all that is told of a result: outcome and bytes sent, session and configuration after it, page count
pub record Report : Type 0 where
  pub outcome : Outcome
  pub sent : List ℕ
  pub session : Session
  pub config : Config
  pub pages : ℕ

abbrev pub report : Result → Report
report r = record { outcome = r.outcome; sent = r.sent; session = r.session; config = r.config; pages = pages r }

-- the reports of a run
abbrev pub reports : Board → List Event → List Report
reports b [] = []
reports b (v ∷ vs) = report (step b v) ∷ reports (next b (step b v)) vs

-- what the host is sent by the last event of a run
abbrev pub last_sent : Board → List Event → List ℕ
last_sent b [] = []
last_sent b (v ∷ []) = (step b v).sent
last_sent b (v ∷ w ∷ vs) = last_sent (next b (step b v)) (w ∷ vs)

-- "a delivered board, all memory FFh"
abbrev pub delivered_board : Board
delivered_board = board idle delivered_config blank_flash (replicate eeprom_size 0xFF)
