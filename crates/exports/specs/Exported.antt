-- What the exported functions promise: the definitions of the other crates, told in numbers. Assumes nothing: these are definitions.
use Rattle.std.specs.Prelude.{◌≡◌, List, ℕ, length, Ok, Err}
use Rattle.command.specs.Reader.{Reading}
use Rattle.rules.specs.Result.{Board, board, Result, next, pages, reply_after}
use Rattle.numbers.specs.Layout.{session_of, config_of, pack_session, pack_config, pack_outcome, pack_command, number_after}

-- the board whose session, with its busy count apart, and configuration are lent as numbers
abbrev pub numbered : ℕ → ℕ → ℕ → List ℕ → List ℕ → Board
numbered s busy c f e = board (session_of s busy) (config_of c) f e

-- the numbers and memories after a request to the board b are those of the result r; s and c were the numbers of its session and its
-- configuration, and p₀ was the reply. The busy count is told as it stands: a refusal's is the one that was lent
pub record StepTold (b : Board) (r : Result) (s c : ℕ) (p₀ : List ℕ) (outcome session busy config sent stored : ℕ) (f e p : List ℕ) : Type 0 where
  pub outcome_told : outcome ≡ pack_outcome r.outcome
  pub session_told : session ≡ number_after r.outcome s (pack_session r.session)
  pub busy_told : busy ≡ r.session.busy
  pub config_told : config ≡ number_after r.outcome c (pack_config r.config)
  pub sent_told : sent ≡ length r.sent
  pub pages_told : stored ≡ pages r
  pub flash : f ≡ (next b r).flash
  pub eeprom : e ≡ (next b r).eeprom
  pub reply : p ≡ reply_after r p₀

-- the command and the places of its parts; where there is no command they stay as they were
abbrev pub command_told : Reading → ℕ → ℕ
command_told (Ok t) before = pack_command t.0
command_told (Err f) before = before

abbrev pub body_told : Reading → ℕ → ℕ
body_told (Ok t) before = t.1.body
body_told (Err f) before = before

abbrev pub suffix_told : Reading → ℕ → ℕ
suffix_told (Ok t) before = t.1.suffix
suffix_told (Err f) before = before
