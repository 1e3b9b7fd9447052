-- What the exported functions of the serial plug promise: the definitions of the other crates, told in numbers. Assumes nothing: these
-- are definitions.
use Rattle.std.specs.Prelude.{◌≡◌, List, ℕ, length, Ok, Err}
use Rattle.record.specs.Reader.{Reading}
use Rattle.plug.specs.Step.{Board, board, Result, next, pages}
use Rattle.plug.specs.Answered.{room_after}
use Rattle.plugnumbers.specs.Layout.{config_of, pack_config, pack_outcome}

-- the board whose configuration is lent as a number
abbrev pub numbered_plug : ℕ → List ℕ → Board
numbered_plug c f = board (config_of c) f

-- the numbers and memories after a record that the board b took are those of the result r; p₀ was the room. A refusal's configuration is
-- the one that was lent, and each number of 32 bits is the number of one configuration: so the number stays, bit for bit
pub record RecordTold (b : Board) (r : Result) (p₀ : List ℕ) (outcome config sent stored : ℕ) (f p : List ℕ) : Type 0 where
  pub outcome_told : outcome ≡ pack_outcome r.outcome
  pub config_told : config ≡ pack_config r.config
  pub sent_told : sent ≡ length r.text
  pub pages_told : stored ≡ pages r
  pub flash : f ≡ (next b r).flash
  pub room : p ≡ room_after r p₀

-- the load offset, the type and how many bytes of data; where no record is taken they stay as they were
abbrev pub offset_told : Reading → ℕ → ℕ
offset_told (Ok f) before = f.offset
offset_told (Err e) before = before

abbrev pub kind_told : Reading → ℕ → ℕ
kind_told (Ok f) before = f.kind
kind_told (Err e) before = before

abbrev pub count_told : Reading → ℕ → ℕ
count_told (Ok f) before = f.length
count_told (Err e) before = before
