-- `exports::records::serial_step` meets its contract: the step, told in numbers.
-- Assumes nothing.
use mathlib.Core.Path.{◌≡◌, sym, ap, ◌∙◌}
use mathlib.Core.List.{List}
use Prim.Native.Nat.{ℕ}
use lib.ListN.{length}
use Rattle.plug.specs.Step.{Board, Result, board, step}
use Rattle.plug.specs.Answered.{Stepped}
use Rattle.plug.specs.declared.board.Config.{Config}
use Rattle.plug.specs.declared.answer.Answer.{Answer}
use Rattle.plugnumbers.specs.Layout.{config_of, pack_config, pack_outcome}
use Rattle.exports.specs.Records.{RecordTold, numbered_plug}
use Rattle.exports.proofs.records.serial_step.Goals as goal

-- what the step answers, as numbers
told : (b : Board) (r : Result) (a : Answer) (f p p₀ : List ℕ) (outcome config : ℕ) → Stepped b r a f p p₀
    → config ≡ pack_config a.config → outcome ≡ pack_outcome a.outcome
    → RecordTold b r p₀ outcome config a.length a.pages f p
told b r a f p p₀ outcome config g ec eo = record {
  outcome_told = eo ∙ ap (λ (x : Answer). pack_outcome x.outcome) g.answered;
  config_told = ec ∙ ap (λ (x : Answer). pack_config x.config) g.answered;
  sent_told = ap (λ (x : Answer). x.length) g.answered;
  pages_told = ap (λ (x : Answer). x.pages) g.answered;
  flash = g.flash;
  room = g.room;
}

-- the board that the number stands for
of_number : (k : Config) (c : ℕ) (flash characters room : List ℕ) (a : Answer) (f p : List ℕ) → k ≡ config_of c
    → Stepped (board k flash) (step (board k flash) characters (length room)) a f p room
    → Stepped (numbered_plug c flash) (step (numbered_plug c flash) characters (length room)) a f p room
of_number k c flash characters room a f p q g = rw (sym q) g

pub returns : goal.returns
returns c =
    let a = c.args in
    told _ _ _ _ _ a.room.now _ _
    (of_number _ a.config.now a.flash.now a.characters.now a.room.now _ _ _ c.config_of.ensures c.step-answer.ensures)
    c.pack_config.ensures c.pack_outcome.ensures
