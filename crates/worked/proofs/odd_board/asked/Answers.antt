-- `worked::odd_board::asked` meets its contract: it is the step of the odd board, with memories of their sizes.
-- Assumes nothing.
use Rattle.std.proofs.Common.{rules, ◌≡◌, ℕ, List, length, ◌∙◌}
use Rattle.config.specs.declared.config.Config.{Config}
use Rattle.rules.specs.declared.session.Session.{Session}
use Rattle.rules.specs.declared.answer.Answer.{Answer}
use Rattle.rules.specs.Result.{board}
use Rattle.rules.specs.Step.{ask}
use Rattle.rules.specs.Answered.{Room, Stepped}
use Rattle.worked.specs.OddBoard.{odd_config, Asked}
use Rattle.worked.proofs.odd_board.asked.Goals as goal

stepped : (s : Session) (c : Config) (f e p setup d : List ℕ) (a : Answer) (f' e' p' : List ℕ) → c ≡ odd_config → Room f e p
    → Stepped (board s c f e) (ask (board s c f e) setup d (length p)) a f' e' p' p → Asked s setup d a
stepped s c f e p setup d a f' e' p' odd r g = record { flash = f; eeprom = e; reply = p; room = r; answered = g.answered ∙ rw odd }

pub returns : goal.returns
returns c = stepped _ _ _ _ _ _ _ _ _ _ _ c.odd.ensures (search rules) c.step.ensures
