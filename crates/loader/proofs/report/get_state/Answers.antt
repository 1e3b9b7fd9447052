-- `loader::report::get_state` meets its contract.
-- Assumes nothing.
use Rattle.std.proofs.Common.{ap, arith}
use Rattle.rules.specs.declared.answer.Answer.{Answer}
use Rattle.rules.proofs.StatusLaws.{reply_laid}
use Rattle.loader.proofs.report.get_state.Goals as goal

pub returns : goal.returns
returns c = record {
  answered = ap (λ (x : Answer). record x { length = 1 }) c.quiet.ensures;
  reply = reply_laid _ _ _ (omega arith) c.lay.ensures.memory_after;
}
