-- `worked::odd_board::requests`: what the checks ask follows from what was worked out by hand.
-- Assumes nothing.
use Rattle.std.proofs.Common.{ap, ◌∙◌}
use Rattle.rules.specs.declared.answer.Answer.{Answer}
use Rattle.worked.proofs.OddBoardLaws.{refuses_write, stalls_upload}
use borrow.Author.Tests.{eq-eqb}
use Rattle.worked.proofs.odd_board.requests.Goals as goal

pub expect-requires : goal.expect-requires
expect-requires c =
    let a = c.asked-refused.ensures in
    eq-eqb _ _ (ap (λ (x : Answer). x.session.status) (a.answered ∙ refuses_write _ _ _ a.room))

pub expect-requires-2 : goal.expect-requires-2
expect-requires-2 c =
    let a = c.asked-stalled.ensures in
    eq-eqb _ _ (ap (λ (x : Answer). x.session.status) (a.answered ∙ stalls_upload _ _ _ a.room))
