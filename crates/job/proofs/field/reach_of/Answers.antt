-- `job::field::reach_of` meets its contract: each test is one of `beyond`.
-- Assumes nothing.
use Rattle.std.proofs.Common.{◌∙◌, arith}
use Rattle.job.proofs.FieldLaws.{length_at_bytes, reach_short, reach_whole}
use Rattle.job.proofs.field.reach_of.Goals as goal

pub returns-in_err-left : goal.returns-in_err-left
returns-in_err-left c = c.from_residual.ensures ∙ reach_short _ _ _ (omega (arith, c.in_err-left.ensures))

pub returns : goal.returns
returns c =
    c.then_some.ensures
    ∙ reach_whole c.args.file.now c.args.at c.args.end _ _ (omega (arith, c.in_ok-left.ensures)) (omega (arith, length_at_bytes c.args.file.now c.args.at))
