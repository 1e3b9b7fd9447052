-- `job::verdict::check_job` meets its contract: 16 first of all, then the fields of the whole file, at the definition's bound.
-- Assumes nothing.
use Rattle.std.proofs.Common.{◌∙◌, length, arith, rules}
use borrow.Author.Tests.{lt-ltb, le-ltb}
use Rattle.job.specs.Verdict.{verdict}
use Rattle.job.proofs.FieldLaws.{placed}
use Rattle.job.proofs.verdict.check_job.Goals as goal

pub returns-then-file-gt-MOST_FILE : goal.returns-then-file-gt-MOST_FILE
unfolding verdict
returns-then-file-gt-MOST_FILE c = simp (lt-ltb _ _ c.if-file-gt-MOST_FILE.true, c.at.ensures)

pub returns : goal.returns
unfolding verdict
returns c =
    let told = placed _ c.read_fields.result c.map_err.result c.read_fields.new.at (λ q r p. search (rules, p)) c.map_err.ensures.cases in
    let reads = c.read_fields.ensures.reads (length c.args.file.now) (omega arith) in
    simp (le-ltb _ _ c.if-file-gt-MOST_FILE.false) (told ∙ reads)
