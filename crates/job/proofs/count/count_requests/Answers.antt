-- `job::count::count_requests` meets its contract: none for a file that is too long, else the fields of the whole file, at the
-- definition's bound.
-- Assumes nothing.
use Rattle.std.proofs.Common.{arith}
use borrow.Author.Tests.{lt-ltb, le-ltb}
use Rattle.job.specs.Requests.{requests_of}
use Rattle.job.proofs.count.count_requests.Goals as goal

pub returns-then-file-gt-MOST_FILE : goal.returns-then-file-gt-MOST_FILE
unfolding requests_of
returns-then-file-gt-MOST_FILE c = simp (lt-ltb _ _ c.if-file-gt-MOST_FILE.true)

pub returns : goal.returns
unfolding requests_of
returns c = simp (le-ltb _ _ c.if-file-gt-MOST_FILE.false) (c.count_fields.ensures.counts _ (omega arith))
