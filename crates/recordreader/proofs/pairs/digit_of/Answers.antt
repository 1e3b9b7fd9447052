-- `recordreader::pairs::digit_of` meets its contract.
-- Assumes nothing.
use Rattle.std.proofs.Common.{arith}
use Rattle.recordreader.proofs.PairsLaws.{no_entry, an_entry}
use Rattle.recordreader.proofs.pairs.digit_of.Goals as goal

pub returns-then-value : goal.returns-then-value
returns-then-value c = no_entry _ c.requires c.args.character (omega arith) (rw c.from.ensures at c.if-value.true)

pub returns-else-value : goal.returns-else-value
returns-else-value c = rw c.from.ensures (an_entry _ c.requires c.args.character (omega arith) (rw c.from.ensures at c.if-value.false))
