-- `printing::text::digits` meets its contract.
-- Assumes nothing.
use Rattle.std.proofs.Common.{sym, arith}
use Rattle.printing.proofs.NumberLaws.{length_by_log}
use Rattle.printing.proofs.text.digits.Goals as goal

pub returns-clause-value : goal.returns-clause-value
returns-clause-value c =
    let log = c.ilog10.ensures in
    sym (length_by_log c.ilog10.result c.args.number c.max.result c.max.ensures log.power_le log.next_power_gt (omega arith))
