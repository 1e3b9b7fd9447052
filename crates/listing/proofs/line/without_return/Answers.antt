-- `listing::line::without_return` meets its contract.
-- Assumes nothing.
use Rattle.std.proofs.Common.{sym, arith}
use Rattle.listing.proofs.LineLaws.{cut, not_cut_empty, not_cut_last, not_cut_other}
use Rattle.listing.proofs.line.without_return.Goals.{else-at-end-via-then-at-end+then-end-file+else-file-end-eq-RETURN}
use Rattle.listing.proofs.line.without_return.Goals.{else-at-end-via-then-at-end+else-end-file, else-at-end-via-else-at-end}
use Rattle.listing.proofs.line.without_return.Goals as goal

pub returns-then-file-end-eq-RETURN-clause-value : goal.returns-then-file-end-eq-RETURN-clause-value
returns-then-file-end-eq-RETURN-clause-value c =
    sym (cut _ _ _ (record { some = omega arith; feed = omega arith; return = c.if-file-end-eq-RETURN.true }))

pub returns-else-at-end-clause-value : goal.returns-else-at-end-clause-value
returns-else-at-end-clause-value c =
    elim c.else-at-end.branch [
      | else-at-end-via-then-at-end+then-end-file+else-file-end-eq-RETURN w ↦ sym (not_cut_other _ _ _ w.if-file-end-eq-RETURN.false)
      | else-at-end-via-then-at-end+else-end-file w ↦ sym (not_cut_last _ _ _ (omega arith))
      | else-at-end-via-else-at-end w ↦ sym (not_cut_empty _ _ _ (omega arith))
    ]
