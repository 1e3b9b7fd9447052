-- `plugrun::turn::take_turn` meets its contract: by what the walk met.
-- Assumes nothing.
use mathlib.Core.Path.{sym, ◌∙◌}
use native.Mathlib.Omega.{arith}
use Rattle.listing.proofs.RecordsLaws.{steps}
use Rattle.plugrun.specs.Turn.{turned}
use Rattle.plugrun.proofs.turn.take_turn.Goals as goal

pub take_record-requires-clause-start_le_end : goal.take_record-requires-clause-start_le_end
take_record-requires-clause-start_le_end c = let s = steps _ _ _ _ (sym c.in_ok-span.ensures) in (omega (arith, s.some), s.within)

pub returns : goal.returns
unfolding turned
returns c = rw (sym c.in_ok-span.ensures) c.take_record.ensures

pub returns-in_err-span : goal.returns-in_err-span
unfolding turned
returns-in_err-span c = rw (c.from_residual.ensures, sym c.next_record.ensures ∙ c.in_err-span.was)
