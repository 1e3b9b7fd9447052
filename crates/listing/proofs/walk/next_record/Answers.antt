-- `listing::walk::next_record` meets its contract.
-- Assumes nothing.
use Rattle.listing.proofs.RecordsLaws.{turn_none, turn_record, turn_other}
use Rattle.listing.proofs.walk.next_record.Goals as goal

pub returns-then-is_record : goal.returns-then-is_record
returns-then-is_record c =
    turn_record
    _ _ _ c.loop-at.invariant _ _ _ c.loop-at-test.true c.line_end-feed.ensures.value c.without_return-end.ensures.value
    c.is_record.ensures c.if-is_record.true

pub loop-at-preserved : goal.loop-at-preserved
loop-at-preserved c =
    turn_other
    _ _ _ c.loop-at.invariant _ _ _ c.loop-at-test.true c.line_end-feed.ensures.value c.without_return-end.ensures.value
    c.is_record.ensures c.if-is_record.false

pub returns : goal.returns
returns c = turn_none _ _ _ c.loop-at.invariant c.loop-at-test.false
