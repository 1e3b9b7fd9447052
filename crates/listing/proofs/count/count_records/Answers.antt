-- `listing::count::count_records` meets its contract.
-- Assumes nothing.
use Rattle.std.proofs.Common.{sym, ◌∙◌, arith}
use borrow.Author.Tests.{lt-ltb, le-ltb}
use Rattle.listing.specs.Records.{records_of}
use Rattle.listing.proofs.RecordsLaws.{steps, counted_one, counted_all}
use Rattle.listing.proofs.count.count_records.Goals as goal

pub returns-then-file-gt-MOST_FILE : goal.returns-then-file-gt-MOST_FILE
unfolding records_of
returns-then-file-gt-MOST_FILE c = simp (lt-ltb _ _ c.if-file-gt-MOST_FILE.true)

pub loop-span-smaller : goal.loop-span-smaller
loop-span-smaller c = let s = steps _ _ _ _ (sym c.in-Some.ensures) in omega (arith, s.after, s.some, s.within)

pub loop-span-preserved : goal.loop-span-preserved
loop-span-preserved c =
    let s = steps _ _ _ _ (sym c.in-Some.ensures) in
    (counted_one _ _ _ c.loop-span.invariant.0 _ _ (sym c.in-Some.ensures), omega (arith, s.after, s.some), s.within)

pub returns : goal.returns
unfolding records_of
returns c =
    simp (le-ltb _ _ c.if-file-gt-MOST_FILE.false) (counted_all _ _ _ c.loop-span.invariant.0 (sym c.next_record.ensures ∙ c.in_default.is))
