-- `recordreader::pairs::read_pairs` meets its contract.
-- Assumes nothing.
use Rattle.std.proofs.Common.{◌≡◌, false, arith, refl, sym, ◌∙◌, drop}
use Rattle.std.proofs.lemmas.Bool.{false≢true}
use Rattle.record.specs.Digits.{all_digits}
use Rattle.record.proofs.DigitsLaws.{digit_small}
use Rattle.recordreader.proofs.PairsLaws.{digit_was, digit_not, pair_is, no_high, no_low, going_more}
use Rattle.recordreader.proofs.pairs.read_pairs.Goals as goal
use Rattle.recordreader.proofs.pairs.read_pairs.Goals.{After-from_residual, After-from_residual-in_err-byte}

module _ (c : After-from_residual) where
  high_stops : all_digits (drop 1 c.args.characters.now) ≡ false
  high_stops =
      let is = pair_is c.args.characters.now c.args.held.now c.args.count c.requires c.as_chunks.result.0.now c.as_chunks.ensures.front
      c.loop-i.held c.loop-i.i c.loop-i.total c.loop-i.invariant c.loop-i-test.true c.as_chunks.ensures.front_len in
      no_high c.args.characters.now c.args.held.now c.args.count c.requires c.as_chunks.result.0.now c.as_chunks.ensures.front
      c.loop-i.held c.loop-i.i c.loop-i.total c.loop-i.invariant c.loop-i-test.true c.as_chunks.ensures.front_len
      (digit_not _ (rw is at c.in_err-digit_of.ensures))

pub returns-in_err-digit_of-clause-value : goal.returns-in_err-digit_of-clause-value
returns-in_err-digit_of-clause-value c = c.from_residual.ensures ∙ rw (high_stops c)

pub returns-in_err-digit_of-clause-held : goal.returns-in_err-digit_of-clause-held
returns-in_err-digit_of-clause-held c d = absurd (false≢true (sym (high_stops c) ∙ d))

pub overflow_mul-byte : goal.overflow_mul-byte
overflow_mul-byte c =
    let high = digit_was _ _ c.in_ok-digit_of.ensures in
    omega (arith, digit_small _ high.0)

module _ (c : After-from_residual-in_err-byte) where
  low_stops : all_digits (drop 1 c.args.characters.now) ≡ false
  low_stops =
      let is = pair_is c.args.characters.now c.args.held.now c.args.count c.requires c.as_chunks.result.0.now c.as_chunks.ensures.front
      c.loop-i.held c.loop-i.i c.loop-i.total c.loop-i.invariant c.loop-i-test.true c.as_chunks.ensures.front_len in
      no_low c.args.characters.now c.args.held.now c.args.count c.requires c.as_chunks.result.0.now c.as_chunks.ensures.front
      c.loop-i.held c.loop-i.i c.loop-i.total c.loop-i.invariant c.loop-i-test.true c.as_chunks.ensures.front_len
      (digit_not _ (rw is at c.in_err-byte.ensures))

pub returns-in_err-byte-clause-value : goal.returns-in_err-byte-clause-value
returns-in_err-byte-clause-value c = c.from_residual-in_err-byte.ensures ∙ rw (low_stops c)

pub returns-in_err-byte-clause-held : goal.returns-in_err-byte-clause-held
returns-in_err-byte-clause-held c d = absurd (false≢true (sym (low_stops c) ∙ d))

pub overflow_add-byte : goal.overflow_add-byte
overflow_add-byte c =
    let high = digit_was _ _ c.in_ok-digit_of.ensures in
    let low = digit_was _ _ c.in_ok-byte.ensures in
    omega (arith, digit_small _ high.0, digit_small _ low.0)

pub loop-i-preserved : goal.loop-i-preserved
loop-i-preserved c =
    let is = pair_is c.args.characters.now c.args.held.now c.args.count c.requires c.as_chunks.result.0.now c.as_chunks.ensures.front
    c.loop-i.held c.loop-i.i c.loop-i.total c.loop-i.invariant c.loop-i-test.true c.as_chunks.ensures.front_len in
    going_more c.args.characters.now c.args.held.now c.args.count c.requires c.as_chunks.result.0.now c.as_chunks.ensures.front
    c.loop-i.held c.loop-i.i c.loop-i.total c.loop-i.invariant c.loop-i-test.true c.as_chunks.ensures.front_len _ _ _
    (digit_was _ _ (rw is at c.in_ok-digit_of.ensures)) (digit_was _ _ (rw is at c.in_ok-byte.ensures)) refl
