-- `plugrun::turn::take_record` meets its contract: the part of the file that it lends is the record.
-- Assumes nothing.
use Rattle.plugrun.proofs.TurnLaws.{length_fits, took_turn}
use Rattle.plugrun.proofs.turn.take_record.Goals as goal

pub write_text-size-requires-clause-length_in_bounds : goal.write_text-size-requires-clause-length_in_bounds
write_text-size-requires-clause-length_in_bounds c =
    let a = c.args in
    length_fits a.file.now a.number a.span.start a.span.end _ _ _ _ _ _ c.requires.most_answer_in_bounds.0 c.step-answer.ensures

pub returns : goal.returns
returns c =
    let a = c.args in
    took_turn a.file.now a.number a.span.start a.span.end _ _ _ _ _ _ c.requires.most_answer_in_bounds.0 c.step-answer.ensures _ _ _ c.write_text-size.ensures
