-- `run::run::write_line` meets its contract: the line is the one of the answer, and it fits.
-- Assumes nothing.
use Rattle.run.proofs.RunLaws.{line_fits, line_stands}
use Rattle.run.proofs.run.write_line.Goals as goal

pub unwrap-requires : goal.unwrap-requires
unwrap-requires c =
    line_fits _ _ c.args.answer _ _ _ _ c.requires.length_in_bounds c.requires.most_line_in_bounds c.request_line.ensures.value

pub returns-clause-stands : goal.returns-clause-stands
returns-clause-stands c =
    (line_stands _ _ c.args.answer _ _ _ _ c.requires.length_in_bounds c.requires.most_line_in_bounds c.request_line.ensures.value _ _
    c.word_of.ensures c.request_line.ensures.room_after c.unwrap.ensures).0

pub returns-clause-upper_bound : goal.returns-clause-upper_bound
returns-clause-upper_bound c =
    (line_stands _ _ c.args.answer _ _ _ _ c.requires.length_in_bounds c.requires.most_line_in_bounds c.request_line.ensures.value _ _
    c.word_of.ensures c.request_line.ensures.room_after c.unwrap.ensures).1
