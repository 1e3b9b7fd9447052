-- `run::run::ask_board` meets its contract: the parts of the file that it lends are the request's setup and data.
-- Assumes nothing.
use Rattle.run.proofs.RunLaws.{stepped_asked}
use Rattle.run.proofs.run.ask_board.Goals as goal

pub returns : goal.returns
returns c = stepped_asked c.args.file.now c.args.span _ _ _ _ _ _ _ c.requires.reply_len c.step.ensures
