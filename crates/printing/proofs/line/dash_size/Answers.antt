-- `printing::line::dash_size` meets its contract: a reply of no bytes is one dash.
-- Assumes nothing.
use Rattle.printing.proofs.PieceLaws.{length_reply_text}
use Rattle.printing.proofs.line.dash_size.Goals as goal

pub returns-clause-reply_value : goal.returns-clause-reply_value
returns-clause-reply_value c = length_reply_text _ _ _ c.is_empty.ensures c.from.ensures
