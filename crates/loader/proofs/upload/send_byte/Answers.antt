-- `loader::upload::send_byte` meets its contract.
-- Assumes nothing.
use Rattle.rules.proofs.UploadLaws.{byte_all}
use Rattle.loader.proofs.upload.send_byte.Goals as goal

pub returns : goal.returns
returns c = byte_all _ _ _ _ _ c.requires.reply_size_in_bounds _ c.requires.n_nonzero c.lay.ensures.memory_after c.sent.ensures
