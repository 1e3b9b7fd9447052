-- `replies::reply::say` meets its contract.
-- Assumes nothing.
use Rattle.std.proofs.Common.{ap, not}
use Rattle.replies.proofs.ReplyLaws.{not_said, said}
use Rattle.replies.proofs.reply.say.Goals as goal

pub returns-then-not-lay : goal.returns-then-not-lay
returns-then-not-lay c =
    rw c.no_room.ensures (not_said _ _ _ _ _ c.lay.ensures.value c.lay.ensures.memory_after (ap not c.if-not-lay.true))

pub returns : goal.returns
returns c = rw c.answered.ensures (said _ _ _ _ _ c.lay.ensures.value c.lay.ensures.memory_after (ap not c.if-not-lay.false))
