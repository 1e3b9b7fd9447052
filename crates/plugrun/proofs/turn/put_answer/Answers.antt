-- `plugrun::turn::put_answer` meets its contract: each arm is a line of `answer_text`.
-- Assumes nothing.
use Rattle.lines.proofs.RoomLaws.{put_fits, put_there}
use Rattle.plugrun.proofs.turn.put_answer.Goals as goal

pub unwrap-requires : goal.unwrap-requires
unwrap-requires c = put_fits _ _ _ _ c.plain_text.ensures.value (rw c.in-Answered.is at c.requires)

pub unwrap-requires-in-StartedReset : goal.unwrap-requires-in-StartedReset
unwrap-requires-in-StartedReset c = put_fits _ _ _ _ c.plain_text-in-StartedReset.ensures.value (rw c.in-StartedReset.is at c.requires)

pub unwrap-requires-in-Refused : goal.unwrap-requires-in-Refused
unwrap-requires-in-Refused c = put_fits _ _ _ _ c.plain_text-in-Refused.ensures.value (rw c.in-Refused.is at c.requires)

pub returns-in-Answered : goal.returns-in-Answered
returns-in-Answered c =
    let p = c.plain_text.ensures in
    rw c.in-Answered.is (put_there _ _ _ _ _ _ p.value p.room_after c.unwrap.ensures (rw c.in-Answered.is at c.requires))

pub returns-in-StartedReset : goal.returns-in-StartedReset
returns-in-StartedReset c =
    let p = c.plain_text-in-StartedReset.ensures in
    let e = c.in-StartedReset.is in
    rw e (put_there _ _ _ _ _ _ p.value p.room_after c.unwrap-in-StartedReset.ensures (rw e at c.requires))

pub returns-in-Refused : goal.returns-in-Refused
returns-in-Refused c =
    let p = c.plain_text-in-Refused.ensures in
    let e = c.in-Refused.is in
    rw e (put_there _ _ _ _ _ _ p.value p.room_after c.unwrap-in-Refused.ensures (rw e at c.requires))
