-- One permitted answer: two answers, with the lent room after them, that meet the contract of a public function are equal.
-- `F.Post` is the contract of F as its code states it.
-- Assumes nothing.
use mathlib.Core.Path.{◌≡◌}
use Rattle.words.proofs.OneAnswer.{one}
use Rattle.replies.proofs.display.say_display.Reads as say_display
use Rattle.replies.proofs.reply.done.Reads as done
use Rattle.replies.proofs.reply.no_room.Reads as no_room
use Rattle.replies.proofs.reply.quiet.Reads as quiet
use Rattle.replies.proofs.reply.say.Reads as say
use Rattle.replies.proofs.reply.say_value.Reads as say_value
use Rattle.replies.proofs.reply.say_address.Reads as say_address

pub of_say_display : (κs : _) (a : _) (r r' : _) (s s' : _) → say_display.Post κs a r s → say_display.Post κs a r' s'
    → (r ≡ r') × (s.1.1.1.1.0.now ≡ s'.1.1.1.1.0.now)
of_say_display κs a r r' s s' p q = (one p.answered q.answered, one p.room q.room)

pub of_done : (κs : _) (a : _) (r r' : _) (s s' : _) → done.Post κs a r s → done.Post κs a r' s'
    → (r ≡ r') × (s.1.1.0.now ≡ s'.1.1.0.now)
of_done κs a r r' s s' p q = (one p.0 q.0, one p.1 q.1)

pub of_no_room : (κs : _) (a : _) (r r' : _) (s s' : _) → no_room.Post κs a r s → no_room.Post κs a r' s' → r ≡ r'
of_no_room κs a r r' s s' p q = one p q

pub of_quiet : (κs : _) (a : _) (r r' : _) (s s' : _) → quiet.Post κs a r s → quiet.Post κs a r' s' → r ≡ r'
of_quiet κs a r r' s s' p q = one p q

pub of_say : (κs : _) (a : _) (r r' : _) (s s' : _) → say.Post κs a r s → say.Post κs a r' s'
    → (r ≡ r') × (s.1.1.0.now ≡ s'.1.1.0.now)
of_say κs a r r' s s' p q = (one p.answered q.answered, one p.room q.room)

pub of_say_value : (κs : _) (a : _) (r r' : _) (s s' : _) → say_value.Post κs a r s → say_value.Post κs a r' s'
    → (r ≡ r') × (s.1.1.0.now ≡ s'.1.1.0.now)
of_say_value κs a r r' s s' p q = (one p.answered q.answered, one p.room q.room)

pub of_say_address : (κs : _) (a : _) (r r' : _) (s s' : _) → say_address.Post κs a r s → say_address.Post κs a r' s'
    → (r ≡ r') × (s.1.1.0.now ≡ s'.1.1.0.now)
of_say_address κs a r r' s s' p q = (one p.answered q.answered, one p.room q.room)
