-- One permitted answer: two answers, with the lent memories after them, that meet the contract of a public function are equal.
-- `F.Post` is the contract of F as its code states it.
-- Assumes nothing.
use mathlib.Core.Path.{◌≡◌}
use Rattle.words.proofs.OneAnswer.{one}
use Rattle.plugcommands.proofs.commands.perform.Reads as perform

pub of_perform : (κs : _) (a : _) (r r' : _) (s s' : _) → perform.Post κs a r s → perform.Post κs a r' s'
    → (r ≡ r') × (s.1.1.1.0.now ≡ s'.1.1.1.0.now) × (s.1.1.1.1.0.now ≡ s'.1.1.1.1.0.now)
of_perform κs a r r' s s' p q = (one p.answered q.answered, one p.flash q.flash, one p.room q.room)
