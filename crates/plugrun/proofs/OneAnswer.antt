-- One permitted answer: two answers, with the lent memories after them, that meet the contract of a public function are equal.
-- `F.Post` is the contract of F as its code states it.
-- Assumes nothing.
use mathlib.Core.Path.{◌≡◌, ap}
use Rattle.words.proofs.OneAnswer.{one}
use Rattle.plugrun.specs.Turn.{Left}
use Rattle.plugrun.proofs.first.blank_flash.Reads as blank_flash
use Rattle.plugrun.proofs.first.start.Reads as start
use Rattle.plugrun.proofs.first.first_line.Reads as first_line
use Rattle.plugrun.proofs.turn.take_turn.Reads as take_turn

pub of_blank_flash : (κs : _) (a : _) (r r' : _) (s s' : _) → blank_flash.Post κs a r s → blank_flash.Post κs a r' s' → r ≡ r'
of_blank_flash κs a r r' s s' p q = one p q

pub of_start : (κs : _) (a : _) (r r' : _) (s s' : _) → start.Post κs a r s → start.Post κs a r' s' → r ≡ r'
of_start κs a r r' s s' p q = one p q

pub of_first_line : (κs : _) (a : _) (r r' : _) (s s' : _) → first_line.Post κs a r s → first_line.Post κs a r' s'
    → (r ≡ r') × (s.1.0.now ≡ s'.1.0.now)
of_first_line κs a r r' s s' p q = (one p.0 q.0, one p.1 q.1)

-- the turn, and flash, reply and room after it
pub of_take_turn : (κs : _) (a : _) (r r' : _) (s s' : _) → take_turn.Post κs a r s → take_turn.Post κs a r' s'
    → (r ≡ r') × (s.1.1.1.0.now ≡ s'.1.1.1.0.now) × (s.1.1.1.1.0.now ≡ s'.1.1.1.1.0.now)
    × (s.1.1.1.1.1.0.now ≡ s'.1.1.1.1.1.0.now)
of_take_turn κs a r r' s s' p q =
    let e = one p q in
    (ap (λ (x : Left). x.turn) e, ap (λ (x : Left). x.flash) e, ap (λ (x : Left). x.reply) e, ap (λ (x : Left). x.room) e)
