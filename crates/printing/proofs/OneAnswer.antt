-- One permitted answer: two answers, with the lent memories after them, that meet the contract of a public function are equal.
-- `F.Post` is the contract of F as its code states it.
-- Assumes nothing.
use mathlib.Core.Path.{◌≡◌}
use Rattle.words.proofs.OneAnswer.{one}
use Rattle.printing.proofs.line.request_line.Reads as request_line
use Rattle.printing.proofs.line.job_line.Reads as job_line
use Rattle.printing.proofs.line.refused_line.Reads as refused_line
use Rattle.printing.proofs.head.records_line.Reads as records_line
use Rattle.printing.proofs.head.head_line.Reads as head_line

pub of_request_line : (κs : _) (a : _) (r r' : _) (s s' : _) → request_line.Post κs a r s → request_line.Post κs a r' s'
    → (r ≡ r') × (s.1.1.1.1.1.1.0.now ≡ s'.1.1.1.1.1.1.0.now)
of_request_line κs a r r' s s' p q = (one p.0 q.0, one p.1 q.1)

pub of_job_line : (κs : _) (a : _) (r r' : _) (s s' : _) → job_line.Post κs a r s → job_line.Post κs a r' s' → (r ≡ r') × (s.1.0.now ≡ s'.1.0.now)
of_job_line κs a r r' s s' p q = (one p.0 q.0, one p.1 q.1)

pub of_refused_line : (κs : _) (a : _) (r r' : _) (s s' : _) → refused_line.Post κs a r s → refused_line.Post κs a r' s'
    → (r ≡ r') × (s.1.1.0.now ≡ s'.1.1.0.now)
of_refused_line κs a r r' s s' p q = (one p.0 q.0, one p.1 q.1)

pub of_records_line : (κs : _) (a : _) (r r' : _) (s s' : _) → records_line.Post κs a r s → records_line.Post κs a r' s'
    → (r ≡ r') × (s.1.0.now ≡ s'.1.0.now)
of_records_line κs a r r' s s' p q = (one p.0 q.0, one p.1 q.1)

pub of_head_line : (κs : _) (a : _) (r r' : _) (s s' : _) → head_line.Post κs a r s → head_line.Post κs a r' s'
    → (r ≡ r') × (s.1.1.1.0.now ≡ s'.1.1.1.0.now)
of_head_line κs a r r' s s' p q = (one p.0 q.0, one p.1 q.1)
