-- One permitted answer: two answers, with the lent memories and numbers after them, that meet the contract of a public function are
-- equal. `F.Post` is the contract of F as its code states it.
-- Assumes nothing.
use mathlib.Core.Path.{◌≡◌}
use Rattle.words.proofs.OneAnswer.{one}
use Rattle.exports.proofs.loader_step.Reads as loader_step
use Rattle.exports.proofs.loader_power_up.Reads as loader_power_up
use Rattle.exports.proofs.loader_delivered.Reads as loader_delivered
use Rattle.exports.proofs.loader_read_command.Reads as loader_read_command
use Rattle.exports.proofs.loader_write_command.Reads as loader_write_command
use Rattle.exports.proofs.loader_check_job.Reads as loader_check_job
use Rattle.exports.proofs.loader_count_requests.Reads as loader_count_requests
use Rattle.exports.proofs.records.serial_step.Reads as serial_step
use Rattle.exports.proofs.records.serial_delivered.Reads as serial_delivered
use Rattle.exports.proofs.records.serial_read_record.Reads as serial_read_record
use Rattle.exports.proofs.records.serial_write_record.Reads as serial_write_record

-- s and s' have what was lent, one parameter after the other: session, busy count, configuration, setup, data, flash, EEPROM, reply,
-- count, pages
pub of_loader_step : (κs : _) (a : _) (r r' : _) (s s' : _) → loader_step.Post κs a r s → loader_step.Post κs a r' s'
    → (r ≡ r') × (s.0.now ≡ s'.0.now) × (s.1.0.now ≡ s'.1.0.now) × (s.1.1.0.now ≡ s'.1.1.0.now)
    × (s.1.1.1.1.1.0.now ≡ s'.1.1.1.1.1.0.now) × (s.1.1.1.1.1.1.0.now ≡ s'.1.1.1.1.1.1.0.now)
    × (s.1.1.1.1.1.1.1.0.now ≡ s'.1.1.1.1.1.1.1.0.now) × (s.1.1.1.1.1.1.1.1.0.now ≡ s'.1.1.1.1.1.1.1.1.0.now)
    × (s.1.1.1.1.1.1.1.1.1.0.now ≡ s'.1.1.1.1.1.1.1.1.1.0.now)
of_loader_step κs a r r' s s' p q = (
  one p.outcome_told q.outcome_told,
  one p.session_told q.session_told,
  one p.busy_told q.busy_told,
  one p.config_told q.config_told,
  one p.flash q.flash,
  one p.eeprom q.eeprom,
  one p.reply q.reply,
  one p.sent_told q.sent_told,
  one p.pages_told q.pages_told,
)

pub of_loader_power_up : (κs : _) (a : _) (r r' : _) (s s' : _) → loader_power_up.Post κs a r s → loader_power_up.Post κs a r' s'
    → (r ≡ r') × (s.0.now ≡ s'.0.now)
of_loader_power_up κs a r r' s s' p q = (one p.0 q.0, one p.1 q.1)

pub of_loader_delivered : (κs : _) (a : _) (r r' : _) (s s' : _) → loader_delivered.Post κs a r s → loader_delivered.Post κs a r' s' → r ≡ r'
of_loader_delivered κs a r r' s s' p q = one p q

pub of_loader_read_command : (κs : _) (a : _) (r r' : _) (s s' : _) → loader_read_command.Post κs a r s → loader_read_command.Post κs a r' s'
    → (r ≡ r') × (s.1.0.now ≡ s'.1.0.now) × (s.1.1.0.now ≡ s'.1.1.0.now) × (s.1.1.1.0.now ≡ s'.1.1.1.0.now)
of_loader_read_command κs a r r' s s' p q =
    (one p.0 q.0, one p.1.0 q.1.0, one p.1.1.0 q.1.1.0, one p.1.1.1 q.1.1.1)

pub of_loader_write_command : (κs : _) (a : _) (r r' : _) (s s' : _) → loader_write_command.Post κs a r s → loader_write_command.Post κs a r' s'
    → (r ≡ r') × (s.1.1.1.0.now ≡ s'.1.1.1.0.now) × (s.1.1.1.1.0.now ≡ s'.1.1.1.1.0.now)
of_loader_write_command κs a r r' s s' p q = (one p.0.0 q.0.0, one p.1 q.1, one p.0.1 q.0.1)

pub of_loader_check_job : (κs : _) (a : _) (r r' : _) (s s' : _) → loader_check_job.Post κs a r s → loader_check_job.Post κs a r' s'
    → (r ≡ r') × (s.1.0.now ≡ s'.1.0.now)
of_loader_check_job κs a r r' s s' p q = (one p.0 q.0, one p.1 q.1)

pub of_loader_count_requests : (κs : _) (a : _) (r r' : _) (s s' : _) → loader_count_requests.Post κs a r s
    → loader_count_requests.Post κs a r' s' → r ≡ r'
of_loader_count_requests κs a r r' s s' p q = one p q

-- configuration, flash, room, count and pages
pub of_serial_step : (κs : _) (a : _) (r r' : _) (s s' : _) → serial_step.Post κs a r s → serial_step.Post κs a r' s'
    → (r ≡ r') × (s.0.now ≡ s'.0.now) × (s.1.1.0.now ≡ s'.1.1.0.now) × (s.1.1.1.0.now ≡ s'.1.1.1.0.now)
    × (s.1.1.1.1.0.now ≡ s'.1.1.1.1.0.now) × (s.1.1.1.1.1.0.now ≡ s'.1.1.1.1.1.0.now)
of_serial_step κs a r r' s s' p q = (
  one p.outcome_told q.outcome_told,
  one p.config_told q.config_told,
  one p.flash q.flash,
  one p.room q.room,
  one p.sent_told q.sent_told,
  one p.pages_told q.pages_told,
)

pub of_serial_delivered : (κs : _) (a : _) (r r' : _) (s s' : _) → serial_delivered.Post κs a r s → serial_delivered.Post κs a r' s' → r ≡ r'
of_serial_delivered κs a r r' s s' p q = one p q

-- room, load offset, type and count
pub of_serial_read_record : (κs : _) (a : _) (r r' : _) (s s' : _) → serial_read_record.Post κs a r s → serial_read_record.Post κs a r' s'
    → (r ≡ r') × (s.1.0.now ≡ s'.1.0.now) × (s.1.1.0.now ≡ s'.1.1.0.now)
    × (s.1.1.1.0.now ≡ s'.1.1.1.0.now) × (s.1.1.1.1.0.now ≡ s'.1.1.1.1.0.now)
of_serial_read_record κs a r r' s s' p q = (
  one p.0 q.0,
  one p.1.0 q.1.0,
  one p.1.1.0 q.1.1.0,
  one p.1.1.1.0 q.1.1.1.0,
  one p.1.1.1.1 q.1.1.1.1,
)

-- room and count
pub of_serial_write_record : (κs : _) (a : _) (r r' : _) (s s' : _) → serial_write_record.Post κs a r s → serial_write_record.Post κs a r' s'
    → (r ≡ r') × (s.1.1.1.0.now ≡ s'.1.1.1.0.now) × (s.1.1.1.1.0.now ≡ s'.1.1.1.1.0.now)
of_serial_write_record κs a r r' s s' p q = (one p.0 q.0, one p.1.1 q.1.1, one p.1.0 q.1.0)
