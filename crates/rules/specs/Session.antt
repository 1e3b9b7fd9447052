-- The paper's session record. Assumes nothing: these are definitions.
use Rattle.std.specs.Prelude.{ℕ}
pub use Rattle.rules.specs.declared.session.StartKind.{StartKind}
pub use Rattle.rules.specs.declared.session.StartKind.TheVariants.{Reset, AtAddress}
pub use Rattle.rules.specs.declared.session.Pending.{Pending}
pub use Rattle.rules.specs.declared.session.Pending.TheVariants.{Nothing, MemoryRead, BlankReport, OneByte, Start}
pub use Rattle.rules.specs.declared.session.Session.{Session}

-- "Session record: state, status, and what is pending"; P5 of 02: "The session record gets a busy page count."
abbrev pub session : ℕ → ℕ → Pending → ℕ → Session
session state status p busy = record { state = state; status = status; pending = p; busy = busy }

-- "state 2, status 00h, nothing pending": CLRSTATUS, ABORT and power-up, by the busy count that they leave
abbrev pub idle_with : ℕ → Session
idle_with busy = session 2 0x00 Nothing busy

-- the same with no page to wait for: after ABORT and power-up
abbrev pub idle : Session
idle = idle_with 0

-- "start by reset, or at address": 04h, 03h, 00h and 04h, 03h, 01h
abbrev pub start_number : StartKind → ℕ
start_number Reset = 0x00
start_number AtAddress = 0x01
