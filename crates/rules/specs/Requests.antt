-- The paper's "Requests". Assumes nothing: these are definitions.
use Rattle.std.specs.Prelude.{if◌then◌else◌, Bool, true, false, ◌&&◌, List, [], ◌∷◌, ◌++◌, ℕ, ◌+◌, ◌*◌, ◌/◌, ◌%◌, eqb, ltb, take}
use Rattle.words.specs.Words.{among, high_first, low_first, part}
use Rattle.memory.specs.Memory.{flash_address, eeprom_address, range_count}
use Rattle.config.specs.Level.{level}
use Rattle.memory.specs.declared.address.Range.{Range}
use Rattle.memory.specs.declared.address.Range.TheVariants.{Flash, Eeprom}
use Rattle.config.specs.declared.level.Level.{Level}
use Rattle.config.specs.declared.level.Level.TheVariants.{L0, L1, L2}
use Rattle.command.specs.Form.{form}
use Rattle.rules.specs.Session.{Session, session, idle_with, Pending, Nothing, MemoryRead, BlankReport, OneByte, Start}
use Rattle.rules.specs.Result.{Board, Result, reply, Outcome, Done, Started}
use Rattle.rules.specs.Commands.{stall, obey_form}
pub use Rattle.rules.specs.declared.request.Request.{Request}
pub use Rattle.rules.specs.declared.request.Request.TheVariants.{Dnload, Upload, GetStatus, GetState, ClrStatus, Abort, Other}

-- ---- which request it is

-- "Setup is bmRequestType, bRequest, wValue, wIndex, wLength, each word low byte first."
abbrev pub w_value : List ℕ → ℕ
w_value setup = low_first setup 2

abbrev pub w_index : List ℕ → ℕ
w_index setup = low_first setup 4

abbrev pub w_length : List ℕ → ℕ
w_length setup = low_first setup 6

-- "wValue is 0 and wLength 6, 1, 0, 0": a request that is asked for so, and else not listed
abbrev pub plainly : ℕ → Request → List ℕ → Request
plainly n q setup = if eqb (w_value setup) 0 && eqb (w_length setup) n then q else Other

-- "Requests with 21h: DETACH 0, DNLOAD 1, CLRSTATUS 4, ABORT 6. With A1h: UPLOAD 2, GETSTATUS 3, GETSTATE 5.", bmRequestType and
-- bRequest being one number: 21h and 1 is 2101h
abbrev pub request_row : ℕ → List ℕ → Request
request_row code setup =
    if eqb code 0x2101 then Dnload (w_length setup) else
    if eqb code 0xA102 then Upload (w_length setup) else
    if eqb code 0xA103 then plainly 6 GetStatus setup else
    if eqb code 0xA105 then plainly 1 GetState setup else
    if eqb code 0x2104 then plainly 0 ClrStatus setup else
    if eqb code 0x2106 then plainly 0 Abort setup else
    Other

-- "wIndex is 0."; "Anything else stalls, DETACH always."
unfoldable pub request_of : List ℕ → Request
request_of setup = if eqb (w_index setup) 0 then request_row (high_first setup 0) setup else Other

-- ---- GETSTATUS, GETSTATE, CLRSTATUS, ABORT

-- P5 of 02: "With a count above 0, the first GETSTATUS in state 3 reports state 4": whether the next GETSTATUS does
abbrev pub reports_busy : Session → Bool
reports_busy s = eqb s.state 3 && ltb 0 s.busy

-- "State 3 becomes 5, 6 becomes 2, others stay"; P5 of 02: "the next one reports 5", which is the one in state 4
abbrev pub settled : ℕ → ℕ
settled state = if eqb state 3 then 5 else if eqb state 4 then 5 else if eqb state 6 then 2 else state

-- "the state entered"; P5 of 02: "the first GETSTATUS in state 3 reports state 4 .. and moves there"
abbrev pub entered : Session → ℕ
entered s = if reports_busy s then 4 else settled s.state

-- P5 of 02: "with ten milliseconds a page .. ; the next one reports 5 with timeout zero"; elsewhere 01's "three zero bytes"
abbrev pub timeout : Session → ℕ
timeout s = if reports_busy s then 10 * s.busy else 0

-- P5 of 02: "in its three timeout bytes, low byte first"
abbrev pub timeout_bytes : ℕ → List ℕ
timeout_bytes t = t % 256 ∷ t / 256 % 256 ∷ t / 65536 % 256 ∷ []

-- P5 of 02: "The count is cleared by that second GETSTATUS", the one in state 4, whatever the count was
abbrev pub busy_after_status : Session → ℕ
busy_after_status s = if eqb s.state 4 then 0 else s.busy

-- "GETSTATUS: status, three zero bytes, the state entered, zero. .. so do status and what is pending.", the three bytes being the timeout's
abbrev pub get_status : Board → Result
get_status b =
    let s : Session = b.session in
    reply b.config Done (s.status ∷ timeout_bytes (timeout s) ++ entered s ∷ 0 ∷ []) (session (entered s) s.status s.pending (busy_after_status s))

-- "GETSTATE: one byte, the state. Nothing moves."
abbrev pub get_state : Board → Result
get_state b = reply b.config Done (b.session.state ∷ []) b.session

-- "CLRSTATUS in 10, ABORT in 2, 3, 5, 6, 9: state 2, status 00h, nothing pending. Elsewhere they stall.", by the busy count that each
-- leaves
abbrev pub clear_in : List ℕ → ℕ → Board → Result
clear_in states busy b = if among b.session.state states then reply b.config Done [] (idle_with busy) else stall b

abbrev pub clr_states : List ℕ
clr_states = 10 ∷ []

-- CLRSTATUS is not in P5's list of what clears the busy count: it stays
abbrev pub clr_status : Board → Result
clr_status b = clear_in clr_states b.session.busy b

-- P5 of 02: "In state 4 .. ABORT work"
abbrev pub abort_states : List ℕ
abort_states = 2 ∷ 3 ∷ 4 ∷ 5 ∷ 6 ∷ 9 ∷ []

-- P5 of 02: "The count is cleared by .. ABORT"
abbrev pub abort : Board → Result
abort b = clear_in abort_states 0 b

-- ---- DNLOAD

-- "with a start pending"
abbrev pub start_pending : Pending → Bool
start_pending Nothing = false
start_pending (MemoryRead r) = false
start_pending (BlankReport a) = false
start_pending (OneByte v) = false
start_pending (Start k a) = true

-- "the answer is start with its kind and address"; asked of a pending start alone
abbrev pub start_of : Pending → Outcome
start_of Nothing = Done
start_of (MemoryRead r) = Done
start_of (BlankReport a) = Done
start_of (OneByte v) = Done
start_of (Start k a) = Started k a

-- "else in 5 state 6, nothing pending .. ; else stall."; the busy count stays
unfoldable pub end_plain : Board → Result
end_plain b = if eqb b.session.state 5 then reply b.config Done [] (session 6 b.session.status Nothing b.session.busy) else stall b

abbrev pub start_states : List ℕ
start_states = 3 ∷ 5 ∷ []

-- "wLength 0: in 3 or 5 with a start pending, the answer is start with its kind and address, state 0, nothing pending; else in 5
-- state 6, nothing pending (both keep the status); else stall."; the busy count stays
unfoldable pub end_download : Board → Result
end_download b =
    if among b.session.state start_states && start_pending b.session.pending
    then reply b.config (start_of b.session.pending) [] (session 0 b.session.status Nothing b.session.busy) else
    end_plain b

-- "over 1,103"
abbrev pub most_data : ℕ
most_data = 1103

abbrev pub command_states : List ℕ
command_states = 2 ∷ 5 ∷ []

-- "DNLOAD, wLength over 1,103: stall. .. wLength 1 to 1,103: a command in 2 or 5, else stall."
unfoldable pub dnload : Board → ℕ → List ℕ → Result
dnload b n d =
    if ltb most_data n then stall b else
    if eqb n 0 then end_download b else
    if among b.session.state command_states then obey_form b (form d) d else
    stall b

-- ---- UPLOAD

-- "A pending start can't be sent, nor a memory read at level 2."
abbrev pub read_sent : Level → Bool
read_sent L0 = true
read_sent L1 = true
read_sent L2 = false

abbrev pub sendable : Pending → Level → Bool
sendable Nothing l = false
sendable (MemoryRead r) l = read_sent l
sendable (BlankReport a) l = true
sendable (OneByte v) l = true
sendable (Start k a) l = false

-- the bytes of a range
abbrev pub range_content : Board → Range → List ℕ
range_content b (Flash a e) = part a.0 e.0 b.flash
range_content b (Eeprom a e) = part a.0 e.0 b.eeprom

-- what is pending, as bytes: "the two-byte blank report" is "high byte first"
abbrev pub pending_bytes : Board → Pending → List ℕ
pending_bytes b Nothing = []
pending_bytes b (MemoryRead r) = range_content b r
pending_bytes b (BlankReport a) = a.0 / 256 ∷ a.0 % 256 ∷ []
pending_bytes b (OneByte v) = v ∷ []
pending_bytes b (Start k a) = []

-- how many those are
abbrev pub pending_count : Pending → ℕ
pending_count Nothing = 0
pending_count (MemoryRead r) = range_count r
pending_count (BlankReport a) = 2
pending_count (OneByte v) = 1
pending_count (Start k a) = 0

-- a range without its first n bytes
abbrev pub rest_of : ℕ → Range → Range
rest_of n (Flash a e) = Flash (flash_address (a.0 + n)) e
rest_of n (Eeprom a e) = Eeprom (eeprom_address (a.0 + n)) e

-- "the rest pending (after the first byte of a blank report: its low byte, as one byte)"
abbrev pub pending_after : ℕ → Pending → Pending
pending_after n Nothing = Nothing
pending_after n (MemoryRead r) = MemoryRead (rest_of n r)
pending_after n (BlankReport a) = OneByte (a.0 % 256)
pending_after n (OneByte v) = Nothing
pending_after n (Start k a) = Nothing

-- "the smaller of wLength and the rest. Status 00h. If more remains, state 9 and the rest pending .. ; else state 2 and nothing.";
-- the busy count stays
unfoldable pub send : Board → ℕ → Pending → Result
send b n p =
    reply b.config Done (take n (pending_bytes b p))
    (if ltb n (pending_count p) then session 9 0x00 (pending_after n p) b.session.busy else session 2 0x00 Nothing b.session.busy)

abbrev pub upload_states : List ℕ
upload_states = 5 ∷ 9 ∷ []

-- "UPLOAD in 5 or 9, wLength over 0, something pending that can be sent: .. Otherwise stall."
unfoldable pub upload : Board → ℕ → Result
upload b n =
    if among b.session.state upload_states && ltb 0 n && sendable b.session.pending (level b.config)
    then send b n b.session.pending else
    stall b

-- ---- all of them; DETACH is an Other

unfoldable pub respond : Board → Request → List ℕ → Result
respond b (Dnload n) d = dnload b n d
respond b (Upload n) d = upload b n
respond b GetStatus d = get_status b
respond b GetState d = get_state b
respond b ClrStatus d = clr_status b
respond b Abort d = abort b
respond b Other d = stall b
