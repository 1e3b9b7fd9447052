-- The paper's "Numbered refusals", 1 to 7. Assumes nothing: these are definitions.
use Rattle.std.specs.Prelude.{if◌then◌else◌, Bool, false, not, ◌||◌, List, [], ◌∷◌, ℕ, eqb, leb, ltb, length}
use Rattle.words.specs.Words.{among, byte_at}
use Rattle.memory.specs.Memory.{flash_size, eeprom_size}
use Rattle.command.specs.Address.{bad_range, past_flash}
use Rattle.rules.specs.Session.{Session, Pending, Nothing, MemoryRead, BlankReport, OneByte, Start}
use Rattle.rules.specs.Result.{Board}
use Rattle.rules.specs.Requests.{w_length}

-- 4: "data is not wLength bytes (bit 7 of bmRequestType clear), or not empty (set)"
abbrev pub to_host : List ℕ → Bool
to_host setup = leb 0x80 (byte_at setup 0)

abbrev pub bad_data : List ℕ → List ℕ → Bool
bad_data setup d = not (eqb (length d) (if to_host setup then 0 else w_length setup))

-- 5: "reply buffer is under 1,024 bytes"
abbrev pub reply_size : ℕ
reply_size = 1024

-- 6: "a pending memory read is backward, outside its memory or over 1,024 bytes, or a pending blank report or start address is
-- above 7FFFh"
abbrev pub bad_pending : Pending → Bool
bad_pending Nothing = false
bad_pending (MemoryRead r) = bad_range r
bad_pending (BlankReport a) = past_flash a
bad_pending (OneByte v) = false
bad_pending (Start k a) = past_flash a

-- 6: "state is none of 0, 2, 3, 5, 6, 9, 10"; P5 of 02: "6 now admits state 4"
abbrev pub states : List ℕ
states = 0 ∷ 2 ∷ 3 ∷ 4 ∷ 5 ∷ 6 ∷ 9 ∷ 10 ∷ []

abbrev pub known_state : ℕ → Bool
known_state state = among state states

-- P5 of 02: "and refuses a busy count above 256"
abbrev pub most_busy : ℕ
most_busy = 256

-- 6: "state is none of .., or status is above 0Fh, or a pending memory read .., or a pending blank report or start address ..", or the busy
-- count
abbrev pub bad_session : Session → Bool
bad_session s = not (known_state s.state) || ltb 0x0F s.status || ltb most_busy s.busy || bad_pending s.pending

-- "Checked in this order; the first that applies is given, and none without its cause.": the number, and 0 where none applies;
-- n the size of the reply buffer
unfoldable pub refusal : Board → List ℕ → List ℕ → ℕ → ℕ
refusal b setup d n =
    if not (eqb (length setup) 8) then 1 else
    if not (eqb (length b.flash) flash_size) then 2 else
    if not (eqb (length b.eeprom) eeprom_size) then 3 else
    if bad_data setup d then 4 else
    if ltb n reply_size then 5 else
    if bad_session b.session then 6 else
    if eqb b.session.state 0 then 7 else 0
