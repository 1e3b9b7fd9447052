-- 01's UPLOAD, a sentence each, for every board and every UPLOAD that is not refused: what can be sent, which bytes that is, and what is then
-- left. Proved in proofs/SendingHolds.antt.
use Rattle.std.specs.Prelude.{◌≡◌, List, [], ◌∷◌, ◌++◌, ℕ, ◌+◌, ◌*◌, ◌%◌, ◌≤◌, ◌<◌, length, get_or}
use Rattle.memory.specs.Memory.{flash_address, eeprom_address}
use Rattle.memory.specs.declared.address.FlashAddress.{FlashAddress}
use Rattle.memory.specs.declared.address.EepromAddress.{EepromAddress}
use Rattle.memory.specs.declared.address.Range.TheVariants.{Flash, Eeprom}
use Rattle.config.specs.Level.{level}
use Rattle.config.specs.declared.level.Level.{Level}
use Rattle.config.specs.declared.level.Level.TheVariants.{L2}
use Rattle.rules.specs.Session.{Pending, Nothing, MemoryRead, BlankReport, OneByte, Start}
use Rattle.rules.specs.Result.{Board, Result, Done}
use Rattle.rules.specs.Requests.{Upload, request_of, pending_bytes}
use Rattle.rules.specs.Refusals.{refusal}
use Rattle.rules.specs.Step.{ask}
use Rattle.rules.specs.RefusalOrder.{In}
use Rattle.rules.specs.States.{Stalls}

-- "A pending start can't be sent, nor a memory read at level 2."
abbrev pub CanBeSent : Pending → Level → Type 0
CanBeSent Nothing l = ⊥
CanBeSent (MemoryRead r) l = l ≡ L2 → ⊥
CanBeSent (BlankReport a) l = Unit {0}
CanBeSent (OneByte v) l = Unit {0}
CanBeSent (Start k a) l = ⊥

-- the bytes of what is pending: of a memory those from the first address to the last, and the blank report "high byte first"
pub record PendingBytes : Type 0 where
  pub flash_count : (b : Board) (a e : FlashAddress) → a.0 ≤ e.0 → e.0 < length b.flash
      → a.0 + length (pending_bytes b (MemoryRead (Flash a e))) ≡ e.0 + 1
  pub flash_bytes : (b : Board) (a e : FlashAddress) (i : ℕ) → a.0 + i ≤ e.0 → e.0 < length b.flash
      → get_or (pending_bytes b (MemoryRead (Flash a e))) i 0 ≡ get_or b.flash (a.0 + i) 0
  pub eeprom_count : (b : Board) (a e : EepromAddress) → a.0 ≤ e.0 → e.0 < length b.eeprom
      → a.0 + length (pending_bytes b (MemoryRead (Eeprom a e))) ≡ e.0 + 1
  pub eeprom_bytes : (b : Board) (a e : EepromAddress) (i : ℕ) → a.0 + i ≤ e.0 → e.0 < length b.eeprom
      → get_or (pending_bytes b (MemoryRead (Eeprom a e))) i 0 ≡ get_or b.eeprom (a.0 + i) 0
  pub report_bytes : (b : Board) (h l : ℕ) → l < 256 → pending_bytes b (BlankReport (flash_address (h * 256 + l))) ≡ h ∷ l ∷ []
  pub one_byte : (b : Board) (v : ℕ) → pending_bytes b (OneByte v) ≡ v ∷ []
  pub no_bytes : (b : Board) → pending_bytes b Nothing ≡ []

-- "the rest pending (after the first byte of a blank report: its low byte, as one byte)": q is left of p when n bytes are sent; of nothing
-- else more than one byte can be pending
abbrev pub Rest : ℕ → Pending → Pending → Type 0
Rest n Nothing q = ⊥
Rest n (MemoryRead (Flash a e)) q = q ≡ MemoryRead (Flash (flash_address (a.0 + n)) e)
Rest n (MemoryRead (Eeprom a e)) q = q ≡ MemoryRead (Eeprom (eeprom_address (a.0 + n)) e)
Rest n (BlankReport a) q = q ≡ OneByte (a.0 % 256)
Rest n (OneByte v) q = ⊥
Rest n (Start k a) q = ⊥

-- "the smaller of wLength and the rest. Status 00h. If more remains, state 9 and the rest pending ..; else state 2 and nothing.": what is sent
-- and what is left are together what was pending; the busy count stays
pub record Sends (b : Board) (n : ℕ) (p : Pending) (r : Result) : Type 0 where
  pub done : r.outcome ≡ Done
  pub status : r.session.status ≡ 0x00
  pub count_stays : r.session.busy ≡ b.session.busy
  pub together : r.sent ++ pending_bytes b r.session.pending ≡ pending_bytes b p
  pub more : n < length (pending_bytes b p) → (length r.sent ≡ n) × (r.session.state ≡ 9) × Rest n p r.session.pending
  pub all : length (pending_bytes b p) ≤ n → (r.session.state ≡ 2) × (r.session.pending ≡ Nothing)

-- "UPLOAD in 5 or 9, wLength over 0, something pending that can be sent: .. Otherwise stall."; r the answer to the setup
pub record ByPending (b : Board) (setup : List ℕ) (r : Result) : Type 0 where
  pub sends : (n : ℕ) → request_of setup ≡ Upload n → In b.session.state (5 ∷ 9 ∷ []) → 0 < n → CanBeSent b.session.pending (level b.config)
      → Sends b n b.session.pending r
  pub elsewhere : (n : ℕ) → request_of setup ≡ Upload n → (In b.session.state (5 ∷ 9 ∷ []) → ⊥) → Stalls b r
  pub no_byte_asked : request_of setup ≡ Upload 0 → Stalls b r
  pub not_sent : (n : ℕ) → request_of setup ≡ Upload n → (CanBeSent b.session.pending (level b.config) → ⊥) → Stalls b r

abbrev pub UploadsByPending : Type 0
UploadsByPending = (b : Board) (setup d : List ℕ) (n : ℕ) → refusal b setup d n ≡ 0 → ByPending b setup (ask b setup d n)
