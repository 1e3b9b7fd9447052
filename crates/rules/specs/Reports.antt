-- What is told of a result, field by field, beside the definitions: the answer, the reply buffer, the board after it, the contracts, the report, the
-- numbers of the outcomes, and the delivered board. Proved in proofs/ReportsHold.antt.
use Rattle.std.specs.Prelude.{◌≡◌, List, [], ◌∷◌, ℕ, ◌≤◌, ◌<◌, length, get_or}
use Rattle.memory.specs.Pages.{store_all}
use Rattle.memory.specs.declared.address.FlashAddress.{FlashAddress}
use Rattle.rules.specs.Session.{Session, session, Reset, AtAddress, Nothing}
use Rattle.rules.specs.Result.{Board, Result, Answer, patch_all, answer, next, reply_after, outcome_number, outcome_value, Done, Stall, Started, Refused}
use Rattle.rules.specs.Step.{Event, step, after, Report, reports, delivered_board}
use Rattle.rules.specs.Answered.{Answered, Replied, Stepped, Handled}

pub record AnswerTold (r : Result) : Type 0 where
  pub outcome : (answer r).outcome ≡ r.outcome
  pub session : (answer r).session ≡ r.session
  pub config : (answer r).config ≡ r.config
  -- how many bytes are sent, and "a page count .. It equals the pages that the definition stores"
  pub sent_count : (answer r).length ≡ length r.sent
  pub page_count_lem : (answer r).pages ≡ length r.stored
  -- session and configuration of the board after it are the answer's
  pub session_next : (b : Board) → (next b r).session ≡ r.session
  pub config_next : (b : Board) → (next b r).config ≡ r.config
  -- its memories are those before it after all stores, and after all bytes of the EEPROM
  pub flash_next : (b : Board) → (next b r).flash ≡ store_all r.stored b.flash
  pub eeprom_next : (b : Board) → (next b r).eeprom ≡ patch_all r.patched b.eeprom
  -- the bytes sent stand first; "In every answer, reply bytes past those sent stay."
  pub reply_size_lem : (reply : List ℕ) → length r.sent ≤ length reply → length (reply_after r reply) ≡ length reply
  pub sent_first : (reply : List ℕ) (i : ℕ) → i < length r.sent → get_or (reply_after r reply) i 0 ≡ get_or r.sent i 0
  pub rest_stays : (reply : List ℕ) (i : ℕ) → length r.sent ≤ i → get_or (reply_after r reply) i 0 ≡ get_or reply i 0

-- a contract that cites one of these says the answer, each lent memory, the reply and the lent session, each by the result
pub record ContractsSay (b : Board) (r : Result) (a : Answer) (s : Session) (f e p p₀ : List ℕ) : Type 0 where
  pub answered : Answered b r a f e → (a ≡ answer r) × (f ≡ (next b r).flash) × (e ≡ (next b r).eeprom)
  pub replied : Replied r a p p₀ → (a ≡ answer r) × (p ≡ reply_after r p₀)
  pub stepped : Stepped b r a f e p p₀ → (a ≡ answer r) × (f ≡ (next b r).flash) × (e ≡ (next b r).eeprom) × (p ≡ reply_after r p₀)
  pub handled : Handled b r a s f e p p₀ → Stepped b r a f e p p₀ × (s ≡ r.session)

abbrev pub ContractsSaid : Type 0
ContractsSaid = (b : Board) (r : Result) (a : Answer) (s : Session) (f e p p₀ : List ℕ) → ContractsSay b r a s f e p p₀

-- demand 3 speaks of reports: each event of a run has one, with all that its answer tells; and the run goes on from the board that it leaves
pub record RunReported : Type 0 where
  pub in_turn : (b : Board) (v : Event) (vs : List Event) → let r : Result = step b v in
      let told : Report = record { outcome = r.outcome; sent = r.sent; session = r.session; config = r.config; pages = length r.stored } in
      (reports b (v ∷ vs) ≡ told ∷ reports (next b r) vs) × (after b (v ∷ vs) ≡ after (next b r) vs)
  pub none : (b : Board) → (reports b [] ≡ []) × (after b [] ≡ b)

-- no two outcomes have one number and one value
pub record OutcomesNumbered : Type 0 where
  pub done : outcome_number Done ≡ 0
  pub stall : outcome_number Stall ≡ 1
  pub reset : (a : FlashAddress) → (outcome_number (Started Reset a) ≡ 2) × (outcome_value (Started Reset a) ≡ a.0)
  pub at_address : (a : FlashAddress) → (outcome_number (Started AtAddress a) ≡ 3) × (outcome_value (Started AtAddress a) ≡ a.0)
  pub refused : (k : ℕ) → (outcome_number (Refused k) ≡ 4) × (outcome_value (Refused k) ≡ k)

-- "a delivered board, all memory FFh", after power-up; "BSB FFh, SBV FCh, P1_CF FEh, P3_CF FFh, P4_CF FFh, SSB FFh, EB FFh .., and HSB BBh"
pub record Delivered (b : Board) : Type 0 where
  pub session : b.session ≡ session 2 0x00 Nothing 0
  pub config : b.config ≡ record { bsb = 0xFF; sbv = 0xFC; p1cf = 0xFE; p3cf = 0xFF; p4cf = 0xFF; ssb = 0xFF; eb = 0xFF; hsb = 0xBB }
  pub flash_size_lem : length b.flash ≡ 32768
  pub flash_blank : (i : ℕ) → i < 32768 → get_or b.flash i 0 ≡ 0xFF
  pub eeprom_size_lem : length b.eeprom ≡ 1024
  pub eeprom_blank : (i : ℕ) → i < 1024 → get_or b.eeprom i 0 ≡ 0xFF

abbrev pub AnswersTold : Type 0
AnswersTold = (r : Result) → AnswerTold r

abbrev pub DeliveredBlank : Type 0
DeliveredBlank = Delivered delivered_board
