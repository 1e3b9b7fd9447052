-- 01's causes 11 to 16, a sentence each, in numbers. Proved in proofs/CausesHold.antt.
use Rattle.std.specs.Prelude.{◌≡◌, List, [], ℕ, ◌+◌, ◌≤◌, ◌<◌, length, Some, None}
use Rattle.words.specs.Words.{byte_at, high_first}
use Rattle.job.specs.Field.{Cause, Beyond, Unlisted, TooDeep, ShortRequest, LongNote, TooLong, cause_number, field_refusal, refusal_number}
use Rattle.job.specs.Verdict.{verdict, accepted, refused, IsRefused, verdict_number, verdict_place}
use Rattle.job.specs.Requests.{span, requests_of}
use Rattle.job.specs.Walk.{met_tag, met_start, met_size}

-- a field at a place in what ends at `end`: three bytes or more are left, and its value ends there or before
pub record Whole (file : List ℕ) (at end : ℕ) : Type 0 where
  pub head : at + 3 ≤ end
  pub value : at + 3 + high_first file (at + 1) ≤ end

-- the number of what is refused of a field itself
abbrev pub field_number : List ℕ → ℕ → ℕ → ℕ → ℕ
field_number file at end depth = refusal_number (field_refusal file at end depth)

-- of a field that `depth` groups enclose; 0 where there is no cause
pub record FieldCauses (file : List ℕ) (at end depth : ℕ) : Type 0 where
  -- "11 fewer than three bytes left or a value beyond what encloses it"
  pub eleven : (Whole file at end → ⊥) → field_number file at end depth ≡ 11
  -- "12 unknown tag"
  pub twelve : Whole file at end → (byte_at file at ≡ 0x01 → ⊥) → (byte_at file at ≡ 0x02 → ⊥) → (byte_at file at ≡ 0x03 → ⊥)
      → field_number file at end depth ≡ 12
  -- "13 a group inside four others"
  pub thirteen : Whole file at end → byte_at file at ≡ 0x02 → 4 ≤ depth → field_number file at end depth ≡ 13
  pub group : Whole file at end → byte_at file at ≡ 0x02 → depth < 4 → field_number file at end depth ≡ 0
  -- "14 a request under 8 bytes"
  pub fourteen : Whole file at end → byte_at file at ≡ 0x01 → high_first file (at + 1) < 8 → field_number file at end depth ≡ 14
  pub request : Whole file at end → byte_at file at ≡ 0x01 → 8 ≤ high_first file (at + 1) → field_number file at end depth ≡ 0
  -- "15 a note over 64"
  pub fifteen : Whole file at end → byte_at file at ≡ 0x03 → 64 < high_first file (at + 1) → field_number file at end depth ≡ 15
  pub note : Whole file at end → byte_at file at ≡ 0x03 → high_first file (at + 1) ≤ 64 → field_number file at end depth ≡ 0

pub record Causes : Type 0 where
  pub field : (file : List ℕ) (at end depth : ℕ) → FieldCauses file at end depth
  -- "16 file too long, first of all", "P the tag's offset (0 for 16)"; such a file holds no requests
  pub sixteen : (file : List ℕ) → 16384 < length file → IsRefused (verdict file) 16 0
  pub none_held : (file : List ℕ) → 16384 < length file → requests_of file ≡ []
  -- the number of a verdict, 0 where the job is accepted, and its place
  pub accepted_0 : (verdict_number accepted ≡ 0) × (verdict_place accepted ≡ 0)
  pub refused_k : (c : Cause) (p : ℕ) → (verdict_number (refused c p) ≡ cause_number c) × (verdict_place (refused c p) ≡ p)
  pub numbers : (cause_number Beyond ≡ 11) × (cause_number Unlisted ≡ 12) × (cause_number TooDeep ≡ 13)
      × (cause_number ShortRequest ≡ 14) × (cause_number LongNote ≡ 15) × (cause_number TooLong ≡ 16)
  -- "01h: a request", with where its value begins and how long it is; and that there is no more
  pub request_met : (start size : ℕ) → let m = Some (span start size) in (met_tag m ≡ 0x01) × (met_start m ≡ start) × (met_size m ≡ size)
  pub none_met : (met_tag None ≡ 0) × (met_start None ≡ 0) × (met_size None ≡ 0)
