-- "At the first bad field in file order" and "through all its groups", of every place at every depth, in numbers. Proved in
-- proofs/InFileOrderHolds.antt.
use Rattle.std.specs.Prelude.{◌≡◌, List, [], ◌∷◌, ◌++◌, ℕ, suc, ◌+◌, ◌≤◌, ◌<◌, length, Some, None, Ok, Err}
use Rattle.words.specs.Words.{byte_at, high_first}
use Rattle.job.specs.Field.{Cause, field_refusal}
use Rattle.job.specs.Verdict.{Refusal, accepted, refused, fields_verdict, most_file, verdict}
use Rattle.job.specs.Requests.{Span, span, requests_in, requests_of}
use Rattle.job.specs.Walk.{walk, first_met}
use Rattle.job.specs.Causes.{Whole}

-- where the value of the field at a place ends: behind "one-byte tag, two-byte length (high first)" and as many bytes as its length says
abbrev pub field_end : List ℕ → ℕ → ℕ
field_end file at = at + 3 + high_first file (at + 1)

-- the verdict on the fields from a place up to `end`, which `depth` groups enclose
pub record VerdictInOrder (n : ℕ) (file : List ℕ) (at end depth : ℕ) : Type 0 where
  pub no_field : end ≤ at → fields_verdict n file at end depth ≡ accepted
  -- the first field is bad: its own refusal, at its tag
  pub bad : (c : Cause) → at < end → field_refusal file at end depth ≡ Err c → fields_verdict (suc n) file at end depth ≡ refused c at
  -- it is a group: what it holds is enclosed by one group more, and comes before what stands behind it
  pub bad_in_group : (r : Refusal) → at < end → field_refusal file at end depth ≡ Ok tt → byte_at file at ≡ 0x02
      → fields_verdict n file (at + 3) (field_end file at) (depth + 1) ≡ Err r → fields_verdict (suc n) file at end depth ≡ Err r
  pub behind_group : at < end → field_refusal file at end depth ≡ Ok tt → byte_at file at ≡ 0x02
      → fields_verdict n file (at + 3) (field_end file at) (depth + 1) ≡ accepted
      → fields_verdict (suc n) file at end depth ≡ fields_verdict n file (field_end file at) end depth
  -- it is a request or a note
  pub behind_other : at < end → field_refusal file at end depth ≡ Ok tt → (byte_at file at ≡ 0x02 → ⊥)
      → fields_verdict (suc n) file at end depth ≡ fields_verdict n file (field_end file at) end depth

-- the requests of the fields from a place up to `end`
pub record RequestsInOrder (n : ℕ) (file : List ℕ) (at end : ℕ) : Type 0 where
  pub no_field : end ≤ at → requests_in n file at end ≡ []
  -- what goes beyond its end, or is cut short, ends them
  pub cut_short : (Whole file at end → ⊥) → requests_in n file at end ≡ []
  pub request : Whole file at end → byte_at file at ≡ 0x01
      → requests_in (suc n) file at end ≡ span (at + 3) (high_first file (at + 1)) ∷ requests_in n file (field_end file at) end
  pub group : Whole file at end → byte_at file at ≡ 0x02
      → requests_in (suc n) file at end ≡ requests_in n file (at + 3) (field_end file at) ++ requests_in n file (field_end file at) end
  pub other : Whole file at end → (byte_at file at ≡ 0x01 → ⊥) → (byte_at file at ≡ 0x02 → ⊥)
      → requests_in (suc n) file at end ≡ requests_in n file (field_end file at) end

-- what the walk meets from a place on, whether the job is accepted or not: it steps into a group and over any other field
pub record WalkInOrder (file : List ℕ) (at : ℕ) : Type 0 where
  pub cut_short : (Whole file at (length file) → ⊥) → walk file at ≡ []
  pub request : Whole file at (length file) → byte_at file at ≡ 0x01 → walk file at ≡ span (at + 3) (high_first file (at + 1)) ∷ walk file (field_end file at)
  pub group : Whole file at (length file) → byte_at file at ≡ 0x02 → walk file at ≡ walk file (at + 3)
  pub other : Whole file at (length file) → (byte_at file at ≡ 0x01 → ⊥) → (byte_at file at ≡ 0x02 → ⊥) → walk file at ≡ walk file (field_end file at)

-- a file is the fields from its beginning to its end, which no group encloses. A field has three bytes or more, so that its length bounds
-- the calls
pub record InFileOrder : Type 0 where
  -- "At most 16,384 bytes"
  pub most_bytes : most_file ≡ 16384
  pub whole_file : (file : List ℕ) → length file ≤ 16384 → verdict file ≡ fields_verdict (length file) file 0 (length file) 0
  pub all_requests : (file : List ℕ) → length file ≤ 16384 → requests_of file ≡ requests_in (length file) file 0 (length file)
  pub verdicts : (n : ℕ) (file : List ℕ) (at end depth : ℕ) → VerdictInOrder n file at end depth
  pub requests : (n : ℕ) (file : List ℕ) (at end : ℕ) → RequestsInOrder n file at end
  pub walks : (file : List ℕ) (at : ℕ) → WalkInOrder file at
  pub of_span : (start size : ℕ) → ((span start size).start ≡ start) × ((span start size).size ≡ size)
  -- of all that is met the first is told
  pub first_met_lem : (start size : ℕ) (ss : List Span) → first_met (span start size ∷ ss) ≡ Some (span start size)
  pub none_met : first_met [] ≡ None
