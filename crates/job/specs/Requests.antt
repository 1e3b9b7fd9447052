-- The requests of a job. Assumes nothing: these are definitions.
use Rattle.std.specs.Prelude.{if◌then◌else◌, List, [], ◌∷◌, ◌++◌, ◌≡◌, ℕ, zero, suc, ◌+◌, ◌≤◌, ltb, length, take, drop}
use Rattle.job.specs.Field.{tag_at, length_at, value_at, end_at, setup_size, by_tag, beyond}
use Rattle.job.specs.Verdict.{most_file}
pub use Rattle.job.specs.declared.walk.Span.{Span}

-- where a request's value lies in the file
abbrev pub span : ℕ → ℕ → Span
span start size = record { start = start; size = size }

-- the requests that the field at a place holds: a request itself, a group those inside it, any other field none
abbrev pub held : List Span → List ℕ → ℕ → List Span
held inside file at = by_tag (tag_at file at) (span (value_at at) (length_at file at) ∷ []) inside []

-- the requests of the fields from a place up to `end`, in file order, through all groups; a field that goes beyond ends them. The
-- first number bounds the calls inside each other, as in fields_verdict
unfoldable pub requests_in : ℕ → List ℕ → ℕ → ℕ → List Span
requests_in zero file at end = []
requests_in (suc n) file at end =
    let inside = requests_in n file (value_at at) (end_at file at) in
    let rest = requests_in n file (end_at file at) end in
    let fields = held inside file at ++ rest in
    if beyond file at end then [] else fields

-- the requests of a file; "16 file too long, first of all": a file that is too long holds none
unfoldable pub requests_of : List ℕ → List Span
requests_of file = if ltb most_file (length file) then [] else requests_in (length file) file 0 (length file)

-- "how many requests a job holds, through all its groups"
abbrev pub request_count : List ℕ → ℕ
request_count file = length (requests_of file)

-- "a request, 8 setup bytes then data"
abbrev pub span_bytes : List ℕ → Span → List ℕ
span_bytes file s = take s.size (drop s.start file)

abbrev pub setup_of : List ℕ → Span → List ℕ
setup_of file s = take setup_size (span_bytes file s)

abbrev pub data_of : List ℕ → Span → List ℕ
data_of file s = drop setup_size (span_bytes file s)

-- the same by the tag's number, and of every file: a request's value stands behind its tag and its length, which are three bytes
pub record RequestsHeld : Type 0 where
  pub request : (inside : List Span) (file : List ℕ) (at : ℕ) → tag_at file at ≡ 0x01 → held inside file at ≡ span (at + 3) (length_at file at) ∷ []
  pub group : (inside : List Span) (file : List ℕ) (at : ℕ) → tag_at file at ≡ 0x02 → held inside file at ≡ inside
  pub note : (inside : List Span) (file : List ℕ) (at : ℕ) → tag_at file at ≡ 0x03 → held inside file at ≡ []
  pub counted : (file : List ℕ) → request_count file ≡ length (requests_of file)
  pub setup : (file : List ℕ) (start size : ℕ) → setup_of file (span start size) ≡ take 8 (take size (drop start file))
  pub rest : (file : List ℕ) (start size : ℕ) → data_of file (span start size) ≡ drop 8 (take size (drop start file))

-- "14 a request under 8 bytes": each of these has its setup
abbrev pub HaveSetups : List Span → Type 0
HaveSetups [] = Unit {0}
HaveSetups (s ∷ ss) = (setup_size ≤ s.size) × HaveSetups ss
