-- The paper's "fields of one-byte tag, two-byte length (high first), value". A place is an offset from the start of the file.
-- Assumes nothing: these are definitions.
use Rattle.std.specs.Prelude.{if◌then◌else◌, Bool, not, ◌&&◌, ◌||◌, List, [], ◌∷◌, ℕ, ◌+◌, eqb, leb, ltb, Result, Ok, Err}
use Rattle.words.specs.Words.{among, byte_at, high_first}
pub use Rattle.job.specs.declared.refusal.Cause.{Cause}
pub use Rattle.job.specs.declared.refusal.Cause.TheVariants.{Beyond, Unlisted, TooDeep, ShortRequest, LongNote, TooLong}

-- "one-byte tag, two-byte length (high first)": the three bytes before a value
abbrev pub head_size : ℕ
head_size = 3

-- of the field whose tag stands at a place: its tag, its length, and where its value begins and ends
abbrev pub tag_at : List ℕ → ℕ → ℕ
tag_at file at = byte_at file at

abbrev pub length_at : List ℕ → ℕ → ℕ
length_at file at = high_first file (at + 1)

abbrev pub value_at : ℕ → ℕ
value_at at = at + head_size

abbrev pub end_at : List ℕ → ℕ → ℕ
end_at file at = value_at at + length_at file at

-- "01h: a request", "02h: a group of fields", "03h: a note"
abbrev pub request_tag : ℕ
request_tag = 0x01

abbrev pub group_tag : ℕ
group_tag = 0x02

abbrev pub note_tag : ℕ
note_tag = 0x03

-- what a tag chooses: the first for a request, the second for a group, the third for any other field
abbrev pub by_tag : {A : Type 0} → ℕ → A → A → A → A
by_tag tag request group other = if eqb tag request_tag then request else if eqb tag group_tag then group else other

-- "8 setup bytes then data", "a note of up to 64 bytes", "four deep at most"
abbrev pub setup_size : ℕ
setup_size = 8

abbrev pub most_note : ℕ
most_note = 64

abbrev pub most_depth : ℕ
most_depth = 4

-- "fewer than three bytes left or a value beyond what encloses it", of a field in what ends at `end`
abbrev pub beyond : List ℕ → ℕ → ℕ → Bool
beyond file at end = ltb end (value_at at) || ltb end (end_at file at)

-- the number that the paper gives each cause
abbrev pub cause_number : Cause → ℕ
cause_number Beyond = 11
cause_number Unlisted = 12
cause_number TooDeep = 13
cause_number ShortRequest = 14
cause_number LongNote = 15
cause_number TooLong = 16

-- what the tag refuses of a value of a size, inside `depth` groups: "causes tried as numbered"
unfoldable pub tag_refusal : ℕ → ℕ → ℕ → Result (Unit {0}) Cause
tag_refusal tag size depth =
    if not (among tag (request_tag ∷ group_tag ∷ note_tag ∷ [])) then Err Unlisted else
    if eqb tag group_tag && leb most_depth depth then Err TooDeep else
    if eqb tag request_tag && ltb size setup_size then Err ShortRequest else
    if eqb tag note_tag && ltb most_note size then Err LongNote else Ok tt

-- what is refused of a field itself, and not of one that it holds
abbrev pub field_refusal : List ℕ → ℕ → ℕ → ℕ → Result (Unit {0}) Cause
field_refusal file at end depth =
    if beyond file at end then Err Beyond else tag_refusal (tag_at file at) (length_at file at) depth

-- the number of the cause, and 0 where nothing is refused
abbrev pub refusal_number : Result (Unit {0}) Cause → ℕ
refusal_number (Ok u) = 0
refusal_number (Err c) = cause_number c
