-- The records of a file. Assumes nothing: these are definitions and a statement.
use Rattle.std.specs.Prelude.{if◌then◌else◌, ◌≡◌, Option, None, Some, List, [], ◌∷◌, ℕ, zero, suc, leb, ltb, length}
use Rattle.listing.specs.Line.{line_end, text_end, is_record}
pub use Rattle.listing.specs.declared.walk.Span.{Span}

-- where a record's characters lie in the file: the place of the first, and the place after the last
abbrev pub span : ℕ → ℕ → Span
span start end = record { start = start; end = end }

-- the records of the lines from a place on, at which a line begins; the first number bounds the lines
unfoldable pub records_in : ℕ → List ℕ → ℕ → List Span
records_in zero file at = []
records_in (suc n) file at =
    let rest = records_in n file (suc (line_end file at)) in
    let lines = if is_record file at (text_end file at) then span at (text_end file at) ∷ rest else rest in
    if leb (length file) at then [] else lines

-- the same with a bound that is large enough
unfoldable pub records_from : List ℕ → ℕ → List Span
records_from file at = records_in (length file) file at

-- the most bytes of a file; one that is longer is refused with 16 before anything is run, and holds no records
abbrev pub most_file : ℕ
most_file = 1048576

unfoldable pub records_of : List ℕ → List Span
records_of file = if ltb most_file (length file) then [] else records_from file 0

abbrev pub record_count : List ℕ → ℕ
record_count file = length (records_of file)

-- the first of some records, if there is one
abbrev pub first_met : List Span → Option Span
first_met [] = None
first_met (s ∷ ss) = Some s

-- the records that a walk meets that looks for each from the end of the one before on; the first number bounds them
abbrev pub walked_on : (ℕ → List Span) → Option Span → List Span
walked_on next None = []
walked_on next (Some s) = s ∷ next s.end

unfoldable pub walked : ℕ → List ℕ → ℕ → List Span
walked zero file at = []
walked (suc n) file at = walked_on (walked n file) (first_met (records_from file at))

-- THE STATEMENT: from the start of a file the walk meets exactly the file's records, in file order
abbrev pub InOrder : Type 0
InOrder = (file : List ℕ) → walked (length file) file 0 ≡ records_from file 0
