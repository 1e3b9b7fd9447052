-- The lines of a file and the records among them, of every file and place, in numbers. Proved in proofs/LinesHold.antt.
use Rattle.std.specs.Prelude.{◌↔◌, ◌≡◌, Some, None, true, List, [], ◌∷◌, ℕ, ◌+◌, ◌-◌, ◌≤◌, ◌<◌, length, take}
use Rattle.words.specs.Words.{byte_at}
use Rattle.lines.specs.Text.{ascii}
use Rattle.listing.specs.Line.{line_end, text_end, starts_erased}
use Rattle.listing.specs.Records.{Span, span, most_file, records_from, first_met}

-- the line that begins at a place
pub record LineAt (file : List ℕ) (at : ℕ) : Type 0 where
  -- it ends at its first LF, 0Ah, or else with the file
  pub no_feed_in_it : (i : ℕ) → at ≤ i → i < line_end file at → i < length file → byte_at file i ≡ 0x0A → ⊥
  pub at_its_feed : at ≤ length file → line_end file at < length file → byte_at file (line_end file at) ≡ 0x0A
  pub in_the_file : at ≤ length file → (at ≤ line_end file at) × (line_end file at ≤ length file)
  -- a CR, 0Dh, before the LF is no character of the line; any other CR is
  pub return_cut : at < line_end file at → line_end file at < length file → byte_at file (line_end file at - 1) ≡ 0x0D → text_end file at ≡ line_end file at - 1
  pub no_return : (byte_at file (line_end file at - 1) ≡ 0x0D → ⊥) → text_end file at ≡ line_end file at
  pub no_feed : length file ≤ line_end file at → text_end file at ≡ line_end file at
  pub no_character : line_end file at ≤ at → text_end file at ≡ line_end file at

-- the records from a place on, at which a line begins: that line's characters unless there are none or `#`, 23h, is the first of them; and
-- then those of the lines behind it
pub record RecordsAt (file : List ℕ) (at : ℕ) : Type 0 where
  pub no_line : length file ≤ at → records_from file at ≡ []
  pub record_line : at < length file → at < text_end file at → (byte_at file at ≡ 0x23 → ⊥)
      → records_from file at ≡ span at (text_end file at) ∷ records_from file (line_end file at + 1)
  pub note_line : at < length file → byte_at file at ≡ 0x23 → records_from file at ≡ records_from file (line_end file at + 1)
  pub empty_line : at < length file → text_end file at ≤ at → records_from file at ≡ records_from file (line_end file at + 1)

pub record Lines : Type 0 where
  pub most_bytes : most_file ≡ 1048576
  pub lines : (file : List ℕ) (at : ℕ) → LineAt file at
  pub records : (file : List ℕ) (at : ℕ) → RecordsAt file at
  pub of_span : (start end : ℕ) → ((span start end).start ≡ start) × ((span start end).end ≡ end)
  -- of all that are met the first is told
  pub first_met_lem : (start end : ℕ) (ss : List Span) → first_met (span start end ∷ ss) ≡ Some (span start end)
  pub none_met : first_met [] ≡ None
  -- a file is run on a board after a full chip erase just where the characters of its first line are `#erased`
  pub erased : (file : List ℕ) → (starts_erased file ≡ true) ↔ (take (text_end file 0) file ≡ ascii "#erased")
