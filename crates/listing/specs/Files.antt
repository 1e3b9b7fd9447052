-- Files of records, character by character, each with the records that it holds. Proved in proofs/FilesHold.antt.
use Rattle.std.specs.Prelude.{◌≡◌, Some, None, true, false, List, [], ◌∷◌, ◌++◌, ℕ, ◌≤◌, ◌<◌, length}
use Rattle.lines.specs.Text.{ascii}
use Rattle.words.specs.Words.{byte_at}
use Rattle.listing.specs.Line.{is_record, starts_erased}
use Rattle.listing.specs.Records.{span, records_from, records_of, record_count, first_met}

-- the mark and its line end; a record whose line ends with CR LF; an empty line; a note; a record that ends with the file
abbrev pub some_file : List ℕ
some_file = ascii "#erased\n" ++ ascii ":AA" ++ (0x0D ∷ 0x0A ∷ []) ++ ascii "\n" ++ ascii "# X\n" ++ ascii ":BBB"

pub record Files : Type 0 where
  -- where its two records begin, and the place after each
  pub two_records : records_of some_file ≡ span 8 11 ∷ span 18 22 ∷ []
  pub met_first : first_met (records_from some_file 0) ≡ Some (span 8 11)
  pub met_second : first_met (records_from some_file 11) ≡ Some (span 18 22)
  pub met_no_more : first_met (records_from some_file 22) ≡ None
  -- whatever its characters are, a line is a record; a CR that no LF follows is of the record
  pub any_characters : records_of (ascii "x y\n") ≡ span 0 3 ∷ []
  pub return_alone : records_of (ascii ":A" ++ (0x0D ∷ [])) ≡ span 0 3 ∷ []
  -- of every file: a line that is not empty is a record unless it begins with `#`, 23h
  pub record_line : (file : List ℕ) (at end : ℕ) → at < end → (byte_at file at ≡ 0x23 → ⊥) → is_record file at end ≡ true
  pub note_line : (file : List ℕ) (at end : ℕ) → byte_at file at ≡ 0x23 → is_record file at end ≡ false
  pub empty_line : (file : List ℕ) (at end : ℕ) → end ≤ at → is_record file at end ≡ false
  -- the mark is the whole first line, with or without CR, and nothing else is
  pub erased : starts_erased some_file ≡ true
  pub erased_with_return : starts_erased (ascii "#erased" ++ (0x0D ∷ 0x0A ∷ [])) ≡ true
  pub erased_alone : starts_erased (ascii "#erased") ≡ true
  pub erased_in_capitals : starts_erased (ascii "#ERASED\n") ≡ false
  pub erased_and_more : starts_erased (ascii "#erased \n") ≡ false
  pub erased_later : starts_erased (ascii "\n#erased\n") ≡ false
  pub not_erased : starts_erased [] ≡ false
  -- a line that is empty but for CR LF, and a note of its mark alone, are none
  pub return_and_feed : records_of (0x0D ∷ 0x0A ∷ ascii ":A\n") ≡ span 2 4 ∷ []
  pub mark_alone : records_of (ascii "#\n:A\n") ≡ span 2 4 ∷ []
  pub counted : (file : List ℕ) → record_count file ≡ length (records_of file)
  -- a file of more than 1,048,576 bytes holds none, and one of as many those from its beginning on
  pub not_too_long : (file : List ℕ) → length file ≤ 1048576 → records_of file ≡ records_from file 0
  pub too_long : (file : List ℕ) → 1048576 < length file → records_of file ≡ []
