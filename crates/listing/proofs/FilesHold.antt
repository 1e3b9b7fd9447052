-- The files of specs/Files.antt; but for the longest each is computed.
-- Assumes nothing.
use mathlib.Core.Path.{refl}
use lib.ListN.{length}
use mathlib.Core.Bool.{and-false}
use lib.Dec.{ltb}
use borrow.Author.Tests.{eq-eqb, ne_eqb, lt-ltb, le-ltb}
use Rattle.words.specs.Words.{byte_at}
use Rattle.listing.specs.Line.{index_of, without_return, starts_erased}
use Rattle.listing.specs.Records.{records_in, records_from, records_of, most_file}
use Rattle.listing.specs.Files.{Files}

pub files : Files
unfolding index_of without_return starts_erased records_in records_from records_of
files = record {
  two_records = refl;
  met_first = refl;
  met_second = refl;
  met_no_more = refl;
  any_characters = refl;
  return_alone = refl;
  record_line = λ file at end h n. rw (lt-ltb at end h, ne_eqb (byte_at file at) 0x23 n);
  note_line = λ file at end q. rw (eq-eqb (byte_at file at) 0x23 q) (and-false (ltb at end));
  empty_line = λ file at end h. rw (le-ltb at end h);
  erased = refl;
  erased_with_return = refl;
  erased_alone = refl;
  erased_in_capitals = refl;
  erased_and_more = refl;
  erased_later = refl;
  not_erased = refl;
  return_and_feed = refl;
  mark_alone = refl;
  counted = λ file. refl;
  not_too_long = λ file h. rw (le-ltb most_file (length file) h);
  too_long = λ file h. rw (lt-ltb most_file (length file) h);
}
