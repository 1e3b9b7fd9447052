-- The examples of specs/Written.antt, computed from the definitions.
-- Assumes nothing.
use mathlib.Core.Path.{refl, ap}
use mathlib.Core.List.{◌++◌}
use borrow.Author.Tests.{lt-ltb, le-ltb}
use lib.ListN.{length}
use Rattle.lines.specs.Text.{ascii, decimal}
use Rattle.lines.specs.Line.{head_line, records_line, refused_line}
use Rattle.listing.specs.Line.{index_of, without_return, starts_erased}
use Rattle.listing.specs.Records.{most_file, records_in, records_from, records_of}
use Rattle.memory.specs.Pages.{page_store, program_stores}
use Rattle.memory.specs.Program.{bytes_stores}
use Rattle.record.specs.Digits.{digit_value}
use Rattle.record.specs.Reader.{reading}
use Rattle.plug.specs.Commands.{form}
use Rattle.plug.specs.Answers.{display_text}
use Rattle.plug.specs.Step.{perform, obey, answer, blank_flash}
use Rattle.plug.proofs.SaidHolds.{address_digits}
use Rattle.plugrun.specs.Written.{start_config, record_texts, first_text, pieces, written, WordsNamed, Parts}
use Rattle.plugrun.specs.Turn.{StartPlaces}
use Rattle.plugrun.specs.Written.{Delivered, Erased, CarriedOn, EmptyFile, TooLong}

pub parts : Parts
unfolding start_config record_texts first_text pieces written head_line records_line
parts = record {
  text = λ number r. refl;
  answered = λ t. refl;
  reset = λ t. refl;
  refused = λ n t. refl;
  started = λ t a b c d p q r s. ap (λ ds. ds ++ ascii "\n") (address_digits a b c d p q r s);
  erased_board = λ file q. rw q;
  other_board = λ file q. rw q;
  goes_on = λ file b number s ss. refl;
  asks = λ file s b. refl;
  all = λ file. refl;
  in_a_row_lem = λ file. refl;
  piece_and_rest = λ x xs. refl;
  no_piece = refl;
  no_record = λ file b number. refl;
  first = λ file h. rw (le-ltb most_file (length file) h);
}

pub start_places : StartPlaces
start_places = record {
  at_its_end = λ file h. rw (lt-ltb most_file (length file) h);
  at_its_beginning = λ file h. rw (le-ltb most_file (length file) h);
  with_its_board = λ file. refl;
}

pub words_named : WordsNamed
words_named = record { answered = refl; reset = refl; started = λ a. refl; refused = λ n. refl }

pub delivered : Delivered
unfolding written pieces first_text record_texts start_config records_of records_from records_in index_of without_return starts_erased decimal head_line
    records_line answer reading digit_value form obey perform blank_flash
delivered = refl

pub erased : Erased
unfolding written pieces first_text record_texts start_config records_of records_from records_in index_of without_return starts_erased decimal head_line
    records_line answer reading digit_value form obey perform blank_flash
erased = refl

pub carried_on : CarriedOn
unfolding written pieces first_text record_texts start_config records_of records_from records_in index_of without_return starts_erased decimal head_line
    records_line answer reading digit_value form obey perform bytes_stores page_store program_stores display_text blank_flash
carried_on = refl

pub empty_file : EmptyFile
unfolding written pieces first_text record_texts records_of records_from records_in decimal records_line
empty_file = refl

pub too_long : TooLong
unfolding written pieces first_text record_texts records_of refused_line decimal
too_long file h = rw (lt-ltb most_file (length file) h)
