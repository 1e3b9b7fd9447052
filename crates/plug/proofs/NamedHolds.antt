-- The sentences of specs/Named.antt hold.
-- Assumes nothing.
use mathlib.Core.Path.{refl}
use lib.ListN.{length}
use borrow.Author.Tests.{eq-eqb, le-ltb, lt-ltb}
use Rattle.words.proofs.WordsLaws.{overlay_front}
use Rattle.plug.specs.Commands.{flash_size}
use Rattle.plug.specs.Step.{perform, answer}
use Rattle.plug.specs.Named.{Named}

pub named : Named
unfolding perform answer
named = record {
  of_config = λ b v s h. refl;
  of_board = λ c f. refl;
  of_next = λ b r. refl;
  of_pages = λ r. refl;
  of_refused = λ c n. refl;
  of_told = λ c t. refl;
  of_did = λ k t c ss. refl;
  of_started = λ k o c. refl;
  flash_size_lem = refl;
  of_answer = λ b cs h. rw (eq-eqb (length b.flash) flash_size h);
  of_reading = λ b f d. (refl, refl, refl, refl);
  of_commands = λ b d. record {
    program = λ a. refl;
    display = λ a e. refl;
    check = λ a e. refl;
    erase_block = λ k. refl;
    erase_chip = refl;
    write = λ s. refl;
    read = λ x. refl;
    start_reset = refl;
    start_at = λ a. refl;
  };
  of_room = λ r room. overlay_front r.text room;
  in_room_lem = λ c n r h. rw (le-ltb n (length r.text) h);
  no_room = λ c n r h. rw (lt-ltb n (length r.text) h);
}
