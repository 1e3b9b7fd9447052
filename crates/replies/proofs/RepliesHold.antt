-- The sentences of specs/Replies.antt hold.
-- Assumes nothing.
use mathlib.Core.Path.{refl}
use lib.ListN.{length}
use borrow.Author.Tests.{eq-eqb, ne_eqb, le-leb, lt-leb, le-ltb, lt-ltb}
use Rattle.plug.specs.Commands.{flash_size}
use Rattle.replies.specs.Replies.{displayed, RepliesTold}

pub replies_told : RepliesTold
unfolding displayed
replies_told = record {
  quiet = λ c o. refl;
  done = λ room c n h. rw (le-leb 3 (length room) h);
  no_room = λ room c n h. rw (lt-leb 3 (length room) h);
  shown = λ c a e f s h. rw (eq-eqb (length f) flash_size s, le-ltb e a h);
  backward = λ c a e f s h. rw (eq-eqb (length f) flash_size s, lt-ltb e a h);
  other_flash = λ c a e f s. rw (ne_eqb (length f) flash_size s);
}
