-- The sentences of specs/Printed.antt and of specs/Line.antt hold; but for the room each is computed.
-- Assumes nothing.
use mathlib.Core.Path.{refl}
use Prim.Native.Nat.{◌+◌}
use lib.ListN.{length}
use borrow.Author.Tests.{le-leb, lt-leb}
use Rattle.words.specs.Words.{laid}
use Rattle.lines.specs.Text.{decimal}
use Rattle.lines.specs.Line.{request_line, job_line, refused_line, records_line, head_line, LinesNamed}
use Rattle.lines.specs.Room.{put}
use Rattle.lines.specs.Printed.{Printed}

pub lines_named : LinesNamed
unfolding request_line job_line refused_line records_line head_line
lines_named = record {
  request = λ number word state status pages reply. refl;
  refused_word = λ k. refl;
  two_digits = λ b bs. refl;
  reply = λ b bs. refl;
  no_reply = refl;
  job = λ n. refl;
  refused = λ k p. refl;
  records = λ n. refl;
  head = λ number word pages. refl;
}

pub printed : Printed
unfolding decimal request_line job_line refused_line records_line head_line put laid
printed = record {
  characters = refl;
  done = refl;
  stall = refl;
  start = refl;
  answered = refl;
  reset = refl;
  ref_7 = refl;
  ref_17 = refl;
  number_0 = refl;
  number_9 = refl;
  number_1030 = refl;
  number_64_bits = refl;
  hex = refl;
  done_line = refl;
  stall_line = refl;
  start_line = refl;
  ref_line = refl;
  pages_line = refl;
  job = refl;
  refused = refl;
  records = refl;
  head = refl;
  room_enough = λ at text room h. rw (le-leb (at + length text) (length room) h);
  room_laid = refl;
  room_short = λ at text room h. rw (lt-leb (at + length text) (length room) h);
  room_short_number = refl;
  room_kept = refl;
}
