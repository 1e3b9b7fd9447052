-- The sentences of specs/FrameBytes.antt hold.
-- Assumes nothing.
use mathlib.Core.Path.{◌≡◌, refl, ap}
use Prim.Native.Nat.{◌+◌, ◌*◌, ◌%◌}
use native.Mathlib.Omega.{arith}
use borrow.Author.Tests.{eq-eqb, eqb-true}
use Rattle.words.specs.Words.{byte_at, high_first}
use Rattle.record.specs.Digits.{digit_value}
use Rattle.record.specs.Record.{sum, record_of, bytes_of}
use Rattle.record.specs.Reader.{reading}
use Rattle.record.specs.RoundTrip.{fields}
use Rattle.record.specs.FrameBytes.{FrameBytes}

pub frame_bytes : FrameBytes
unfolding record_of reading
frame_bytes = record {
  behind_the_mark = λ mark cs. refl;
  pair = λ h l cs. let e : digit_value h * 16 + digit_value l ≡ 16 * digit_value h + digit_value l = omega arith in rw e;
  no_pair = refl;
  no_sum = refl;
  sum_of_each = λ b bs. refl;
  to_zero = λ bs. omega arith;
  one_byte = λ bs. omega arith;
  written = λ offset kind d. refl;
  fields_read = λ cs.
      let e : high_first (bytes_of cs) 1 ≡ 256 * byte_at (bytes_of cs) 1 + byte_at (bytes_of cs) 2 = omega arith in
      ap (λ offset. fields offset (byte_at (bytes_of cs) 3) (byte_at (bytes_of cs) 0)) e;
  length_read = λ cs. refl;
  data_read_lem = λ cs n. refl;
  right_sum = λ cs. (eqb-true (sum (bytes_of cs) % 256) 0, eq-eqb (sum (bytes_of cs) % 256) 0);
  taken = λ cs w s. rw (w, s);
}
