-- Numbers among others, numbers of two bytes, and how many bytes a range has, as specs/Words.antt says.
-- Assumes nothing.
use mathlib.Core.Path.{refl}
use native.Mathlib.Omega.{arith}
use borrow.Author.Tests.{eq-eqb, ne_eqb}
use Rattle.words.specs.Words.{AmongThese, WordsRead}

pub words_read : WordsRead
words_read = record {
  first_byte = λ x d. refl;
  further_byte = λ x i d. refl;
  no_byte = λ i. refl;
  bytes_between = λ a e m. refl;
  high_byte_first = λ x y d. refl;
  high_further = λ x i d. refl;
  high_last = λ x i. (omega arith, omega arith);
  low_last = λ x i. (omega arith, omega arith);
  low_byte_first = λ x y d. refl;
  low_further = λ x i d. refl;
  one_byte = λ a. omega arith;
  one_more = λ a e h. omega arith;
  backward = λ a e h. omega arith;
}

pub among_these : AmongThese
among_these = record { of_none = λ n. refl; first = λ n ms. rw (eq-eqb n n refl); others = λ n m ms h. rw (ne_eqb n m h) }
