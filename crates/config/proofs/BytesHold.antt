-- The sentences of specs/Bytes.antt hold; but for the indexes that no byte has and for HSB each is computed.
-- Assumes nothing.
use mathlib.Core.Path.{◌≡◌, refl, ap}
use mathlib.Core.Bool.{or-true}
use Prim.Native.Nat.{ℕ, ◌<◌}
use native.Mathlib.Omega.{arith}
use lib.Dec.{leb}
use borrow.Author.Tests.{ne_eqb, le-leb, lt-leb}
use Rattle.config.specs.Config.{Config, last_index, byte_read, with_byte}
use Rattle.config.specs.Bytes.{config, Bytes}

-- past the last index no byte is written
past_last : (i x : ℕ) (c : Config) → 0x06 < i → with_byte i x c ≡ c
past_last i x c h = rw (
  ne_eqb i 0x00 (λ z. omega arith),
  ne_eqb i 0x01 (λ z. omega arith),
  ne_eqb i 0x02 (λ z. omega arith),
  ne_eqb i 0x03 (λ z. omega arith),
  ne_eqb i 0x04 (λ z. omega arith),
  ne_eqb i 0x05 (λ z. omega arith),
  ne_eqb i 0x06 (λ z. omega arith),
)

pub bytes : Bytes
unfolding byte_read
bytes = record {
  named = λ b v p1 p3 p4 s e h. (refl, refl, refl, refl, refl, refl, refl, refl);
  delivered = refl;
  read_bsb = λ c. refl;
  read_sbv = λ c. refl;
  read_p1cf = λ c. refl;
  read_p3cf = λ c. refl;
  read_p4cf = λ c. refl;
  read_ssb_lem = λ c. refl;
  read_eb = λ c. refl;
  read_manufacturer = λ c. refl;
  read_family = λ c. refl;
  read_product = λ c. refl;
  read_revision = λ c. refl;
  readable_00h_06h = λ i h. rw (le-leb i last_index h);
  readable_fixed = λ i q. rw q (or-true (leb i last_index));
  not_readable = λ i h q. rw (lt-leb i last_index h, q);
  no_other_read = λ i c h q. rw (lt-leb i last_index h, q);
  version_12h = refl;
  write_bsb = λ x b v p1 p3 p4 s e h. refl;
  write_sbv = λ x b v p1 p3 p4 s e h. refl;
  write_p1cf = λ x b v p1 p3 p4 s e h. refl;
  write_p3cf = λ x b v p1 p3 p4 s e h. refl;
  write_p4cf = λ x b v p1 p3 p4 s e h. refl;
  write_ssb = λ x b v p1 p3 p4 s e h. refl;
  write_eb = λ x b v p1 p3 p4 s e h. refl;
  no_other_written = past_last;
  writable_00h_06h = λ i h. le-leb i last_index h;
  not_writable = λ i h. lt-leb i last_index h;
  ssb_index_lem = λ c. refl;
  write_hsb = λ high x y low b v p1 p3 p4 s e p q. ap (config b v p1 p3 p4 s e) (omega arith);
  hsb_4fh_over_bbh = λ b v p1 p3 p4 s e. refl;
  erased = λ b v p1 p3 p4 s e h. refl;
}
