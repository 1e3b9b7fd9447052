-- What is packed is unpacked again: the statements of specs/Unpacked.antt. Each goes by the four words of a number.
-- Assumes nothing.
use mathlib.Core.Path.{◌≡◌, refl}
use Prim.Native.Nat.{ℕ}
use native.Mathlib.Omega.{arith}
use lib.Dec.{lit≤}
use Rattle.memory.specs.declared.address.Range.TheVariants.{Flash, Eeprom}
use Rattle.memory.specs.declared.address.Block.TheVariants.{Low, Middle, High}
use Rattle.command.specs.declared.command.Command.TheVariants.{ProgramFlash, ProgramEeprom, Read, BlankCheck, EraseBlock, EraseChip, WriteByte, WriteHsb}
use Rattle.command.specs.declared.command.Command.TheVariants.{StartReset, StartAt, ReadVersion, ReadByte, ReadHsb}
use Rattle.rules.specs.declared.session.Pending.{Pending}
use Rattle.rules.specs.declared.session.Pending.TheVariants.{Nothing, MemoryRead, BlankReport, OneByte, Start}
use Rattle.rules.specs.declared.session.StartKind.TheVariants.{Reset, AtAddress}
use Rattle.numbers.specs.Layout.{packed, word0, word1, word2, word3, low_byte, high_byte, two_bytes, pack_pending, pending_of, command_for}
use Rattle.numbers.specs.Unpacked.{Byte, Word, PendingFits, SessionKept, ConfigKept, CommandKept}

module _ (a b c d : ℕ) (p : Word a) (q : Word b) (r : Word c) (s : Word d) where
  word0_packed : word0 (packed a b c d) ≡ a
  word0_packed = omega arith

  word1_packed : word1 (packed a b c d) ≡ b
  word1_packed = omega arith

  word2_packed : word2 (packed a b c d) ≡ c
  word2_packed = omega arith

  word3_packed : word3 (packed a b c d) ≡ d
  word3_packed = omega arith

module _ (a b : ℕ) (p : Byte a) (q : Byte b) where
  low_two : low_byte (two_bytes a b) ≡ a
  low_two = omega arith

  high_two : high_byte (two_bytes a b) ≡ b
  high_two = omega arith

  two_word : Word (two_bytes a b)
  two_word = omega arith

byte_word : (a : ℕ) → Byte a → Word a
byte_word a p = omega arith

low_byte_lem : (a : ℕ) → Byte a → low_byte a ≡ a
low_byte_lem a p = omega arith

-- a head, a kind and two words, read again
record Read4 (n a b c d : ℕ) : Type 0 where
  first : word0 n ≡ a
  second : word1 n ≡ b
  third : word2 n ≡ c
  fourth : word3 n ≡ d

read4 : (a b c d : ℕ) → Word a → Word b → Word c → Word d → Read4 (packed a b c d) a b c d
read4 a b c d p q r s = record {
  first = word0_packed a b c d p q r s;
  second = word1_packed a b c d p q r s;
  third = word2_packed a b c d p q r s;
  fourth = word3_packed a b c d p q r s;
}

pub config_kept : ConfigKept
config_kept c f =
    let w = read4 (two_bytes c.bsb c.sbv) (two_bytes c.p1cf c.p3cf) (two_bytes c.p4cf c.ssb) (two_bytes c.eb c.hsb)
    (two_word c.bsb c.sbv f.bsb f.sbv) (two_word c.p1cf c.p3cf f.p1cf f.p3cf)
    (two_word c.p4cf c.ssb f.p4cf f.ssb) (two_word c.eb c.hsb f.eb f.hsb) in
    rw (
      w.first,
      w.second,
      w.third,
      w.fourth,
      low_two c.bsb c.sbv f.bsb f.sbv,
      high_two c.bsb c.sbv f.bsb f.sbv,
      low_two c.p1cf c.p3cf f.p1cf f.p3cf,
      high_two c.p1cf c.p3cf f.p1cf f.p3cf,
      low_two c.p4cf c.ssb f.p4cf f.ssb,
      high_two c.p4cf c.ssb f.p4cf f.ssb,
      low_two c.eb c.hsb f.eb f.hsb,
      high_two c.eb c.hsb f.eb f.hsb,
    )

-- the head of a session, and what is pending
pending_kept : (h : ℕ) (p : Pending) → Word h → PendingFits p
    → (word0 (pack_pending h p) ≡ h) × (pending_of (word1 (pack_pending h p)) (word2 (pack_pending h p)) (word3 (pack_pending h p)) ≡ p)
unfolding pending_of
pending_kept h Nothing g f = let w = read4 h 0 0 0 g (lit≤ tt) (lit≤ tt) (lit≤ tt) in (w.first, rw w.second)
pending_kept h (MemoryRead (Flash a e)) g f = let w = read4 h 1 a.0 e.0 g (lit≤ tt) f.0 f.1 in (w.first, rw (w.second, w.third, w.fourth))
pending_kept h (MemoryRead (Eeprom a e)) g f = let w = read4 h 2 a.0 e.0 g (lit≤ tt) f.0 f.1 in (w.first, rw (w.second, w.third, w.fourth))
pending_kept h (BlankReport a) g f = let w = read4 h 3 a.0 0 g (lit≤ tt) f (lit≤ tt) in (w.first, rw (w.second, w.third))
pending_kept h (OneByte v) g f = let w = read4 h 4 v 0 g (lit≤ tt) (byte_word v f) (lit≤ tt) in (w.first, rw (w.second, w.third, low_byte_lem v f))
pending_kept h (Start Reset a) g f = let w = read4 h 5 a.0 0 g (lit≤ tt) f (lit≤ tt) in (w.first, rw (w.second, w.third))
pending_kept h (Start AtAddress a) g f = let w = read4 h 6 a.0 0 g (lit≤ tt) f (lit≤ tt) in (w.first, rw (w.second, w.third))

pub session_kept : SessionKept
session_kept s f =
    let k = pending_kept (two_bytes s.state s.status) s.pending (two_word s.state s.status f.state f.status) f.pending in
    rw (k.0, k.1, low_two s.state s.status f.state f.status, high_two s.state s.status f.state f.status)

pub command_kept : CommandKept
unfolding command_for
command_kept (ProgramFlash a e) f = let w = read4 0 a.0 e.0 0 (lit≤ tt) f.0 f.1 (lit≤ tt) in rw (w.first, w.second, w.third)
command_kept (ProgramEeprom a e) f = let w = read4 1 a.0 e.0 0 (lit≤ tt) f.0 f.1 (lit≤ tt) in rw (w.first, w.second, w.third)
command_kept (Read (Flash a e)) f = let w = read4 2 a.0 e.0 0 (lit≤ tt) f.0 f.1 (lit≤ tt) in rw (w.first, w.second, w.third)
command_kept (Read (Eeprom a e)) f = let w = read4 3 a.0 e.0 0 (lit≤ tt) f.0 f.1 (lit≤ tt) in rw (w.first, w.second, w.third)
command_kept (BlankCheck a e) f = let w = read4 4 a.0 e.0 0 (lit≤ tt) f.0 f.1 (lit≤ tt) in rw (w.first, w.second, w.third)
command_kept (EraseBlock Low) f = refl
command_kept (EraseBlock Middle) f = refl
command_kept (EraseBlock High) f = refl
command_kept EraseChip f = refl
command_kept (WriteByte i v) f =
    let w = read4 9 i v 0 (lit≤ tt) (byte_word i f.0) (byte_word v f.1) (lit≤ tt) in
    rw (w.first, w.second, w.third, low_byte_lem i f.0, low_byte_lem v f.1)
command_kept (WriteHsb v) f = let w = read4 10 v 0 0 (lit≤ tt) (byte_word v f) (lit≤ tt) (lit≤ tt) in rw (w.first, w.second, low_byte_lem v f)
command_kept StartReset f = refl
command_kept (StartAt a) f = let w = read4 12 a.0 0 0 (lit≤ tt) f (lit≤ tt) (lit≤ tt) in rw (w.first, w.second)
command_kept ReadVersion f = refl
command_kept (ReadByte i) f = let w = read4 14 i 0 0 (lit≤ tt) (byte_word i f) (lit≤ tt) (lit≤ tt) in rw (w.first, w.second, low_byte_lem i f)
command_kept ReadHsb f = refl
