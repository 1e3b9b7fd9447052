-- 01's eight bytes, its fixed bytes and what is written and erased of them, index by index in numbers. Proved in proofs/BytesHold.antt.
use Rattle.std.specs.Prelude.{◌≡◌, Some, None, true, false, [], ◌∷◌, ℕ, ◌+◌, ◌*◌, ◌≤◌, ◌<◌}
use Rattle.words.specs.Words.{among}
use Rattle.config.specs.Config.{Config, delivered_config, ssb_index, writable, readable, version, byte_read, with_byte, with_hsb, erased_config}

-- BSB, SBV, P1_CF, P3_CF, P4_CF, SSB, EB and HSB
abbrev pub config : ℕ → ℕ → ℕ → ℕ → ℕ → ℕ → ℕ → ℕ → Config
config b v p1 p3 p4 s e h = record { bsb = b; sbv = v; p1cf = p1; p3cf = p3; p4cf = p4; ssb = s; eb = e; hsb = h }

-- the byte of an index; and what a write of x there leaves
abbrev pub Reads : ℕ → (Config → ℕ) → Type 0
Reads i value = (c : Config) → byte_read i c ≡ Some (value c)

abbrev pub Writes : ℕ → (ℕ → ℕ → ℕ → ℕ → ℕ → ℕ → ℕ → ℕ → ℕ → Config) → Type 0
Writes i after = (x b v p1 p3 p4 s e h : ℕ) → with_byte i x (config b v p1 p3 p4 s e h) ≡ after x b v p1 p3 p4 s e h

pub record Bytes : Type 0 where
  pub named : (b v p1 p3 p4 s e h : ℕ) → let c = config b v p1 p3 p4 s e h in
      (c.bsb ≡ b) × (c.sbv ≡ v) × (c.p1cf ≡ p1) × (c.p3cf ≡ p3) × (c.p4cf ≡ p4) × (c.ssb ≡ s) × (c.eb ≡ e) × (c.hsb ≡ h)
  -- "BSB FFh, SBV FCh, P1_CF FEh, P3_CF FFh, P4_CF FFh, SSB FFh, EB FFh (index 00h to 06h), and HSB BBh"
  pub delivered : delivered_config ≡ config 0xFF 0xFC 0xFE 0xFF 0xFF 0xFF 0xFF 0xBB
  -- "read a byte", "index 00h-06h, 30h, 31h, 60h, 61h": "manufacturer 58h, family D7h, product F7h, revision DFh"
  pub read_bsb : Reads 0x00 (λ c. c.bsb)
  pub read_sbv : Reads 0x01 (λ c. c.sbv)
  pub read_p1cf : Reads 0x02 (λ c. c.p1cf)
  pub read_p3cf : Reads 0x03 (λ c. c.p3cf)
  pub read_p4cf : Reads 0x04 (λ c. c.p4cf)
  pub read_ssb_lem : Reads 0x05 (λ c. c.ssb)
  pub read_eb : Reads 0x06 (λ c. c.eb)
  pub read_manufacturer : Reads 0x30 (λ c. 0x58)
  pub read_family : Reads 0x31 (λ c. 0xD7)
  pub read_product : Reads 0x60 (λ c. 0xF7)
  pub read_revision : Reads 0x61 (λ c. 0xDF)
  pub readable_00h_06h : (i : ℕ) → i ≤ 0x06 → readable i ≡ true
  pub readable_fixed : (i : ℕ) → among i (0x30 ∷ 0x31 ∷ 0x60 ∷ 0x61 ∷ []) ≡ true → readable i ≡ true
  pub not_readable : (i : ℕ) → 0x06 < i → among i (0x30 ∷ 0x31 ∷ 0x60 ∷ 0x61 ∷ []) ≡ false → readable i ≡ false
  pub no_other_read : (i : ℕ) (c : Config) → 0x06 < i → among i (0x30 ∷ 0x31 ∷ 0x60 ∷ 0x61 ∷ []) ≡ false → byte_read i c ≡ None
  -- "bootloader version 12h"
  pub version_12h : version ≡ 0x12
  -- "index 00h-06h, value": "write configuration byte"; the other bytes stay
  pub write_bsb : Writes 0x00 (λ x b v p1 p3 p4 s e h. config x v p1 p3 p4 s e h)
  pub write_sbv : Writes 0x01 (λ x b v p1 p3 p4 s e h. config b x p1 p3 p4 s e h)
  pub write_p1cf : Writes 0x02 (λ x b v p1 p3 p4 s e h. config b v x p3 p4 s e h)
  pub write_p3cf : Writes 0x03 (λ x b v p1 p3 p4 s e h. config b v p1 x p4 s e h)
  pub write_p4cf : Writes 0x04 (λ x b v p1 p3 p4 s e h. config b v p1 p3 x s e h)
  pub write_ssb : Writes 0x05 (λ x b v p1 p3 p4 s e h. config b v p1 p3 p4 x e h)
  pub write_eb : Writes 0x06 (λ x b v p1 p3 p4 s e h. config b v p1 p3 p4 s x h)
  pub no_other_written : (i x : ℕ) (c : Config) → 0x06 < i → with_byte i x c ≡ c
  pub writable_00h_06h : (i : ℕ) → i ≤ 0x06 → writable i ≡ true
  pub not_writable : (i : ℕ) → 0x06 < i → writable i ≡ false
  -- the index for which the table of levels has a row of its own is SSB's
  pub ssb_index_lem : Reads ssb_index (λ c. c.ssb)
  -- "write HSB: the high four bits change, the low four stay", and case 12
  pub write_hsb : (high x y low b v p1 p3 p4 s e : ℕ) → x < 16 → low < 16
      → with_hsb (high * 16 + x) (config b v p1 p3 p4 s e (y * 16 + low)) ≡ config b v p1 p3 p4 s e (high * 16 + low)
  pub hsb_4fh_over_bbh : (b v p1 p3 p4 s e : ℕ) → with_hsb 0x4F (config b v p1 p3 p4 s e 0xBB) ≡ config b v p1 p3 p4 s e 0x4B
  -- "Full chip erase sets .. BSB FFh, SBV FCh, SSB FFh; .. the other bytes stay."
  pub erased : (b v p1 p3 p4 s e h : ℕ) → erased_config (config b v p1 p3 p4 s e h) ≡ config 0xFF 0xFC p1 p3 p4 0xFF e h
