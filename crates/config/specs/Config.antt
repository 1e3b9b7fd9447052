-- The paper's configuration bytes and fixed bytes. Assumes nothing: these are definitions and a statement.
use Rattle.std.specs.Prelude.{if◌then◌else◌, ◌≡◌, Option, Some, None, Bool, ◌||◌, List, [], ◌∷◌, ℕ, ◌+◌, ◌*◌, ◌/◌, ◌%◌, ◌<◌, eqb, leb}
use Rattle.words.specs.Words.{among}
pub use Rattle.config.specs.declared.config.Config.{Config}

-- "BSB FFh, SBV FCh, P1_CF FEh, P3_CF FFh, P4_CF FFh, SSB FFh, EB FFh (index 00h to 06h), and HSB BBh"
abbrev pub delivered_config : Config
delivered_config = record { bsb = 0xFF; sbv = 0xFC; p1cf = 0xFE; p3cf = 0xFF; p4cf = 0xFF; ssb = 0xFF; eb = 0xFF; hsb = 0xBB }

-- "(index 00h to 06h)"
abbrev pub last_index : ℕ
last_index = 0x06

abbrev pub ssb_index : ℕ
ssb_index = 0x05

abbrev pub writable : ℕ → Bool
writable i = leb i last_index

-- "Fixed bytes: manufacturer 58h, family D7h, product F7h, revision DFh", read at "30h, 31h, 60h, 61h"
abbrev pub fixed_indexes : List ℕ
fixed_indexes = 0x30 ∷ 0x31 ∷ 0x60 ∷ 0x61 ∷ []

abbrev pub readable : ℕ → Bool
readable i = writable i || among i fixed_indexes

-- "bootloader version 12h (our choice)"
abbrev pub version : ℕ
version = 0x12

-- "read a byte (manufacturer, family, product, revision last)": the value at a readable index
abbrev pub config_byte : ℕ → Config → ℕ
config_byte i c =
    if eqb i 0x00 then c.bsb else
    if eqb i 0x01 then c.sbv else
    if eqb i 0x02 then c.p1cf else
    if eqb i 0x03 then c.p3cf else
    if eqb i 0x04 then c.p4cf else
    if eqb i 0x05 then c.ssb else
    if eqb i 0x06 then c.eb else
    if eqb i 0x30 then 0x58 else
    if eqb i 0x31 then 0xD7 else
    if eqb i 0x60 then 0xF7 else 0xDF

-- the byte of any index, if there is one
unfoldable pub byte_read : ℕ → Config → Option ℕ
byte_read i c = if readable i then Some (config_byte i c) else None

-- the bytes that each answer gives: the one read, or none of an index that the table has not
abbrev pub bytes_read : Option ℕ → List ℕ
bytes_read (Some v) = v ∷ []
bytes_read None = []

-- the same, one by one, in the paper's numbers: "index 00h-06h, 30h, 31h, 60h, 61h", and "manufacturer 58h, family D7h, product F7h,
-- revision DFh"
pub record ByteTable (c : Config) : Type 0 where
  pub bsb : bytes_read (byte_read 0x00 c) ≡ c.bsb ∷ []
  pub sbv : bytes_read (byte_read 0x01 c) ≡ c.sbv ∷ []
  pub p1cf : bytes_read (byte_read 0x02 c) ≡ c.p1cf ∷ []
  pub p3cf : bytes_read (byte_read 0x03 c) ≡ c.p3cf ∷ []
  pub p4cf : bytes_read (byte_read 0x04 c) ≡ c.p4cf ∷ []
  pub ssb : bytes_read (byte_read 0x05 c) ≡ c.ssb ∷ []
  pub eb : bytes_read (byte_read 0x06 c) ≡ c.eb ∷ []
  pub manufacturer : bytes_read (byte_read 0x30 c) ≡ 0x58 ∷ []
  pub family : bytes_read (byte_read 0x31 c) ≡ 0xD7 ∷ []
  pub product : bytes_read (byte_read 0x60 c) ≡ 0xF7 ∷ []
  pub revision : bytes_read (byte_read 0x61 c) ≡ 0xDF ∷ []
  pub no_other : (i : ℕ) → 0x06 < i → (i ≡ 0x30 → ⊥) → (i ≡ 0x31 → ⊥) → (i ≡ 0x60 → ⊥) → (i ≡ 0x61 → ⊥) → bytes_read (byte_read i c) ≡ []

abbrev pub BytesNumbered : Type 0
BytesNumbered = (c : Config) → ByteTable c

-- "write configuration byte": the byte of that index, and the others as they were
abbrev pub with_byte : ℕ → ℕ → Config → Config
with_byte i v c = record {
  bsb = if eqb i 0x00 then v else c.bsb;
  sbv = if eqb i 0x01 then v else c.sbv;
  p1cf = if eqb i 0x02 then v else c.p1cf;
  p3cf = if eqb i 0x03 then v else c.p3cf;
  p4cf = if eqb i 0x04 then v else c.p4cf;
  ssb = if eqb i 0x05 then v else c.ssb;
  eb = if eqb i 0x06 then v else c.eb;
  hsb = c.hsb;
}

-- "the high four bits change, the low four stay"
abbrev pub new_hsb : ℕ → ℕ → ℕ
new_hsb v old = v / 16 * 16 + old % 16

-- "write HSB"
abbrev pub with_hsb : ℕ → Config → Config
with_hsb v c = record
    { bsb = c.bsb; sbv = c.sbv; p1cf = c.p1cf; p3cf = c.p3cf; p4cf = c.p4cf; ssb = c.ssb; eb = c.eb; hsb = new_hsb v c.hsb }

-- "Full chip erase sets .. BSB FFh, SBV FCh, SSB FFh; .. the other bytes stay."
abbrev pub erased_config : Config → Config
erased_config c = record
    { bsb = 0xFF; sbv = 0xFC; p1cf = c.p1cf; p3cf = c.p3cf; p4cf = c.p4cf; ssb = 0xFF; eb = c.eb; hsb = c.hsb }
