-- 002's "Configuration and Manufacturer Information": the board's bytes. Assumes nothing: these are definitions.
use Rattle.std.specs.Prelude.{ℕ, ◌+◌, ◌*◌, ◌/◌, ◌%◌}
use Rattle.config.specs.Level.{ssb_level}
use Rattle.config.specs.declared.level.Level.{Level}
pub use Rattle.plug.specs.declared.board.Config.{Config}
pub use Rattle.plug.specs.declared.command.Bit.{Bit}
pub use Rattle.plug.specs.declared.command.Bit.TheVariants.{Programmed, Unprogrammed}
pub use Rattle.plug.specs.declared.command.Setting.{Setting}
pub use Rattle.plug.specs.declared.command.Setting.TheVariants.{SsbLevel1, SsbLevel2, BootErased, Bsb as ToBsb, Sbv as ToSbv, Bljb, X2}
pub use Rattle.plug.specs.declared.command.Byte.{Byte}
pub use Rattle.plug.specs.declared.command.Byte.TheVariants.{Fixed, Ssb, Bsb, Sbv, Hsb}

abbrev pub config : ℕ → ℕ → ℕ → ℕ → Config
config b v s h = record { bsb = b; sbv = v; ssb = s; hsb = h }

-- "Table 1": "BSB .. FFh", "SBV .. F0h", "SSB .. FCh"; "Table 2": U is 1, P is 0, from bit 7 on U P U U U P U U
abbrev pub delivered_config : Config
delivered_config = config 0xFF 0xF0 0xFC 0xBB

-- "Manufacturer 58h", "ID1: Family code D7h", "ID2: Product Name ECh", "ID3: Product Revision FFh"; "Revision 1.1.0", as 11h by our
-- choice
abbrev pub manufacturer : ℕ
manufacturer = 0x58

abbrev pub family_code : ℕ
family_code = 0xD7

abbrev pub product_name : ℕ
product_name = 0xEC

abbrev pub product_revision : ℕ
product_revision = 0xFF

abbrev pub bootloader_version : ℕ
bootloader_version = 0x11

-- P2 of 02: "Its own table of levels holds, and P1 for odd values": the level that a board's SSB sets
abbrev pub level : Config → Level
level c = ssb_level c.ssb

-- "U: Unprogrammed = 1, P: Program = 0"
abbrev pub bit_value : Bit → ℕ
bit_value Programmed = 0
bit_value Unprogrammed = 1

-- HSB with its bit of weight w set; the others stay
abbrev pub with_bit : ℕ → Bit → ℕ → ℕ
with_bit w x h = h / (2 * w) * (2 * w) + w * bit_value x + h % w

-- "Table 2": bit 7 is X2B, bit 6 is BLJB
abbrev pub bljb_weight : ℕ
bljb_weight = 64

abbrev pub x2_weight : ℕ
x2_weight = 128

-- "Program Configuration Information": the configuration after each row; the other bytes stay. "Erase SBV & BSB" gives the two their
-- default values, by our choice
abbrev pub with_setting : Setting → Config → Config
with_setting SsbLevel1 c = config c.bsb c.sbv 0xFE c.hsb
with_setting SsbLevel2 c = config c.bsb c.sbv 0xFC c.hsb
with_setting BootErased c = config 0xFF 0xF0 c.ssb c.hsb
with_setting (ToBsb v) c = config v c.sbv c.ssb c.hsb
with_setting (ToSbv v) c = config c.bsb v c.ssb c.hsb
with_setting (Bljb x) c = config c.bsb c.sbv c.ssb (with_bit bljb_weight x c.hsb)
with_setting (X2 x) c = config c.bsb c.sbv c.ssb (with_bit x2_weight x c.hsb)

-- "Read Configuration Information or Manufacturer Information"
abbrev pub byte_value : Byte → Config → ℕ
byte_value (Fixed v) c = v
byte_value Ssb c = c.ssb
byte_value Bsb c = c.bsb
byte_value Sbv c = c.sbv
byte_value Hsb c = c.hsb

-- "The Full Chip erase command .. sets some Configuration Bytes at their default values: BSB = FFh, SBV = F0h, SSB = FFh (NO_SECURITY)"
abbrev pub erased_config : Config → Config
erased_config c = config 0xFF 0xF0 0xFF c.hsb
