-- 002's "Table 3. Software Security Byte Levels". A command is told by the highest level that allows it, since what a level allows the
-- lower ones do too; that SSB is read at level 1 is our choice, its cell there has only "Write level2 allowed". Assumes nothing: these are definitions.
use Rattle.std.specs.Prelude.{Bool, leb}
use Rattle.config.specs.Level.{level_number}
use Rattle.config.specs.declared.level.Level.{Level}
use Rattle.config.specs.declared.level.Level.TheVariants.{L0, L1, L2}
use Rattle.plug.specs.Config.{Setting, SsbLevel1, SsbLevel2, BootErased, ToBsb, ToSbv, Bljb, X2, Byte, Fixed, Ssb, Bsb, Sbv, Hsb}
pub use Rattle.plug.specs.declared.command.Command.{Command}
pub use Rattle.plug.specs.declared.command.Command.TheVariants.{Program, Display, BlankCheck, EraseBlock, EraseChip, Write, Read, StartReset, StartAt}

-- "Fuse bit", "BSB & SBV": "Any access allowed" at level 0, "Read only access allowed" at level 1, "All access not allowed" at level 2;
-- "SSB": "Any access allowed", "Write level2 allowed", "Read only access allowed"
abbrev pub highest_write : Setting → Level
highest_write SsbLevel1 = L0
highest_write SsbLevel2 = L1
highest_write BootErased = L0
highest_write (ToBsb v) = L0
highest_write (ToSbv v) = L0
highest_write (Bljb x) = L0
highest_write (X2 x) = L0

-- "Manufacturer info", "Bootloader info": "Read only access allowed" at every level, and SSB too
abbrev pub highest_read : Byte → Level
highest_read (Fixed v) = L2
highest_read Ssb = L2
highest_read Bsb = L1
highest_read Sbv = L1
highest_read Hsb = L1

-- "Flash": "Any access allowed", "Read only access allowed", "All access not allowed"; "Erase block": "Allowed", "Not allowed",
-- "Not allowed"; "Full chip erase", "Blank Check": "Allowed" at every level. A start is in no row, and no level stops it
abbrev pub highest : Command → Level
highest (Program a) = L0
highest (Display a e) = L1
highest (BlankCheck a e) = L2
highest (EraseBlock k) = L0
highest EraseChip = L2
highest (Write s) = highest_write s
highest (Read x) = highest_read x
highest StartReset = L2
highest (StartAt a) = L2

-- up to that level, in the papers' numbers
abbrev pub allowed : Command → Level → Bool
allowed k l = leb (level_number l) (level_number (highest k))
