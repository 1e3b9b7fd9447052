-- 002's tables "Requests from Host": which command a record is, by its type, its length and its first data bytes. Assumes nothing:
-- these are definitions.
use Rattle.std.specs.Prelude.{if◌then◌else◌, Bool, false, ◌||◌, List, ℕ, ◌+◌, eqb, ltb, length, Option, None, Some}
use Rattle.words.specs.Words.{byte_at, high_first}
use Rattle.memory.specs.Memory.{flash_address, page}
use Rattle.memory.specs.declared.address.FlashAddress.{FlashAddress}
use Rattle.memory.specs.declared.address.Page.{Page}
use Rattle.plug.specs.Config.{Bit, Programmed, Unprogrammed, Setting, SsbLevel1, SsbLevel2, BootErased, ToBsb, ToSbv, Bljb, X2, Fixed, Ssb, Bsb, Sbv, Hsb}
use Rattle.plug.specs.Config.{manufacturer, family_code, product_name, product_revision, bootloader_version}
use Rattle.plug.specs.Levels.{Command, Program, Display, BlankCheck, EraseBlock, EraseChip, Write, Read, StartReset, StartAt}
pub use Rattle.plug.specs.declared.command.Block.{Block}
pub use Rattle.plug.specs.declared.command.Block.TheVariants.{Block0, Block1, Block2, Block3}

-- P2 of 02: "over 65,536 lent bytes of flash"
abbrev pub flash_size : ℕ
flash_size = 65536

-- the pages of all blocks: 64, 64, 128 and 256
abbrev pub flash_pages : ℕ
flash_pages = 512

-- "Block 0: from address 0000h to 1FFFh (64 pages)" and so on: the first page of each block, and how many it has
abbrev pub block_page : Block → Page
block_page Block0 = page 0
block_page Block1 = page 64
block_page Block2 = page 128
block_page Block3 = page 256

abbrev pub block_pages : Block → ℕ
block_pages Block0 = 64
block_pages Block1 = 64
block_pages Block2 = 128
block_pages Block3 = 256

-- the address that stands at i, high byte first
abbrev pub address_at : List ℕ → ℕ → FlashAddress
address_at d i = flash_address (high_first d i)

-- "Read Flash | 04h | x | 05h | Start Address | End Address | 00h", "Blank check on Flash .. 01h"
abbrev pub range_row : ℕ → List ℕ → Option Command
range_row code d =
    if eqb code 0x00 then Some (Display (address_at d 0) (address_at d 2)) else
    if eqb code 0x01 then Some (BlankCheck (address_at d 0) (address_at d 2)) else None

-- the rows of type 05h, all of length 02h, by Data[0] and Data[1], "07h 02h" being 0702h. The device IDs are those of Table 1, by our
-- choice
abbrev pub read_row : ℕ → Option Command
read_row code =
    if eqb code 0x0000 then Some (Read (Fixed manufacturer)) else
    if eqb code 0x0001 then Some (Read (Fixed family_code)) else
    if eqb code 0x0002 then Some (Read (Fixed product_name)) else
    if eqb code 0x0003 then Some (Read (Fixed product_revision)) else
    if eqb code 0x0700 then Some (Read Ssb) else
    if eqb code 0x0701 then Some (Read Bsb) else
    if eqb code 0x0702 then Some (Read Sbv) else
    if eqb code 0x0B00 then Some (Read Hsb) else
    if eqb code 0x0E00 then Some (Read (Fixed family_code)) else
    if eqb code 0x0E01 then Some (Read (Fixed product_name)) else
    if eqb code 0x0F00 then Some (Read (Fixed bootloader_version)) else None

-- the row of type 03h of length 01h
abbrev pub short_row : ℕ → Option Command
short_row code = if eqb code 0x07 then Some EraseChip else None

-- those of length 02h, by Data[0] and Data[1]
abbrev pub plain_row : ℕ → Option Command
plain_row code =
    if eqb code 0x0100 then Some (EraseBlock Block0) else
    if eqb code 0x0120 then Some (EraseBlock Block1) else
    if eqb code 0x0140 then Some (EraseBlock Block2) else
    if eqb code 0x0180 then Some (EraseBlock Block3) else
    if eqb code 0x0300 then Some StartReset else
    if eqb code 0x0400 then Some (Write BootErased) else
    if eqb code 0x0500 then Some (Write SsbLevel1) else
    if eqb code 0x0501 then Some (Write SsbLevel2) else None

-- "the "bit value" is 00h or 01h"
abbrev pub fuse_row : (Bit → Setting) → ℕ → Option Command
fuse_row s v =
    if eqb v 0x00 then Some (Write (s Programmed)) else
    if eqb v 0x01 then Some (Write (s Unprogrammed)) else None

-- those of length 03h, with a value in Data[2]
abbrev pub value_row : ℕ → ℕ → Option Command
value_row code v =
    if eqb code 0x0600 then Some (Write (ToBsb v)) else
    if eqb code 0x0601 then Some (Write (ToSbv v)) else
    if eqb code 0x0A04 then fuse_row Bljb v else
    if eqb code 0x0A08 then fuse_row X2 v else None

-- that of length 04h, with an address in Data[2] and Data[3]
abbrev pub jump_row : ℕ → FlashAddress → Option Command
jump_row code a = if eqb code 0x0301 then Some (StartAt a) else None

-- the rows of type 03h by their record length
abbrev pub change_row : List ℕ → Option Command
change_row d =
    if eqb (length d) 1 then short_row (byte_at d 0) else
    if eqb (length d) 2 then plain_row (high_first d 0) else
    if eqb (length d) 3 then value_row (high_first d 0) (byte_at d 2) else
    if eqb (length d) 4 then jump_row (high_first d 0) (address_at d 2) else None

-- the rows of type 04h and of type 05h, with their lengths
abbrev pub range_form : List ℕ → Option Command
range_form d = if eqb (length d) 5 then range_row (byte_at d 4) d else None

abbrev pub read_form : List ℕ → Option Command
read_form d = if eqb (length d) 2 then read_row (high_first d 0) else None

-- all rows by the record's type, "Program Flash | 00h | Start Address" first; "this field is used only for Data Program Record"
unfoldable pub form : ℕ → ℕ → List ℕ → Option Command
form kind offset d =
    if eqb kind 0x00 then Some (Program (flash_address offset)) else
    if eqb kind 0x03 then change_row d else
    if eqb kind 0x04 then range_form d else
    if eqb kind 0x05 then read_form d else None

-- "nb of Data", from Data[0] to Data[127]
abbrev pub most_program : ℕ
most_program = 128

-- P2 of 02: "a backward range or one past FFFFh", for a record with n bytes of data; a program record of none, or of
-- more than its row has, is refused with them
abbrev pub bad_range : Command → ℕ → Bool
bad_range (Program a) n = ltb n 1 || ltb most_program n || ltb flash_size (a.0 + n)
bad_range (Display a e) n = ltb e.0 a.0
bad_range (BlankCheck a e) n = ltb e.0 a.0
bad_range (EraseBlock k) n = false
bad_range EraseChip n = false
bad_range (Write s) n = false
bad_range (Read x) n = false
bad_range StartReset n = false
bad_range (StartAt a) n = false
