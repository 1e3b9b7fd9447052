-- The paper's code of each row of "Commands in DNLOAD data", and that data is a command by its code. Proved in proofs/CodesHold.antt.
use Rattle.std.specs.Prelude.{◌≡◌, List, [], ◌∷◌, ℕ, ◌<◌, length, take, Option, None, Some}
use Rattle.words.specs.Words.{byte_at}
use Rattle.memory.specs.declared.address.Range.TheVariants.{Flash, Eeprom}
use Rattle.memory.specs.declared.address.Block.TheVariants.{Low, Middle, High}
use Rattle.command.specs.Form.{Command, ProgramFlash, ProgramEeprom, Read, BlankCheck, EraseBlock, EraseChip, WriteByte, WriteHsb, StartReset, StartAt}
use Rattle.command.specs.Form.{ReadVersion, ReadByte, ReadHsb, form}

-- the bytes that a row begins with, before its addresses, its index and its value
abbrev pub row_code : Command → List ℕ
row_code (ProgramFlash a e) = 0x01 ∷ 0x00 ∷ []
row_code (ProgramEeprom a e) = 0x01 ∷ 0x01 ∷ []
row_code (Read (Flash a e)) = 0x03 ∷ 0x00 ∷ []
row_code (Read (Eeprom a e)) = 0x03 ∷ 0x02 ∷ []
row_code (BlankCheck a e) = 0x03 ∷ 0x01 ∷ []
row_code (EraseBlock Low) = 0x04 ∷ 0x00 ∷ 0x00 ∷ []
row_code (EraseBlock Middle) = 0x04 ∷ 0x00 ∷ 0x20 ∷ []
row_code (EraseBlock High) = 0x04 ∷ 0x00 ∷ 0x40 ∷ []
row_code EraseChip = 0x04 ∷ 0x00 ∷ 0xFF ∷ []
row_code (WriteByte i v) = 0x04 ∷ 0x01 ∷ []
row_code (WriteHsb v) = 0x04 ∷ 0x02 ∷ 0x00 ∷ []
row_code StartReset = 0x04 ∷ 0x03 ∷ 0x00 ∷ []
row_code (StartAt a) = 0x04 ∷ 0x03 ∷ 0x01 ∷ []
row_code ReadVersion = 0x05 ∷ 0x00 ∷ 0x00 ∷ []
row_code (ReadByte i) = 0x05 ∷ 0x01 ∷ []
row_code ReadHsb = 0x05 ∷ 0x02 ∷ 0x00 ∷ []

-- the same of the form that data has; what the table has not, has no code
abbrev pub form_code : Option Command → List ℕ
form_code (Some k) = row_code k
form_code None = []

-- data that is a command begins with the command's code: no other code is taken for it
abbrev pub BeginsWith : List ℕ → List ℕ → Type 0
BeginsWith d c = take (length c) d ≡ c

abbrev pub FormsNumbered : Type 0
FormsNumbered = (d : List ℕ) → ((i : ℕ) → byte_at d i < 256) → BeginsWith d (form_code (form d))
