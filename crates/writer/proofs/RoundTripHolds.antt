-- The statements of specs/RoundTrip.antt hold.
-- Assumes nothing.
use Rattle.std.specs.Prelude.{if◌then◌else◌, Some, Ok, Err}
use mathlib.Core.Path.{◌≡◌, refl, sym, ap, ◌∙◌, subst}
use mathlib.Core.Bool.{Bool, true, false}
use mathlib.Core.List.{List, [], ◌∷◌, ◌++◌, append_assoc, append-nil}
use Prim.Native.Nat.{ℕ, zero, suc, ◌+◌, ◌-◌, ◌*◌, ◌/◌, ◌%◌, ◌≤◌, ◌<◌}
use native.Mathlib.Omega.{arith}
use lib.Dec.{T, ltb, ltb→lt}
use lib.ListN.{length, take, drop, length-append, length-replicate, length-drop, take-append-drop}
use lib.Seq.{take_at, drop_at, take-length, drop-length, drop-cons, length-take-le, take-add}
use borrow.Author.Tests.{eq-eqb, le-leb, le-ltb, not-false}
use Rattle.words.specs.Words.{count, byte_at, high_first, overlay}
use Rattle.words.proofs.WordsLaws.{overlay_front}
use Rattle.config.specs.Config.{readable, writable}
use Rattle.memory.specs.declared.address.FlashAddress.{FlashAddress}
use Rattle.memory.specs.declared.address.EepromAddress.{EepromAddress}
use Rattle.memory.specs.declared.address.Range.TheVariants.{Flash, Eeprom}
use Rattle.memory.specs.declared.address.Block.TheVariants.{Low, Middle, High}
use Rattle.command.specs.declared.command.Command.{Command}
use Rattle.command.specs.declared.command.Command.TheVariants.{ProgramFlash, ProgramEeprom, Read, BlankCheck, EraseBlock, EraseChip, WriteByte, WriteHsb}
use Rattle.command.specs.declared.command.Command.TheVariants.{StartReset, StartAt, ReadVersion, ReadByte, ReadHsb}
use Rattle.command.specs.Form.{form}
use Rattle.command.specs.Address.{bad_address}
use Rattle.command.specs.Transfer.{laid, transfer_of, body_place, suffix_place, transfer_length, filler_size, suffix_size, padding, bad_length}
use Rattle.command.specs.Transfer.{body_of, suffix_of}
use Rattle.command.specs.Reader.{parts_of}
use Rattle.writer.specs.Writer.{Written, WrongCommand, TooShort, zeros, no_tail, tail_for, head_bytes, command_bytes, bad_parts, bad_write}
use Rattle.writer.specs.Writer.{cannot_write, put_answer, put_room}
use Rattle.writer.specs.Writer.{write_command, room_after}
use Rattle.writer.specs.RoundTrip.{body_at, suffix_at, carried, ReadsAs, ReadsBack, ZeroPadded, ZeroFilled, Bytes, WritesBack}
use Rattle.words.proofs.WordsLaws.{or_false}
use Rattle.command.proofs.FormLaws.{Formed, formed, program_flash_lem, program_eeprom_lem, read_flash, read_eeprom, blank_check}
use Rattle.command.proofs.FormLaws.{erase_block, erase_chip, write_byte}
use Rattle.command.proofs.FormLaws.{write_hsb, start_reset, start_at, read_version, read_byte, read_hsb_lem}
use Rattle.writer.proofs.WriterLaws.{right_lengths}
use Rattle.command.proofs.ReaderLaws.{Passed, passed, taken}
use Rattle.command.proofs.TransferLaws.{right_length}

-- ---- what was written

-- the writer did not refuse, and its bytes stand in the room
pub record Was (k : Command) (d s room : List ℕ) (n : ℕ) : Type 0 where
  pub address_right : bad_address k ≡ false
  pub write_right : bad_write k (length d) (length s) ≡ false
  pub bytes : take n (room_after k d s room) ≡ command_bytes k d s

was_put : (bytes room : List ℕ) (n : ℕ) (t : Bool) → ltb (length room) (length bytes) ≡ t
    → (if t then Err TooShort else Ok (length bytes)) ≡ Ok n → take n (if t then room else overlay 0 bytes room) ≡ bytes
was_put bytes room n true e q = absurd (let z : ◌≡◌ {A = ℕ} 0 1 = cc in omega arith)
was_put bytes room n false e q =
    let l : length bytes ≡ n = cc in
    ap (take n) (overlay_front bytes room) ∙ take_at bytes (drop (length bytes) room) n l

refused_not_wrote : (n : ℕ) → ◌≡◌ {A = Written} (Err WrongCommand) (Ok n) → ⊥
refused_not_wrote n e = let z : ◌≡◌ {A = ℕ} 0 1 = cc in omega arith

was_written : (k : Command) (d s room : List ℕ) (n : ℕ) (t : Bool) → cannot_write k d s ≡ t → write_command k d s room ≡ Ok n → Was k d s room n
unfolding write_command room_after put_answer put_room
was_written k d s room n true c q = absurd (refused_not_wrote n (rw c at q))
was_written k d s room n false c q =
    let o = or_false (bad_address k) (bad_write k (length d) (length s)) c in
    record {
      address_right = o.0;
      write_right = o.1;
      bytes = rw c (was_put (command_bytes k d s) room n (ltb (length room) (length (command_bytes k d s))) refl (rw c at q));
    }

-- ---- a program transfer, part by part, in either memory

-- the command k carries bytes for the addresses a to e, has six before its filler, and is checked for the lengths of its parts
record Carries (k : Command) (a e : ℕ) : Type 0 where
  transfer : transfer_of k ≡ Some (laid (padding a) (count a e))
  six : length (head_bytes k) ≡ 6
  checked : (d s : ℕ) → bad_write k d s ≡ bad_parts (Some (laid (padding a) (count a e))) d s

carries_flash : (a e : FlashAddress) → Carries (ProgramFlash a e) a.0 e.0
unfolding head_bytes
carries_flash a e = record { transfer = refl; six = refl; checked = λ d s. refl }

carries_eeprom : (a e : EepromAddress) → Carries (ProgramEeprom a e) a.0 e.0
unfolding head_bytes
carries_eeprom a e = record { transfer = refl; six = refl; checked = λ d s. refl }

module _ (k : Command) (a e : ℕ) (t : Carries k a e) (d s : List ℕ) (ld : length d ≡ count a e) (ls : length s ≡ suffix_size) where
  front : List ℕ
  front = head_bytes k ++ zeros (filler_size + padding a)

  length_front : length front ≡ body_place (padding a)
  unfolding front
  length_front = simp (length-append, length-replicate) (omega (arith, t.six))

  bytes_parts : command_bytes k d s ≡ front ++ d ++ s
  unfolding front command_bytes
  bytes_parts = rw (t.transfer, take-length d, take-length s)

  length_bytes : length (command_bytes k d s) ≡ transfer_length (padding a) (count a e)
  length_bytes = ap length bytes_parts ∙ simp length-append (omega (arith, length_front))

  length_front_body : length (front ++ d) ≡ suffix_place (padding a) (count a e)
  length_front_body = simp length-append (omega (arith, length_front))

  body_back : body_of a e (command_bytes k d s) ≡ d
  body_back =
      ap (λ x. take (count a e) (drop (body_place (padding a)) x)) (bytes_parts ∙ append_assoc front d s)
      ∙ ap (take (count a e)) (drop_at front (d ++ s) (body_place (padding a)) length_front)
      ∙ take_at d s (count a e) ld

  suffix_back : suffix_of a e (command_bytes k d s) ≡ s
  suffix_back = ap (drop (suffix_place (padding a) (count a e))) bytes_parts ∙ drop_at (front ++ d) s (suffix_place (padding a) (count a e)) length_front_body

-- ---- reading what was written

address_back : (a : ℕ) → a / 256 * 256 + a % 256 ≡ a
address_back a = omega arith

form_back : (k : Command) (d s : List ℕ) → bad_write k (length d) (length s) ≡ false → form (command_bytes k d s) ≡ Some k
unfolding form command_bytes head_bytes
form_back (ProgramFlash a e) d s w =
    let six : 6 ≤ length (command_bytes (ProgramFlash a e) d s) = omega arith in
    rw (le-leb 6 _ six, address_back a.0, address_back e.0)
form_back (ProgramEeprom a e) d s w =
    let six : 6 ≤ length (command_bytes (ProgramEeprom a e) d s) = omega arith in
    rw (le-leb 6 _ six, address_back a.0, address_back e.0)
form_back (Read (Flash a e)) d s w = rw (address_back a.0, address_back e.0)
form_back (Read (Eeprom a e)) d s w = rw (address_back a.0, address_back e.0)
form_back (BlankCheck a e) d s w = rw (address_back a.0, address_back e.0)
form_back (EraseBlock Low) d s w = refl
form_back (EraseBlock Middle) d s w = refl
form_back (EraseBlock High) d s w = refl
form_back EraseChip d s w = refl
form_back (WriteByte i v) d s w = rw (not-false (writable i) w)
form_back (WriteHsb v) d s w = refl
form_back StartReset d s w = refl
form_back (StartAt a) d s w = rw (address_back a.0)
form_back ReadVersion d s w = refl
form_back (ReadByte i) d s w = rw (not-false (readable i) w)
form_back ReadHsb d s w = refl

-- a command with neither body nor suffix
no_parts : (p : List ℕ) → (take (length p - length p) (drop (length p) p) ≡ []) × (drop (length p) p ≡ [])
no_parts p =
    let z : length p - length p ≡ 0 = omega arith in
    (rw z, drop-length p)

reads_plain : (k : Command) (d s p : List ℕ) → bad_address k ≡ false → bad_write k (length d) (length s) ≡ false → p ≡ command_bytes k d s
    → bad_length k p ≡ false → parts_of k p ≡ record { body = length p; suffix = length p } → ReadsAs p k [] []
reads_plain k d s p a w q l e = record {
  command = taken p k (record { formed = ap form q ∙ form_back k d s w; address_right = a; length_right = l });
  body = rw e (no_parts p).0;
  suffix = rw e (no_parts p).1;
}

reads_program : (k : Command) (a e : ℕ) → Carries k a e → (d s : List ℕ) → bad_address k ≡ false → bad_write k (length d) (length s) ≡ false
    → ReadsAs (command_bytes k d s) k d s
reads_program k a e t d s u w =
    let l = right_lengths (padding a) (count a e) (length d) (length s) (sym (t.checked (length d) (length s)) ∙ w) in
    let n : suffix_place (padding a) (count a e) - body_place (padding a) ≡ count a e = omega arith in
    record {
      command = taken (command_bytes k d s) k (record {
        formed = form_back k d s w;
        address_right = u;
        length_right = rw (t.transfer, eq-eqb _ _ (length_bytes k a e t d s l.0 l.1));
      });
      body = rw (t.transfer, n) (body_back k a e t d s l.0 l.1);
      suffix = rw t.transfer (suffix_back k a e t d s l.0 l.1);
    }

reads : (k : Command) (d s : List ℕ) → bad_address k ≡ false → bad_write k (length d) (length s) ≡ false
    → ReadsAs (command_bytes k d s) k (carried k d) (carried k s)
reads (ProgramFlash a e) d s u w = reads_program (ProgramFlash a e) a.0 e.0 (carries_flash a e) d s u w
reads (ProgramEeprom a e) d s u w = reads_program (ProgramEeprom a e) a.0 e.0 (carries_eeprom a e) d s u w
reads (Read r) d s u w = reads_plain (Read r) d s _ u w refl refl refl
reads (BlankCheck a e) d s u w = reads_plain (BlankCheck a e) d s _ u w refl refl refl
reads (EraseBlock b) d s u w = reads_plain (EraseBlock b) d s _ u w refl refl refl
reads EraseChip d s u w = reads_plain EraseChip d s _ u w refl refl refl
reads (WriteByte i v) d s u w = reads_plain (WriteByte i v) d s _ u w refl refl refl
reads (WriteHsb v) d s u w = reads_plain (WriteHsb v) d s _ u w refl refl refl
reads StartReset d s u w = reads_plain StartReset d s _ u w refl refl refl
reads (StartAt a) d s u w = reads_plain (StartAt a) d s _ u w refl refl refl
reads ReadVersion d s u w = reads_plain ReadVersion d s _ u w refl refl refl
reads (ReadByte i) d s u w = reads_plain (ReadByte i) d s _ u w refl refl refl
reads ReadHsb d s u w = reads_plain ReadHsb d s _ u w refl refl refl

pub reads_back : ReadsBack
reads_back k d s room n q =
    let w = was_written k d s room n (cannot_write k d s) refl q in
    subst (λ p. ReadsAs p k (carried k d) (carried k s)) (sym w.bytes) (reads k d s w.address_right w.write_right)

-- ---- writing what was read

-- two bytes that give a number, and the number's two bytes
bytes_of : (x y h l : ℕ) → y < 256 → l < 256 → x * 256 + y ≡ h * 256 + l → (x ≡ h) × (y ≡ l)
bytes_of x y h l p q e = (omega arith, omega arith)

module _ (p : List ℕ) (each : Bytes p) where
  code : (h l : ℕ) → T (ltb l 256) → high_first p 0 ≡ h * 256 + l → (byte_at p 0 ≡ h) × (byte_at p 1 ≡ l)
  code h l t q = bytes_of (byte_at p 0) (byte_at p 1) h l (each 1) (ltb→lt l 256 t) q

  high : (i : ℕ) → high_first p i / 256 ≡ byte_at p i
  high i = omega (arith, each (suc i))

  low : (i : ℕ) → high_first p i % 256 ≡ byte_at p (suc i)
  low i = omega (arith, each (suc i))

  -- the first bytes, one by one
  spell : ℕ → ℕ → List ℕ
  spell zero i = []
  spell (suc n) i = byte_at p i ∷ spell n (suc i)

  spelled : (n i : ℕ) → i + n ≤ length p → take n (drop i p) ≡ spell n i
  unfolding spell
  spelled zero i h = refl
  spelled (suc n) i h = rw (drop-cons p i 0 (omega (arith, h))) (ap (λ l. byte_at p i ∷ l) (spelled n (suc i) (omega (arith, h))))

  -- the head of the command is the front of the data
  head_back : (k : Command) → Formed p k → take (length (head_bytes k)) p ≡ head_bytes k
  unfolding head_bytes spell
  head_back k (program_flash_lem q l) = let c = code 0x01 0x00 tt q in spelled 6 0 l ∙ rw (c.0, c.1, high 2, low 2, high 4, low 4)
  head_back k (program_eeprom_lem q l) = let c = code 0x01 0x01 tt q in spelled 6 0 l ∙ rw (c.0, c.1, high 2, low 2, high 4, low 4)
  head_back k (read_flash q l) = let c = code 0x03 0x00 tt q in spelled 6 0 (omega arith) ∙ rw (c.0, c.1, high 2, low 2, high 4, low 4)
  head_back k (read_eeprom q l) = let c = code 0x03 0x02 tt q in spelled 6 0 (omega arith) ∙ rw (c.0, c.1, high 2, low 2, high 4, low 4)
  head_back k (blank_check q l) = let c = code 0x03 0x01 tt q in spelled 6 0 (omega arith) ∙ rw (c.0, c.1, high 2, low 2, high 4, low 4)
  head_back k (erase_block b q t l) = let c = code 0x04 0x00 tt q in spelled 3 0 (omega arith) ∙ rw (c.0, c.1, t)
  head_back k (erase_chip q t l) = let c = code 0x04 0x00 tt q in spelled 3 0 (omega arith) ∙ rw (c.0, c.1, t)
  head_back k (write_byte q t l) = let c = code 0x04 0x01 tt q in spelled 4 0 (omega arith) ∙ rw (c.0, c.1)
  head_back k (write_hsb q t l) = let c = code 0x04 0x02 tt q in spelled 4 0 (omega arith) ∙ rw (c.0, c.1, t)
  head_back k (start_reset q t l) = let c = code 0x04 0x03 tt q in spelled 3 0 (omega arith) ∙ rw (c.0, c.1, t)
  head_back k (start_at q t l) = let c = code 0x04 0x03 tt q in spelled 5 0 (omega arith) ∙ rw (c.0, c.1, t, high 3, low 3)
  head_back k (read_version q t l) = let c = code 0x05 0x00 tt q in spelled 3 0 (omega arith) ∙ rw (c.0, c.1, t)
  head_back k (read_byte q t l) = let c = code 0x05 0x01 tt q in spelled 3 0 (omega arith) ∙ rw (c.0, c.1)
  head_back k (read_hsb_lem q t l) = let c = code 0x05 0x02 tt q in spelled 3 0 (omega arith) ∙ rw (c.0, c.1, t)

  -- bytes that are all zero
  zeros_spelled : (n i : ℕ) → ((j : ℕ) → i ≤ j → j < i + n → byte_at p j ≡ 0) → spell n i ≡ zeros n
  unfolding spell
  zeros_spelled zero i h = refl
  zeros_spelled (suc n) i h =
      rw (h i (omega arith) (omega arith), zeros_spelled n (suc i) (λ j a b. h j (omega arith) (omega arith)))

  -- the data is what the writer writes of what the reader read
  record Back (k : Command) : Type 0 where
    right : bad_write k (length (body_at (parts_of k p) p)) (length (suffix_at (parts_of k p) p)) ≡ false
    bytes : command_bytes k (body_at (parts_of k p) p) (suffix_at (parts_of k p) p) ≡ p

  plain_back : (k : Command) → Formed p k → length p ≡ length (head_bytes k)
      → (tail_for k (length (body_at (parts_of k p) p)) (length (suffix_at (parts_of k p) p)) ≡ no_tail)
      → bad_write k (length (body_at (parts_of k p) p)) (length (suffix_at (parts_of k p) p)) ≡ false → Back k
  unfolding command_bytes
  plain_back k f l t w = record {
    right = w;
    bytes = rw t (simp append-nil (sym (head_back k f) ∙ rw (← l) (take-length p)));
  }

  program_back : (k : Command) (a e : ℕ) → Carries k a e → Formed p k → Passed p k → ZeroPadded a p → Back k
  unfolding command_bytes
  program_back k a e c f q z =
      let total = right_length (padding a) (count a e) p (rw c.transfer at q.length_right) in
      let n : suffix_place (padding a) (count a e) - body_place (padding a) ≡ count a e = omega arith in
      let fill : ℕ = filler_size + padding a in
      let d : List ℕ = take (count a e) (drop (body_place (padding a)) p) in
      let t : List ℕ = drop (suffix_place (padding a) (count a e)) p in
      let ld : length d ≡ count a e = length-take-le (count a e) (drop (body_place (padding a)) p) (simp length-drop (omega arith)) in
      let ls : length t ≡ suffix_size = simp length-drop (omega arith) in
      let filled : take fill (drop 6 p) ≡ zeros fill = spelled fill 6 (omega arith) ∙ zeros_spelled fill 6 (λ j a b. z j a (omega arith)) in
      let place : 6 + fill ≡ body_place (padding a) = omega arith in
      let head : take 6 p ≡ head_bytes k = ap (λ i. take i p) (sym c.six) ∙ head_back k f in
      let start : head_bytes k ++ zeros fill ≡ take (body_place (padding a)) p = rw (← head, ← filled, ← place) (sym (take-add 6 fill p)) in
      record {
        right = rw (c.checked, c.transfer, n, eq-eqb (length d) (count a e) ld, eq-eqb (length t) suffix_size ls);
        bytes =
            rw (c.transfer, n, take-length d, take-length t, start, ← take-add (body_place (padding a)) (count a e) p)
            (take-append-drop (suffix_place (padding a) (count a e)) p);
      }

  back : (k : Command) → Formed p k → Passed p k → ZeroFilled k p → Back k
  unfolding head_bytes
  back k (program_flash_lem q l) u z = program_back k _ _ (carries_flash _ _) (program_flash_lem q l) u z
  back k (program_eeprom_lem q l) u z = program_back k _ _ (carries_eeprom _ _) (program_eeprom_lem q l) u z
  back k (read_flash q l) u z = plain_back k (read_flash q l) l refl refl
  back k (read_eeprom q l) u z = plain_back k (read_eeprom q l) l refl refl
  back k (blank_check q l) u z = plain_back k (blank_check q l) l refl refl
  back k (erase_block b q t l) u z = plain_back k (erase_block b q t l) l refl refl
  back k (erase_chip q t l) u z = plain_back k (erase_chip q t l) l refl refl
  back k (write_byte q t l) u z = plain_back k (write_byte q t l) l refl (rw t)
  back k (write_hsb q t l) u z = plain_back k (write_hsb q t l) l refl refl
  back k (start_reset q t l) u z = plain_back k (start_reset q t l) l refl refl
  back k (start_at q t l) u z = plain_back k (start_at q t l) l refl refl
  back k (read_version q t l) u z = plain_back k (read_version q t l) l refl refl
  back k (read_byte q t l) u z = plain_back k (read_byte q t l) l refl (rw t)
  back k (read_hsb_lem q t l) u z = plain_back k (read_hsb_lem q t l) l refl refl

-- what the writer answers, when nothing is wrong
wrote : (k : Command) (d s room p : List ℕ) → bad_address k ≡ false → bad_write k (length d) (length s) ≡ false → command_bytes k d s ≡ p
    → length p ≤ length room
    → (write_command k d s room ≡ Ok (length p)) × (take (length p) (room_after k d s room) ≡ p)
unfolding write_command room_after put_answer put_room
wrote k d s room p a w q h =
    let enough = le-ltb (length room) (length p) h in (
      rw (a, w, q, enough),
      rw (a, w, q, enough) (ap (take (length p)) (overlay_front p room) ∙ take_at p (drop (length p) room) (length p) refl),
    )

pub writes_back : WritesBack
writes_back p k each q z room h =
    let u = passed p k q in
    let e = back p each k (formed p k u.formed) u z in
    let w = wrote k (body_at (parts_of k p) p) (suffix_at (parts_of k p) p) room p u.address_right e.right e.bytes h in
    record { answer = w.0; bytes = w.1 }
