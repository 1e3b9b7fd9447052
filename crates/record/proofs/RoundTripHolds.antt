-- The statements of specs/RoundTrip.antt hold.
-- Assumes nothing.
use Rattle.std.specs.Prelude.{if◌then◌else◌, Ok, Err}
use mathlib.Core.Path.{◌≡◌, refl, sym, ap, ◌∙◌, subst}
use mathlib.Core.Bool.{Bool, true, false, ◌&&◌}
use mathlib.Core.List.{List, [], ◌∷◌, ◌++◌}
use Prim.Native.Nat.{ℕ, suc, ◌+◌, ◌*◌, ◌/◌, ◌%◌, ◌≤◌, ◌<◌, zero-le}
use native.Mathlib.Omega.{arith}
use lib.Dec.{eqb, ltb}
use lib.ListN.{length, take, drop, length-append, length-drop}
use lib.Seq.{take_at, take_all, drop-cons, length-take-le, take-suc, get_or-drop}
use borrow.Author.Tests.{eqb-true, eq-eqb, ltb-false, le-ltb}
use Rattle.words.specs.Words.{byte_at, high_first, overlay}
use Rattle.words.proofs.WordsLaws.{overlay_front}
use Rattle.lines.proofs.TextLaws.{length_hex_bytes}
use Rattle.record.specs.Digits.{all_digits}
use Rattle.record.specs.Record.{record_mark, head_size, most_data, character_count, sum, checksum, summed_bytes, record_over, record_of, bytes_of, data_of}
use Rattle.record.specs.Reader.{Fields, Reading, WrongChecksum, BadRecord, length_field, well_formed, sums_to_zero, fields_of, reading}
use Rattle.record.specs.Reader.{data_read, read_record, room_read}
use Rattle.record.specs.Writer.{Written, write_record, room_written}
use Rattle.record.specs.declared.writer.WriteError.TheVariants as W
use Rattle.record.specs.RoundTrip.{Bytes, Writable, fields, ReadsAs, ReadsBack, capitals, WritesAs, WritesBack}
use Rattle.record.proofs.DigitsLaws.{and_true, length_pairs, pairs_bytes}
use Rattle.record.proofs.RecordLaws.{sum_append, checksum_is, checksum_zero}
use Rattle.record.proofs.HexLaws.{bytes_cons, bytes_append, pairs_hex_bytes, digits_hex_bytes, hex_bytes_pairs, length_capitals}

-- ---- what was written

was_written : (t u : Bool) (d room bytes : List ℕ) (n : ℕ) → ltb most_data (length d) ≡ t
    → (let r : Written = if t then Err W.BadRecord else if u then Err W.TooShort else Ok (length bytes) in r ≡ Ok n)
    → (length d ≤ most_data) × (take n (if t then room else if u then room else overlay 0 bytes room) ≡ bytes)
was_written true u d room bytes n e q = absurd (let z : ◌≡◌ {A = ℕ} 0 1 = cc in omega arith)
was_written false true d room bytes n e q = absurd (let z : ◌≡◌ {A = ℕ} 0 1 = cc in omega arith)
was_written false false d room bytes n e q =
    let l : length bytes ≡ n = cc in
    (ltb-false most_data (length d) e, ap (take n) (overlay_front bytes room) ∙ take_at bytes (drop (length bytes) room) n l)

-- ---- reading what was written

-- as many bytes as the first of them says
written_well : (bs : List ℕ) → Bytes bs → length bs ≡ 5 + byte_at bs 0 → well_formed (record_over bs) ≡ true
written_well bs each l =
    rw (digits_hex_bytes bs each, pairs_hex_bytes bs each)
    (eq-eqb (length (record_over bs)) (character_count (byte_at bs 0)) (omega (arith, length_hex_bytes bs)))

module _ (offset kind : ℕ) (d : List ℕ) (w : Writable offset kind d) (short : length d ≤ most_data) where
  summed : List ℕ
  summed = summed_bytes offset kind d

  bytes : List ℕ
  bytes = summed ++ checksum summed ∷ []

  each : Bytes bytes
  unfolding bytes summed
  each =
      let h : offset / 256 < 256 = omega (arith, w.offset_fits) in
      let after-offset = bytes_cons kind d w.kind_fits w.data_fits in
      let after-length = bytes_cons (offset / 256) (offset % 256 ∷ kind ∷ d) h (bytes_cons (offset % 256) (kind ∷ d) (omega arith) after-offset) in
      bytes_append (summed_bytes offset kind d) (checksum (summed_bytes offset kind d) ∷ [])
      (bytes_cons (length d) (offset / 256 ∷ offset % 256 ∷ kind ∷ d) (omega arith) after-length)
      (bytes_cons (checksum (summed_bytes offset kind d)) [] (omega arith) (λ i. omega arith))

  bytes_back : bytes_of (record_of offset kind d) ≡ bytes
  unfolding record_of bytes summed
  bytes_back = pairs_hex_bytes bytes each

  well_formed_lem : well_formed (record_of offset kind d) ≡ true
  unfolding record_of bytes summed
  well_formed_lem = written_well bytes each (simp length-append (omega arith))

  sums : sums_to_zero (record_of offset kind d) ≡ true
  unfolding bytes
  sums = rw bytes_back (eq-eqb (sum bytes % 256) 0 (checksum_zero summed))

  fields_back : fields_of (record_of offset kind d) ≡ fields offset kind (length d)
  unfolding bytes summed
  fields_back =
      let o : offset / 256 * 256 + offset % 256 ≡ offset = omega arith in
      rw (bytes_back, o)

  data_back : data_of (record_of offset kind d) (length d) ≡ d
  unfolding bytes summed
  data_back = rw bytes_back (take_at d (checksum (summed_bytes offset kind d) ∷ []) (length d) refl)

  pub reads : ReadsAs (record_of offset kind d) offset kind d
  unfolding reading
  reads = record { fields_read = rw (well_formed_lem, sums) (ap Ok fields_back); data_read_lem = data_back }

pub reads_back : ReadsBack
unfolding write_record room_written
reads_back offset kind d room n w q =
    let p = was_written (ltb most_data (length d)) (ltb (length room) (length (record_of offset kind d))) d room (record_of offset kind d) n refl q in
    subst (λ cs. ReadsAs cs offset kind d) (sym p.1) (reads offset kind d w p.0)

-- ---- what was read

was_read : (t u : Bool) (g f : Fields) → (let r : Reading = if t then (if u then Ok g else Err WrongChecksum) else Err BadRecord in r ≡ Ok f)
    → (t ≡ true) × (u ≡ true) × (g ≡ f)
was_read true true g f q = (refl, refl, cc)
was_read true false g f q = absurd (let z : ◌≡◌ {A = ℕ} 0 1 = cc in omega arith)
was_read false u g f q = absurd (let z : ◌≡◌ {A = ℕ} 0 1 = cc in omega arith)

record Was (cs : List ℕ) (f : Fields) : Type 0 where
  marked : byte_at cs 0 ≡ record_mark
  digits : all_digits (drop 1 cs) ≡ true
  counted : length cs ≡ character_count (length_field cs)
  zero_sum : sum (bytes_of cs) % 256 ≡ 0
  fields_are : fields_of cs ≡ f

was : (cs : List ℕ) (f : Fields) → reading cs ≡ Ok f → Was cs f
unfolding reading
was cs f q =
    let r = was_read (well_formed cs) (sums_to_zero cs) (fields_of cs) f q in
    let a = and_true (eqb (byte_at cs 0) record_mark && all_digits (drop 1 cs)) (eqb (length cs) (character_count (length_field cs))) r.0 in
    let b = and_true (eqb (byte_at cs 0) record_mark) (all_digits (drop 1 cs)) a.0 in
    record {
      marked = eqb-true (byte_at cs 0) record_mark b.0;
      digits = b.1;
      counted = eqb-true (length cs) (character_count (length_field cs)) a.1;
      zero_sum = eqb-true (sum (bytes_of cs) % 256) 0 r.1;
      fields_are = r.2;
    }

-- ---- writing what was read

-- the first four bytes, one by one; and all bytes but the last
spelled : (b : List ℕ) → 4 ≤ length b → b ≡ byte_at b 0 ∷ byte_at b 1 ∷ byte_at b 2 ∷ byte_at b 3 ∷ drop 4 b
spelled b h =
    drop-cons b 0 0 (omega arith)
    ∙ ap (λ l. byte_at b 0 ∷ l) (drop-cons b 1 0 (omega arith))
    ∙ ap (λ l. byte_at b 0 ∷ byte_at b 1 ∷ l) (drop-cons b 2 0 (omega arith))
    ∙ ap (λ l. byte_at b 0 ∷ byte_at b 1 ∷ byte_at b 2 ∷ l) (drop-cons b 3 0 (omega arith))

but_last : (l : List ℕ) (n : ℕ) → length l ≡ suc n → l ≡ take n l ++ byte_at l n ∷ []
but_last l n h = sym (take_all (suc n) l (omega arith)) ∙ take-suc l n 0 (omega arith)

-- bytes b that sum to zero, of which the first says how many bytes of data d stand before the last
module _ (b : List ℕ) (each : Bytes b) (n : ℕ) (l : length b ≡ 5 + n) (first : byte_at b 0 ≡ n) (zero_sum : sum b % 256 ≡ 0)
    (d : List ℕ) (body : d ≡ take n (drop head_size b)) where
  length_d : length d ≡ n
  length_d = ap length body ∙ length-take-le n (drop head_size b) (simp length-drop (omega arith))

  last : ℕ
  last = byte_at (drop head_size b) n

  parts : b ≡ summed_bytes (high_first b 1) (byte_at b 3) d ++ last ∷ []
  unfolding last
  parts =
      let high : high_first b 1 / 256 ≡ byte_at b 1 = omega (arith, each 2) in
      let low : high_first b 1 % 256 ≡ byte_at b 2 = omega (arith, each 2) in
      spelled b (omega arith)
      ∙ ap (λ t. byte_at b 0 ∷ byte_at b 1 ∷ byte_at b 2 ∷ byte_at b 3 ∷ t) (but_last (drop head_size b) n (simp length-drop (omega arith)))
      ∙ rw (high, low, length_d, first, body)

  last_is : last ≡ checksum (summed_bytes (high_first b 1) (byte_at b 3) d)
  unfolding last
  last_is = checksum_is last (summed_bytes (high_first b 1) (byte_at b 3) d) (rw get_or-drop (each (head_size + n)))
      (omega (arith, ap sum parts, sum_append (summed_bytes (high_first b 1) (byte_at b 3) d) (last ∷ [])))

  record_back : record_of (high_first b 1) (byte_at b 3) d ≡ record_over b
  unfolding record_of
  record_back =
      ap (λ k. record_over (summed_bytes (high_first b 1) (byte_at b 3) d ++ k ∷ [])) (sym last_is) ∙ ap record_over (sym parts)

module _ (cs : List ℕ) (f : Fields) (w : Was cs f) where
  each_read : Bytes (bytes_of cs)
  each_read = pairs_bytes (drop 1 cs) w.digits

  length_bytes : length (bytes_of cs) ≡ 5 + length_field cs
  length_bytes = length_pairs (drop 1 cs) ∙ rw length-drop (omega (arith, w.counted))

  capitals_back : record_over (bytes_of cs) ≡ capitals cs
  capitals_back =
      let digits = hex_bytes_pairs (drop 1 cs) w.digits (rw length-drop (omega (arith, w.counted))) in
      let whole : cs ≡ record_mark ∷ drop 1 cs = drop-cons cs 0 0 (omega (arith, w.counted)) ∙ ap (λ m. m ∷ drop 1 cs) w.marked in
      ap (λ t. record_mark ∷ t) digits ∙ ap capitals (sym whole)

  written_back : record_of (high_first (bytes_of cs) 1) (byte_at (bytes_of cs) 3) (data_of cs (length_field cs)) ≡ capitals cs
  written_back = record_back (bytes_of cs) each_read (length_field cs) length_bytes refl w.zero_sum (data_of cs (length_field cs)) refl ∙ capitals_back

-- what the writer answers where it does not refuse
wrote : (offset kind : ℕ) (d room cs : List ℕ) → length d ≤ most_data → record_of offset kind d ≡ capitals cs → length cs ≤ length room
    → (write_record offset kind d room ≡ Ok (length cs)) × (take (length cs) (room_written offset kind d room) ≡ capitals cs)
unfolding write_record room_written
wrote offset kind d room cs h q le =
    let l = length_capitals cs in
    let t = le-ltb most_data (length d) h in
    let u = le-ltb (length room) (length (capitals cs)) (omega arith) in (
      rw (t, q, u, l),
      rw (t, q, u) (ap (take (length cs)) (overlay_front (capitals cs) room) ∙ take_at (capitals cs) (drop (length (capitals cs)) room) (length cs) l),
    )

-- a record that was read has as many bytes of data as it says, and no more than a record can have
sized : (cs : List ℕ) (f : Fields) → Was cs f → (length (data_of cs (length_field cs)) ≡ length_field cs) × (length_field cs ≤ most_data)
sized cs f w =
    let short = each_read cs f w 0 in
    (length_d (bytes_of cs) (each_read cs f w) (length_field cs) (length_bytes cs f w) refl w.zero_sum (data_of cs (length_field cs)) refl, omega arith)

pub data_size : (cs : List ℕ) (f : Fields) → reading cs ≡ Ok f → (length (data_of cs f.length) ≡ f.length) × (f.length ≤ most_data)
data_size cs f q =
    let w = was cs f q in
    subst (λ g. (length (data_of cs g.length) ≡ g.length) × (g.length ≤ most_data)) w.fields_are (sized cs f w)

pub writes_back : WritesBack
writes_back cs f q room h =
    let w = was cs f q in
    let z = sized cs f w in
    let r = wrote (high_first (bytes_of cs) 1) (byte_at (bytes_of cs) 3) (data_of cs (length_field cs)) room cs (omega arith) (written_back cs f w) h in
    subst (λ g. WritesAs cs g room) w.fields_are (record { answer = r.0; characters = r.1 })

-- ---- a room that takes the data of every record

data_short : (cs : List ℕ) (r : Reading) → reading cs ≡ r → length (data_read r cs) ≤ most_data
data_short cs (Ok f) q = let z = data_size cs f q in omega arith
data_short cs (Err e) q = zero-le

pub read_whole : (cs room : List ℕ) → most_data ≤ length room
    → (read_record cs room ≡ reading cs) × (room_read cs room ≡ overlay 0 (data_read (reading cs) cs) room)
unfolding read_record room_read
read_whole cs room h =
    let short = data_short cs (reading cs) refl in
    let t = le-ltb (length room) (length (data_read (reading cs) cs)) (omega arith) in
    (rw t, rw t)
