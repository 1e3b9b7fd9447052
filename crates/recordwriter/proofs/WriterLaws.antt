-- Laws of the record writer: its parts, one after another, are the record; and its answer.
-- Assumes nothing.
use Rattle.std.specs.Prelude.{Ok}
use Rattle.std.proofs.Common.{◌≡◌, ℕ, ◌+◌, ◌%◌, ◌<◌, ◌≤◌, List, [], ◌∷◌, ◌++◌, length, ap, ◌∙◌, arith, le-ltb}
use Rattle.words.specs.Words.{laid}
use Rattle.lines.specs.Text.{hex_bytes}
use Rattle.lines.specs.Room.{Stands}
use Rattle.lines.proofs.RoomLaws.{laid_stands, joined}
use Rattle.lines.proofs.TextLaws.{length_hex_bytes, hex_bytes_append}
use Rattle.record.specs.Record.{record_mark, head_size, most_data, character_count, sum, checksum, head_bytes, summed_bytes, record_over, record_of}
use Rattle.record.specs.Writer.{Written, write_record, room_written}
use Rattle.record.proofs.RecordLaws.{sum_append, checksum_is}

-- the head h, the data d and the byte k after them, put behind the mark in a room that is long enough
module _ (h d room m₁ : List ℕ) (k : ℕ) (lh : length h ≡ head_size) (fits : character_count (length d) ≤ length room)
    (q : m₁ ≡ laid 0 (record_mark ∷ []) room) where
  begun : Stands 0 (record_mark ∷ []) room 1 m₁
  begun = laid_stands 0 (record_mark ∷ []) room m₁ (omega arith) q

  pub head_fits : 1 + length (hex_bytes h) ≤ length m₁
  head_fits = omega (arith, length_hex_bytes h, begun.same_size)

  module _ (body : ℕ) (m₂ : List ℕ) (s : Stands 1 (hex_bytes h) m₁ body m₂) where
    pub data_fits : body + length (hex_bytes d) ≤ length m₂
    data_fits = omega (arith, length_hex_bytes h, length_hex_bytes d, s.ends, s.same_size, begun.same_size)

    module _ (last : ℕ) (m₃ : List ℕ) (t : Stands body (hex_bytes d) m₂ last m₃) where
      pub checksum_fits : last + length (hex_bytes (k ∷ [])) ≤ length m₃
      checksum_fits = omega (arith, length_hex_bytes h, length_hex_bytes d, s.ends, s.same_size, begun.same_size, t.ends, t.same_size)

      pub all_put : (end : ℕ) (m₄ : List ℕ) → Stands last (hex_bytes (k ∷ [])) m₃ end m₄ → Stands 0 (record_over (h ++ d ++ k ∷ [])) room end m₄
      all_put end m₄ u = rw (hex_bytes_append (h ++ d) (k ∷ []), hex_bytes_append h d) (joined (joined (joined begun s) t) u)

module _ (offset kind : ℕ) (d room : List ℕ) where
  -- an answer and the room after it
  unfoldable pub Answer : Written → List ℕ → Type 0
  Answer r room' = (r ≡ write_record offset kind d room) × (room' ≡ room_written offset kind d room)

  -- the sum of the head, and of the data after it
  summed : (part total : ℕ) → part ≡ (0 + sum (head_bytes offset kind (length d))) % 256 → total ≡ (part + sum d) % 256
      → total ≡ sum (summed_bytes offset kind d) % 256
  summed part total p q = omega (arith, sum_append (head_bytes offset kind (length d)) d)

  -- the record of this head, with the byte k after the data, where k brings the sum to zero
  pub all_written : (head : List ℕ) (part total k n : ℕ) (room' : List ℕ) → head ≡ head_bytes offset kind (length d) → length d ≤ most_data
      → part ≡ (0 + sum head) % 256 → total ≡ (part + sum d) % 256 → k < 256 → (k + total) % 256 ≡ 0
      → Stands 0 (record_over (head ++ d ++ k ∷ [])) room n room' → Answer (Ok n) room'
  unfolding write_record room_written record_of Answer
  all_written head part total k n room' i h p s small z w =
      let all = summed part total (p ∙ ap (λ x. (0 + sum x) % 256) i) s in
      let c : k ≡ checksum (summed_bytes offset kind d) = checksum_is k (summed_bytes offset kind d) small (omega (arith, all)) in
      let r : Stands 0 (record_of offset kind d) room n room' = rw (i, c) at w in
      let t = le-ltb most_data (length d) h in
      let u = le-ltb (length room) (length (record_of offset kind d)) (omega (arith, r.within)) in
      let e : n ≡ length (record_of offset kind d) = omega (arith, r.ends) in
      (rw (t, u) (ap Ok e), rw (t, u) r.text_laid)
