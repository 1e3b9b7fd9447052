-- `writer::write::put` meets its contract: each part is laid right after the one before it.
-- Assumes nothing.
use Rattle.std.specs.Prelude.{Ok, Err}
use mathlib.Core.Path.{◌≡◌, refl, sym, ap, ◌∙◌}
use mathlib.Core.List.{List, [], ◌++◌}
use Prim.Native.Nat.{ℕ, ◌+◌, ◌≤◌, ◌<◌}
use native.Mathlib.Omega.{arith}
use lib.ListN.{length, take, length-append, length-replicate}
use lib.Seq.{length-take-le}
use borrow.Author.Tests.{lt-ltb, le-ltb}
use Rattle.std.proofs.lemmas.List.{take-replicate}
use Rattle.words.specs.Words.{laid}
use Rattle.words.proofs.WordsLaws.{overlay_none, lay_after}
use Rattle.writer.specs.Writer.{Head, Tail, Put, TooShort, zeros, put_bytes, put_answer, put_room}
use Rattle.writer.proofs.write.put.Goals as goal

module _ (h : Head) (t : Tail) (d s room : List ℕ) (p : Put h t d s) where
  end : ℕ
  end = h.size + t.zeros + t.body + t.suffix

  head_length : length (take h.size h.bytes) ≡ h.size
  head_length = length-take-le h.size h.bytes (omega (arith, p))

  zeros_length : length (zeros t.zeros) ≡ t.zeros
  zeros_length = length-replicate {A = ℕ} t.zeros _

  body_length : length (take t.body d) ≡ t.body
  body_length = length-take-le t.body d p.body_fits

  suffix_length : length (take t.suffix s) ≡ t.suffix
  suffix_length = length-take-le t.suffix s p.suffix_fits

  put_length : length (put_bytes h t d s) ≡ end
  unfolding put_bytes end
  put_length = simp (length-append, head_length, zeros_length, body_length, suffix_length)

  no_room : length room < end → (Err TooShort ≡ put_answer (put_bytes h t d s) room) × (room ≡ put_room (put_bytes h t d s) room)
  unfolding put_answer put_room
  no_room k =
      let short = lt-ltb (length room) (length (put_bytes h t d s)) (omega (arith, put_length)) in
      (rw short, rw short)

  all_put : (m₁ m₂ m₃ m₄ : List ℕ) → end ≤ length room → m₁ ≡ laid 0 (take h.size h.bytes) room
      → m₂ ≡ laid h.size (take t.zeros (zeros 57)) m₁ → m₃ ≡ laid (h.size + t.zeros) (take t.body d) m₂
      → m₄ ≡ laid (h.size + t.zeros + t.body) (take t.suffix s) m₃
      → (Ok end ≡ put_answer (put_bytes h t d s) room) × (m₄ ≡ put_room (put_bytes h t d s) room)
  unfolding put_bytes put_answer put_room end
  all_put m₁ m₂ m₃ m₄ k q₁ q₂ q₃ q₄ =
      let x : List ℕ = take h.size h.bytes in
      let y : List ℕ = zeros t.zeros in
      let z : List ℕ = take t.body d in
      let w : List ℕ = take t.suffix s in
      let e₁ = lay_after [] x room room m₁ 0 refl (omega (arith, head_length)) (sym (overlay_none 0 room)) q₁ in
      let e₂ = lay_after x y room m₁ m₂ h.size (sym head_length) (omega (arith, head_length, zeros_length)) e₁
      (q₂ ∙ ap (λ l. laid h.size l m₁) (take-replicate t.zeros 57 _ p.zeros_fit)) in
      let lxy : length (x ++ y) ≡ h.size + t.zeros = simp (length-append, head_length, zeros_length) in
      let e₃ = lay_after (x ++ y) z room m₂ m₃ (h.size + t.zeros) (sym lxy) (omega (arith, lxy, body_length)) e₂ q₃ in
      let lxyz : length (x ++ y ++ z) ≡ h.size + t.zeros + t.body = simp (length-append, head_length, zeros_length, body_length) in
      let e₄ = lay_after (x ++ y ++ z) w room m₃ m₄ (h.size + t.zeros + t.body) (sym lxyz) (omega (arith, lxyz, suffix_length)) e₃ q₄ in
      let room_enough = le-ltb (length room) (length (x ++ y ++ z ++ w)) (omega (arith, put_length)) in
      (rw room_enough (ap Ok (sym put_length)), rw room_enough e₄)

pub returns-then-room-end : goal.returns-then-room-end
unfolding end
returns-then-room-end c =
    let w = no_room _ _ _ _ _ c.requires c.if-room-end.true in
    record { value = w.0; room_after = w.1 }

pub returns : goal.returns
unfolding end
returns c =
    let w = all_put _ _ _ _ _ c.requires _ _ _ _ c.if-room-end.false c.lay.ensures.memory_after c.lay-2.ensures.memory_after
    c.lay-3.ensures.memory_after c.lay-4.ensures.memory_after in
    record { value = w.0; room_after = w.1 }
