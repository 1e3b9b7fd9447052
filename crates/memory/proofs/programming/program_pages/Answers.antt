-- `memory::programming::program_pages` meets its contract: a part of the first page, whole pages and a part of the last, laid one
-- after another, are the bytes laid over the flash.
-- Assumes nothing.
use Rattle.std.proofs.Common.{◌≡◌, ◌+◌, ◌-◌, ◌*◌, ◌/◌, ◌%◌, ◌≤◌, ◌<◌, min, length, take, drop, ℕ, List, ap, ◌∙◌, arith, length-drop}
use Rattle.std.proofs.Math.Seq.{length-take-le, take_all}
use Rattle.words.specs.Words.{overlay}
use Rattle.words.proofs.WordsLaws.{overlay_more, overlay_place}
use Rattle.memory.specs.Memory.{page_size}
use Rattle.memory.proofs.programming.program_pages.Goals as goal

-- the bytes d for a memory from a on: h of them to the first page's end, whole pages up to t, and the rest
module _ (a : ℕ) (d m₀ : List ℕ) (h : ℕ) (any : 0 < length d) (fits : a + length d ≤ length m₀)
    (head : h ≡ min ((page_size - a % page_size) % page_size) (length d)) where
  abbrev whole : ℕ
  whole = (length d - h) / page_size

  abbrev t : ℕ
  t = h + page_size * whole

  abbrev rest : List ℕ
  rest = take (length d - t) (drop t d)

  length_rest : length rest ≡ length d - t
  length_rest = length-take-le (length d - t) (drop t d) (simp length-drop (omega arith))

  -- where bytes are left, a page begins
  aligned : h < length d → (a + h) % page_size ≡ 0
  aligned more = omega arith

  at_pages : 0 < length (take (page_size * whole) (drop h d)) → page_size * ((a + h) / page_size) ≡ a + h
  at_pages any_whole =
      let l : length (take (page_size * whole) (drop h d)) ≡ page_size * whole
      = length-take-le (page_size * whole) (drop h d) (simp length-drop (omega arith)) in
      let more : h < length d = omega arith in
      omega (arith, aligned more)

  at_rest : (p : ℕ) → p ≡ (a + h) / page_size + whole → 0 < length rest → page_size * p + 0 ≡ a + t
  at_rest p e any_rest =
      let more : h < length d = omega (arith, length_rest) in
      omega (arith, aligned more)

  all_laid : (p : ℕ) (m₁ m₂ m₃ : List ℕ) → p ≡ (a + h) / page_size + whole → m₁ ≡ overlay (page_size * (a / page_size) + a % page_size) (take h d) m₀
      → m₂ ≡ overlay (page_size * ((a + h) / page_size)) (take (page_size * whole) (drop h d)) m₁ → m₃ ≡ overlay (page_size * p + 0) rest m₂
      → m₃ ≡ overlay a d m₀
  all_laid p m₁ m₂ m₃ e q₁ q₂ q₃ =
      let place : page_size * (a / page_size) + a % page_size ≡ a = omega arith in
      let e₁ : m₁ ≡ overlay a (take h d) m₀ = rw place at q₁ in
      let e₂ : m₂ ≡ overlay a (take t d) m₀
      = q₂
      ∙ overlay_place (page_size * ((a + h) / page_size)) (a + h) (take (page_size * whole) (drop h d)) m₁ at_pages
      ∙ ap (overlay (a + h) (take (page_size * whole) (drop h d))) e₁
      ∙ overlay_more a h (page_size * whole) d m₀ (omega arith) fits in
      q₃
      ∙ overlay_place (page_size * p + 0) (a + t) rest m₂ (at_rest p e)
      ∙ ap (overlay (a + t) rest) e₂
      ∙ overlay_more a t (length d - t) d m₀ (omega arith) fits
      ∙ ap (λ x. overlay a x m₀) (take_all (t + (length d - t)) d (omega arith))

pub returns-clause-flash_after : goal.returns-clause-flash_after
returns-clause-flash_after c =
    all_laid
    c.from-first.result c.args.bytes.now c.args.flash.now c.min-head.result
    (omega arith) (omega arith) c.min-head.ensures
    _ _ _ _
    c.page_after.ensures c.store_part-front.ensures.flash_after c.store_pages.ensures c.store_part-back.ensures.flash_after
    ∙ ap (λ a. overlay a c.args.bytes.now c.args.flash.now) c.from-first.ensures
