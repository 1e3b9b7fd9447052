-- `memory::page::store_whole` meets its contract: what was held is the page's bytes, and these laid over the flash are the page stored.
-- Assumes nothing.
use native.Mathlib.Nat.{add-zero}
use Rattle.std.proofs.Common.{◌≡◌, ℕ, ◌+◌, ◌-◌, ◌*◌, ◌≤◌, ◌∙◌, length, take, drop, List, append_assoc, arith, length-drop}
use Rattle.std.proofs.Math.Seq.{drop-drop, length-take-le}
use borrow.Rule.Slice.PartMut.{put_mid}
use Rattle.memory.specs.Memory.{Page, page_size}
use Rattle.memory.specs.Pages.{store_all, page_store}
use Rattle.memory.proofs.PagesLaws.{store_all_page_store}
use Rattle.memory.proofs.page.store_whole.Goals as goal

module _ (p : Page) (first from : ℕ) (s m held q : List ℕ) (its : first ≡ page_size * p.0) (there : page_size * p.0 + page_size ≤ length m)
    (enough : from + page_size ≤ length s) where
  abbrev d : List ℕ
  d = take page_size (drop from s)

  length_d : length d ≡ page_size
  length_d = length-take-le page_size (drop from s) (simp length-drop (omega arith))

  stored : held ≡ take (from + page_size - from) (drop from s) → q ≡ held
      → put_mid first (first + page_size - first) m q ≡ store_all (page_store p 0 d m) m
  stored e f =
      let n : from + page_size - from ≡ page_size = omega arith in
      let same : q ≡ d = f ∙ (rw n at e) in
      let within : 0 + length d ≤ page_size = omega (arith, length_d) in
      let place : page_size * p.0 + 0 ≡ page_size * p.0 = add-zero (page_size * p.0) in
      let size : page_size * p.0 + page_size - page_size * p.0 ≡ page_size = omega arith in
      rw (its, store_all_page_store p 0 d m within there, place, same, length_d, size) (simp (drop-drop, append_assoc))

pub returns : goal.returns
returns c = stored _ _ _ _ _ _ _ (omega arith) c.requires.0 c.requires.1 c.copy_from_slice.ensures.after c.copy_from_slice-2.ensures.after
