-- `memory::erase::erase_pages` meets its contract.
-- Assumes nothing.
use Rattle.std.proofs.Common.{◌≡◌, ℕ, ◌-◌, ◌*◌, ◌≤◌, ◌<◌, ◌∙◌, length, take, drop, replicate, List, arith, sym, ap}
use lib.ListN.{length-replicate}
use Rattle.words.specs.Words.{overlay}
use Rattle.std.proofs.lemmas.List.{take-replicate, drop-replicate}
use Rattle.memory.specs.Memory.{page_size}
use Rattle.memory.specs.Pages.{page_of}
use Rattle.memory.proofs.PagesLaws.{Stored, stored_more, stored_all}
use Rattle.memory.proofs.erase.erase_pages.Goals as goal

-- so many bytes FFh
abbrev blanks : ℕ → List ℕ
blanks n = replicate n 0xFF

enough : (n : ℕ) → n ≤ length (blanks n)
enough n = omega (arith, length-replicate {A = ℕ} n 0xFF)

-- a blank page is each page of the bytes that are to be stored
page_blank : (n count : ℕ) → n < count → take page_size (blanks page_size) ≡ page_of n (blanks (page_size * count))
page_blank n count h =
    let less : page_size * count - page_size * n ≡ page_size * (count - n) = omega arith in
    let after : drop (page_size * n) (blanks (page_size * count)) ≡ blanks (page_size * (count - n))
    = drop-replicate (page_size * n) (page_size * count) 0xFF ∙ ap blanks less in
    take-replicate page_size page_size 0xFF (omega arith)
    ∙ sym (ap (take page_size) after ∙ take-replicate page_size (page_size * (count - n)) 0xFF (omega arith))

-- all the pages
ended : (first count : ℕ) (m₀ m : List ℕ) (n : ℕ) → Stored first count (blanks (page_size * count)) m₀ m n → count ≤ n
    → m ≡ overlay (page_size * first) (blanks (page_size * count)) m₀
ended first count m₀ m n s h =
    let size : ℕ = page_size * count in
    (stored_all first count (blanks size) m₀ m n s h).1 ∙ ap (λ d. overlay (page_size * first) d m₀) (take-replicate size size 0xFF (omega arith))

pub loop-n-preserved : goal.loop-n-preserved
loop-n-preserved c =
    let its = page_blank _ _ c.loop-n-test.true in
    stored_more _ _ _ _ _ _ c.loop-n.invariant c.loop-n-test.true c.requires.0 (enough _) _ _ c.page_after.ensures its _ c.store_whole.ensures

pub returns : goal.returns
returns c = ended _ _ _ _ _ c.loop-n.invariant c.loop-n-test.false
