-- `listing::line::line_end` meets its contract: the first line feed from the place on.
-- Assumes nothing.
use Rattle.std.specs.Prelude.{Option, Some, None, cond}
use Rattle.std.specs.List.{position_or_len}
use Rattle.std.proofs.Common.{◌≡◌, List, ℕ, ◌+◌, ◌-◌, ◌≤◌, Bool, true, false, length, take, drop, arith, rules, tests, sym, ◌∙◌, refl, length-drop, nat_eq}
use Rattle.std.proofs.lemmas.Iterator.{YieldsList-from_slice}
use Rattle.std.proofs.lemmas.Iterator.Search.{position_from_yields_List}
use Rattle.std.proofs.lemmas.List.{take_all}
use Rattle.std.proofs.lemmas.List.Recursion.{is_position_or_len}
use lib.Dec.{ltb}
use borrow.Author.Tests.{ltb-false}
use Rattle.listing.specs.Line.{index_of, index_after, line_feed, line_end}
use Rattle.listing.proofs.LineLaws.{index_le}
use Rattle.listing.proofs.line.line_end.Goals as goal

after : (t : Bool) (k : ℕ) → index_after t k ≡ cond t 0 (1 + k)
after true k = refl
after false k = omega arith

is_first : (l : List ℕ) → index_of line_feed l ≡ position_or_len (λ b. nat_eq b line_feed) l
unfolding index_of
is_first l = is_position_or_len (index_of line_feed) (λ b. nat_eq b line_feed) refl (λ x xs. after (nat_eq x line_feed) (index_of line_feed xs)) l

-- what the search answers of a list whose first line feed stands at k
answered_some : (t : Bool) (k n : ℕ) → Some n ≡ cond t (Some k) None → n ≡ k
answered_some true k n e = cc
answered_some false k n e = cc

answered_none : (t : Bool) (k : ℕ) → None ≡ cond t (Some k) None → t ≡ false
answered_none true k e = cc
answered_none false k e = refl

module _ (file : List ℕ) (at : ℕ) (found : Option ℕ)
    (e : found
    ≡ cond (ltb (position_or_len (λ b. nat_eq b line_feed) (take (length file - at) (drop at file))) (length (take (length file - at) (drop at file))))
    (Some (position_or_len (λ b. nat_eq b line_feed) (take (length file - at) (drop at file)))) None) where
  abbrev place : ℕ
  place = index_of line_feed (drop at file)

  of_rest : found ≡ cond (ltb place (length (drop at file))) (Some place) None
  of_rest = rw (is_first (drop at file), ← take_all (length file - at) (drop at file) (omega (arith, length-drop at file))) e

  some_there : (n : ℕ) → Some n ≡ found → at + n ≡ line_end file at
  some_there n q = omega (arith, answered_some _ _ _ (q ∙ of_rest))

  none_there : at ≤ length file → None ≡ found → length file ≡ line_end file at
  none_there h q = omega (arith, ltb-false _ _ (answered_none _ _ (q ∙ of_rest)), index_le line_feed (drop at file), length-drop at file)

pub returns-in-Some-clause-value : goal.returns-in-Some-clause-value
returns-in-Some-clause-value c =
    some_there _ _ _
    (position_from_yields_List (λ b. nat_eq b line_feed) _ _ c.position.result c.position.ensures.ran (YieldsList-from_slice _ c.iter.ensures.rest)
    (λ x b q k. search (rules, tests)))
    c.in-Some.n (sym c.in-Some.is)

pub returns-in-None-clause-value : goal.returns-in-None-clause-value
returns-in-None-clause-value c =
    none_there _ _ _
    (position_from_yields_List (λ b. nat_eq b line_feed) _ _ c.position.result c.position.ensures.ran (YieldsList-from_slice _ c.iter.ensures.rest)
    (λ x b q k. search (rules, tests)))
    c.requires (sym c.in-None.is)
