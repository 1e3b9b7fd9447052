-- Bytes read to a room behind those that were read before, and what the reader has given then: for each program that reads.
-- Assumes nothing.
use Rattle.std.proofs.Common.{◌≡◌, ℕ, ◌+◌, ◌-◌, ◌≤◌, List, ◌++◌, length, take, ap, subst, ◌∙◌, arith, length-take-le}
use lib.ListN.{length-append}
use lib.Seq.{take-append-add, take-append-le}
use borrow.Rule.Slice.PartMut.{put_mid, post_of}
use Rattle.std.specs.declared.option.Option.{Option}
use Rattle.std.specs.Io.KnownBytes.{Consumes}
use Rattle.std.proofs.KnownBytes.{Consumes-trans}

module _ (k n : ℕ) (room part : List ℕ) (h : k ≤ length room) (i : n ≤ length part) where
  post : List ℕ
  post = post_of k (length room - k) room

  pub within : k + n ≤ length (put_mid k (length room - k) room part)
  unfolding post
  within = omega (arith, length-append (take k room) (part ++ post), length-append part post, length-take-le k room h, i)

  front : take (k + n) (put_mid k (length room - k) room part) ≡ take k room ++ take n part
  unfolding post
  front =
      subst (λ (m : ℕ). take (m + n) (take k room ++ (part ++ post)) ≡ take k room ++ take n (part ++ post)) (length-take-le k room h)
      (take-append-add (take k room) (part ++ post) n)
      ∙ ap (λ (t : List ℕ). take k room ++ t) (take-append-le n part post i)

  pub given : (old a b : Option (List ℕ)) → Consumes old a (take k room) → Consumes a b (take n part)
      → Consumes old b (take (k + n) (put_mid k (length room - k) room part))
  given old a b p q = rw front (Consumes-trans old a b _ _ p q)
