-- One permitted answer: of an input whose bytes are known, any two counts that meet the contract of `read_full`, with the rooms after them,
-- tell the same bytes. `read_full.Post` is the contract as its code states it.
-- Assumes nothing.
use Rattle.std.proofs.Common.{◌≡◌, ℕ, ◌+◌, ◌≤◌, ◌<◌, min, List, ◌++◌, length, take, sym, subst, ap, ◌∙◌, arith, length-append, length-take-le}
use Rattle.std.specs.Prelude.{Some, None, Ok}
use Rattle.std.specs.declared.option.Option.{Option}
use Rattle.std.specs.Io.KnownBytes.{Consumes, IsAtEnd}
use lib.Seq.{take-append_seam}
use Rattle.input.proofs.read_full.Reads as read_full

-- a room is filled as far as the known bytes go
filled : (old new : Option (List ℕ)) (bs room : List ℕ) (n : ℕ) → old ≡ Some bs → n ≤ length room → Consumes old new (take n room)
    → (n < length room → IsAtEnd new)
    → (n ≡ min (length bs) (length room)) × (take n room ≡ take n bs)
filled (Some xs) (Some rest) bs room n o h c e =
    let size : length (take n room) ≡ n = length-take-le n room h in
    let same : xs ≡ bs = cc in
    let whole : bs ≡ take n room ++ rest = sym same ∙ c in
    let end : n < length room → length rest ≡ 0 = λ l. ap length (e l) in
    let sum : length bs ≡ n + length rest = ap length whole ∙ length-append (take n room) rest ∙ ap (λ k. k + length rest) size in (
      grind (arith, end, sum, h),
      sym (ap (take n) whole ∙ subst (λ (k : ℕ). take k (take n room ++ rest) ≡ take n room) size (take-append_seam (take n room) rest)),
    )
filled (Some xs) None bs room n o h c e = absurd c
filled None new bs room n o h c e = cc

pub of_read_full : (g : _) (κs : _) (read : _) (y : _) (w : _) (a : _) (n n' : ℕ) (s s' : _) (bs : List ℕ)
    → read_full.Post g κs read y w a (Ok n) s → read_full.Post g κs read y w a (Ok n') s'
    → read.remaining a.0.now ≡ Some bs → length s.1.0.now ≡ length s'.1.0.now
    → (n ≡ n') × (take n s.1.0.now ≡ take n' s'.1.0.now)
of_read_full g κs read y w a n n' s s' bs p q o l =
    let one = filled _ _ bs _ n o p.0 p.1.0 p.1.1 in
    let other = filled _ _ bs _ n' o q.0 q.1.0 q.1.1 in
    let count : n ≡ n' = omega (arith, one.0, other.0, l) in
    (count, one.1 ∙ ap (λ (k : ℕ). take k bs) count ∙ sym other.1)
