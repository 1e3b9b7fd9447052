-- What a judgement tells of a payload, and what the reader answers for it.
-- Assumes nothing.
use Rattle.std.specs.Prelude.{if◌then◌else◌, Option, None, Some, Ok, Err}
use mathlib.Core.Path.{◌≡◌, refl, sym, ap, ◌∙◌, subst}
use mathlib.Core.Bool.{Bool, true, false}
use mathlib.Core.List.{List}
use Prim.Native.Nat.{ℕ}
use lib.ListN.{length}
use native.Mathlib.Omega.{arith}
use Rattle.command.specs.Form.{form}
use Rattle.command.specs.Address.{bad_address}
use Rattle.command.specs.Transfer.{bad_length}
use Rattle.std.specs.Option.{ok_or}
use Rattle.command.specs.declared.reader.Fault.{Fault}
use Rattle.command.specs.declared.reader.Fault.TheVariants.{Stall}
use Rattle.command.specs.Reader.{read_form, read_command, parts_of}
use Rattle.command.specs.declared.command.Command.{Command}
use Rattle.command.specs.declared.reader.Parts.{Parts}
use Rattle.reader.specs.Payload.{Fit, Judgement, BadAddress, WrongLength, fit, judged, judgement, reading}
use Rattle.reader.specs.Payload.{reading_of, ReadAsJudged}

-- two tests, asked in one order by the judge and by the reader's definition
tests : (k : Command) (p : Parts) (t u : Bool) → reading k (if t then Err BadAddress else if u then Err WrongLength else Ok p)
    ≡ (if t then reading k (Err BadAddress) else if u then reading k (Err WrongLength) else reading k (Ok p))
tests k p true u = refl
tests k p false true = refl
tests k p false false = refl

by_form : (o : Option Command) (d : List ℕ) → reading_of (judged o (length d)) ≡ read_form o d
by_form None d = refl
by_form (Some k) d = tests k (parts_of k d) (bad_address k) (bad_length k d)

pub read_judged : ReadAsJudged
unfolding judgement read_command
read_judged = record {
  unlisted = λ d q. rw q;
  listed = λ d k q. rw q;
  bad_address_lem = λ k l a. rw a;
  wrong_length_lem = λ k d a l. rw (a, l);
  fits = λ k d a l. rw (a, l);
  answered = λ k p. refl;
  stalled = λ k. refl;
  told_08h = λ k. refl;
  read = λ d. by_form (form d) d;
}

-- the reader's answer to a payload that is judged so, and to one that is no command
pub read_as : (d : List ℕ) (j : Judgement) → judgement d ≡ j → reading_of j ≡ read_command d
read_as d j q = ap reading_of (sym q) ∙ read_judged.read d

pub stalled : (d : List ℕ) (j : Judgement) (f : Fault) → judgement d ≡ j → ok_or j Stall ≡ Err f → Err f ≡ read_command d
stalled d None f q e = let same : f ≡ Stall = cc in rw same (read_as d None q)
stalled d (Some j) f q e = absurd (let z : ◌≡◌ {A = ℕ} 0 1 = cc in omega arith)

-- what a judgement tells of the form
is_of : (o : Option Command) (k : Command) (x : Fit) (l : ℕ) → judged o l ≡ Some (k, x) → (o ≡ Some k) × (fit k l ≡ x)
is_of None k x l q = absurd (let z : ◌≡◌ {A = ℕ} 0 1 = cc in omega arith)
is_of (Some j) k x l q =
    let both : ◌≡◌ {A = Command × Fit} (j, fit j l) (k, x) = cc in
    let same : j ≡ k = ap (λ (y : Command × Fit). y.0) both in
    let told : fit j l ≡ x = ap (λ (y : Command × Fit). y.1) both in
    (ap Some same, rw same at told)

none_of : (o : Option Command) (l : ℕ) → judged o l ≡ None → o ≡ None
none_of None l q = refl
none_of (Some j) l q = absurd (let z : ◌≡◌ {A = ℕ} 0 1 = cc in omega arith)

pub judged_is : (d : List ℕ) (k : Command) (x : Fit) → judgement d ≡ Some (k, x) → (form d ≡ Some k) × (fit k (length d) ≡ x)
unfolding judgement
judged_is d k x q = is_of (form d) k x (length d) q

pub judged_unlisted : (d : List ℕ) → judgement d ≡ None → form d ≡ None
unfolding judgement
judged_unlisted d q = none_of (form d) (length d) q

-- what a fit tells of address, length and parts
abbrev pub Tells : Command → List ℕ → Fit → Type 0
Tells k d (Ok p) = (bad_address k ≡ false) × (bad_length k d ≡ false) × (p ≡ parts_of k d)
Tells k d (Err BadAddress) = bad_address k ≡ true
Tells k d (Err WrongLength) = (bad_address k ≡ false) × (bad_length k d ≡ true)

by_tests : (k : Command) (d : List ℕ) (t u : Bool) → bad_address k ≡ t → bad_length k d ≡ u
    → Tells k d (if t then Err BadAddress else if u then Err WrongLength else Ok (parts_of k d))
by_tests k d true u a l = a
by_tests k d false true a l = (a, l)
by_tests k d false false a l = (a, l, refl)

pub fit_tells : (k : Command) (d : List ℕ) (x : Fit) → fit k (length d) ≡ x → Tells k d x
fit_tells k d x q = subst (Tells k d) q (by_tests k d (bad_address k) (bad_length k d) refl refl)
