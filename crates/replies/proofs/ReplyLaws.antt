-- How an answer comes into the room: whole, or 9 in its place.
-- Assumes nothing.
use Rattle.std.specs.Prelude.{Option, Some}
use mathlib.Core.Path.{◌≡◌, refl, sym, ◌∙◌, subst}
use mathlib.Core.Bool.{Bool, true, false, not}
use mathlib.Core.List.{List, [], ◌∷◌}
use Prim.Native.Nat.{ℕ, ◌+◌, ◌≤◌, ◌<◌, zero-le}
use native.Mathlib.Nat.{zero-add}
use lib.Dec.{leb}
use lib.ListN.{length, replicate}
use borrow.Author.Tests.{lt-ltb, le-ltb, le-leb, leb-false, leb-true, not-true, not-false}
use Rattle.words.specs.Words.{fits, overlay, laid}
use Rattle.words.proofs.WordsLaws.{overlay_none}
use Rattle.plug.specs.declared.board.Config.{Config}
use Rattle.plug.specs.declared.answer.Answer.{Answer}
use Rattle.plug.specs.declared.answer.Outcome.{Outcome}
use Rattle.plug.specs.declared.answer.Outcome.TheVariants.{Answered, Refused}
use Rattle.lines.specs.Text.{hex_bytes}
use Rattle.lines.specs.Room.{Stands}
use Rattle.plug.specs.Answers.{line_end, done_text, value_text, hex_address, blank_text}
use Rattle.plug.specs.declared.command.Command.{Command}
use Rattle.plug.specs.Step.{Result, told, in_room}
use Rattle.plug.specs.Answered.{answer_of, Replied}
use Rattle.replies.specs.Replies.{quiet_answer, done_answer, done_in}

-- an answer that doesn't fit, and one that does
pub no_room : (c : Config) (r : Result) (m m' : List ℕ) → m' ≡ m → length m < length r.text
    → Replied (in_room c (length m) r) (quiet_answer c (Refused 9)) m' m
no_room c r m m' q h = rw (lt-ltb (length m) (length r.text) h) (record { answered = refl; room = q ∙ sym (overlay_none 0 m) })

pub in_room_lem : (c : Config) (r : Result) (m m' : List ℕ) → m' ≡ overlay 0 r.text m → length r.text ≤ length m
    → Replied (in_room c (length m) r) (answer_of r) m' m
in_room_lem c r m m' q h = rw (le-ltb (length m) (length r.text) h) (record { answered = refl; room = q })

-- a text that stands at the front of the room
pub stands_said : (c : Config) (x m m' : List ℕ) (k : ℕ) → Stands 0 x m k m'
    → Replied (in_room c (length m) (told c x)) (record { outcome = Answered; config = c; length = k; pages = 0 }) m' m
stands_said c x m m' k s =
    let size : k ≡ length x = s.ends ∙ zero-add (length x) in
    rw size (in_room_lem c (told c x) m m' s.text_laid (rw size at s.within))

-- a text laid over the front of the room where it fits
module _ (c : Config) (x m m' : List ℕ) (t : Bool) (told_fit : t ≡ fits 0 x m) (q : m' ≡ laid 0 x m) where
  pub not_said : not t ≡ true → Replied (in_room c (length m) (told c x)) (quiet_answer c (Refused 9)) m' m
  unfolding laid
  not_said n =
      let f : leb (0 + length x) (length m) ≡ false = sym told_fit ∙ not-true t n in
      no_room c (told c x) m m' (rw f at q) (rw zero-add at (leb-false (0 + length x) (length m) f))

  pub said : not t ≡ false → Replied (in_room c (length m) (told c x)) (answer_of (told c x)) m' m
  unfolding laid
  said n =
      let f : leb (0 + length x) (length m) ≡ true = sym told_fit ∙ not-false t n in
      in_room_lem c (told c x) m m' (rw f at q) (rw zero-add at (leb-true (0 + length x) (length m) f))

-- another name for the text
pub says : (c : Config) (n : ℕ) {a : Answer} {p p₀ : List ℕ} (x y : List ℕ) → x ≡ y → Replied (in_room c n (told c x)) a p p₀
    → Replied (in_room c n (told c y)) a p p₀
says c n {a} {p} {p₀} x y e r = subst (λ t. Replied (in_room c n (told c t)) a p p₀) e r

-- two pieces put into an array of their size are one text
pub value_put : (v end : ℕ) (m₁ m₂ : List ℕ) → Stands 0 (hex_bytes (v ∷ [])) (replicate 5 0) end m₁ → m₂ ≡ laid end done_text m₁ → m₂ ≡ value_text v
unfolding laid
value_put v end m₁ m₂ s q = q ∙ rw (s.ends, s.text_laid) refl

pub address_put : (a end : ℕ) (m₁ m₂ : List ℕ) → Stands 0 (hex_address a) (replicate 6 0) end m₁ → m₂ ≡ laid end line_end m₁ → m₂ ≡ blank_text (Some a)
unfolding laid
address_put a end m₁ m₂ s q = q ∙ rw (s.ends, s.text_laid) refl

-- `.` CR LF where it fits
pub done_fits : (c : Config) (n : ℕ) (m : List ℕ) → 3 ≤ length m → (done_in m c n ≡ done_answer c n) × (laid 0 done_text m ≡ overlay 0 done_text m)
unfolding laid
done_fits c n m h = let f = le-leb 3 (length m) h in (rw f, rw f)

-- an answer without characters fits every room
pub quiet_replied : (c : Config) (n : ℕ) (o : Outcome) (k : Option Command) (m : List ℕ)
    → Replied (in_room c n (record { outcome = o; text = []; config = c; stored = []; done = k })) (quiet_answer c o) m m
quiet_replied c n o k m = rw (le-ltb n 0 zero-le) (record { answered = refl; room = sym (overlay_none 0 m) })
