-- The statement of specs/Handed.antt holds.
-- Assumes nothing.
use mathlib.Core.Path.{◌≡◌, refl, ap, ◌∙◌}
use mathlib.Core.List.{List}
use Prim.Native.Nat.{ℕ}
use lib.ListN.{length, drop}
use lib.Seq.{take_at, drop_at}
use Rattle.words.proofs.WordsLaws.{overlay_front}
use Rattle.plug.specs.Step.{Result, Answer}
use Rattle.plug.specs.Answered.{answer_of, room_after}
use Rattle.plug.specs.Handed.{Reported, Handed}

reported : (r : Result) (a : Answer) (p p₀ : List ℕ) → a ≡ answer_of r → p ≡ room_after r p₀ → Reported r a p p₀
reported r a p p₀ q h =
    let n : a.length ≡ length r.text = ap (λ x. x.length) q in
    let room = h ∙ overlay_front r.text p₀ in
    record {
      outcome = ap (λ x. x.outcome) q;
      config = ap (λ x. x.config) q;
      count = n;
      page_count_lem = ap (λ x. x.pages) q;
      text_first = rw (n, room) (take_at r.text (drop (length r.text) p₀) (length r.text) refl);
      rest_stays = rw (n, room) (drop_at r.text (drop (length r.text) p₀) (length r.text) refl);
    }

pub handed : Handed
handed = record {
  stepped = λ b r a f p p₀ s. (reported r a p p₀ s.answered s.room, rw (s.answered, s.flash));
  replied = λ r a p p₀ s. reported r a p p₀ s.answered s.room;
}
