-- The sentences of specs/Told.antt hold: each case is computed, or a part of what is promised.
-- Assumes nothing.
use mathlib.Core.Path.{◌≡◌, refl, ap, ◌∙◌}
use Prim.Native.Nat.{ℕ}
use Rattle.rules.specs.declared.answer.Outcome.{Outcome}
use Rattle.numbers.specs.Layout.{number_after}
use Rattle.exports.specs.Told.{TakenTold, StepsTold, RecordsTold, Lends}

pub taken_told : TakenTold
taken_told = record {
  command = λ k p x y z. (refl, refl, refl);
  stall = λ x y z. (refl, refl, refl);
  bad_address_lem = λ x y z. (refl, refl, refl);
  fields = λ f x y z. (refl, refl, refl);
  wrong_checksum = λ x y z. (refl, refl, refl);
  refused = λ e x y z. (refl, refl, refl);
}

-- what is told of one outcome is told of another that is the same
of_outcome : {n : ℕ} (o o' : Outcome) (lent new : ℕ) → n ≡ number_after o lent new → o ≡ o' → n ≡ number_after o' lent new
of_outcome o o' lent new q e = q ∙ ap (λ o. number_after o lent new) e

pub steps_told : StepsTold
steps_told b r s c p₀ outcome session busy config sent stored f e p t = (
  t.outcome_told,
  t.busy_told,
  t.sent_told,
  t.pages_told,
  t.flash,
  t.eeprom,
  t.reply,
  (λ n q. (of_outcome _ _ _ _ t.session_told q, of_outcome _ _ _ _ t.config_told q)),
  (λ q. (of_outcome _ _ _ _ t.session_told q, of_outcome _ _ _ _ t.config_told q)),
  (λ q. (of_outcome _ _ _ _ t.session_told q, of_outcome _ _ _ _ t.config_told q)),
  λ k a q. (of_outcome _ _ _ _ t.session_told q, of_outcome _ _ _ _ t.config_told q),
)

pub records_told : RecordsTold
records_told b r p₀ outcome config sent stored f p t = (t.outcome_told, t.config_told, t.sent_told, t.pages_told, t.flash, t.room)

pub lends : Lends
lends = record { loader = λ s busy c f e. (refl, refl, refl, refl); serial = λ c f. (refl, refl) }
