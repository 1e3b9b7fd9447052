-- What is told of a result holds.
-- Assumes nothing.
use mathlib.Core.Path.{◌≡◌, refl, sym, ap, ◌∙◌}
use mathlib.Core.List.{List, [], ◌∷◌, ◌++◌}
use Prim.Native.Nat.{ℕ, zero, suc, ◌+◌, ◌-◌, ◌≤◌, ◌<◌}
use native.Mathlib.Omega.{arith}
use lib.ListN.{length, drop, get_or, length-append, length-drop, length-replicate, get_or-replicate}
use lib.Seq.{get_or-append-add, get_or-drop}
use Rattle.memory.specs.Memory.{flash_size, eeprom_size, blank_flash}
use Rattle.memory.proofs.PagesLaws.{length_blank_flash}
use Rattle.rules.specs.Reports.{AnswersTold, ContractsSaid, RunReported, OutcomesNumbered, DeliveredBlank}

-- the front of two lists
get_d_front : (xs ys : List ℕ) (i : ℕ) → i < length xs → get_or (xs ++ ys) i 0 ≡ get_or xs i 0
get_d_front [] ys i h = absurd (omega arith)
get_d_front (x ∷ xs) ys zero h = refl
get_d_front (x ∷ xs) ys (suc i) h = get_d_front xs ys i (omega arith)

-- past the front, where the rest is that of another list
get_d_rest : (xs p : List ℕ) (i : ℕ) → length xs ≤ i → get_or (xs ++ drop (length xs) p) i 0 ≡ get_or p i 0
get_d_rest xs p i h =
    let on : length xs + (i - length xs) ≡ i = omega arith in
    ap (λ j. get_or (xs ++ drop (length xs) p) j 0) (sym on) ∙ get_or-append-add xs (drop (length xs) p) (i - length xs) 0
    ∙ get_or-drop (length xs) p (i - length xs) 0 ∙ rw on

pub answers_told : AnswersTold
answers_told r = record {
  outcome = refl;
  session = refl;
  config = refl;
  sent_count = refl;
  page_count_lem = refl;
  session_next = λ b. refl;
  config_next = λ b. refl;
  flash_next = λ b. refl;
  eeprom_next = λ b. refl;
  reply_size_lem = λ p h. simp (length-append, length-drop) (omega arith);
  sent_first = λ p i h. get_d_front r.sent (drop (length r.sent) p) i h;
  rest_stays = λ p i h. get_d_rest r.sent p i h;
}

pub contracts_said : ContractsSaid
contracts_said b r a s f e p p₀ = record {
  answered = λ c. (c.answered, c.flash, c.eeprom);
  replied = λ c. (c.answered, c.reply);
  stepped = λ c. (c.answered, c.flash, c.eeprom, c.reply);
  handled = λ c. (c.stepped, c.left ∙ ap (λ x. x.session) c.stepped.answered);
}

pub run_reported : RunReported
run_reported = record { in_turn = λ b v vs. (refl, refl); none = λ b. (refl, refl) }

pub outcomes_numbered : OutcomesNumbered
outcomes_numbered = record { done = refl; stall = refl; reset = λ a. (refl, refl); at_address = λ a. (refl, refl); refused = λ k. (refl, refl) }

pub delivered_blank : DeliveredBlank
unfolding blank_flash
delivered_blank = record {
  session = refl;
  config = refl;
  flash_size_lem = length_blank_flash;
  flash_blank = λ i h. get_or-replicate flash_size i 0xFF 0 h;
  eeprom_size_lem = length-replicate {A = ℕ} eeprom_size 0xFF;
  eeprom_blank = λ i h. get_or-replicate eeprom_size i 0xFF 0 h;
}
