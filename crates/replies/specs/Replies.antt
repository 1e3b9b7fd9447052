-- Answers as the code has them: without characters, `.` CR LF, and a display. Assumes nothing: these are definitions and a statement.
use Rattle.std.specs.Prelude.{if◌then◌else◌, ◌≡◌, List, ℕ, ◌≤◌, ◌<◌, eqb, ltb, length}
use Rattle.words.specs.Words.{fits}
use Rattle.plug.specs.declared.board.Config.{Config}
use Rattle.plug.specs.declared.answer.Outcome.{Outcome}
use Rattle.plug.specs.declared.answer.Outcome.TheVariants.{Answered, Refused}
use Rattle.plug.specs.declared.answer.Answer.{Answer}
use Rattle.plug.specs.Commands.{flash_size}
use Rattle.plug.specs.Answers.{done_text, display_text}
use Rattle.plug.specs.Step.{Result, refused, told}

abbrev pub quiet_answer : Config → Outcome → Answer
quiet_answer c o = record { outcome = o; config = c; length = 0; pages = 0 }

-- so many characters, the configuration after it and the pages that were stored
abbrev pub told_answer : Config → ℕ → ℕ → Answer
told_answer c k n = record { outcome = Answered; config = c; length = k; pages = n }

-- `.` CR LF, the configuration after it and the pages that were stored
abbrev pub done_answer : Config → ℕ → Answer
done_answer c n = told_answer c 3 n

-- "9 in place of whichever answer doesn't fit": the same in a room of any size
abbrev pub done_in : List ℕ → Config → ℕ → Answer
done_in room c n = if fits 0 done_text room then done_answer c n else quiet_answer c (Refused 9)

-- "2 when the flash isn't 65,536 bytes", "17 for .. a backward range": a display of any flash and range
unfoldable pub displayed : Config → ℕ → ℕ → List ℕ → Result
displayed c a e f =
    if eqb (length f) flash_size then if ltb e a then refused c 17 else told c (display_text a e f) else
    refused c 2

-- the same in numbers, of every room, flash and range
pub record RepliesTold : Type 0 where
  pub quiet : (c : Config) (o : Outcome) → quiet_answer c o ≡ record { outcome = o; config = c; length = 0; pages = 0 }
  pub done : (room : List ℕ) (c : Config) (n : ℕ) → 3 ≤ length room
      → done_in room c n ≡ record { outcome = Answered; config = c; length = 3; pages = n }
  pub no_room : (room : List ℕ) (c : Config) (n : ℕ) → length room < 3
      → done_in room c n ≡ record { outcome = Refused 9; config = c; length = 0; pages = 0 }
  pub shown : (c : Config) (a e : ℕ) (f : List ℕ) → length f ≡ 65536 → a ≤ e → displayed c a e f ≡ told c (display_text a e f)
  pub backward : (c : Config) (a e : ℕ) (f : List ℕ) → length f ≡ 65536 → e < a → displayed c a e f ≡ refused c 17
  pub other_flash : (c : Config) (a e : ℕ) (f : List ℕ) → (length f ≡ 65536 → ⊥) → displayed c a e f ≡ refused c 2
