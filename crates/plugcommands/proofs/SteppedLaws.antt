-- How an answer comes into the room and its pages into the flash.
-- Assumes nothing.
use Rattle.std.specs.Prelude.{if◌then◌else◌, Option}
use mathlib.Core.Path.{◌≡◌, refl, sym, ◌∙◌}
use mathlib.Core.Bool.{Bool, true, false}
use mathlib.Core.List.{List, []}
use Prim.Native.Nat.{ℕ, ◌≤◌, ◌<◌}
use lib.Dec.{eqb, ltb}
use lib.ListN.{length}
use borrow.Author.Tests.{lt-ltb, le-ltb, ltb-false}
use Rattle.words.specs.Words.{laid}
use Rattle.words.proofs.WordsLaws.{overlay_none}
use Rattle.memory.specs.Pages.{Store, store_all}
use Rattle.plug.specs.declared.board.Config.{Config}
use Rattle.plug.specs.declared.answer.Answer.{Answer}
use Rattle.plug.specs.declared.answer.Outcome.{Outcome}
use Rattle.plug.specs.declared.answer.Outcome.TheVariants.{Refused}
use Rattle.plug.specs.declared.command.Command.{Command}
use Rattle.plug.specs.declared.command.Command.TheVariants.{Program, Display, BlankCheck, EraseBlock, EraseChip, Write, Read, StartReset, StartAt}
use Rattle.plug.specs.Commands.{flash_size, bad_range}
use Rattle.plug.specs.Answers.{done_text, display_text}
use Rattle.plug.specs.Step.{Board, Result, refused, told, did, in_room, perform}
use Rattle.plug.specs.Answered.{Replied, Stepped}
use Rattle.replies.specs.Replies.{quiet_answer, done_in, displayed}
use Rattle.replies.proofs.ReplyLaws.{done_fits, quiet_replied}
use Rattle.replies.proofs.DisplayLaws.{forward}
use Rattle.plugcommands.specs.Performed.{performed}

-- an answer that doesn't fit stores nothing; one that does stores its pages
pub not_stepped : (b : Board) (r : Result) (m m' : List ℕ) → m' ≡ m → length m < length r.text
    → Stepped b (in_room b.config (length m) r) (quiet_answer b.config (Refused 9)) b.flash m' m
not_stepped b r m m' q h =
    rw (lt-ltb (length m) (length r.text) h) (record { answered = refl; flash = refl; room = q ∙ sym (overlay_none 0 m) })

pub done_stepped : (b : Board) (k : Command) (c : Config) (ss : List Store) (f m m' : List ℕ) (a : Answer) → a ≡ done_in m c (length ss)
    → m' ≡ laid 0 done_text m → f ≡ store_all ss b.flash → 3 ≤ length m
    → Stepped b (in_room b.config (length m) (did k done_text c ss)) a f m' m
done_stepped b k c ss f m m' a p q stored h =
    let said = done_fits c (length ss) m h in
    rw (le-ltb (length m) 3 h) (record { answered = p ∙ said.0; flash = stored; room = q ∙ said.1 })

-- an answer that stores nothing, whether it fits or not
pub flash_stays : (b : Board) (r : Result) (n : ℕ) (a : Answer) (m' m : List ℕ) → r.stored ≡ [] → Replied (in_room b.config n r) a m' m
    → Stepped b (in_room b.config n r) a b.flash m' m
flash_stays b r n a m' m q p = either (ltb n (length r.text)) p where
  either : (t : Bool) → Replied (if t then refused b.config 9 else r) a m' m → Stepped b (if t then refused b.config 9 else r) a b.flash m' m
  either true p = record { answered = p.answered; flash = refl; room = p.room }
  either false p = record { answered = p.answered; flash = rw q; room = p.room }

-- what is told is a command's answer that stores nothing
pub told_stepped : (b : Board) (k : Command) (x : List ℕ) (n : ℕ) {a : Answer} {f m' m : List ℕ}
    → Stepped b (in_room b.config n (told b.config x)) a f m' m
    → Stepped b (in_room b.config n (did k x b.config [])) a f m' m
told_stepped b k x n {a} {f} {m'} {m} p = either (ltb n (length x)) p where
  either : (t : Bool) → Stepped b (if t then refused b.config 9 else told b.config x) a f m' m
      → Stepped b (if t then refused b.config 9 else did k x b.config []) a f m' m
  either true p = p
  either false p = record { answered = p.answered; flash = p.flash; room = p.room }

-- an answer without characters fits every room
pub quiet_stepped : (b : Board) (n : ℕ) (o : Outcome) (k : Option Command) (m : List ℕ)
    → Stepped b (in_room b.config n (record { outcome = o; text = []; config = b.config; stored = []; done = k })) (quiet_answer b.config o) b.flash m m
quiet_stepped b n o k m =
    flash_stays b (record { outcome = o; text = []; config = b.config; stored = []; done = k }) n _ m m refl (quiet_replied b.config n o k m)

-- a display stores nothing, whatever it says
pub display_stays : (c : Config) (a e : ℕ) (f : List ℕ) → (displayed c a e f).stored ≡ []
unfolding displayed
display_stays c a e f = either (eqb (length f) flash_size) (ltb e a) where
  either : (t u : Bool) → (if t then if u then refused c 17 else told c (display_text a e f) else refused c 2).stored ≡ []
  either true true = refl
  either true false = refl
  either false u = refl

-- a command whose range is right, on a flash of its size
pub performed_right : (b : Board) (k : Command) (d : List ℕ) (n : ℕ) (a : Answer) (f m' m : List ℕ) → length b.flash ≡ flash_size
    → bad_range k (length d) ≡ false → Stepped b (in_room b.config n (performed b k d)) a f m' m → Stepped b (in_room b.config n (perform b k d)) a f m' m
unfolding perform
performed_right b (Program x) d n a f m' m h r p = p
performed_right b (Display x y) d n a f m' m h r p =
    let shown = forward b.config x.0 y.0 b.flash h (ltb-false y.0 x.0 r) in
    told_stepped b (Display x y) (display_text x.0 y.0 b.flash) n (rw shown at p)
performed_right b (BlankCheck x y) d n a f m' m h r p = p
performed_right b (EraseBlock x) d n a f m' m h r p = p
performed_right b EraseChip d n a f m' m h r p = p
performed_right b (Write x) d n a f m' m h r p = p
performed_right b (Read x) d n a f m' m h r p = p
performed_right b StartReset d n a f m' m h r p = p
performed_right b (StartAt x) d n a f m' m h r p = p
