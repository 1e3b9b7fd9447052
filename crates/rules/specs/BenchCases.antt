-- The paper's "Bench cases": a table, and one statement that all of it holds, for every board in state 2 at its level and every
-- byte that a case does not name. Proved in proofs/BenchCasesHold.antt.
use Rattle.std.specs.Prelude.{◌≡◌, false, List, [], ◌∷◌, ◌++◌, ℕ, ◌/◌, ◌%◌, ◌≤◌, ◌<◌, length, get_or}
use Rattle.words.specs.Words.{count, Programmed}
use Rattle.memory.specs.Memory.{flash_size, eeprom_size, flash_address, blank_flash}
use Rattle.config.specs.Level.{level}
use Rattle.config.specs.declared.config.Config.{Config}
use Rattle.config.specs.declared.level.Level.{Level}
use Rattle.config.specs.declared.level.Level.TheVariants.{L0, L1, L2}
use Rattle.command.specs.Transfer.{padding}
use Rattle.rules.specs.Session.{Session, session, Nothing, BlankReport}
use Rattle.rules.specs.Result.{Board, Result, reply, next, pages, Outcome, Done, Stall}
use Rattle.rules.specs.Refusals.{bad_session, reply_size}
use Rattle.rules.specs.Step.{Event, Ask, step, last_sent}

-- a board in state 2 at this level, that no refusal stops
pub record Ready (l : Level) (b : Board) : Type 0 where
  pub in_state_2 : b.session.state ≡ 2
  pub valid : bad_session b.session ≡ false
  pub flash_size_lem : length b.flash ≡ flash_size
  pub eeprom_size_lem : length b.eeprom ≡ eeprom_size
  pub at_level : level b.config ≡ l

-- what no case names: the two bytes of DNLOAD's and UPLOAD's wValue, and the size of a reply buffer that is large enough
pub record Unnamed : Type 0 where
  pub low : ℕ
  pub high : ℕ
  pub room : ℕ
  pub enough : reply_size ≤ room

-- DNLOAD of these bytes, GETSTATUS, GETSTATE, and UPLOAD of n bytes
abbrev pub download : Unnamed → List ℕ → Event
download u d = Ask (0x21 ∷ 1 ∷ u.low ∷ u.high ∷ 0 ∷ 0 ∷ length d % 256 ∷ length d / 256 ∷ []) d u.room

abbrev pub ask_status : Unnamed → Event
ask_status u = Ask (0xA1 ∷ 3 ∷ 0 ∷ 0 ∷ 0 ∷ 0 ∷ 6 ∷ 0 ∷ []) [] u.room

abbrev pub ask_state : Unnamed → Event
ask_state u = Ask (0xA1 ∷ 5 ∷ 0 ∷ 0 ∷ 0 ∷ 0 ∷ 1 ∷ 0 ∷ []) [] u.room

abbrev pub ask_upload : Unnamed → ℕ → Event
ask_upload u n = Ask (0xA1 ∷ 2 ∷ u.low ∷ u.high ∷ 0 ∷ 0 ∷ n % 256 ∷ n / 256 ∷ []) [] u.room

-- an answer that sends nothing and moves nothing but the session, by the busy count that was lent: an error status keeps it, a stall
-- clears it
pub record Moved : Type 0 where
  pub outcome : Outcome
  pub session : Session

abbrev pub failed : ℕ → ℕ → Moved
failed k lent = record { outcome = Done; session = session 10 k Nothing lent }

abbrev pub stalled : ℕ → Moved
stalled lent = record { outcome = Stall; session = session 10 0x0F Nothing 0 }

-- what is told of a command that was taken: outcome, bytes sent, session and page count
pub record Line : Type 0 where
  pub outcome : Outcome
  pub sent : List ℕ
  pub session : Session
  pub pages : ℕ

abbrev pub line : Result → Line
line r = record { outcome = r.outcome; sent = r.sent; session = r.session; pages = pages r }

-- taken with so many pages, which are the busy count too; a blank check that met a byte at x
abbrev pub taken : ℕ → Line
taken n = record { outcome = Done; sent = []; session = session 3 0x00 Nothing n; pages = n }

abbrev pub not_blank : ℕ → Line
not_blank x = record { outcome = Done; sent = []; session = session 3 0x05 (BlankReport (flash_address x)) 0; pages = 0 }

-- P5 of 02: "Cases 2, 6, 7 and 11 gain this step": a board that took a command of so many pages is asked twice with GETSTATUS. The first
-- sends these six bytes, moves to state 4 and keeps the count; the second sends 00 00 00 00 05 00, moves to 5 and clears it
pub record Waits (b : Board) (page_count : ℕ) (first_status : List ℕ) (v w : Unnamed) : Type 0 where
  pub first : step b (ask_status v) ≡ reply b.config Done first_status (session 4 0x00 Nothing page_count)
  pub second : step (next b (step b (ask_status v))) (ask_status w) ≡ reply b.config Done (0 ∷ 0 ∷ 0 ∷ 0 ∷ 5 ∷ 0 ∷ []) (session 5 0x00 Nothing 0)

-- ---- what each kind of case says

-- a board at level l, sent data that begins with `head` and has `least` to `most` bytes, answers o; memories and configuration stay
pub record Answers (l : Level) (head : List ℕ) (least most : ℕ) (o : ℕ → Moved) : Type 0 where
  pub answers : (b : Board) → Ready l b → (u : Unnamed) (rest : List ℕ) → least ≤ length (head ++ rest) → length (head ++ rest) ≤ most
      → let moved : Moved = o b.session.busy in step b (download u (head ++ rest)) ≡ reply b.config moved.outcome [] moved.session

-- the first six bytes of a program transfer to flash
abbrev pub program_head : ℕ → ℕ → List ℕ
program_head a e = 0x01 ∷ 0x00 ∷ a / 256 ∷ a % 256 ∷ e / 256 ∷ e % 256 ∷ []

abbrev pub transfer : ℕ → ℕ → List ℕ → List ℕ → List ℕ → List ℕ → List ℕ
transfer a e filler pad new suffix = program_head a e ++ filler ++ pad ++ new ++ suffix

-- a board at level 0, sent a program transfer of n bytes for the range a to e, takes it with so many pages; the flash then holds
-- the programmed bytes, and every other byte as before; and the board waits
pub record Programs (a e n page_count : ℕ) (first_status : List ℕ) : Type 0 where
  pub programs : (b : Board) → Ready L0 b → (u v w : Unnamed) (filler pad new suffix : List ℕ)
      → length filler ≡ 26 → length new ≡ count a e → length suffix ≡ 16 → length (transfer a e filler pad new suffix) ≡ n
      → let r : Result = step b (download u (transfer a e filler pad new suffix)) in
      (line r ≡ taken page_count) × Programmed a new b.flash (next b r).flash × ((next b r).eeprom ≡ b.eeprom) × ((next b r).config ≡ b.config)
      × Waits (next b r) page_count first_status v w

-- the first byte that is not FFh stands at x
pub record FirstUsedAt (f : List ℕ) (x : ℕ) : Type 0 where
  pub before : (i : ℕ) → i < x → get_or f i 0 ≡ 0xFF
  pub there : get_or f x 0 ≡ 0xFF → ⊥

-- "blank check 0000h-7FFFh"
abbrev pub check_all : Unnamed → Event
check_all u = download u (0x03 ∷ 0x01 ∷ 0x00 ∷ 0x00 ∷ 0x7F ∷ 0xFF ∷ [])

-- a board at level l, first byte not FFh at x: 05h, then after GETSTATUS the upload o
pub record Finds (l : Level) (x : ℕ) (o : List ℕ) : Type 0 where
  pub finds : (b : Board) → Ready l b → FirstUsedAt b.flash x → (u v w : Unnamed)
      → (line (step b (check_all u)) ≡ not_blank x) × (last_sent b (check_all u ∷ ask_status v ∷ ask_upload w 2 ∷ []) ≡ o)

-- "BSB FFh, SBV FCh, SSB FFh; .. the other bytes stay"
pub record ErasedConfig (before after : Config) : Type 0 where
  pub bsb : after.bsb ≡ 0xFF
  pub sbv : after.sbv ≡ 0xFC
  pub p1cf : after.p1cf ≡ before.p1cf
  pub p3cf : after.p3cf ≡ before.p3cf
  pub p4cf : after.p4cf ≡ before.p4cf
  pub ssb : after.ssb ≡ 0xFF
  pub eb : after.eb ≡ before.eb
  pub hsb : after.hsb ≡ before.hsb

-- a board at level l, sent the full chip erase, takes it with so many pages and is at level m; flash FFh, EEPROM kept; and the board waits
pub record Erases (l : Level) (page_count : ℕ) (m : Level) (first_status : List ℕ) : Type 0 where
  pub erases : (b : Board) → Ready l b → (u v w : Unnamed)
      → let r : Result = step b (download u (0x04 ∷ 0x00 ∷ 0xFF ∷ [])) in
      (line r ≡ taken page_count) × (level (next b r).config ≡ m) × ((next b r).flash ≡ blank_flash) × ((next b r).eeprom ≡ b.eeprom)
      × ErasedConfig b.config (next b r).config × Waits (next b r) page_count first_status v w

-- HSB v, sent to a board at level l that has HSB old, is taken and leaves HSB new
pub record WritesHsb (l : Level) (v old new : ℕ) : Type 0 where
  pub writes : (b : Board) → Ready l b → b.config.hsb ≡ old → (u : Unnamed)
      → let r : Result = step b (download u (0x04 ∷ 0x02 ∷ 0x00 ∷ v ∷ [])) in
      (line r ≡ taken 0) × ((next b r).config.hsb ≡ new)

-- ---- the table

pub data Case : Type 0 where
  Pad : ℕ → ℕ → Case
  Answer : Level → List ℕ → ℕ → ℕ → (ℕ → Moved) → Case
  Program : ℕ → ℕ → ℕ → ℕ → List ℕ → Case
  Find : Level → ℕ → List ℕ → Case
  Erase : Level → ℕ → Level → List ℕ → Case
  Hsb : Level → ℕ → ℕ → ℕ → Case

abbrev pub Holds : Case → Type 0
Holds (Pad a x) = padding a ≡ x
Holds (Answer l head least most o) = Answers l head least most o
Holds (Program a e n k first_status) = Programs a e n k first_status
Holds (Find l x o) = Finds l x o
Holds (Erase l k m first_status) = Erases l k m first_status
Holds (Hsb l v old new) = WritesHsb l v old new

abbrev pub All : List Case → Type 0
All [] = Unit {0}
All (k ∷ ks) = Holds k × All ks

-- the paper's twelve, in order; 7 is two. Where a case names no length, it holds for every length that the form has. Where pages are
-- burnt, the six bytes of the first GETSTATUS: 10, 90, 10 and 2,560 milliseconds, low byte first, and state 4
abbrev pub bench_table : List Case
bench_table =
    Pad 0x00AF 15
    ∷ Program 0x00AF 0x00AF 64 1 (0x00 ∷ 0x0A ∷ 0x00 ∷ 0x00 ∷ 4 ∷ 0x00 ∷ [])
    ∷ Answer L0 (0x01 ∷ 0x00 ∷ 0x00 ∷ 0xAF ∷ 0x00 ∷ 0xAF ∷ []) 65 65 stalled
    ∷ Answer L1 (0x01 ∷ 0x00 ∷ 0x00 ∷ 0xAF ∷ 0x00 ∷ 0xAF ∷ []) 64 64 (failed 0x03)
    ∷ Answer L0 (0x01 ∷ 0x00 ∷ 0x00 ∷ 0x00 ∷ 0x04 ∷ 0x00 ∷ []) 6 1103 (failed 0x08)
    ∷ Program 0x007F 0x047E 1103 9 (0x00 ∷ 0x5A ∷ 0x00 ∷ 0x00 ∷ 4 ∷ 0x00 ∷ [])
    ∷ Program 0x7FFF 0x7FFF 80 1 (0x00 ∷ 0x0A ∷ 0x00 ∷ 0x00 ∷ 4 ∷ 0x00 ∷ [])
    ∷ Answer L0 (0x01 ∷ 0x00 ∷ 0x80 ∷ 0x00 ∷ 0x80 ∷ 0x00 ∷ []) 6 1103 (failed 0x08)
    ∷ Answer L2 (0x03 ∷ 0x00 ∷ []) 6 6 (failed 0x0B)
    ∷ Find L2 0x1234 (0x12 ∷ 0x34 ∷ [])
    ∷ Answer L1 (0x04 ∷ 0x01 ∷ 0x05 ∷ 0xFE ∷ []) 4 4 (failed 0x03)
    ∷ Erase L2 256 L0 (0x00 ∷ 0x00 ∷ 0x0A ∷ 0x00 ∷ 4 ∷ 0x00 ∷ [])
    ∷ Hsb L0 0x4F 0xBB 0x4B
    ∷ []

abbrev pub BenchCases : Type 0
BenchCases = All bench_table
