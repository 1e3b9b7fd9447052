-- The lines of a display as the code puts them.
-- Assumes nothing.
use mathlib.Core.Logic.{⊎_elim}
use mathlib.Core.Path.{◌≡◌, refl, sym, ap, ◌∙◌}
use mathlib.Core.List.{List, [], ◌++◌, append_assoc, append-nil}
use Prim.Native.Nat.{ℕ, suc, ◌+◌, ◌-◌, ◌*◌, ◌≤◌, ◌<◌, min, zero-le}
use native.Mathlib.Omega.{arith}
use lib.ListN.{length, take, drop, length-append, length-drop}
use lib.Seq.{length-take-le}
use borrow.Author.Tests.{eq-eqb, ne_eqb, lt-ltb, le-ltb}
use Rattle.words.specs.Words.{laid}
use Rattle.lines.specs.Text.{ascii, hex_bytes}
use Rattle.lines.specs.Room.{Stands}
use Rattle.lines.proofs.RoomLaws.{none_stands, laid_stands, joined}
use Rattle.lines.proofs.TextLaws.{length_hex_bytes}
use Rattle.plug.specs.declared.board.Config.{Config}
use Rattle.plug.specs.Commands.{flash_size}
use Rattle.plug.specs.Answers.{line_end, hex_address, display_line, display_text}
use Rattle.plug.specs.Step.{refused, told}
use Rattle.std.proofs.lemmas.Bool.{cases_lt}
use Rattle.plug.proofs.AnswerLaws.{length_line, first_line, none_left}
use Rattle.replies.specs.Replies.{displayed}

-- a flash of another size, a backward range, and what is displayed
module _ (c : Config) (a e : ℕ) (f : List ℕ) where
  pub wrong_flash : (length f ≡ flash_size → ⊥) → displayed c a e f ≡ refused c 2
  unfolding displayed
  wrong_flash h = rw (ne_eqb (length f) flash_size h)

  module _ (h : length f ≡ flash_size) where
    pub backward : e < a → displayed c a e f ≡ refused c 17
    unfolding displayed
    backward l = rw (eq-eqb (length f) flash_size h, lt-ltb e a l)

    pub forward : a ≤ e → displayed c a e f ≡ told c (display_text a e f)
    unfolding displayed
    forward l = rw (eq-eqb (length f) flash_size h, le-ltb e a l)

-- a line, put in four pieces one after another: its address, `=`, its bytes, which fit behind them, and the line's end
module _ (at from to equals : ℕ) (f m m₁ m₂ : List ℕ) (h : from < to) (l : to ≤ length f) (r : at + 7 + 2 * (to - from) ≤ length m)
    (address : Stands at (hex_address from) m equals m₁) (p₂ : m₂ ≡ laid equals (ascii "=") m₁) where
  size : length (hex_bytes (take (to - from) (drop from f))) ≡ 2 * (to - from)
  size =
      length_hex_bytes (take (to - from) (drop from f)) ∙ ap (λ n. 2 * n) (length-take-le (to - from) (drop from f) (simp length-drop (omega arith)))

  begun : Stands at (hex_address from ++ ascii "=") m (equals + 1) m₂
  begun = joined address (laid_stands equals (ascii "=") m₁ m₂ (omega (arith, address.ends, address.same_size)) p₂)

  pub bytes_fit : equals + 1 + length (hex_bytes (take (to - from) (drop from f))) ≤ length m₂
  bytes_fit = omega (arith, begun.ends, begun.same_size, size)

  pub line_put : (end : ℕ) (m₃ m₄ : List ℕ) → Stands (equals + 1) (hex_bytes (take (to - from) (drop from f))) m₂ end m₃
      → m₄ ≡ laid end line_end m₃ → Stands at (display_line from (to - 1) f) m (end + 2) m₄
  line_put end m₃ m₄ s₃ p₄ =
      let s₄ = laid_stands end line_end m₃ m₄ (omega (arith, begun.ends, begun.same_size, s₃.ends, s₃.same_size, size)) p₄ in
      let part : suc (to - 1) - from ≡ to - from = omega arith in
      rw part (joined (joined begun s₃) s₄)

-- ---- line after line

-- the lines of the bytes from `first` up to before `from` stand in the room, and with those that are left they are the whole display
pub record Displayed (first past from : ℕ) (f room₀ : List ℕ) (place : ℕ) (room : List ℕ) : Type 0 where
  pub done : List ℕ
  pub whole : display_text first (past - 1) f ≡ done ++ display_text from (past - 1) f
  pub stands : Stands 0 done room₀ place room

pub none_displayed : (first past : ℕ) (f room : List ℕ) → Displayed first past first f room 0 room
none_displayed first past f room = record { done = []; whole = refl; stands = none_stands 0 room zero-le }

module _ {first past from : ℕ} {f room₀ : List ℕ} {place : ℕ} {room : List ℕ} (d : Displayed first past from f room₀ place room) where
  -- the next line ends at `to`
  module _ (to : ℕ) (more : from < past) (here : to ≡ min past (from + 16)) where
    split : display_text from (past - 1) f ≡ display_line from (to - 1) f ++ display_text to (past - 1) f
    split = first_line from (past - 1) to f (omega arith) (omega arith)

    pub line_fits : past ≤ length f → length (display_text first (past - 1) f) ≤ length room₀ → place + 7 + 2 * (to - from) ≤ length room
    line_fits l h =
        let line = length_line from (to - 1) f (omega arith) in
        let left = ap length split ∙ length-append (display_line from (to - 1) f) (display_text to (past - 1) f) in
        let all = ap length d.whole ∙ length-append d.done (display_text from (past - 1) f) in
        omega (arith, d.stands.ends, d.stands.same_size)

    -- the line ends sixteen bytes on, or no line is left
    next : display_text to (past - 1) f ≡ display_text (from + 16) (past - 1) f
    next =
        ⊎_elim
        (λ (h : past < from + 16). none_left to (past - 1) f (omega arith) ∙ sym (none_left (from + 16) (past - 1) f (omega arith)))
        (λ (h : from + 16 ≤ past). let e : to ≡ from + 16 = omega arith in ap (λ x. display_text x (past - 1) f) e)
        (cases_lt past (from + 16))

    pub one_more : {place' : ℕ} {room' : List ℕ} → Stands place (display_line from (to - 1) f) room place' room'
        → Displayed first past (from + 16) f room₀ place' room'
    one_more s = record {
      done = d.done ++ display_line from (to - 1) f;
      whole = d.whole
          ∙ ap (λ x. d.done ++ x) (split ∙ ap (λ x. display_line from (to - 1) f ++ x) next)
          ∙ sym (append_assoc d.done (display_line from (to - 1) f) (display_text (from + 16) (past - 1) f));
      stands = joined d.stands s;
    }

  pub all_displayed : 0 < past → past ≤ from → Stands 0 (display_text first (past - 1) f) room₀ place room
  all_displayed some h =
      let none : display_text from (past - 1) f ≡ [] = none_left from (past - 1) f (omega arith) in
      rw (d.whole, none, append-nil) d.stands

-- the same as the code goes, from piece to piece of the flash: `count` pieces are displayed, each of `size` bytes, and `left` bytes are left
pub record Pieces (first past : ℕ) (f room₀ : List ℕ) (place : ℕ) (room : List ℕ) (count size left : ℕ) : Type 0 where
  pub lines : Displayed first past (first + 16 * count) f room₀ place room
  pub sixteen : size ≡ 16
  pub bytes_left : left ≡ past - (first + 16 * count)

pub no_piece : (first past count size left : ℕ) (f room : List ℕ) → count ≡ 0 → size ≡ 16 → left ≡ past - first
    → Pieces first past f room 0 room count size left
no_piece first past count size left f room none sixteen all =
    let e : first + 16 * count ≡ first = omega arith in
    record { lines = rw e (none_displayed first past f room); sixteen = sixteen; bytes_left = omega arith }

module _ {first past : ℕ} {f room₀ : List ℕ} {place : ℕ} {room : List ℕ} {count size left : ℕ}
    (p : Pieces first past f room₀ place room count size left) where
  -- the next piece is that of number n and has k bytes
  module _ (n k : ℕ) (next_is : n ≡ count) (most : k ≡ min size left) (some : 0 < left) where
    lines_before : Displayed first past (first + 16 * n) f room₀ place room
    lines_before = rw next_is p.lines

    more : first + 16 * n < past
    more = omega (arith, p.bytes_left)

    ends : first + 16 * n + k ≡ min past (first + 16 * n + 16)
    ends = omega (arith, p.sixteen, p.bytes_left)

    pub piece_fits : past ≤ length f → length (display_text first (past - 1) f) ≤ length room₀
        → place + 7 + 2 * (first + 16 * n + k - (first + 16 * n)) ≤ length room
    piece_fits = line_fits lines_before (first + 16 * n + k) more ends

    pub piece_more : (count' size' left' place' : ℕ) (room' : List ℕ) → count' ≡ count + 1 → size' ≡ size → left ≡ k + left'
        → Stands place (display_line (first + 16 * n) (first + 16 * n + k - 1) f) room place' room' → Pieces first past f room₀ place' room' count' size' left'
    piece_more count' size' left' place' room' one same taken s =
        let e : first + 16 * count' ≡ first + 16 * n + 16 = omega arith in
        record {
          lines = rw e (one_more lines_before (first + 16 * n + k) more ends s);
          sixteen = same ∙ p.sixteen;
          bytes_left = omega (arith, p.sixteen, p.bytes_left);
        }

  pub no_piece_left : 0 < past → left ≡ 0 → Stands 0 (display_text first (past - 1) f) room₀ place room
  no_piece_left some none = all_displayed p.lines some (omega (arith, p.bytes_left))
