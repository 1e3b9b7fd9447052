-- `printing::text::put_digits`, which calls itself on the tenth of its number, meets its contract: a number's last digit stands after those
-- of its tenth.
-- Assumes nothing.
use Rattle.std.proofs.Common.{ℕ, ◌+◌, ◌/◌, ◌%◌, ◌≤◌, ◌<◌, List, [], ◌∷◌, ap, arith, length}
use Rattle.lines.specs.Text.{most_digits, decimal}
use Rattle.lines.specs.Room.{Stands}
use Rattle.lines.proofs.RoomLaws.{joined}
use Rattle.printing.proofs.NumberLaws.{tens, decimal_one, decimal_last, length_decimal_last}
use Rattle.printing.proofs.text.+put_digits.Goals as goal

only-digit : {at e : ℕ} {m m₁ : List ℕ} (n : ℕ) → n < 10 → Stands at ((48 + n) ∷ []) m e m₁ → Stands at (decimal n) m e m₁
only-digit n h s = rw (decimal_one n h) s

last-digit : {at e e' : ℕ} {m m₁ m₂ : List ℕ} (n : ℕ) → 10 ≤ n → n < tens most_digits → Stands at (decimal (n / 10)) m e m₁
    → Stands e ((48 + n % 10) ∷ []) m₁ e' m₂ → Stands at (decimal n) m e' m₂
last-digit n h small s s' = rw (decimal_last n h small) (joined s s')

pub put_byte-requires : goal.put_byte-requires
put_byte-requires t c = omega (arith, ap length (decimal_one c.args.number c.if-number-lt10.true))

pub returns-then-number-lt10 : goal.returns-then-number-lt10
returns-then-number-lt10 t c = only-digit _ c.if-number-lt10.true c.put_byte.ensures

pub put_digits-last-requires : goal.put_digits-last-requires
put_digits-last-requires t c =
    (omega arith, omega (arith, length_decimal_last c.args.number c.if-number-lt10.false (omega arith)))

pub put_byte-requires-2 : goal.put_byte-requires-2
put_byte-requires-2 t c = omega (arith, length_decimal_last c.args.number c.if-number-lt10.false (omega arith))

pub returns : goal.returns
returns t c = last-digit c.args.number c.if-number-lt10.false (omega arith) c.put_digits-last.ensures c.put_byte-2.ensures
