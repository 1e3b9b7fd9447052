-- Where the bytes of a transfer begin. Assumes nothing: these are definitions.
use Rattle.std.specs.Prelude.{ℕ, Ok, Err}
use Rattle.reader.specs.Payload.{Fit}

-- 0 for data that does not fit its command
abbrev pub body_at : Fit → ℕ
body_at (Ok p) = p.body
body_at (Err x) = 0
