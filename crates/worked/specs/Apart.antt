-- The bytes of the worked example of P4. Assumes nothing: these are definitions.
use Rattle.std.specs.Prelude.{List, [], ◌∷◌, ℕ}

abbrev pub heights : List ℕ
heights = 0x50 ∷ 0x52 ∷ []
