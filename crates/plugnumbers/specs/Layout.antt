-- How the serial plug's configuration is packed into a number of 32 bits, and an outcome into one of 64. Assumes nothing: these are
-- definitions.
use Rattle.std.specs.Prelude.{ℕ, ◌+◌, ◌*◌, ◌/◌, ◌%◌}
use Rattle.plug.specs.Config.{config}
use Rattle.plug.specs.declared.board.Config.{Config}
use Rattle.plug.specs.declared.answer.Outcome.{Outcome}
use Rattle.plug.specs.declared.answer.Outcome.TheVariants.{Answered, StartedReset, StartedAt, Refused}

-- ---- a configuration: its four bytes, BSB the lowest, HSB the highest

abbrev pub pack_config : Config → ℕ
pack_config c = c.bsb + 0x100 * c.sbv + 0x10000 * c.ssb + 0x1000000 * c.hsb

abbrev pub config_of : ℕ → Config
config_of n = config (n % 256) (n / 0x100 % 256) (n / 0x10000 % 256) (n / 0x1000000 % 256)

-- ---- an outcome: its number and its value, as the base's outcomes have theirs

-- 0 answered, 2 a start by reset, 3 a start at an address, 4 a refusal; the base's 1 is a stall, and no record stalls
abbrev pub outcome_number : Outcome → ℕ
outcome_number Answered = 0
outcome_number StartedReset = 2
outcome_number (StartedAt a) = 3
outcome_number (Refused n) = 4

-- the address of a start, the number of a refusal
abbrev pub outcome_value : Outcome → ℕ
outcome_value Answered = 0
outcome_value StartedReset = 0
outcome_value (StartedAt a) = a.0
outcome_value (Refused n) = n

-- two words of 16 bits in a number, the lowest first
abbrev pub packed : ℕ → ℕ → ℕ
packed a b = a + 0x10000 * b

abbrev pub pack_outcome : Outcome → ℕ
pack_outcome o = packed (outcome_number o) (outcome_value o)
