-- The serial plug's tables of the header for C, row by row, each with a number. Proved in proofs/TablesHold.antt.
use Rattle.std.specs.Prelude.{◌≡◌, ℕ, ◌+◌, ◌*◌, ◌/◌, ◌%◌}
use Rattle.memory.specs.declared.address.FlashAddress.{FlashAddress}
use Rattle.plug.specs.declared.board.Config.{Config}
use Rattle.plug.specs.declared.answer.Outcome.TheVariants.{Answered, StartedReset, StartedAt, Refused}
use Rattle.plugnumbers.specs.Layout.{pack_config, config_of, packed, pack_outcome}

abbrev pub configuration : ℕ → ℕ → ℕ → ℕ → Config
configuration b v s h = record { bsb = b; sbv = v; ssb = s; hsb = h }

-- BSB 11h, SBV 22h, SSB 33h, HSB 44h
abbrev pub some_config : Config
some_config = configuration 0x11 0x22 0x33 0x44

pub record Tables : Type 0 where
  -- a configuration, BSB the lowest byte
  pub config : (pack_config some_config ≡ 0x44332211) × (config_of 0x44332211 ≡ some_config)
  -- of every configuration and number
  pub four_bytes : (b v s h : ℕ) → pack_config (configuration b v s h) ≡ b + 0x100 * v + 0x10000 * s + 0x1000000 * h
  pub bytes_read : (n : ℕ) → config_of n ≡ configuration (n % 256) (n / 0x100 % 256) (n / 0x10000 % 256) (n / 0x1000000 % 256)
  -- an outcome: its kind, and from bit 16 on the address of a start or the number of a refusal, of every address and number
  pub words : (a b : ℕ) → packed a b ≡ a + 0x10000 * b
  pub answered : pack_outcome Answered ≡ 0x0000000000000000
  pub started_by_reset : pack_outcome StartedReset ≡ 0x0000000000000002
  pub started_at : (a : FlashAddress) → pack_outcome (StartedAt a) ≡ 0x0000000000000003 + 0x10000 * a.0
  pub refused : (k : ℕ) → pack_outcome (Refused k) ≡ 0x0000000000000004 + 0x10000 * k
