-- What is packed is unpacked again, and the other way round: each number of 32 bits is the number of one configuration, and no bit is
-- lost. The statements are proved in proofs/LayoutHolds.antt.
use Rattle.std.specs.Prelude.{◌≡◌, List, ℕ, ◌<◌}
use Rattle.plug.specs.Step.{board, step}
use Rattle.plug.specs.declared.board.Config.{Config}
use Rattle.plug.specs.declared.answer.Outcome.TheVariants.{Refused}
use Rattle.plugnumbers.specs.Layout.{pack_config, config_of}

-- the numbers of a configuration are bytes, as the code's types have them
abbrev pub Byte : ℕ → Type 0
Byte n = n < 256

pub record ConfigFits (c : Config) : Type 0 where
  pub bsb : Byte c.bsb
  pub sbv : Byte c.sbv
  pub ssb : Byte c.ssb
  pub hsb : Byte c.hsb

abbrev pub ConfigKept : Type 0
ConfigKept = (c : Config) → ConfigFits c → config_of (pack_config c) ≡ c

abbrev pub NumberKept : Type 0
NumberKept = (n : ℕ) → n < 0x100000000 → pack_config (config_of n) ≡ n

-- a record that is refused leaves the number of the configuration as it was lent, bit for bit
abbrev pub RefusedStays : Type 0
RefusedStays = (n : ℕ) (f cs : List ℕ) (size k : ℕ) → n < 0x100000000 → (step (board (config_of n) f) cs size).outcome ≡ Refused k
    → pack_config (step (board (config_of n) f) cs size).config ≡ n
