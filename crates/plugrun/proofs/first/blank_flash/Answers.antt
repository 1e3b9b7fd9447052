-- `plugrun::first::blank_flash` meets its contract: the array is what the shut name stands for.
-- Assumes nothing.
use mathlib.Core.Path.{refl}
use Rattle.plug.specs.Step.{blank_flash}
use Rattle.plugrun.proofs.first.blank_flash.Goals as goal

pub returns : goal.returns
unfolding blank_flash
returns c = refl
