-- `run::answer::blank_flash` meets its contract: the array is what the shut name stands for.
-- Assumes nothing.
use Rattle.std.proofs.Common.{refl}
use Rattle.memory.specs.Memory.{blank_flash}
use Rattle.run.proofs.answer.blank_flash.Goals as goal

pub returns : goal.returns
unfolding blank_flash
returns c = refl
