-- The loop of `run::run::run_all`: the lines written and those to come are the whole job's; the bytes of the file that are left get fewer.
use Rattle.std.proofs.Common.{◌-◌, length}
use Rattle.run.proofs.RunLaws.{SoFar}
use Rattle.run.proofs.run.run_all.Given as goal

abbrev pub invariant-loop-span : goal.invariant-loop-span
invariant-loop-span l = SoFar l.file l.fn.flash l.fn.eeprom l.fn.room l.fn.place l.flash l.eeprom l.reply l.room l.progress l.cursor

abbrev pub decreases-loop-span : goal.decreases-loop-span
decreases-loop-span l = length l.file - l.cursor
