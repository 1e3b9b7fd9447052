-- `fates::fate::obey` meets its contract: the level is asked first.
-- Assumes nothing.
use Rattle.std.proofs.Common.{ap, ◌∙◌}
use Rattle.rules.specs.Levels.{level_status}
use Rattle.fates.proofs.FateLaws.{forbidden, misfits, performed, acceptable}
use Rattle.fates.proofs.fate.obey.Goals as goal

pub returns-then-refused : goal.returns-then-refused
returns-then-refused c =
    forbidden c.args.config c.args.command c.args.fit c.args.sent.now c.args.flash.now c.args.eeprom.now _
    (c.level_status-status.ensures ∙ ap (level_status c.args.command) c.level_of-level.ensures) c.if-refused.true

pub returns-in_err-parts : goal.returns-in_err-parts
returns-in_err-parts c =
    misfits c.args.config c.args.command c.args.fit c.args.sent.now c.args.flash.now c.args.eeprom.now _
    (c.level_status-status.ensures ∙ ap (level_status c.args.command) c.level_of-level.ensures) c.if-refused.false
    c.requires _ _ c.in_err-parts.was c.from_residual.ensures.1

pub perform-requires-clause-acceptable : goal.perform-requires-clause-acceptable
perform-requires-clause-acceptable c = (acceptable _ _ _ _ _ _ c.requires c.in_ok-parts.was).0

pub perform-requires-clause-parts_value : goal.perform-requires-clause-parts_value
perform-requires-clause-parts_value c = (acceptable _ _ _ _ _ _ c.requires c.in_ok-parts.was).1

pub returns : goal.returns
returns c =
    performed c.args.config c.args.command c.args.fit c.args.sent.now c.args.flash.now c.args.eeprom.now _
    (c.level_status-status.ensures ∙ ap (level_status c.args.command) c.level_of-level.ensures) c.if-refused.false
    c.requires c.in_ok-parts.was c.perform.ensures
