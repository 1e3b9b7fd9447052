-- `fates::fate_of` meets its contract: memories that have not their sizes stall, and the others are asked.
-- Assumes nothing.
use Rattle.std.specs.Result.{result_ok}
use Rattle.std.proofs.Common.{sym, ap, ◌∙◌}
use Rattle.rules.specs.Session.{idle}
use Rattle.rules.specs.Result.{board}
use Rattle.rules.specs.Answered.{Sizes}
use Rattle.fates.specs.Fate.{sized_fate}
use Rattle.fates.proofs.FateLaws.{listed, other_sizes, stops, ended}
use Rattle.fates.proofs.fate.fate_of.Goals as goal

pub returns-then-flash-ne-FLASH_SIZE : goal.returns-then-flash-ne-FLASH_SIZE
returns-then-flash-ne-FLASH_SIZE c =
    let b = board idle c.args.config c.args.flash.now c.args.eeprom.now in
    stops b (sized_fate b c.args.sent.now) (other_sizes b c.args.sent.now c.then-flash-ne-FLASH_SIZE.either)

pub returns-in_err-command : goal.returns-in_err-command
returns-in_err-command c =
    let b = board idle c.args.config c.args.flash.now c.args.eeprom.now in
    let sizes : Sizes c.args.flash.now c.args.eeprom.now =
    record { flash_size_lem = c.if-flash-ne-FLASH_SIZE.false; eeprom_size_lem = c.if-eeprom-ne-EEPROM_SIZE.false } in
    ended b c.args.sent.now sizes _ _ _ (sym c.judge.ensures) (sym c.ok_or.ensures.value ∙ c.in_err-command.was) c.from_residual.ensures.1

pub returns : goal.returns
returns c =
    let b = board idle c.args.config c.args.flash.now c.args.eeprom.now in
    let sizes : Sizes c.args.flash.now c.args.eeprom.now =
    record { flash_size_lem = c.if-flash-ne-FLASH_SIZE.false; eeprom_size_lem = c.if-eeprom-ne-EEPROM_SIZE.false } in
    rw (listed b c.args.sent.now sizes c.in_ok-command.command c.in_ok-command.fit
    (sym c.judge.ensures ∙ c.ok_or.ensures.ok_part ∙ ap result_ok c.in_ok-command.was)) c.obey.ensures
