-- `downloads::download::command_sent` meets its contract: each fate has its answer.
-- Assumes nothing.
use Rattle.std.specs.Prelude.{Err}
use Rattle.std.proofs.Common.{refl, ap, ◌∙◌}
use Rattle.downloads.proofs.FateLaws.{answers}
use Rattle.downloads.proofs.download.command_sent.Goals as goal

pub returns-in-Ok : goal.returns-in-Ok
returns-in-Ok c =
    let a = c.args in
    answers a.session a.config a.flash.now a.eeprom.now a.sent.now c.fate_of.ensures _ _ c.in-Ok.is refl

pub returns-in-Err-Sets : goal.returns-in-Err-Sets
returns-in-Err-Sets c =
    let a = c.args in
    answers a.session a.config a.flash.now a.eeprom.now a.sent.now c.fate_of.ensures _ _ (c.in-Err-Sets.is ∙ ap Err c.in-Err-Sets.field-0-is) c.failed.ensures

pub returns-in-Err-Stops : goal.returns-in-Err-Stops
returns-in-Err-Stops c =
    let a = c.args in
    answers a.session a.config a.flash.now a.eeprom.now a.sent.now c.fate_of.ensures _ _ (c.in-Err-Stops.is ∙ ap Err c.in-Err-Stops.field-0-is) c.stall.ensures
