-- `downloads::dnload` meets its contract: the length, then the state, decides; memories that have not their sizes stall.
-- Assumes nothing.
use Rattle.std.proofs.Common.{◌≡◌, ◌⊎◌, [], ◌∷◌, rules}
use Rattle.rules.specs.Result.{board}
use Rattle.rules.specs.Answered.{Sizes}
use Rattle.rules.proofs.StatusLaws.{one_of, none_of}
use Rattle.rules.proofs.DownloadLaws.{stalled, too_long, ending, elsewhere}
use Rattle.downloads.proofs.DownloadLaws.{downloaded_sized, downloaded_other, stalls_anyway, commands}
use Rattle.downloads.proofs.download.dnload.Goals as goal

pub returns-then-n-gt-MOST_DATA : goal.returns-then-n-gt-MOST_DATA
returns-then-n-gt-MOST_DATA c =
    let a = c.args in
    stalls_anyway a.session a.config a.flash.now a.eeprom.now a.n a.sent.now
    (too_long a.session a.config a.flash.now a.eeprom.now a.n a.sent.now c.if-n-gt-MOST_DATA.true c.stall.ensures) c.stall.ensures

pub returns-then-flash-ne-FLASH_SIZE : goal.returns-then-flash-ne-FLASH_SIZE
returns-then-flash-ne-FLASH_SIZE c =
    let a = c.args in
    let b = board a.session a.config a.flash.now a.eeprom.now in
    rw (downloaded_other b a.n a.sent.now c.then-flash-ne-FLASH_SIZE.either)
    (stalled a.session a.config a.flash.now a.eeprom.now c.stall-then-flash-ne-FLASH_SIZE.ensures)

pub returns-then-n-eq0 : goal.returns-then-n-eq0
returns-then-n-eq0 c =
    let a = c.args in
    let b = board a.session a.config a.flash.now a.eeprom.now in
    let sizes : Sizes a.flash.now a.eeprom.now =
    record { flash_size_lem = c.if-flash-ne-FLASH_SIZE.false; eeprom_size_lem = c.if-eeprom-ne-EEPROM_SIZE.false } in
    rw (downloaded_sized b a.n a.sent.now sizes)
    (ending a.session a.config a.flash.now a.eeprom.now a.n a.sent.now c.if-n-gt-MOST_DATA.false c.if-n-eq0.true c.end_download.ensures)

pub returns-in-2 : goal.returns-in-2
returns-in-2 c =
    let a = c.args in
    commands a.session a.config a.flash.now a.eeprom.now a.n a.sent.now c.if-n-gt-MOST_DATA.false c.if-n-eq0.false
    (one_of (2 ∷ 5 ∷ []) _ c.in-2.is) c.command_sent.ensures

pub returns-in_default : goal.returns-in_default
returns-in_default c =
    let a = c.args in
    let no : (a.session.state ≡ 2) ⊎ (a.session.state ≡ 5) → ⊥ = search rules in
    stalls_anyway a.session a.config a.flash.now a.eeprom.now a.n a.sent.now
    (elsewhere a.session a.config a.flash.now a.eeprom.now a.n a.sent.now c.if-n-gt-MOST_DATA.false c.if-n-eq0.false
    (none_of (2 ∷ 5 ∷ []) _ no) c.stall-in_default.ensures) c.stall-in_default.ensures
