-- `loader::upload::send` meets its contract: at level 2 a memory read is not sent.
-- Assumes nothing.
use Rattle.std.proofs.Common.{◌⊎◌, inl, inr, ◌≡◌, false, sym, ap, ◌∙◌}
use Rattle.memory.specs.declared.address.FlashAddress.{FlashAddress}
use Rattle.config.specs.Level.{level}
use Rattle.config.specs.declared.level.Level.{Level}
use Rattle.rules.specs.declared.session.StartKind.{StartKind}
use Rattle.rules.specs.declared.session.Pending.{Pending}
use Rattle.rules.specs.declared.session.Pending.TheVariants.{Nothing, Start}
use Rattle.rules.specs.Requests.{read_sent, sendable}
use Rattle.rules.proofs.UploadLaws.{sends_read, sends_report, sends_byte, sends_not}
use Rattle.loader.proofs.upload.send.Goals as goal

-- nothing, or a start, can't be sent
none_sent : (p : Pending) (l : Level) → (p ≡ Nothing) ⊎ ((k : StartKind) × (a : FlashAddress) × (p ≡ Start k a)) → sendable p l ≡ false
none_sent p l (inl q) = ap (λ x. sendable x l) q
none_sent p l (inr (k, a, q)) = ap (λ x. sendable x l) q

pub returns-then-read_sent : goal.returns-then-read_sent
returns-then-read_sent c =
    let a = c.args in
    sends_read a.session a.config a.flash.now a.eeprom.now a.n _ c.in-MemoryRead.is
    (sym (c.read_sent.ensures ∙ ap read_sent c.level_of.ensures) ∙ c.if-read_sent.true) c.send_read.ensures

pub returns-else-read_sent : goal.returns-else-read_sent
returns-else-read_sent c =
    let a = c.args in
    sends_not a.session a.config a.flash.now a.eeprom.now a.n c.stall.ensures
    (ap (λ q. sendable q (level a.config)) c.in-MemoryRead.is ∙ sym (c.read_sent.ensures ∙ ap read_sent c.level_of.ensures)
    ∙ c.if-read_sent.false)

pub returns-in-BlankReport : goal.returns-in-BlankReport
returns-in-BlankReport c =
    let a = c.args in
    sends_report a.session a.config a.flash.now a.eeprom.now a.n _ c.in-BlankReport.is c.send_report.ensures

pub returns-in-OneByte : goal.returns-in-OneByte
returns-in-OneByte c =
    let a = c.args in
    sends_byte a.session a.config a.flash.now a.eeprom.now a.n _ c.in-OneByte.is c.send_byte.ensures

pub returns-in-Nothing : goal.returns-in-Nothing
returns-in-Nothing c =
    let a = c.args in
    sends_not a.session a.config a.flash.now a.eeprom.now a.n c.stall-in-Nothing.ensures (none_sent a.session.pending (level a.config) c.in-Nothing.is)
