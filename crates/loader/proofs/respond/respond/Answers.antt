-- `loader::respond::respond` meets its contract: each arm is one request.
-- Assumes nothing.
use Rattle.std.proofs.Common.{ℕ, List, subst}
use Rattle.config.specs.declared.config.Config.{Config}
use Rattle.rules.specs.declared.session.Session.{Session}
use Rattle.rules.specs.declared.answer.Answer.{Answer}
use Rattle.rules.specs.declared.request.Request.TheVariants.{Dnload}
use Rattle.rules.specs.Result.{board}
use Rattle.rules.specs.Requests.{respond}
use Rattle.rules.specs.Answered.{Answered, Stepped, Sizes}
use Rattle.rules.proofs.StepLaws.{by_dnload, by_upload, by_get_status, by_get_state, by_clr_status, by_abort, by_stall}
use Rattle.downloads.specs.Download.{downloaded}
use Rattle.downloads.proofs.DownloadLaws.{downloaded_sized}
use Rattle.loader.proofs.respond.respond.Goals as goal

-- memories that passed the refusals have their sizes
downloads : (s : Session) (c : Config) (f e d p : List ℕ) (n : ℕ) {a : Answer} {f' e' : List ℕ} → Sizes f e
    → Answered (board s c f e) (downloaded (board s c f e) n d) a f' e'
    → Stepped (board s c f e) (respond (board s c f e) (Dnload n) d) a f' e' p p
downloads s c f e d p n {a} {f'} {e'} h q =
    by_dnload s c f e d p n (subst (λ x. Answered (board s c f e) x a f' e') (downloaded_sized (board s c f e) n d h) q)

pub returns-in-Dnload : goal.returns-in-Dnload
returns-in-Dnload c =
    let a = c.args in
    rw c.in-Dnload.is
    (downloads a.session a.config a.flash.now a.eeprom.now a.sent.now a.reply.now _ c.requires.room.sizes c.dnload.ensures)

pub returns-in-Upload : goal.returns-in-Upload
returns-in-Upload c =
    let a = c.args in
    rw c.in-Upload.is (by_upload a.session a.config a.flash.now a.eeprom.now a.sent.now a.reply.now _ c.upload.ensures)

pub returns-in-GetStatus : goal.returns-in-GetStatus
returns-in-GetStatus c =
    let a = c.args in
    rw c.in-GetStatus.is (by_get_status a.session a.config a.flash.now a.eeprom.now a.sent.now a.reply.now c.get_status.ensures)

pub returns-in-GetState : goal.returns-in-GetState
returns-in-GetState c =
    let a = c.args in
    rw c.in-GetState.is (by_get_state a.session a.config a.flash.now a.eeprom.now a.sent.now a.reply.now c.get_state.ensures)

pub returns-in-ClrStatus : goal.returns-in-ClrStatus
returns-in-ClrStatus c =
    let a = c.args in
    rw c.in-ClrStatus.is (by_clr_status a.session a.config a.flash.now a.eeprom.now a.sent.now a.reply.now c.clr_status.ensures)

pub returns-in-Abort : goal.returns-in-Abort
returns-in-Abort c =
    let a = c.args in
    rw c.in-Abort.is (by_abort a.session a.config a.flash.now a.eeprom.now a.sent.now a.reply.now c.abort.ensures)

pub returns-in-Other : goal.returns-in-Other
returns-in-Other c =
    let a = c.args in
    rw c.in-Other.is (by_stall a.session a.config a.flash.now a.eeprom.now a.sent.now a.reply.now c.stall.ensures)
