-- `loader::step` meets its contract: refused by its number, or answered.
-- Assumes nothing.
use Rattle.std.proofs.Common.{refl, sym, ap, ◌∙◌, []}
use Rattle.rules.specs.Result.{answer, reply}
use Rattle.rules.specs.declared.answer.Outcome.TheVariants.{Refused}
use Rattle.rules.proofs.StepLaws.{not_refused, is_refused_lem, is_answered}
use Rattle.refusals.specs.Numbers.{refusal_number, number_told}
use Rattle.refusals.proofs.NumbersHold.{never_0}
use Rattle.loader.proofs.respond.step.Goals as goal

pub returns-in-Err : goal.returns-in-Err
returns-in-Err c =
    let a = c.args in
    let r = c.in-Err.refusal in
    is_refused_lem a.session a.config a.setup.now a.sent.now a.flash.now a.eeprom.now a.reply.now (refusal_number r)
    (sym (ap number_told c.in-Err.is) ∙ c.refusal_of.ensures) (never_0 r)
    (c.quiet.ensures ∙ ap (λ n. answer (reply a.config (Refused n) [] a.session)) c.number.ensures)

pub respond-requires : goal.respond-requires
respond-requires c =
    let a = c.args in
    let u = not_refused a.session a.config a.setup.now a.sent.now a.flash.now a.eeprom.now a.reply.now 0
    (sym (ap number_told c.in-Ok.is) ∙ c.refusal_of.ensures) refl in
    record {
      room = record { sizes = record { flash_size_lem = u.flash_size_lem; eeprom_size_lem = u.eeprom_size_lem }; room = u.room };
      pending_value = u.pending_right;
    }

pub returns-in-Ok : goal.returns-in-Ok
returns-in-Ok c =
    let a = c.args in
    is_answered a.session a.config a.setup.now a.sent.now a.flash.now a.eeprom.now a.reply.now 0
    (sym (ap number_told c.in-Ok.is) ∙ c.refusal_of.ensures) _ refl c.request_of.ensures c.respond.ensures
