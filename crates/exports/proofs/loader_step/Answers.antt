-- `exports::loader_step` meets its contract: the step, told in numbers.
-- Assumes nothing.
use mathlib.Core.Path.{◌≡◌, sym, ap, ◌∙◌}
use mathlib.Core.List.{List}
use Prim.Native.Nat.{ℕ}
use lib.ListN.{length}
use Rattle.config.specs.declared.config.Config.{Config}
use Rattle.rules.specs.declared.session.Session.{Session}
use Rattle.rules.specs.declared.answer.Answer.{Answer}
use Rattle.rules.specs.Result.{Board, Result, board}
use Rattle.rules.specs.Step.{ask}
use Rattle.rules.specs.Answered.{Stepped}
use Rattle.numbers.specs.Layout.{session_of, config_of, pack_session, pack_config, pack_outcome, number_after}
use Rattle.exports.specs.Exported.{StepTold, numbered}
use Rattle.exports.proofs.loader_step.Goals as goal

-- what the step answers, as numbers
told : (b : Board) (r : Result) (a : Answer) (f e p p₀ : List ℕ) (n c outcome session config : ℕ) → Stepped b r a f e p p₀
    → session ≡ number_after a.outcome n (pack_session a.session) → config ≡ number_after a.outcome c (pack_config a.config)
    → outcome ≡ pack_outcome a.outcome → StepTold b r n c p₀ outcome session a.session.busy config a.length a.pages f e p
told b r a f e p p₀ n c outcome session config g es ec eo = record {
  outcome_told = eo ∙ ap (λ (x : Answer). pack_outcome x.outcome) g.answered;
  session_told = es ∙ ap (λ (x : Answer). number_after x.outcome n (pack_session x.session)) g.answered;
  busy_told = ap (λ (x : Answer). x.session.busy) g.answered;
  config_told = ec ∙ ap (λ (x : Answer). number_after x.outcome c (pack_config x.config)) g.answered;
  sent_told = ap (λ (x : Answer). x.length) g.answered;
  pages_told = ap (λ (x : Answer). x.pages) g.answered;
  flash = g.flash;
  eeprom = g.eeprom;
  reply = g.reply;
}

-- the board that the numbers stand for
of_numbers : (s : Session) (k : Config) (n busy c : ℕ) (flash eeprom setup sent reply : List ℕ) (a : Answer) (f e p : List ℕ)
    → s ≡ session_of n busy → k ≡ config_of c → Stepped (board s k flash eeprom) (ask (board s k flash eeprom) setup sent (length reply)) a f e p reply
    → Stepped (numbered n busy c flash eeprom) (ask (numbered n busy c flash eeprom) setup sent (length reply)) a f e p reply
of_numbers s k n busy c flash eeprom setup sent reply a f e p q r g = rw (sym q, sym r) g

pub returns : goal.returns
returns c =
    let a = c.args in
    told _ _ _ _ _ _ a.reply.now a.session.now a.config.now _ _ _
    (of_numbers _ _ a.session.now a.busy.now a.config.now a.flash.now a.eeprom.now a.setup.now a.sent.now a.reply.now _ _ _ _
    c.session_of.ensures c.config_of.ensures c.step-answer.ensures)
    (c.number_after.ensures ∙ rw c.pack_session.ensures) (c.number_after-2.ensures ∙ rw c.pack_config.ensures) c.pack_outcome.ensures
