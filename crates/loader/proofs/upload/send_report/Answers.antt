-- `loader::upload::send_report` meets its contract.
-- Assumes nothing.
use Rattle.std.proofs.Common.{rules, [], ◌∷◌, ap, ◌∙◌, arith}
use Rattle.words.specs.Words.{laid}
use Rattle.rules.specs.declared.session.Pending.TheVariants.{OneByte}
use Rattle.rules.specs.Answered.{sent_answer}
use Rattle.rules.proofs.UploadLaws.{report_first, report_all}
use Rattle.loader.proofs.upload.send_report.Goals as goal

pub returns-then-n-eq1 : goal.returns-then-n-eq1
returns-then-n-eq1 c =
    let a = c.args in
    report_first _ _ _ _ _ c.requires.reply_size_in_bounds a.address c.if-n-eq1.true
    (c.lay.ensures.memory_after ∙ ap (λ high. laid 0 (high ∷ []) a.reply.now) (search rules))
    (c.sent.ensures ∙ ap (λ low. sent_answer a.config 9 (OneByte low) a.busy 1) (search rules))

pub returns : goal.returns
returns c =
    let m = c.requires.n_nonzero in
    let n = c.if-n-eq1.false in
    report_all _ _ _ _ _ c.requires.reply_size_in_bounds c.args.address (omega arith)
    (c.lay-2.ensures.memory_after ∙ ap (λ bs. laid 0 bs c.args.reply.now) (search rules)) c.sent-2.ensures
