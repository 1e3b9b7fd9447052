-- `loader::upload::send_read` meets its contract.
-- Assumes nothing.
use Rattle.std.proofs.Common.{ap, ◌∙◌, arith}
use Rattle.memory.specs.Read.{read_count, read_buffer}
use Rattle.rules.specs.declared.session.Pending.TheVariants.{MemoryRead}
use Rattle.rules.specs.Answered.{sent_answer}
use Rattle.rules.proofs.UploadLaws.{reads_first, reads_all}
use Rattle.loader.proofs.upload.send_read.Goals as goal

pub returns-then-from-all : goal.returns-then-from-all
returns-then-from-all c =
    let a = c.args in
    let less = c.if-from-all.true in
    let counted = c.range_count-all.ensures.value in
    let asked = c.from.ensures in
    let read = c.read_range-count.ensures in
    reads_first a.busy a.config a.flash.now a.eeprom.now a.reply.now a.n _ _ a.range c.requires (omega arith)
    (read.value ∙ ap (λ r. read_count r a.flash.now a.eeprom.now a.reply.now) c.split-first.ensures.first)
    (read.reply_after ∙ ap (λ r. read_buffer r a.flash.now a.eeprom.now a.reply.now) c.split-first.ensures.first)
    (c.sent.ensures ∙ ap (λ r. sent_answer a.config 9 (MemoryRead r) a.busy c.read_range-count.result) c.split-first.ensures.rest)

pub returns : goal.returns
returns c =
    let a = c.args in
    let less = c.if-from-all.false in
    let counted = c.range_count-all.ensures.value in
    let asked = c.from.ensures in
    let read = c.read_range-count-2.ensures in
    reads_all a.busy a.config a.flash.now a.eeprom.now a.reply.now a.n _ _ a.range c.requires (omega arith) read.value read.reply_after
    c.sent-2.ensures
