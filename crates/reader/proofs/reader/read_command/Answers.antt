-- `reader::read_command` meets its contract: its answer is the judgement's.
-- Assumes nothing.
use Rattle.std.specs.Prelude.{Some, Err}
use Rattle.std.specs.Result.{result_ok}
use Rattle.std.proofs.lemmas.Result.{err_from_is_err_and}
use Rattle.std.proofs.Common.{sym, ap, ◌∙◌}
use Rattle.reader.specs.Payload.{reading}
use Rattle.reader.proofs.PayloadLaws.{read_as, stalled}
use Rattle.reader.proofs.reader.read_command.Goals as goal

pub returns-in_err-command : goal.returns-in_err-command
returns-in_err-command c =
    let e = err_from_is_err_and _ c.from_residual.ensures.1 in
    e.1 ∙ ap Err e.2
    ∙ stalled _ _ _ (sym c.judge.ensures) (sym c.ok_or.ensures.value ∙ c.in_err-command.was)

pub returns-in_err-fit : goal.returns-in_err-fit
returns-in_err-fit c =
    let e = err_from_is_err_and _ c.from_residual-in_err-fit.ensures.1 in
    e.1 ∙ ap Err e.2
    ∙ ap (reading c.in_ok-command.command) (sym (c.in_err-fit.was))
    ∙ read_as _ (Some (c.in_ok-command.command, c.in_ok-command.fit)) (sym c.judge.ensures ∙ c.ok_or.ensures.ok_part ∙ ap result_ok (c.in_ok-command.was))

pub returns : goal.returns
returns c =
    ap (reading c.in_ok-command.command) (sym (c.in_ok-fit.was))
    ∙ read_as _ (Some (c.in_ok-command.command, c.in_ok-command.fit)) (sym c.judge.ensures ∙ c.ok_or.ensures.ok_part ∙ ap result_ok (c.in_ok-command.was))
