-- `listing::line::starts_erased` meets its contract.
-- Assumes nothing.
use Rattle.std.proofs.Common.{ap, ◌∙◌, take}
use lib.Pointwise.{bytes_decides}
use Rattle.listing.specs.Line.{without_return, same_bytes, erased_mark, starts_erased}
use Rattle.listing.proofs.LineLaws.{same_answer}
use Rattle.listing.proofs.line.starts_erased.Goals as goal

pub returns : goal.returns
unfolding starts_erased
returns c =
    let file = c.args.file.now in
    let e = c.without_return-end.ensures.value ∙ ap (without_return file 0) c.line_end.ensures.value in
    let text = take c.without_return-end.result file in
    c.eq.ensures ∙ same_answer _ text erased_mark (bytes_decides text erased_mark) ∙ ap (λ k. same_bytes (take k file) erased_mark) e
