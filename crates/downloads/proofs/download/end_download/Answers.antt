-- `downloads::download::end_download` meets its contract: only a pending start is answered with a start.
-- Assumes nothing.
use Rattle.std.proofs.Common.{◌≡◌, ◌⊎◌, false, inr, refl, rules}
use borrow.Author.Tests.{ne_eqb}
use Rattle.memory.specs.declared.address.FlashAddress.{FlashAddress}
use Rattle.rules.specs.declared.session.StartKind.{StartKind}
use Rattle.rules.specs.declared.session.Pending.{Pending}
use Rattle.rules.specs.declared.session.Pending.TheVariants.{Nothing, MemoryRead, BlankReport, OneByte, Start}
use Rattle.rules.specs.Requests.{start_pending, start_states}
use Rattle.rules.proofs.StatusLaws.{one_of, none_of}
use Rattle.rules.proofs.DownloadLaws.{ends_not, starts, starts_not, no_start}
use Rattle.downloads.proofs.download.end_download.Goals as goal

pub returns-in-3 : goal.returns-in-3
returns-in-3 c = starts c.args.session _ _ _ _ c.in-Start.is (one_of start_states _ c.in-3.is) c.quiet.ensures

pub returns-in_default-state : goal.returns-in_default-state
returns-in_default-state c =
    let no : (c.args.session.state ≡ 3) ⊎ (c.args.session.state ≡ 5) → ⊥ = search rules in
    starts_not c.args.session _ _ (none_of start_states _ no) (ends_not c.args.session _ _ (ne_eqb _ 5 (λ e. no (inr e))) c.stall.ensures)

-- what is pending is no start
no_start_pending : (p : Pending) → ((k : StartKind) (a : FlashAddress) → p ≡ Start k a → ⊥) → start_pending p ≡ false
no_start_pending Nothing h = refl
no_start_pending (MemoryRead r) h = refl
no_start_pending (BlankReport a) h = refl
no_start_pending (OneByte v) h = refl
no_start_pending (Start k a) h = absurd (h k a refl)

pub returns-in_default : goal.returns-in_default
returns-in_default c = no_start c.args.session _ _ (no_start_pending _ c.in_default.not-Start) c.ended.ensures
