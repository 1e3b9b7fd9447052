-- `job::count::count_fields` meets its contract: each arm is a line of `requests_in`, at every bound that is large enough. It calls
-- itself on the value of a group and on the rest; the bytes left fall.
-- Assumes nothing.
use Rattle.std.proofs.Common.{◌≡◌, ℕ, arith}
use Rattle.job.specs.Field.{tag_at}
use Rattle.job.specs.Read.{Holds}
use Rattle.job.proofs.FieldLaws.{went_beyond, within}
use Rattle.job.proofs.RequestsLaws.{count_beyond, holds_request, holds_group, holds_other, count_field, count_last}
use Rattle.job.proofs.count.+count_fields.Goals as goal
use Rattle.job.proofs.count.+count_fields.Goals.{in-1, in-2, in_default-tag}

pub returns-in_default-clause-counts : goal.returns-in_default-clause-counts
returns-in_default-clause-counts t c = count_beyond _ _ _ (went_beyond _ _ _ _ c.reach_of.ensures c.in_default.is)

pub overflow_add-next : goal.overflow_add-next
overflow_add-next t c = let i = within _ _ _ _ _ c.reach_of.ensures c.in-Some.is in omega (arith, i.value_fits)

pub bounds-file-at : goal.bounds-file-at
bounds-file-at t c = let i = within _ _ _ _ _ c.reach_of.ensures c.in-Some.is in omega (arith, i.head_fits)

pub count_fields-held-requires : goal.count_fields-held-requires
count_fields-held-requires t c =
    let i = within _ _ _ _ _ c.reach_of.ensures c.in-Some.is in
    (omega (arith, i.value_fits), (omega arith, omega (arith, i.value_fits)))

-- the field is counted, by each way
field_counted : (t : ℕ) (c : goal.Then-next-end t) → Holds c.match-tag.held c.args.file.now c.args.at
field_counted t c =
    let i = within _ _ _ _ _ c.reach_of.ensures c.in-Some.is in
    elim c.match-tag.branch [
      | in-1 w ↦ rw w.held-is (holds_request c.args.file.now c.args.at w.in-1.is)
      | in-2 w ↦ rw w.held-is (holds_group c.args.file.now c.args.at _ _ i.sized w.in-2.is w.count_fields-held.ensures.counts)
      | in_default-tag w ↦
          let not_request : tag_at c.args.file.now c.args.at ≡ 1 → ⊥ = λ e. omega arith in
          let not_group : tag_at c.args.file.now c.args.at ≡ 2 → ⊥ = λ e. omega arith in
          rw w.held-is (holds_other c.args.file.now c.args.at not_request not_group)
    ]

pub returns-then-next-end-clause-counts : goal.returns-then-next-end-clause-counts
returns-then-next-end-clause-counts t c =
    let i = within _ _ _ _ _ c.reach_of.ensures c.in-Some.is in
    count_last _ _ _ _ i _ (field_counted t c) c.if-next-end.true

pub count_fields-requires : goal.count_fields-requires
count_fields-requires t c =
    let i = within _ _ _ _ _ c.reach_of.ensures c.in-Some.is in
    (omega (arith, i.value_fits), (omega (arith, i.value_fits), omega arith))

pub returns-clause-counts : goal.returns-clause-counts
returns-clause-counts t c =
    let i = within _ _ _ _ _ c.reach_of.ensures c.in-Some.is in
    let h : Holds c.match-tag.held c.args.file.now c.args.at =
    elim c.match-tag.branch [
      | in-1 w ↦ rw w.held-is (holds_request c.args.file.now c.args.at w.in-1.is)
      | in-2 w ↦ rw w.held-is (holds_group c.args.file.now c.args.at _ _ i.sized w.in-2.is w.count_fields-held.ensures.counts)
      | in_default-tag w ↦
          let not_request : tag_at c.args.file.now c.args.at ≡ 1 → ⊥ = λ e. omega arith in
          let not_group : tag_at c.args.file.now c.args.at ≡ 2 → ⊥ = λ e. omega arith in
          rw w.held-is (holds_other c.args.file.now c.args.at not_request not_group)
    ] in
    count_field _ _ _ _ i _ h _ c.count_fields.ensures.counts

pub returns-clause-upper_bound : goal.returns-clause-upper_bound
returns-clause-upper_bound t c =
    let i = within _ _ _ _ _ c.reach_of.ensures c.in-Some.is in
    let rest = c.count_fields.ensures.upper_bound in
    elim c.match-tag.branch [
      | in-1 w ↦ omega (arith, i.value_fits, rest)
      | in-2 w ↦ omega (arith, i.value_fits, rest, w.count_fields-held.ensures.upper_bound)
      | in_default-tag w ↦ omega (arith, i.value_fits, rest)
    ]
