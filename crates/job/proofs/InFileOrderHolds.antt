-- The statements of specs/InFileOrder.antt hold: by the laws of a list of fields, the first of them and then the rest.
-- Assumes nothing.
use Rattle.std.specs.Prelude.{Err}
use mathlib.Core.Path.{◌≡◌, refl, sym, ap, ◌∙◌}
use mathlib.Core.List.{List}
use Prim.Native.Nat.{ℕ, suc, ◌+◌, ◌<◌}
use lib.ListN.{length}
use borrow.Author.Tests.{ne_eqb, le-ltb}
use Rattle.words.specs.Words.{byte_at}
use Rattle.job.specs.Field.{end_at, beyond}
use Rattle.job.specs.Verdict.{Verdict, accepted, refused, and_then, field_verdict, fields_verdict, most_file, verdict}
use Rattle.job.specs.Requests.{requests_of}
use Rattle.job.specs.InFileOrder.{VerdictInOrder, RequestsInOrder, WalkInOrder, InFileOrder}
use Rattle.job.proofs.FieldLaws.{end_beyond}
use Rattle.job.proofs.VerdictLaws.{fields_none, fields_more}
use Rattle.job.proofs.RequestsLaws.{none_beyond, first_held}
use Rattle.job.proofs.WalkLaws.{walk_none, walk_request, walk_group, walk_other}
use Rattle.job.proofs.CausesHold.{not_beyond, is_beyond}

module _ (n : ℕ) (file : List ℕ) (at end depth : ℕ) where
  abbrev inside : Verdict
  inside = fields_verdict n file (at + 3) (end_at file at) (depth + 1)

  -- the verdict on the first field, and then on the rest
  from_field : (v : Verdict) → at < end → field_verdict inside file at end depth ≡ v
      → fields_verdict (suc n) file at end depth ≡ and_then v (fields_verdict n file (end_at file at) end depth)
  from_field v h q = fields_more n file at end depth h ∙ ap (λ x. and_then x (fields_verdict n file (end_at file at) end depth)) q

  verdict_in_order : VerdictInOrder n file at end depth
  unfolding field_verdict and_then
  verdict_in_order = record {
    no_field = λ h. sym (fields_none n file at end depth h);
    bad = λ c h r. from_field (refused c at) h (rw r);
    bad_in_group = λ k h r t q. from_field (Err k) h (rw (r, t, q));
    behind_group = λ h r t q. from_field accepted h (rw (r, t, q));
    behind_other = λ h r t. from_field accepted h (rw (r, ne_eqb (byte_at file at) 0x02 t));
  }

  requests_in_order : RequestsInOrder n file at end
  requests_in_order = record {
    no_field = λ h. none_beyond n file at end (end_beyond file at end h);
    cut_short = λ h. none_beyond n file at end (is_beyond file at end h (beyond file at end) refl);
    request = λ w t. first_held n file at end (not_beyond file at end w) ∙ rw t;
    group = λ w t. first_held n file at end (not_beyond file at end w) ∙ rw t;
    other = λ w r g. first_held n file at end (not_beyond file at end w) ∙ rw (ne_eqb (byte_at file at) 0x01 r, ne_eqb (byte_at file at) 0x02 g);
  }

walk_in_order : (file : List ℕ) (at : ℕ) → WalkInOrder file at
walk_in_order file at =
    let end = length file in
    record {
      cut_short = λ h. walk_none file at (is_beyond file at end h (beyond file at end) refl);
      request = λ w t. walk_request file at (not_beyond file at end w) t;
      group = λ w t. walk_group file at (not_beyond file at end w) t;
      other = λ w r g. walk_other file at (not_beyond file at end w) r g;
    }

pub in_file_order : InFileOrder
unfolding verdict requests_of
in_file_order = record {
  most_bytes = refl;
  whole_file = λ file h. rw (le-ltb most_file (length file) h);
  all_requests = λ file h. rw (le-ltb most_file (length file) h);
  verdicts = verdict_in_order;
  requests = λ n file at end. requests_in_order n file at end 0;
  walks = walk_in_order;
  of_span = λ start size. (refl, refl);
  first_met_lem = λ start size ss. refl;
  none_met = refl;
}
