-- The jobs of specs/Jobs.antt; each is computed.
-- Assumes nothing.
use mathlib.Core.Path.{refl}
use Rattle.job.specs.Field.{tag_refusal}
use Rattle.job.specs.Verdict.{and_then, field_verdict, fields_verdict, verdict}
use Rattle.job.specs.Requests.{requests_in, requests_of}
use Rattle.job.specs.Walk.{walk_in, walk}
use Rattle.job.specs.Jobs.{Jobs}

pub jobs : Jobs
unfolding tag_refusal and_then field_verdict fields_verdict verdict requests_in requests_of walk_in walk
jobs = record {
  example_accepted = refl;
  example_requests = refl;
  example_setup = refl;
  example_data = refl;
  met_first = refl;
  met_second = refl;
  met_no_more = refl;
  empty_accepted = refl;
  empty_requests = refl;
  note_accepted = refl;
  note_skipped = refl;
  four_deep = refl;
  five_deep = (refl, refl);
  five_deep_bad_inside = (refl, refl);
  five_beside = refl;
  five_deep_behind_a_note = (refl, refl);
  through_groups = refl;
  first_bad = (refl, refl);
  bad_inside = (refl, refl);
  bad_two_deep = (refl, refl);
  short_two_deep = (refl, refl);
  bad_four_deep = (refl, refl);
  bad_behind = (refl, refl);
  beyond_its_group = (refl, refl);
  one_byte_left = (refl, refl);
  one_byte_left_inside = (refl, refl);
  two_bytes_left = (refl, refl);
  eleven_first = (refl, refl);
  held_before = refl;
}
