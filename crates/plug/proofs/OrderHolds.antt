-- The order of specs/Order.antt holds: each test is decided by what is given.
-- Assumes nothing.
use Rattle.std.specs.Prelude.{Option}
use mathlib.Core.Path.{◌≡◌}
use mathlib.Core.List.{List}
use Prim.Native.Nat.{ℕ}
use lib.ListN.{length}
use borrow.Author.Tests.{eq-eqb, ne_eqb, lt-ltb, le-ltb}
use Rattle.record.specs.Reader.{fields_of, reading}
use Rattle.plug.specs.Levels.{Command}
use Rattle.plug.specs.Commands.{flash_size, form}
use Rattle.plug.specs.Step.{Board, obey, obey_form, answer, step}
use Rattle.plug.specs.Order.{Taken, taken_data, Order}

-- a record that is taken is answered by its form
taken : (b : Board) (cs : List ℕ) (o : Option Command) → Taken b cs → form (fields_of cs).kind (fields_of cs).offset (taken_data cs) ≡ o
    → answer b cs ≡ obey_form b o (taken_data cs)
unfolding answer reading
taken b cs o t q = rw (eq-eqb (length b.flash) flash_size t.flash_size_lem, t.well_formed_lem, t.sum_right, q)

pub order : Order
unfolding answer reading obey step
order = record {
  wrong_flash = λ b cs h. rw (ne_eqb (length b.flash) flash_size h);
  bad_record = λ b cs h w. rw (eq-eqb (length b.flash) flash_size h, w);
  wrong_checksum = λ b cs h w s. rw (eq-eqb (length b.flash) flash_size h, w, s);
  unknown_type = λ b cs t q. taken b cs _ t q;
  bad_range_lem = λ b cs k t q r. rw (taken b cs _ t q, r);
  security = λ b cs k t q r l. rw (taken b cs _ t q, r, l);
  done = λ b cs k t q r l. rw (taken b cs _ t q, r, l);
  does_not_fit = λ b cs n h. rw (lt-ltb n (length (answer b cs).text) h);
  fits = λ b cs n h. rw (le-ltb n (length (answer b cs).text) h);
}
