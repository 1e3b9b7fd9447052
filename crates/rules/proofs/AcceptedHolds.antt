-- What stops a command, in order, and what an accepted one sets.
-- Assumes nothing.
use Rattle.std.specs.Prelude.{Option, None, Some}
use mathlib.Core.Path.{◌≡◌, refl, sym, ap, subst}
use mathlib.Core.List.{List}
use Prim.Native.Nat.{ℕ, ◌<◌}
use native.Mathlib.Omega.{arith}
use lib.ListN.{length}
use borrow.Author.Tests.{ne_eqb}
use Rattle.memory.specs.declared.address.FlashAddress.{FlashAddress}
use Rattle.config.specs.Bytes.{config}
use Rattle.config.specs.Config.{config_byte, with_byte, with_hsb}
use Rattle.config.specs.declared.config.Config.{Config}
use Rattle.blank.specs.Blank.{used_in}
use Rattle.blank.proofs.BlankLaws.{used_in_some, used_in_none}
use Rattle.command.specs.Form.{form}
use Rattle.command.specs.Address.{bad_address}
use Rattle.command.proofs.RangesHold.{address_told}
use Rattle.command.specs.declared.command.Command.{Command}
use Rattle.command.specs.declared.command.Command.TheVariants.{ProgramFlash, ProgramEeprom, Read, BlankCheck, EraseBlock, EraseChip, WriteByte, WriteHsb}
use Rattle.command.specs.declared.command.Command.TheVariants.{StartReset, StartAt, ReadVersion, ReadByte, ReadHsb}
use Rattle.rules.specs.Session.{OneByte}
use Rattle.rules.specs.Result.{Board}
use Rattle.rules.specs.Commands.{perform, blank_effect, obey, obey_form}
use Rattle.rules.specs.Accepted.{Order, FormsObeyed, CommandOrder, Checked, ByteOf, Sets, ByteWritten, HsbWritten, Configures, Accepts, AcceptedSets}
use Rattle.rules.proofs.RefusalOrderHolds.{bad_told}
use Rattle.rules.proofs.StatesHold.{stall_told}
use Rattle.rules.proofs.Shape.{Passed, accepted_did}
use Rattle.rules.proofs.EffectsHold.{commands_answer}

-- ---- the order

module _ (b : Board) (d : List ℕ) where
  order : Order b d (obey_form b (form d) d)
  unfolding obey
  order = record {
    unlisted = λ f. rw f (stall_told b);
    forbidden = λ k status f l h. rw (f, l, ne_eqb status 0x00 h);
    bad_address_lem = λ k f l h. rw (f, l, bad_told (bad_address k) (address_told k) h);
    bad_length_lem = λ k f l a w. rw (f, l, (address_told k).passes a, w) (stall_told b);
    accepted = λ k f l a w. rw (f, l, (address_told k).passes a, w);
  }

pub forms_obeyed : FormsObeyed
forms_obeyed = order

pub command_order : CommandOrder
command_order b setup d n c = subst (Order b d) (sym (commands_answer b setup d n c)) (order b d)

-- ---- an accepted command

checked : (b : Board) (a e : FlashAddress) → e.0 < length b.flash
    → let x = blank_effect b.config (used_in a.0 e.0 b.flash) in Checked a.0 e.0 b.flash x.status x.pending
checked b a e inside = record {
  blank = λ each. let q = used_in_none a.0 e.0 b.flash (λ i h k. each i h (omega arith)) in (rw q, rw q);
  used = λ x h k each there. let q = used_in_some a.0 e.0 x b.flash h k (omega arith) each there in (rw q, rw q);
}

byte_of : (i : ℕ) (c : Config) → ByteOf i c (OneByte (config_byte i c))
byte_of i c = record {
  bsb = λ q. rw q;
  sbv = λ q. rw q;
  p1cf = λ q. rw q;
  p3cf = λ q. rw q;
  p4cf = λ q. rw q;
  ssb = λ q. rw q;
  eb = λ q. rw q;
  manufacturer = λ q. rw q;
  family = λ q. rw q;
  product = λ q. rw q;
  revision = λ q. rw q;
}

performed : (b : Board) (k : Command) (d : List ℕ) → Passed b k d → Sets k b (perform b k d).status (perform b k d).pending
unfolding perform
performed b (ProgramFlash a e) d p = (refl, refl)
performed b (ProgramEeprom a e) d p = (refl, refl)
performed b (Read r) d p = (refl, refl)
performed b (BlankCheck a e) d p =
    let right = (address_told (BlankCheck a e)).told p.address_right in
    let size = p.flash_size_lem in
    let last = right.1 in
    checked b a e (omega arith)
performed b (EraseBlock k) d p = (refl, refl)
performed b EraseChip d p = (refl, refl)
performed b (WriteByte i v) d p = (refl, refl)
performed b (WriteHsb v) d p = (refl, refl)
performed b StartReset d p = (refl, refl)
performed b (StartAt a) d p = (refl, refl)
performed b ReadVersion d p = (refl, refl)
performed b (ReadByte i) d p = (refl, byte_of i b.config)
performed b ReadHsb d p = (refl, refl)

byte_written : (i v : ℕ) (c : Config) → ByteWritten i v c (with_byte i v c)
byte_written i v c = record {
  bsb = λ q. rw q;
  sbv = λ q. rw q;
  p1cf = λ q. rw q;
  p3cf = λ q. rw q;
  p4cf = λ q. rw q;
  ssb = λ q. rw q;
  eb = λ q. rw q;
}

hsb_written : (v : ℕ) (c : Config) → HsbWritten v c (with_hsb v c)
hsb_written v c high x y low p q e f = ap (config c.bsb c.sbv c.p1cf c.p3cf c.p4cf c.ssb c.eb) (omega (arith, e, f))

configured : (b : Board) (k : Command) (d : List ℕ) → Configures k b.config (perform b k d).config
unfolding perform
configured b (ProgramFlash a e) d = refl
configured b (ProgramEeprom a e) d = refl
configured b (Read r) d = refl
configured b (BlankCheck a e) d = found (used_in a.0 e.0 b.flash)
  where
    found : (x : Option ℕ) → (blank_effect b.config x).config ≡ b.config
    found None = refl
    found (Some x) = refl
configured b (EraseBlock k) d = refl
configured b EraseChip d = refl
configured b (WriteByte i v) d = byte_written i v b.config
configured b (WriteHsb v) d = hsb_written v b.config
configured b StartReset d = refl
configured b (StartAt a) d = refl
configured b ReadVersion d = refl
configured b (ReadByte i) d = refl
configured b ReadHsb d = refl

pub accepted_sets : AcceptedSets
accepted_sets b setup d n k e =
    let a = accepted_did b setup d n k e in
    subst (Accepts b k) (sym a.answer) (record {
      nothing_sent = refl;
      in_state_3 = refl;
      sets = performed b k d a.passed;
      configures = configured b k d;
    })
