-- What a caller is told, case by case: what was asked for, and all else as it was. Proved in proofs/ToldHolds.antt.
use Rattle.std.specs.Prelude.{◌≡◌, List, ℕ, length, Ok, Err}
use Rattle.command.specs.declared.command.Command.{Command}
use Rattle.command.specs.declared.reader.Parts.{Parts}
use Rattle.command.specs.declared.reader.Fault.TheVariants as C
use Rattle.record.specs.declared.fields.Fields.{Fields}
use Rattle.record.specs.declared.reader.ReadError.{ReadError}
use Rattle.record.specs.declared.reader.ReadError.TheVariants.{WrongChecksum}
use Rattle.rules.specs.Result.{Board, Result, next, pages, reply_after}
use Rattle.rules.specs.declared.answer.Outcome.TheVariants.{Done, Stall, Started, Refused}
use Rattle.rules.specs.declared.session.StartKind.{StartKind}
use Rattle.memory.specs.declared.address.FlashAddress.{FlashAddress}
use Rattle.numbers.specs.Layout.{session_of, config_of, pack_session, pack_config, pack_outcome, pack_command}
use Rattle.plug.specs.Step as P
use Rattle.plug.specs.Answered.{room_after}
use Rattle.plugnumbers.specs.Layout as N
use Rattle.exports.specs.Exported.{numbered, StepTold, command_told, body_told, suffix_told}
use Rattle.exports.specs.Records.{numbered_plug, RecordTold, offset_told, kind_told, count_told}

-- the command and its places, and the fields of a record: told where it is taken, and else as they were
pub record TakenTold : Type 0 where
  pub command : (k : Command) (p : Parts) (x y z : ℕ)
      → (command_told (Ok (k, p)) x ≡ pack_command k) × (body_told (Ok (k, p)) y ≡ p.body) × (suffix_told (Ok (k, p)) z ≡ p.suffix)
  pub stall : (x y z : ℕ) → (command_told (Err C.Stall) x ≡ x) × (body_told (Err C.Stall) y ≡ y) × (suffix_told (Err C.Stall) z ≡ z)
  pub bad_address_lem : (x y z : ℕ) → (command_told (Err C.BadAddress) x ≡ x) × (body_told (Err C.BadAddress) y ≡ y) × (suffix_told (Err C.BadAddress) z ≡ z)
  pub fields : (f : Fields) (x y z : ℕ)
      → (offset_told (Ok f) x ≡ f.offset) × (kind_told (Ok f) y ≡ f.kind) × (count_told (Ok f) z ≡ f.length)
  pub wrong_checksum : (x y z : ℕ)
      → (offset_told (Err WrongChecksum) x ≡ x) × (kind_told (Err WrongChecksum) y ≡ y) × (count_told (Err WrongChecksum) z ≡ z)
  pub refused : (e : ReadError) (x y z : ℕ) → (offset_told (Err e) x ≡ x) × (kind_told (Err e) y ≡ y) × (count_told (Err e) z ≡ z)

-- the numbers after a request: of a refusal those that were lent, and else those of the result
abbrev pub Lent : (r : Result) (s c session config : ℕ) → Type 0
Lent r s c session config = (n : ℕ) → r.outcome ≡ Refused n → (session ≡ s) × (config ≡ c)

abbrev pub New : (r : Result) (session config : ℕ) → Type 0
New r session config = (session ≡ pack_session r.session) × (config ≡ pack_config r.config)

abbrev pub StepsTold : Type 0
StepsTold = (b : Board) (r : Result) (s c : ℕ) (p₀ : List ℕ) (outcome session busy config sent stored : ℕ) (f e p : List ℕ)
    → StepTold b r s c p₀ outcome session busy config sent stored f e p
    → (outcome ≡ pack_outcome r.outcome) × (busy ≡ r.session.busy) × (sent ≡ length r.sent) × (stored ≡ pages r)
    × (f ≡ (next b r).flash) × (e ≡ (next b r).eeprom) × (p ≡ reply_after r p₀) × Lent r s c session config
    × (r.outcome ≡ Done → New r session config) × (r.outcome ≡ Stall → New r session config)
    × ((k : StartKind) (a : FlashAddress) → r.outcome ≡ Started k a → New r session config)

-- the same of a record of the serial plug
abbrev pub RecordsTold : Type 0
RecordsTold = (b : P.Board) (r : P.Result) (p₀ : List ℕ) (outcome config sent stored : ℕ) (f p : List ℕ)
    → RecordTold b r p₀ outcome config sent stored f p
    → (outcome ≡ N.pack_outcome r.outcome) × (config ≡ N.pack_config r.config) × (sent ≡ length r.text) × (stored ≡ P.pages r)
    × (f ≡ (P.next b r).flash) × (p ≡ room_after r p₀)

-- the board that a caller lends in numbers
pub record Lends : Type 0 where
  pub loader : (s busy c : ℕ) (f e : List ℕ) → let b = numbered s busy c f e in
      (b.session ≡ session_of s busy) × (b.config ≡ config_of c) × (b.flash ≡ f) × (b.eeprom ≡ e)
  pub serial : (c : ℕ) (f : List ℕ) → let b = numbered_plug c f in (b.config ≡ N.config_of c) × (b.flash ≡ f)
