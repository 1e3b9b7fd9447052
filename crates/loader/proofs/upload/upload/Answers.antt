-- `loader::upload::upload` meets its contract.
-- Assumes nothing.
use Rattle.std.proofs.Common.{◌≡◌, ℕ, ◌<◌, [], ◌∷◌, false, arith}
use Rattle.words.specs.Words.{among}
use Rattle.rules.proofs.StatusLaws.{one_of}
use Rattle.rules.proofs.UploadLaws.{no_bytes, elsewhere, uploads}
use Rattle.loader.proofs.upload.upload.Goals as goal

over-0 : (n : ℕ) → (n ≡ 0 → ⊥) → 0 < n
over-0 n h = omega arith

pub returns-then-n-eq0 : goal.returns-then-n-eq0
returns-then-n-eq0 c =
    let a = c.args in
    no_bytes a.session a.config a.flash.now a.eeprom.now a.n c.stall.ensures c.if-n-eq0.true

pub returns-in-5 : goal.returns-in-5
returns-in-5 c =
    let a = c.args in
    uploads a.session a.config a.flash.now a.eeprom.now a.n (one_of (5 ∷ 9 ∷ []) _ c.in-5.is) (over-0 _ c.if-n-eq0.false) c.send.ensures

pub returns-in_default : goal.returns-in_default
returns-in_default c =
    let a = c.args in
    let none : among a.session.state (5 ∷ 9 ∷ []) ≡ false = grind arith in
    elsewhere a.session a.config a.flash.now a.eeprom.now a.n c.stall-in_default.ensures none
