-- P1 of 02: a board that came back with SSB 00h, and its answers, worked out by hand. Assumes nothing: these are definitions.
use Rattle.std.specs.Prelude.{◌≡◌, List, [], ℕ, length}
use Rattle.config.specs.Config.{delivered_config, with_byte, ssb_index}
use Rattle.config.specs.declared.config.Config.{Config}
use Rattle.rules.specs.Session.{session}
use Rattle.rules.specs.declared.session.Session.{Session}
use Rattle.rules.specs.declared.session.Pending.TheVariants.{Nothing}
use Rattle.rules.specs.Result.{board, reply, answer}
use Rattle.rules.specs.Step.{ask}
use Rattle.rules.specs.Answered.{Room}
use Rattle.rules.specs.declared.answer.Answer.{Answer}
use Rattle.rules.specs.declared.answer.Outcome.TheVariants.{Done, Stall}

-- SSB 00h, and the other bytes as delivered
abbrev pub odd_config : Config
odd_config = with_byte ssb_index 0x00 delivered_config

-- a is what the odd board answers, with some memories of their sizes
pub record Asked (s : Session) (setup d : List ℕ) (a : Answer) : Type 0 where
  pub flash : List ℕ
  pub eeprom : List ℕ
  pub reply : List ℕ
  pub room : Room flash eeprom reply
  pub answered : a ≡ answer (ask (board s odd_config flash eeprom) setup d (length reply))

-- a write of FCh to SSB: the cell of "write SSB" at level 2 is 03h
abbrev pub write_refused : Answer
write_refused = answer (reply odd_config Done [] (session 10 0x03 Nothing 0))

-- UPLOAD where a read of flash is pending: "A pending start can't be sent, nor a memory read at level 2."
abbrev pub upload_stalled : Answer
upload_stalled = answer (reply odd_config Stall [] (session 10 0x0F Nothing 0))
