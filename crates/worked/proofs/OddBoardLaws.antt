-- What the rules say of the odd board is what was worked out by hand, whatever its memories hold.
-- Assumes nothing.
use mathlib.Core.Path.{◌≡◌}
use mathlib.Core.Bool.{false}
use mathlib.Core.List.{List, [], ◌∷◌}
use Prim.Native.Nat.{ℕ}
use lib.Dec.{ltb}
use lib.ListN.{length}
use borrow.Author.Tests.{le-ltb}
use Rattle.memory.specs.Memory.{flash_address}
use Rattle.memory.specs.declared.address.Range.TheVariants.{Flash}
use Rattle.command.specs.Form.{form}
use Rattle.rules.specs.Session.{session, idle}
use Rattle.rules.specs.declared.session.Pending.TheVariants.{MemoryRead}
use Rattle.rules.specs.Result.{board, answer}
use Rattle.rules.specs.Commands.{stall, obey}
use Rattle.rules.specs.Requests.{request_of, respond, dnload, upload}
use Rattle.rules.specs.Refusals.{refusal, reply_size}
use Rattle.rules.specs.Step.{ask}
use Rattle.rules.specs.Answered.{Room}
use Rattle.worked.specs.OddBoard.{odd_config, write_refused, upload_stalled}

module _ (f e p : List ℕ) (r : Room f e p) where
  room : ltb (length p) reply_size ≡ false
  room = le-ltb (length p) reply_size r.room

  pub refuses_write : answer (ask (board idle odd_config f e) (0x21 ∷ 1 ∷ 0 ∷ 0 ∷ 0 ∷ 0 ∷ 4 ∷ 0 ∷ []) (0x04 ∷ 0x01 ∷ 0x05 ∷ 0xFC ∷ []) (length p))
      ≡ write_refused
  unfolding ask refusal request_of respond dnload form obey
  refuses_write = rw (r.sizes.flash_size_lem, r.sizes.eeprom_size_lem, room)

  pub stalls_upload : answer (ask (board (session 5 0x00 (MemoryRead (Flash (flash_address 0x0000) (flash_address 0x0000))) 0) odd_config f e)
      (0xA1 ∷ 2 ∷ 0 ∷ 0 ∷ 0 ∷ 0 ∷ 1 ∷ 0 ∷ []) [] (length p)) ≡ upload_stalled
  unfolding ask refusal request_of respond upload stall
  stalls_upload = rw (r.sizes.flash_size_lem, r.sizes.eeprom_size_lem, room)
