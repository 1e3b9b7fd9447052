-- The table of specs/BenchCases.antt holds.
-- Assumes nothing.
use Rattle.std.specs.Prelude.{Some}
use mathlib.Core.Path.{◌≡◌, refl, sym, ap, ◌∙◌, subst}
use mathlib.Core.Bool.{true, false}
use mathlib.Core.List.{List, [], ◌∷◌, ◌++◌, append_assoc}
use Prim.Native.Nat.{ℕ, ◌+◌, ◌*◌, ◌/◌, ◌%◌, ◌≤◌, ◌<◌}
use native.Mathlib.Nat.{le_antisymm}
use native.Mathlib.Omega.{arith}
use lib.Dec.{T, lit<, lit≤, leb→le, ltb→lt, leb, ltb}
use lib.ListN.{length, take, drop, length-append}
use lib.Seq.{take_at, drop_at}
use borrow.Author.Tests.{lt-ltb, le-ltb, lt-leb, le-leb, eq-eqb}
use Rattle.words.specs.Words.{count, Programmed}
use Rattle.memory.specs.Memory.{flash_size, eeprom_size, flash_pages, last_flash, flash_address, blank_flash}
use Rattle.memory.specs.Pages.{pages_met, program_stores, chip_stores}
use Rattle.blank.specs.Blank.{used_in}
use Rattle.config.specs.Config.{erased_config}
use Rattle.config.specs.Level.{level}
use Rattle.memory.specs.declared.address.FlashAddress.{FlashAddress}
use Rattle.config.specs.declared.config.Config.{Config}
use Rattle.config.specs.declared.level.Level.{Level}
use Rattle.config.specs.declared.level.Level.TheVariants.{L0, L2}
use Rattle.memory.proofs.PagesLaws.{program_stores_programmed, length_program_stores, store_all_chip_stores, length_chip_stores, length_blank_flash}
use Rattle.blank.proofs.BlankLaws.{used_in_whole}
use Rattle.command.specs.Form.{form}
use Rattle.command.specs.Address.{bad_ends, most_bytes}
use Rattle.command.specs.Transfer.{padding, body_place, body_of, transfer_length}
use Rattle.command.specs.declared.command.Command.{Command}
use Rattle.command.specs.declared.command.Command.TheVariants.{ProgramFlash, BlankCheck, EraseChip}
use Rattle.rules.specs.Session.{Session, session, idle, Nothing, BlankReport}
use Rattle.rules.specs.Result.{Board, board, reply, next, Done}
use Rattle.rules.specs.Commands.{stall, perform, obey, obey_form, accept, blank_effect, stores, program_flash}
use Rattle.rules.specs.Requests.{most_data, request_of, respond, upload, send, get_status, timeout_bytes}
use Rattle.rules.specs.Refusals.{refusal, reply_size, most_busy}
use Rattle.rules.specs.Step.{step, ask, last_sent}
use Rattle.rules.specs.BenchCases.{Ready, Unnamed, download, ask_status, ask_upload, Moved, line, taken, Answers, program_head, transfer, Programs}
use Rattle.rules.specs.BenchCases.{check_all, Finds, Erases, Waits, WritesHsb, BenchCases}
use Rattle.rules.proofs.Ready.{commanded, status_of}

-- a case that names the first bytes of the data and the answer
answers_by : {l : Level} {head : List ℕ} {least most : ℕ} {o : ℕ → Moved} → T (ltb 0 least) → T (leb most most_data)
    → ((b : Board) → Ready l b → (rest : List ℕ) → least ≤ length (head ++ rest) → length (head ++ rest) ≤ most
    → let moved : Moved = o b.session.busy in obey_form b (form (head ++ rest)) (head ++ rest) ≡ reply b.config moved.outcome [] moved.session)
    → Answers l head least most o
answers_by {l} {head} {least} {most} {o} p q f = record {
  answers = λ b r u rest h k.
      let w : 0 < least = ltb→lt 0 least p in
      let z : most ≤ most_data = leb→le most most_data q in
      commanded r u (head ++ rest) (omega arith) (omega arith) ∙ f b r rest h k;
}

-- ---- the wait (P5: cases 2, 6, 7 and 11)

-- a board in state 3 with pages to wait for, asked twice with GETSTATUS
waits : (b : Board) (k : ℕ) (six : List ℕ) (v w : Unnamed) → length b.flash ≡ flash_size → length b.eeprom ≡ eeprom_size
    → b.session ≡ session 3 0x00 Nothing k → T (ltb 0 k) → T (leb k most_busy) → 0x00 ∷ timeout_bytes (10 * k) ++ 4 ∷ 0x00 ∷ [] ≡ six → Waits b k six v w
waits b k six v w hf he s some-pages few q =
    let c : Config = b.config in
    let f : List ℕ = b.flash in
    let e : List ℕ = b.eeprom in
    let above : ltb 0 k ≡ true = lt-ltb 0 k (ltb→lt 0 k some-pages) in
    let most : ltb most_busy k ≡ false = le-ltb most_busy k (leb→le k most_busy few) in
    let here : b ≡ board (session 3 0x00 Nothing k) c f e = ap (λ x. board x c f e) s in
    let first : step b (ask_status v) ≡ reply c Done six (session 4 0x00 Nothing k) =
    ap (λ x. step x (ask_status v)) here
    ∙ status_of (session 3 0x00 Nothing k) c f e hf he (rw most) refl v
    ∙ rw (above, q) in
    record {
      first = first;
      second = ap (λ x. step (next b x) (ask_status w)) first ∙ status_of (session 4 0x00 Nothing k) c f e hf he (rw most) refl w;
    }

-- ---- program transfers (cases 2, 6 and 7)

-- a command to program that passes
obey_program : (b : Board) (a e : FlashAddress) (d : List ℕ) → level b.config ≡ L0 → bad_ends flash_size a.0 e.0 ≡ false
    → length d ≡ transfer_length (padding a.0) (count a.0 e.0) → obey b (ProgramFlash a e) d ≡ accept (ProgramFlash a e) (program_flash b a e d)
unfolding obey perform
obey_program b a e d l g h =
    let whole : ℕ = transfer_length (padding a.0) (count a.0 e.0) in
    rw (l, g, h, eq-eqb whole whole refl)

-- the bytes of a transfer lie where its layout says
module _ (a e : ℕ) (filler pad new suffix : List ℕ) (hf : length filler ≡ 26) (hn : length new ≡ count a e) (hs : length suffix ≡ 16)
    (ht : length (transfer a e filler pad new suffix) ≡ transfer_length (padding a) (count a e)) where
  front : List ℕ
  front = program_head a e ++ filler ++ pad

  length_front : length front ≡ body_place (padding a)
  unfolding front
  length_front = simp length-append (omega (arith, simp length-append at ht))

  transfer_body_lem : body_of a e (transfer a e filler pad new suffix) ≡ new
  unfolding front
  transfer_body_lem =
      ap (λ x. take (count a e) (drop (body_place (padding a)) x)) (append_assoc front new suffix)
      ∙ ap (take (count a e)) (drop_at front (new ++ suffix) (body_place (padding a)) length_front)
      ∙ take_at new suffix (count a e) hn

  transfer_form : form (transfer a e filler pad new suffix) ≡ Some (ProgramFlash (flash_address a) (flash_address e))
  unfolding form
  transfer_form =
      let six : 6 ≤ length (transfer a e filler pad new suffix) = omega (arith, ht) in
      let wa : a / 256 * 256 + a % 256 ≡ a = omega arith in
      let we : e / 256 * 256 + e % 256 ≡ e = omega arith in
      rw (le-leb 6 (length (transfer a e filler pad new suffix)) six, wa, we)

programs_by : (a e n k : ℕ) (six : List ℕ) → a ≤ e → e < flash_size → count a e ≤ most_bytes → n ≡ transfer_length (padding a) (count a e) → k ≡ pages_met a e
    → T (ltb 0 k) → T (leb k most_busy) → 0x00 ∷ timeout_bytes (10 * k) ++ 4 ∷ 0x00 ∷ [] ≡ six → Programs a e n k six
programs_by a e n k six forward inside short hn hk some-pages few sent = record {
  programs = λ b r u v w filler pad new suffix lf ln ls lt.
      let to_flash : Command = ProgramFlash (flash_address a) (flash_address e) in
      let t : List ℕ = transfer a e filler pad new suffix in
      let good : bad_ends flash_size a e ≡ false = rw (le-ltb e a forward, lt-leb flash_size e inside, le-ltb most_bytes (count a e) short) in
      let q : step b (download u t) ≡ accept to_flash (stores b.config (program_stores a e new b.flash)) =
      commanded r u t (omega arith) (omega arith)
      ∙ ap (λ o. obey_form b o t) (transfer_form a e filler pad new suffix lf ln ls (lt ∙ hn))
      ∙ obey_program b (flash_address a) (flash_address e) t r.at_level good (lt ∙ hn)
      ∙ ap (λ x. accept to_flash (stores b.config (program_stores a e x b.flash))) (transfer_body_lem a e filler pad new suffix lf ln ls (lt ∙ hn)) in
      let told : line (step b (download u t)) ≡ taken k = ap line q ∙ ap taken (length_program_stores a e new b.flash ∙ sym hk) in
      let programmed : Programmed a new b.flash (next b (step b (download u t))).flash =
      subst (λ x. Programmed a new b.flash (next b x).flash) (sym q)
      (program_stores_programmed a e new b.flash flash_pages r.flash_size_lem forward (omega (arith, r.flash_size_lem)) ln) in
      let eeprom : (next b (step b (download u t))).eeprom ≡ b.eeprom = ap (λ x. (next b x).eeprom) q in (
        told,
        programmed,
        eeprom,
        ap (λ x. (next b x).config) q,
        waits (next b (step b (download u t))) k six v w (programmed.same_size ∙ r.flash_size_lem) (ap length eeprom ∙ r.eeprom_size_lem)
            (ap (λ x. x.session) told) some-pages few sent,
      );
}

-- ---- the blank check (case 9)

-- the upload of a pending blank report
upload_report : (c : Config) (f e : List ℕ) → length f ≡ flash_size → length e ≡ eeprom_size → (u : Unnamed)
    → step (board (session 5 0x05 (BlankReport (flash_address 0x1234)) 0) c f e) (ask_upload u 2) ≡ reply c Done (0x12 ∷ 0x34 ∷ []) idle
unfolding step ask refusal request_of respond upload send
upload_report c f e hf he u =
    let t5 : ltb u.room reply_size ≡ false = le-ltb u.room reply_size u.enough in
    rw (hf, he, t5)

case_9 : Finds L2 0x1234 (0x12 ∷ 0x34 ∷ [])
unfolding form obey perform
case_9 = record {
  finds = λ b r f u v w.
      let c : Config = b.config in
      let report : Session = session 3 0x05 (BlankReport (flash_address 0x1234)) 0 in
      let found : used_in 0 last_flash b.flash ≡ Some 0x1234 = used_in_whole b.flash last_flash 0x1234 r.flash_size_lem (lit≤ tt) f.before f.there in
      let e1 : step b (check_all u) ≡ accept (BlankCheck (flash_address 0) (flash_address last_flash)) (blank_effect c (Some 0x1234)) =
      commanded r u (0x03 ∷ 0x01 ∷ 0x00 ∷ 0x00 ∷ 0x7F ∷ 0xFF ∷ []) (lit< tt) (lit≤ tt)
      ∙ ap (λ o. accept (BlankCheck (flash_address 0) (flash_address last_flash)) (blank_effect c o)) found in
      let e2 : step (board report c b.flash b.eeprom) (ask_status v) ≡ get_status (board report c b.flash b.eeprom) =
      status_of report c b.flash b.eeprom r.flash_size_lem r.eeprom_size_lem refl refl v in
      let e3 = upload_report c b.flash b.eeprom r.flash_size_lem r.eeprom_size_lem w in (
        ap line e1,
        ap (λ x. last_sent (next b x) (ask_status v ∷ ask_upload w 2 ∷ [])) e1
            ∙ ap (λ x. last_sent (next (board report c b.flash b.eeprom) x) (ask_upload w 2 ∷ [])) e2
            ∙ ap (λ x. x.sent) e3,
      );
}

-- ---- the full chip erase and HSB (cases 11 and 12)

case_11 : Erases L2 256 L0 (0x00 ∷ 0x00 ∷ 0x0A ∷ 0x00 ∷ 4 ∷ 0x00 ∷ [])
unfolding form obey perform
case_11 = record {
  erases = λ b r u v w.
      let e : step b (download u (0x04 ∷ 0x00 ∷ 0xFF ∷ [])) ≡ accept EraseChip (stores (erased_config b.config) chip_stores) =
      commanded r u (0x04 ∷ 0x00 ∷ 0xFF ∷ []) (lit< tt) (lit≤ tt) in
      let after : Board = next b (step b (download u (0x04 ∷ 0x00 ∷ 0xFF ∷ []))) in
      let told : line (step b (download u (0x04 ∷ 0x00 ∷ 0xFF ∷ []))) ≡ taken 256 = ap line e ∙ ap taken length_chip_stores in
      let flash : after.flash ≡ blank_flash = ap (λ x. (next b x).flash) e ∙ store_all_chip_stores b.flash r.flash_size_lem in
      let eeprom : after.eeprom ≡ b.eeprom = ap (λ x. (next b x).eeprom) e in (
        told,
        ap (λ x. level (next b x).config) e,
        flash,
        eeprom,
        record {
          bsb = ap (λ x. x.config.bsb) e;
          sbv = ap (λ x. x.config.sbv) e;
          p1cf = ap (λ x. x.config.p1cf) e;
          p3cf = ap (λ x. x.config.p3cf) e;
          p4cf = ap (λ x. x.config.p4cf) e;
          ssb = ap (λ x. x.config.ssb) e;
          eb = ap (λ x. x.config.eb) e;
          hsb = ap (λ x. x.config.hsb) e;
        },
        waits after 256 _ v w (ap length flash ∙ length_blank_flash) (ap length eeprom ∙ r.eeprom_size_lem) (ap (λ x. x.session) told) tt tt refl,
      );
}

case_12 : WritesHsb L0 0x4F 0xBB 0x4B
unfolding form obey perform
case_12 = record {
  writes = λ b r h u.
      let e = commanded r u (0x04 ∷ 0x02 ∷ 0x00 ∷ 0x4F ∷ []) (lit< tt) (lit≤ tt) in
      (ap line e ∙ simp r.at_level, ap (λ x. x.config.hsb) e ∙ simp (r.at_level, h));
}

-- ---- the table

pub bench_cases : BenchCases
unfolding form obey perform stall
bench_cases = (
  refl,
  (
    programs_by 0x00AF 0x00AF 64 1 _ (lit≤ tt) (lit< tt) (lit≤ tt) refl refl tt tt refl,
    (
      answers_by tt tt (λ b r t h k. simp (le_antisymm k h, r.at_level, r.in_state_2)),
      (
        answers_by tt tt (λ b r t h k. simp (le_antisymm k h, r.at_level)),
        (
          answers_by tt tt (λ b r t h k. simp (le-leb _ _ h, r.at_level)),
          (
            programs_by 0x007F 0x047E 1103 9 _ (lit≤ tt) (lit< tt) (lit≤ tt) refl refl tt tt refl,
            (
              programs_by 0x7FFF 0x7FFF 80 1 _ (lit≤ tt) (lit< tt) (lit≤ tt) refl refl tt tt refl,
              (
                answers_by tt tt (λ b r t h k. simp (le-leb _ _ h, r.at_level)),
                (
                  answers_by tt tt (λ b r t h k. simp (le_antisymm k h, r.at_level)),
                  (
                    case_9,
                    (
                      answers_by tt tt (λ b r t h k. simp (le_antisymm k h, r.at_level)),
                      (
                        case_11,
                        (
                          case_12,
                          tt,
                        ),
                      ),
                    ),
                  ),
                ),
              ),
            ),
          ),
        ),
      ),
    ),
  ),
)
