-- 01's list of requests as setups of eight bytes, beside the definition of `request_of`. Proved in proofs/SetupsHold.antt.
use Rattle.std.specs.Prelude.{◌⊎◌, ◌≡◌, List, [], ◌∷◌, ℕ, ◌+◌, ◌*◌, length}
use Rattle.command.specs.Rows.{Bytes}
use Rattle.rules.specs.Requests.{Request, Dnload, Upload, GetStatus, GetState, ClrStatus, Abort, Other, request_of}

-- "bmRequestType, bRequest, wValue, wIndex, wLength, each word low byte first"; "wIndex is 0."
pub data Listed : List ℕ → Request → Type 0 where
  -- "DNLOAD 1" with 21h, "UPLOAD 2" with A1h: "wValue is not looked at in DNLOAD and UPLOAD"
  dnload : (v w l h : ℕ) → Listed (0x21 ∷ 1 ∷ v ∷ w ∷ 0 ∷ 0 ∷ l ∷ h ∷ []) (Dnload (l + 256 * h))
  upload : (v w l h : ℕ) → Listed (0xA1 ∷ 2 ∷ v ∷ w ∷ 0 ∷ 0 ∷ l ∷ h ∷ []) (Upload (l + 256 * h))
  -- "wValue is 0 and wLength 6, 1, 0, 0 for GETSTATUS, GETSTATE, CLRSTATUS, ABORT": 3 and 5 with A1h, 4 and 6 with 21h
  get_status_lem : Listed (0xA1 ∷ 3 ∷ 0 ∷ 0 ∷ 0 ∷ 0 ∷ 6 ∷ 0 ∷ []) GetStatus
  get_state_lem : Listed (0xA1 ∷ 5 ∷ 0 ∷ 0 ∷ 0 ∷ 0 ∷ 1 ∷ 0 ∷ []) GetState
  clr_status_lem : Listed (0x21 ∷ 4 ∷ 0 ∷ 0 ∷ 0 ∷ 0 ∷ 0 ∷ 0 ∷ []) ClrStatus
  abort : Listed (0x21 ∷ 6 ∷ 0 ∷ 0 ∷ 0 ∷ 0 ∷ 0 ∷ 0 ∷ []) Abort

abbrev pub ListedAsked : Type 0
ListedAsked = (setup : List ℕ) (q : Request) → Listed setup q → request_of setup ≡ q

-- "Anything else stalls, DETACH always.": DETACH is not listed
abbrev pub ElseOther : Type 0
ElseOther = (setup : List ℕ) → length setup ≡ 8 → Bytes setup → Listed setup (request_of setup) ⊎ (request_of setup ≡ Other)
