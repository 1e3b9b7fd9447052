-- The paper's numbers of each request, and that a setup asks for a request by them alone. Proved in proofs/NumberedHolds.antt.
use Rattle.std.specs.Prelude.{◌≡◌, List, [], ◌∷◌, ℕ, ◌+◌, ◌*◌, ◌<◌}
use Rattle.words.specs.Words.{byte_at}
use Rattle.rules.specs.Requests.{Request, Dnload, Upload, GetStatus, GetState, ClrStatus, Abort, Other, request_of}

-- "Requests with 21h: .. DNLOAD 1, CLRSTATUS 4, ABORT 6. With A1h: UPLOAD 2, GETSTATUS 3, GETSTATE 5."; what is not listed has no number
abbrev pub request_numbers : Request → List ℕ
request_numbers (Dnload n) = 0x21 ∷ 1 ∷ []
request_numbers (Upload n) = 0xA1 ∷ 2 ∷ []
request_numbers GetStatus = 0xA1 ∷ 3 ∷ []
request_numbers GetState = 0xA1 ∷ 5 ∷ []
request_numbers ClrStatus = 0x21 ∷ 4 ∷ []
request_numbers Abort = 0x21 ∷ 6 ∷ []
request_numbers Other = []

-- "wLength 6, 1, 0, 0 for GETSTATUS, GETSTATE, CLRSTATUS, ABORT"; DNLOAD and UPLOAD carry theirs
abbrev pub request_length : Request → ℕ
request_length (Dnload n) = n
request_length (Upload n) = n
request_length GetStatus = 6
request_length GetState = 1
request_length ClrStatus = 0
request_length Abort = 0
request_length Other = 0

-- "Setup is bmRequestType, bRequest, wValue, wIndex, wLength, each word low byte first."; "wIndex is 0."
pub record Asks (setup : List ℕ) (q : Request) : Type 0 where
  pub numbers : byte_at setup 0 ∷ byte_at setup 1 ∷ [] ≡ request_numbers q
  pub index : byte_at setup 4 + 256 * byte_at setup 5 ≡ 0
  pub length : byte_at setup 6 + 256 * byte_at setup 7 ≡ request_length q

-- a setup that is taken for a request asks for it in the paper's numbers
abbrev pub RequestsNumbered : Type 0
RequestsNumbered = (setup : List ℕ) → ((i : ℕ) → byte_at setup i < 256) → (request_of setup ≡ Other → ⊥) → Asks setup (request_of setup)
