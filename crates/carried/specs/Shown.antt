-- What is shown by the bytes handed on and by the answers: a start, an end, where a write landed. Assumes nothing.
use Rattle.std.specs.Prelude.{◌≡◌, Bool, true, false, not, ◌&&◌, ◌||◌, List, [], ◌∷◌, ◌++◌, ℕ, ◌%◌, eqb, get_or, set}
use Rattle.laws.specs.Pick.{pick}
use Rattle.timing.specs.Timing.{total_of}
use Rattle.tiles.specs.Tiles.{area_of, Bytes}
use Rattle.layout.specs.Layout.{registers_at, decoded}
use Rattle.answers.specs.Packed.{number_in}
use Rattle.history.specs.Seen.{is_reset, in_area, goes_in, byte_in, afresh}
use Rattle.carried.specs.Exported.{Kept, Export, write, call_of, at_reset, hands, replies, hands_on, counted}

-- a capture is held: byte 4 of the state is 1
abbrev pub held_in : Kept → Bool
held_in b = eqb (get_or b.state 4 0) 1

-- a start is shown: no capture is held before a call, and one is held after it
unfoldable pub start_shown : Kept → Export → Bool
start_shown b c = not (held_in b) && held_in (hands b c)

-- an end is shown: a capture is held before a call that is no reset, and after it none is held
unfoldable pub end_shown : Kept → Export → Bool
end_shown b c = held_in b && (not (is_reset (call_of c)) && not (held_in (hands b c)))

-- a capture is held in what is handed to each of these calls, and in what the last one hands on
unfoldable pub held_on : Kept → List Export → Bool
held_on b [] = held_in b
held_on b (c ∷ cs) = held_in b && held_on (hands b c) cs

-- a call's answer has refusal number 0
abbrev pub accepted : Kept → Export → Bool
accepted b c = eqb (number_in (replies b c)) 0

-- a call lands in a place: its bytes go there, and it is not refused
unfoldable pub lands_shown : Kept → Export → ℕ → Bool
lands_shown b c p = goes_in (decoded b.state) b.ram (call_of c) p && accepted b c

-- one of these calls landed in this place
unfoldable pub landed_shown : ℕ → Kept → List Export → Bool
landed_shown p b [] = false
landed_shown p b (c ∷ cs) = lands_shown b c p || landed_shown p (hands b c) cs

-- none landed in the picture area
abbrev pub AreaKept : Kept → List Export → Type 0
AreaKept b cs = (p : ℕ) → in_area p ≡ true → landed_shown p b cs ≡ false

-- the last byte that landed in this place, or else what it held at first
unfoldable pub last_shown : ℕ → Kept → List Export → ℕ → ℕ
last_shown p b [] first = first
last_shown p b (c ∷ cs) first = last_shown p (hands b c) cs (pick (lands_shown b c p) (byte_in (call_of c) p) first)

-- calls from reset on, split at a write that is shown to be a start and since which a capture is held all through
pub record Begun (ram store : List ℕ) (calls : List Export) : Type 0 where
  pub before : List Export
  pub image : List ℕ
  pub address : ℕ
  pub byte : ℕ
  pub since : List Export
  pub whole : calls ≡ before ++ (write image address byte ∷ since)
  pub begins : start_shown (hands_on (at_reset ram store) before) (write image address byte) ≡ true
  pub through : held_on (hands (hands_on (at_reset ram store) before) (write image address byte)) since ≡ true

-- that write, and the bytes before and after it
abbrev pub start_in : {ram store : List ℕ} {calls : List Export} → Begun ram store calls → Export
start_in s = write s.image s.address s.byte

abbrev pub bytes_before : {ram store : List ℕ} {calls : List Export} → Begun ram store calls → Kept
bytes_before {ram} {store} s = hands_on (at_reset ram store) s.before

abbrev pub bytes_after : {ram store : List ℕ} {calls : List Export} → Begun ram store calls → Kept
bytes_after s = hands (bytes_before s) (start_in s)

-- the registers at the start: bytes 13 to 66 of the state before it, and the new register 0
abbrev pub registers_in : {ram store : List ℕ} {calls : List Export} → Begun ram store calls → List ℕ
registers_in s = set (registers_at (bytes_before s).state 13) 0 (s.byte % 8)

-- two starts of the same calls are one
pub record OneBegun {ram store : List ℕ} {calls : List Export} (s other : Begun ram store calls) : Type 0 where
  pub before : other.before ≡ s.before
  pub start : start_in other ≡ start_in s
  pub since : other.since ≡ s.since

-- a capture that reached its end in the last of these calls: it had one start; it ran exactly its total of cycles; and where no bus write
-- landed in the picture area meanwhile, the area is the picture afresh from the image lent to the start and the registers at it
pub record Finished (ram store : List ℕ) (calls : List Export) (last : Export) : Type 0 where
  pub start : Begun ram store calls
  pub one : (other : Begun ram store calls) → OneBegun start other
  pub cycles : counted (bytes_before start) (start_in start ∷ (start.since ++ (last ∷ []))) ≡ total_of (registers_in start)
  pub picture : Bytes ram → AreaKept (bytes_after start) start.since
      → area_of (hands_on (at_reset ram store) (calls ++ (last ∷ []))).ram ≡ afresh start.image (registers_in start)
