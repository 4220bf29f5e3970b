-- What is seen of a history: the worlds before and after each call and what it answers. Assumes nothing.
use Rattle.std.specs.Prelude.{◌≡◌, Bool, true, false, not, ◌&&◌, ◌||◌, List, [], ◌∷◌, ◌++◌, ℕ, ◌+◌, ◌-◌, ◌%◌, eqb, leb, ltb, set}
use Rattle.laws.specs.Pick.{pick}
use Rattle.timing.specs.Timing.{total_of}
use Rattle.tiles.specs.Tiles.{area_of, Bytes}
use Rattle.lighting.specs.Taken.{setting_of}
use Rattle.lighting.specs.Light.{light_frame, lit_of}
use Rattle.tiles.specs.Picture.{picture_of}
use Rattle.controller.specs.declared.Controller.{Controller}
use Rattle.cartridge.specs.Bus.{registers_on, ram_writable, ram_place}
use Rattle.placing.specs.Placing.{pixels_of, placed_byte}
use Rattle.history.specs.History.{Call, reset, read, write, tick, inspect, choose, place, World, fresh, leaves, answers, refusal_in, after, counted}

-- whether a call is a reset
unfoldable pub is_reset : Call → Bool
is_reset reset = true
is_reset (read rom a) = false
is_reset (write image a v) = false
is_reset (tick n) = false
is_reset inspect = false
is_reset (choose light level plain exposure) = false
is_reset (place file) = false

-- a start is seen: no capture is held before a call, and one is held after it
unfoldable pub start_seen : World → Call → Bool
start_seen w c = not w.state.held && (leaves w c).state.held

-- an end is seen: a capture is held before a call that is no reset, and after it none is held
unfoldable pub end_seen : World → Call → Bool
end_seen w c = w.state.held && (not (is_reset c) && not (leaves w c).state.held)

-- a capture is held in a world, and after each of these calls
unfoldable pub held_through : World → List Call → Bool
held_through w [] = w.state.held
held_through w (c ∷ cs) = w.state.held && held_through (leaves w c) cs

-- none is held in a world, nor after any of these calls
unfoldable pub idle_through : World → List Call → Bool
idle_through w [] = not w.state.held
idle_through w (c ∷ cs) = not w.state.held && idle_through (leaves w c) cs

-- the picture area: RAM bank 0, 0100h to 0EFFh
unfoldable pub in_area : ℕ → Bool
in_area p = leb 0x100 p && leb p 0xEFF

-- a call is answered with no refusal
abbrev pub accepted : World → Call → Bool
accepted w c = eqb (refusal_in (answers w c)) 0

-- a bus write to this address of the cartridge goes to this place of the RAM: the address is not below 8000h, so in A000-BFFF, bit 4 of
-- select is clear, the RAM can be written, and this is the address's place
unfoldable pub goes_to : Controller → List ℕ → ℕ → ℕ → Bool
goes_to c ram a p = not (ltb a 0x8000) && (not (registers_on c) && (ram_writable c && eqb p (ram_place c ram a)))

-- where a call's bytes go that is not refused: a bus write's there, and a placing counts as bus writes to all of the area
unfoldable pub goes_in : Controller → List ℕ → Call → ℕ → Bool
goes_in c ram reset p = false
goes_in c ram (read rom a) p = false
goes_in c ram (write image a v) p = goes_to c ram a p
goes_in c ram (tick n) p = false
goes_in c ram inspect p = false
goes_in c ram (choose light level plain exposure) p = false
goes_in c ram (place file) p = in_area p

-- a call lands in a place: its bytes go there, and it is not refused
unfoldable pub lands_seen : World → Call → ℕ → Bool
lands_seen w c p = goes_in w.state w.ram c p && accepted w c

-- the byte that a call brings to a place
unfoldable pub byte_in : Call → ℕ → ℕ
byte_in reset p = 0
byte_in (read rom a) p = 0
byte_in (write image a v) p = v
byte_in (tick n) p = 0
byte_in inspect p = 0
byte_in (choose light level plain exposure) p = 0
byte_in (place file) p = placed_byte (pixels_of file) (p - 0x100)

-- one of these calls landed in this place
unfoldable pub landed_seen : ℕ → World → List Call → Bool
landed_seen p w [] = false
landed_seen p w (c ∷ cs) = lands_seen w c p || landed_seen p (leaves w c) cs

-- none landed in the picture area
abbrev pub AreaLeft : World → List Call → Type 0
AreaLeft w cs = (p : ℕ) → in_area p ≡ true → landed_seen p w cs ≡ false

-- the last byte that landed in this place, or else what it held at first
unfoldable pub last_seen : ℕ → World → List Call → ℕ → ℕ
last_seen p w [] first = first
last_seen p w (c ∷ cs) first = last_seen p (leaves w c) cs (pick (lands_seen w c p) (byte_in c p) first)

-- what a call writes is a byte; of a placing it always is
unfoldable pub writes_byte : Call → Bool
writes_byte reset = true
writes_byte (read rom a) = true
writes_byte (write image a v) = ltb v 256
writes_byte (tick n) = true
writes_byte inspect = true
writes_byte (choose light level plain exposure) = true
writes_byte (place file) = true

-- what these calls write are bytes
unfoldable pub bytes_in : List Call → Bool
bytes_in [] = true
bytes_in (c ∷ cs) = writes_byte c && bytes_in cs

-- calls from reset on, split at a write that is seen to be a start and since which a capture is held all through
pub record Start (ram store : List ℕ) (calls : List Call) : Type 0 where
  pub before : List Call
  pub image : List ℕ
  pub address : ℕ
  pub byte : ℕ
  pub since : List Call
  pub whole : calls ≡ before ++ (write image address byte ∷ since)
  pub begins : start_seen (after (fresh ram store) before) (write image address byte) ≡ true
  pub through : held_through (leaves (after (fresh ram store) before) (write image address byte)) since ≡ true

-- that write, and the worlds before and after it
abbrev pub start_of : {ram store : List ℕ} {calls : List Call} → Start ram store calls → Call
start_of s = write s.image s.address s.byte

abbrev pub world_before : {ram store : List ℕ} {calls : List Call} → Start ram store calls → World
world_before {ram} {store} s = after (fresh ram store) s.before

abbrev pub world_after : {ram store : List ℕ} {calls : List Call} → Start ram store calls → World
world_after s = leaves (world_before s) (start_of s)

-- the registers at the start: registers 1 to 53 as they are before it, and the new register 0
abbrev pub registers_of : {ram store : List ℕ} {calls : List Call} → Start ram store calls → List ℕ
registers_of s = set (world_before s).state.registers 0 (s.byte % 8)

-- the picture afresh from an image and registers; of a start, from the image lent to it and the registers at it
abbrev pub afresh : List ℕ → List ℕ → List ℕ
afresh image regs = picture_of (lit_of image (setting_of regs)) regs

abbrev pub afresh_of : {ram store : List ℕ} {calls : List Call} → Start ram store calls → List ℕ
afresh_of s = afresh s.image (registers_of s)

-- the counts returned from the start on, with those of one call more
abbrev pub counts_of : {ram store : List ℕ} {calls : List Call} → Start ram store calls → Call → ℕ
counts_of s last = counted (world_before s) (start_of s ∷ (s.since ++ (last ∷ [])))

-- a capture is held, the store is the light of this image, lent at the start, by these registers, and they are taken, after so many cycles
pub record Own (image regs : List ℕ) (cycles : ℕ) (w : World) : Type 0 where
  pub held : w.state.held ≡ true
  pub store : w.store ≡ light_frame image (setting_of regs)
  pub taken : w.state.taken ≡ regs
  pub elapsed : w.state.elapsed.0 ≡ cycles

-- two starts of the same calls are one
pub record OneStart {ram store : List ℕ} {calls : List Call} (s other : Start ram store calls) : Type 0 where
  pub before : other.before ≡ s.before
  pub start : start_of other ≡ start_of s
  pub since : other.since ≡ s.since

-- a capture that reached its end in the last of these calls: it had one start; it ran exactly its total of cycles; and where no bus write
-- landed in the picture area meanwhile, the area is the picture afresh
pub record Ended (ram store : List ℕ) (calls : List Call) (last : Call) : Type 0 where
  pub start : Start ram store calls
  pub one : (other : Start ram store calls) → OneStart start other
  pub cycles : counts_of start last ≡ total_of (registers_of start)
  pub picture : Bytes ram → bytes_in (calls ++ (last ∷ [])) ≡ true → AreaLeft (world_after start) start.since
      → area_of (after (fresh ram store) (calls ++ (last ∷ []))).ram ≡ afresh_of start

-- how many calls of a kind there are since the last reset, with n before these calls: one more at each, and none at a reset
unfoldable pub tally : (World → Call → Bool) → World → List Call → ℕ → ℕ
tally kind w [] n = n
tally kind w (c ∷ cs) n = tally kind (leaves w c) cs (pick (is_reset c) 0 (pick (kind w c) (n + 1) n))

-- captures started since the last reset, from reset on. A resume is no start
abbrev pub starts_seen : List ℕ → List ℕ → List Call → ℕ
starts_seen ram store cs = tally start_seen (fresh ram store) cs 0

-- and captures that reached their end. A stop is no end
abbrev pub ends_seen : List ℕ → List ℕ → List Call → ℕ
ends_seen ram store cs = tally end_seen (fresh ram store) cs 0
