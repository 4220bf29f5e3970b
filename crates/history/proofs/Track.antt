-- What the calls alone tell, with the sizes lent: no state, no byte of the RAM and no answer is looked at. A device of the proofs: what is told is
-- shown to be what is seen. Assumes nothing.
use mathlib.Core.Path.{◌≡◌}
use mathlib.Core.Bool.{Bool, true, false, not, ◌&&◌}
use mathlib.Core.List.{List, [], ◌∷◌}
use Prim.Native.Nat.{ℕ, ◌+◌, ◌-◌, ◌*◌, ◌/◌, ◌%◌, min}
use lib.Dec.{eqb, ltb}
use lib.ListN.{length, get_or, set}
use Rattle.laws.specs.Pick.{pick}
use Rattle.laws.specs.Bits.{is_set}
use Rattle.lighting.specs.Taken.{setting_of}
use Rattle.lighting.specs.Light.{light_frame, lit_of}
use Rattle.timing.specs.Lent.{ram_allowed, frame_allowed}
use Rattle.timing.specs.Timing.{total_of}
use Rattle.controller.specs.State.{started, no_registers}
use Rattle.controller.specs.Table.{on_cartridge}
use Rattle.desk.specs.Choice.{beyond, registers_chosen}
use Rattle.placing.specs.Placing.{is_plate}
use Rattle.history.specs.History.{Call, reset, read, write, tick, inspect, choose, place, World}
use Rattle.history.specs.Seen.{in_area}

-- whether a capture is held, and of that capture the image lent and the registers at its start, and the running cycles since
pub record Capture : Type 0 where
  pub held : Bool
  pub image : List ℕ
  pub taken : List ℕ
  pub ran : ℕ

-- the sizes lent; RAM writing enabled, select and registers, as the writes left them; the capture
pub record Track : Type 0 where
  pub ram_size : ℕ
  pub store_size : ℕ
  pub enabled : Bool
  pub select : ℕ
  pub registers : List ℕ
  pub capture : Capture

-- none is held
abbrev pub no_capture : Capture
no_capture = record { held = false; image = []; taken = no_registers; ran = 0 }

-- Reset: write enable off, select 0, all registers 0, no capture held
unfoldable pub at_reset : ℕ → ℕ → Track
at_reset r s = record {
  ram_size = r;
  store_size = s;
  enabled = false;
  select = 0;
  registers = no_registers;
  capture = no_capture;
}

-- a write is accepted where RAM, frame store and image are of a size allowed and the address is the cartridge's
unfoldable pub write_accepted : Track → List ℕ → ℕ → Bool
write_accepted t image a =
    ram_allowed t.ram_size && ((frame_allowed t.store_size && frame_allowed (length image)) && on_cartridge a)

-- a tick where RAM and frame store are
unfoldable pub tick_accepted : Track → Bool
tick_accepted t = ram_allowed t.ram_size && frame_allowed t.store_size

-- a choice where the light set is at most 1 and the level at most 15
unfoldable pub choice_accepted : ℕ → ℕ → Bool
choice_accepted light level = not (beyond light level)

-- a placing where RAM is of a size allowed, the file is of the kind that is exported and no capture is held
unfoldable pub place_accepted : Track → List ℕ → Bool
place_accepted t file = ram_allowed t.ram_size && (is_plate file && not t.capture.held)

-- the running cycles of a call: those of a tick while a capture is held and register 0 has bit 0 set, up to the capture's total
unfoldable pub runs_in : Track → Call → ℕ
runs_in t reset = 0
runs_in t (read rom a) = 0
runs_in t (write image a v) = 0
runs_in t (tick n) = pick (tick_accepted t && (t.capture.held && started t.registers)) (min n (total_of t.capture.taken - t.capture.ran)) 0
runs_in t inspect = 0
runs_in t (choose light level plain exposure) = 0
runs_in t (place file) = 0

-- a capture reaches its own end in a call: with that call's cycles it has run its total
unfoldable pub ends : Track → Call → Bool
ends t reset = false
ends t (read rom a) = false
ends t (write image a v) = false
ends t (tick n) = t.capture.held && eqb (t.capture.ran + runs_in t (tick n)) (total_of t.capture.taken)
ends t inspect = false
ends t (choose light level plain exposure) = false
ends t (place file) = false

-- a write goes to the registers: A000-BFFF with bit 4 of select set
unfoldable pub to_registers : Track → List ℕ → ℕ → Bool
to_registers t image a = write_accepted t image a && (not (ltb a 0x8000) && is_set t.select 4)

-- a start: a write to register 0 with bit 0 set, no capture held
unfoldable pub starts : Track → Call → Bool
starts t reset = false
starts t (read rom a) = false
starts t (write image a v) = to_registers t image a && (eqb (a % 128) 0 && (eqb (v % 2) 1 && not t.capture.held))
starts t (tick n) = false
starts t inspect = false
starts t (choose light level plain exposure) = false
starts t (place file) = false

-- the image lent to a call
unfoldable pub image_in : Call → List ℕ
image_in reset = []
image_in (read rom a) = []
image_in (write image a v) = image
image_in (tick n) = []
image_in inspect = []
image_in (choose light level plain exposure) = []
image_in (place file) = []

-- the registers at a start: registers 1 to 53, and the new register 0
unfoldable pub registers_at : Track → Call → List ℕ
registers_at t reset = []
registers_at t (read rom a) = []
registers_at t (write image a v) = set t.registers 0 (v % 8)
registers_at t (tick n) = []
registers_at t inspect = []
registers_at t (choose light level plain exposure) = []
registers_at t (place file) = []

-- a write goes to the RAM: A000-BFFF with bit 4 of select clear, register 0 has bit 0 clear, RAM writing is enabled
unfoldable pub to_ram : Track → List ℕ → ℕ → Bool
to_ram t image a =
    write_accepted t image a && (not (ltb a 0x8000) && (not (is_set t.select 4) && (not (started t.registers) && t.enabled)))

-- to which place: RAM bank select modulo 16, bank numbers modulo the banks lent
unfoldable pub place_of : Track → ℕ → ℕ
place_of t a = t.select % 16 % (t.ram_size / 8192) * 8192 + a % 8192

-- a bus write of a call lands in this place of the RAM; a placing counts as bus writes that landed all over the area
unfoldable pub lands : Track → Call → ℕ → Bool
lands t reset p = false
lands t (read rom a) p = false
lands t (write image a v) p = to_ram t image a && eqb p (place_of t a)
lands t (tick n) p = false
lands t inspect p = false
lands t (choose light level plain exposure) p = false
lands t (place file) p = place_accepted t file && in_area p

-- what is told, with this enabling, select, registers and capture; the sizes stay
abbrev pub telling : Track → Bool → ℕ → List ℕ → Capture → Track
telling t enabled select registers capture = record {
  ram_size = t.ram_size;
  store_size = t.store_size;
  enabled = enabled;
  select = select;
  registers = registers;
  capture = capture;
}

unfoldable pub enabling : Track → Bool → Track
enabling t b = telling t b t.select t.registers t.capture

unfoldable pub selecting : Track → ℕ → Track
selecting t n = telling t t.enabled n t.registers t.capture

unfoldable pub storing : Track → List ℕ → Track
storing t regs = telling t t.enabled t.select regs t.capture

-- a capture begun, moved on, ended
unfoldable pub beginning : Track → List ℕ → List ℕ → Track
beginning t image regs = telling t t.enabled t.select regs (record { held = true; image = image; taken = regs; ran = 0 })

unfoldable pub running : Track → ℕ → Track
running t n =
    telling t t.enabled t.select t.registers
    (record { held = t.capture.held; image = t.capture.image; taken = t.capture.taken; ran = n })

unfoldable pub ending : Track → Track
ending t = telling t t.enabled t.select (set t.registers 0 (get_or t.registers 0 0 / 2 * 2)) no_capture

-- 0000-1FFF: 0A enables, 00 disables RAM writing. 4000-5FFF: select is the low five bits
unfoldable pub controlled : Track → ℕ → ℕ → Track
controlled t a v =
    pick (ltb a 0x2000)
    (pick (eqb v 0x0A) (enabling t true) (pick (eqb v 0x00) (enabling t false) t))
    (pick (ltb a 0x4000) t (pick (ltb a 0x6000) (selecting t (v % 32)) t))

-- register 0 stores the low three bits; registers 1 to 53 the byte; 54 to 127 nothing. A start takes the registers and the image
unfoldable pub registered : Track → List ℕ → ℕ → ℕ → Track
registered t image i v =
    pick (eqb i 0)
    (pick (eqb (v % 2) 1 && not t.capture.held) (beginning t image (set t.registers 0 (v % 8))) (storing t (set t.registers 0 (v % 8))))
    (pick (ltb i 54) (storing t (set t.registers i v)) t)

unfoldable pub written : Track → List ℕ → ℕ → ℕ → Track
written t image a v = pick (ltb a 0x8000) (controlled t a v) (pick (is_set t.select 4) (registered t image (a % 128) v) t)

-- what is told after one call more; a refused call changes nothing. A choice stores the registers that it writes, and no more; a
-- placing changes none of this
unfoldable pub next : Track → Call → Track
next t reset = at_reset t.ram_size t.store_size
next t (read rom a) = t
next t (write image a v) = pick (write_accepted t image a) (written t image a v) t
next t (tick n) = pick (ends t (tick n)) (ending t) (running t (t.capture.ran + runs_in t (tick n)))
next t inspect = t
next t (choose light level plain exposure) =
    pick (choice_accepted light level) (storing t (registers_chosen t.registers light level plain exposure)) t
next t (place file) = t

-- and after a list of calls, the first call first
unfoldable pub follow : Track → List Call → Track
follow t [] = t
follow t (c ∷ cs) = follow (next t c) cs

-- what the calls tell from reset on, over RAM and frame store of these sizes
abbrev pub told : List ℕ → List ℕ → List Call → Track
told ram store cs = follow (at_reset (length ram) (length store)) cs

-- what a world shows of it; the image is not kept in the state
abbrev pub seen : World → List ℕ → Track
seen w image = record {
  ram_size = length w.ram;
  store_size = length w.store;
  enabled = w.state.enabled;
  select = w.state.select;
  registers = w.state.registers;
  capture = record { held = w.state.held; image = image; taken = w.state.taken; ran = w.state.elapsed.0 };
}

-- the lit values of an image, by the registers taken
abbrev pub lit_by : List ℕ → List ℕ → ℕ → ℕ → ℕ
lit_by image regs = lit_of image (setting_of regs)

-- what is told is true of a world: it is what the world shows, and while a capture is held the frame store is the light of the image told, by
-- the registers taken
pub record Told (t : Track) (w : World) : Type 0 where
  pub same : t ≡ seen w t.capture.image
  pub own : w.state.held ≡ true → w.store ≡ light_frame t.capture.image (setting_of w.state.taken)
