-- Bus rules (001, 2.1 and 2.2): what a read gives and what a write does, where nothing is refused. Assumes nothing.
use Rattle.std.specs.Prelude.{Bool, true, false, not, ◌&&◌, List, ℕ, ◌+◌, ◌*◌, ◌/◌, ◌%◌, eqb, ltb, length, get_or, set}
use Rattle.laws.specs.Pick.{pick}
use Rattle.laws.specs.Bits.{is_set}
use Rattle.lighting.specs.Taken.{setting_of}
use Rattle.lighting.specs.Light.{light_frame}
use Rattle.controller.specs.declared.Controller.{Controller}
use Rattle.controller.specs.State.{started}
use Rattle.capture.specs.Capture.{begun}

-- bit 4 of select selects the registers
abbrev pub registers_on : Controller → Bool
registers_on c = is_set c.select 4

-- Bank numbers are taken modulo k or r (house rule, for small images)
abbrev pub rom_place : Controller → List ℕ → ℕ → ℕ
rom_place c rom a = c.bank % (length rom / 16384) * 16384 + a % 16384

-- A000-BFFF with bit 4 clear: RAM bank select modulo 16
abbrev pub ram_place : Controller → List ℕ → ℕ → ℕ
ram_place c ram a = c.select % 16 % (length ram / 8192) * 8192 + a % 8192

-- register number is the address modulo 128. Register 0 reads its three low bits; all others read 00
abbrev pub register_read : Controller → ℕ → ℕ
register_read c a = pick (eqb (a % 128) 0) (get_or c.registers 0 0 % 8) 0

-- While register 0 has bit 0 set, reads give 00. Otherwise reads always work
abbrev pub ram_read : Controller → List ℕ → ℕ → ℕ
ram_read c ram a = pick (started c.registers) 0 (get_or ram (ram_place c ram a) 0)

-- Read 0000-3FFF: bank 0. 4000-7FFF: the ROM bank. Neither depends on a capture
unfoldable pub rom_read : Controller → List ℕ → ℕ → ℕ
rom_read c rom a = pick (ltb a 0x4000) (get_or rom a 0) (get_or rom (rom_place c rom a) 0)

unfoldable pub byte_read : Controller → List ℕ → List ℕ → ℕ → ℕ
byte_read c rom ram a = pick (ltb a 0x8000) (rom_read c rom a) (pick (registers_on c) (register_read c a) (ram_read c ram a))

-- the state with this write enable, ROM bank, select and registers; its capture and its counts stay
abbrev pub controls : Controller → Bool → ℕ → ℕ → List ℕ → Controller
controls c enabled bank select registers = record {
  enabled = enabled;
  bank = bank;
  select = select;
  registers = registers;
  held = c.held;
  taken = c.taken;
  elapsed = c.elapsed;
  started = c.started;
  ended = c.ended;
}

-- with one of them changed
unfoldable pub with_enabled : Controller → Bool → Controller
with_enabled c b = controls c b c.bank c.select c.registers

unfoldable pub with_bank : Controller → ℕ → Controller
with_bank c n = controls c c.enabled n c.select c.registers

unfoldable pub with_select : Controller → ℕ → Controller
with_select c n = controls c c.enabled c.bank n c.registers

unfoldable pub with_register : Controller → ℕ → ℕ → Controller
with_register c i v = controls c c.enabled c.bank c.select (set c.registers i v)

-- Write 0000-1FFF: 0A enables, 00 disables RAM writing; other values change nothing (house rule)
abbrev pub enable : Controller → ℕ → Controller
enable c v = pick (eqb v 0x0A) (with_enabled c true) (pick (eqb v 0x00) (with_enabled c false) c)

-- 2000-3FFF: ROM bank is the low six bits; 0 is allowed. 4000-5FFF: select is the low five bits. 6000-7FFF: nothing
unfoldable pub control_written : Controller → ℕ → ℕ → Controller
control_written c a v =
    pick (ltb a 0x2000) (enable c v) (pick (ltb a 0x4000) (with_bank c (v % 64)) (pick (ltb a 0x6000) (with_select c (v % 32)) c))

-- Bit 0 set, no capture held: a start
unfoldable pub is_start : Controller → ℕ → Bool
is_start c v = eqb (v % 2) 1 && not c.held

-- A write to register 0 stores the low three bits; a start takes the registers besides
unfoldable pub capture_written : Controller → ℕ → Controller
capture_written c v = pick (is_start c v) (begun c (v % 8)) (with_register c 0 (v % 8))

-- Registers 1 to 53 are always writable; 54 to 127 ignore writes
unfoldable pub register_written : Controller → ℕ → ℕ → Controller
register_written c i v = pick (eqb i 0) (capture_written c v) (pick (ltb i 54) (with_register c i v) c)

-- At a start the frame store gets the light of the image, worked out from the registers just taken
unfoldable pub store_written : Controller → List ℕ → List ℕ → ℕ → ℕ → List ℕ
store_written c store image i v =
    pick (eqb i 0 && is_start c v) (light_frame image (setting_of (set c.registers 0 (v % 8)))) store

-- While register 0 has bit 0 set, writes are ignored. Otherwise a write lands only if enabled
abbrev pub ram_writable : Controller → Bool
ram_writable c = pick (started c.registers) false c.enabled

unfoldable pub ram_written : Controller → List ℕ → ℕ → ℕ → List ℕ
ram_written c ram a v = pick (ram_writable c) (set ram (ram_place c ram a) v) ram

-- what a write leaves: state, RAM, frame store
pub record Left : Type 0 where
  pub state : Controller
  pub ram : List ℕ
  pub store : List ℕ

abbrev pub left : Controller → List ℕ → List ℕ → Left
left c ram store = record { state = c; ram = ram; store = store }

unfoldable pub byte_written : Controller → List ℕ → List ℕ → List ℕ → ℕ → ℕ → Left
byte_written c ram store image a v =
    pick (ltb a 0x8000) (left (control_written c a v) ram store)
    (pick (registers_on c) (left (register_written c (a % 128) v) ram (store_written c store image (a % 128) v))
    (left c (ram_written c ram a v) store))
