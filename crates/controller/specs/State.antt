-- The state record: which can't exist, and the reset state. Assumes nothing.
use Rattle.std.specs.Prelude.{ℕ, ◌+◌, ◌%◌, Bool, false, not, ◌&&◌, ◌||◌, List, replicate, ◌==◌, nat_le, nat_lt, slice_index}
use Rattle.controller.specs.declared.Controller.{Controller}
use Rattle.timing.specs.Registers.{all_zero}
use Rattle.timing.specs.Timing.{total_of}

-- register 0 has bit 0 set
abbrev pub started : List ℕ → Bool
started regs = slice_index regs 0 % 2 == 1

-- no capture is held and the elapsed cycles or any taken register is not 0
unfoldable pub left_over : Controller → Bool
left_over c = not c.held && (not (c.elapsed.0 == 0) || not (all_zero c.taken))

-- a capture is held and taken register 0 is even or above 7, or elapsed is not below that capture's total
unfoldable pub wrong_capture : Controller → Bool
wrong_capture c =
    c.held && (not (started c.taken) || (nat_lt 7 (slice_index c.taken 0) || nat_le (total_of c.taken) c.elapsed.0))

-- A state can't exist if: the ROM bank exceeds 63; the select exceeds 31; register 0 exceeds 7; register 0 has bit 0 set with no capture held; ..
unfoldable pub cant_exist : Controller → Bool
cant_exist c =
    nat_lt 63 c.bank
    || (nat_lt 31 c.select
    || (nat_lt 7 (slice_index c.registers 0)
    || ((started c.registers && not c.held) || (left_over c || wrong_capture c))))

abbrev pub can_exist : Controller → Bool
can_exist c = not (cant_exist c)

-- 54 registers that are all 0
abbrev pub no_registers : List ℕ
no_registers = replicate 54 0

-- one more, wrapping from 65,535 to 0
abbrev pub one_more : ℕ → ℕ
one_more n = (n + 1) % 65536

-- Reset: write enable off, ROM bank 1, select 0, all registers 0, no capture held, and both counts 0
unfoldable pub reset_state : Controller
reset_state = record {
  enabled = false;
  bank = 1;
  select = 0;
  registers = no_registers;
  held = false;
  taken = no_registers;
  elapsed = record { 0 = 0 };
  started = 0;
  ended = 0;
}
