-- Starting, stopping, ending: a capture, cycle by cycle. Assumes nothing.
use Rattle.std.specs.Prelude.{Bool, true, false, ◌&&◌, List, ℕ, ◌+◌, ◌*◌, ◌/◌, eqb, get_or, set}
use Rattle.laws.specs.Pick.{pick}
use Rattle.laws.specs.Iter.{iter}
use Rattle.controller.specs.declared.Controller.{Controller}
use Rattle.timing.specs.Timing.{total_of, written_at}
use Rattle.controller.specs.State.{started, no_registers, one_more}

-- the state with these registers, this capture (held or not, taken registers, elapsed cycles) and these counts; its controls stay
abbrev pub captures : Controller → List ℕ → Bool → List ℕ → ℕ → ℕ → ℕ → Controller
captures c registers held taken elapsed started ended = record {
  enabled = c.enabled;
  bank = c.bank;
  select = c.select;
  registers = registers;
  held = held;
  taken = taken;
  elapsed = record { 0 = elapsed };
  started = started;
  ended = ended;
}

-- A start: registers 1 to 53 and the new register 0 are taken; elapsed is 0; one more capture has started since reset
unfoldable pub begun : Controller → ℕ → Controller
begun c v = captures c (set c.registers 0 v) true (set c.registers 0 v) 0 (one_more c.started) c.ended

-- the state at a number of elapsed cycles
unfoldable pub moved : Controller → ℕ → Controller
moved c e = captures c c.registers c.held c.taken e c.started c.ended

-- At its total, register 0 bit 0 clears (bits 1 and 2 stay), the capture is no longer held, and elapsed and taken registers become 0; one more has
-- reached its end
unfoldable pub ended : Controller → Controller
ended c = captures c (set c.registers 0 (get_or c.registers 0 0 / 2 * 2)) false no_registers 0 c.started (one_more c.ended)

-- the state, the RAM, and how many cycles fell while a capture was running
pub record Ticking : Type 0 where
  pub state : Controller
  pub ram : List ℕ
  pub ran : ℕ

-- A capture is running while it is held and register 0 has bit 0 set
abbrev pub running : Controller → Bool
running c = c.held && started c.registers

-- each such cycle adds one to elapsed, and its pixel is written, RAM writing enabled or not
unfoldable pub runs : (ℕ → ℕ → ℕ) → Ticking → Ticking
runs lit w = record {
  state =
      pick (eqb (w.state.elapsed.0 + 1) (total_of w.state.taken))
      (ended w.state)
      (moved w.state (w.state.elapsed.0 + 1));
  ram = written_at lit w.state.taken (w.state.elapsed.0 + 1) w.ram;
  ran = w.ran + 1;
}

-- other cycles change nothing
unfoldable pub cycle : (ℕ → ℕ → ℕ) → Ticking → Ticking
cycle lit w = pick (running w.state) (runs lit w) w

-- A tick of n is n ticks of one cycle
abbrev pub ticks : (ℕ → ℕ → ℕ) → ℕ → Ticking → Ticking
ticks lit n w = iter (cycle lit) n w

-- as a tick begins, none of its cycles has run
abbrev pub from : Controller → List ℕ → Ticking
from c ram = record { state = c; ram = ram; ran = 0 }
