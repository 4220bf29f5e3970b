-- A history: calls one after the other, what each leaves and what it answers. Assumes nothing.
use Rattle.std.specs.Prelude.{Bool, List, [], ◌∷◌, ℕ, ◌+◌}
use Rattle.controller.specs.declared.Controller.{Controller}
use Rattle.controller.specs.State.{reset_state}
use Rattle.controller.specs.Outcome.{Outcome, Inspection}
use Rattle.cartridge.specs.Calls.{read_means, write_means}
use Rattle.capture.specs.Calls.{tick_means}
use Rattle.controller.specs.Inspect.{inspect_means}
use Rattle.std.specs.declared.option.Option.{Option}
use Rattle.desk.specs.Choice.{choose_means}
use Rattle.placing.specs.Placing.{place_means}

-- a call: a reset; a read with the ROM lent and an address; a write with the image lent, an address and a byte; a tick of so many cycles; an inspection;
-- a choice at the desk of a light set, a level, dithering off or not, and an exposure; a placing with the file lent
pub data Call : Type 0 where
  reset : Call
  read : (rom : List ℕ) (address : ℕ) → Call
  write : (image : List ℕ) (address byte : ℕ) → Call
  tick : (cycles : ℕ) → Call
  inspect : Call
  choose : (light level : ℕ) (plain : Bool) (exposure : Option ℕ) → Call
  place : (file : List ℕ) → Call

-- what a call finds and leaves: the state, and the RAM and frame store that are lent to every call
pub record World : Type 0 where
  pub state : Controller
  pub ram : List ℕ
  pub store : List ℕ

-- Reset. RAM and frame store are not touched
abbrev pub fresh : List ℕ → List ℕ → World
fresh ram store = record { state = reset_state; ram = ram; store = store }

abbrev pub left_by : Outcome → World
left_by o = record { state = o.state; ram = o.ram; store = o.store }

-- what a call leaves: what its meaning says. A read is not lent the frame store, nor is a placing, and an inspection only looks; a
-- choice is lent neither RAM nor frame store
unfoldable pub leaves : World → Call → World
leaves w reset = fresh w.ram w.store
leaves w (read rom a) = record {
  state = (read_means w.state rom w.ram a).state;
  ram = (read_means w.state rom w.ram a).ram;
  store = w.store;
}
leaves w (write image a v) = left_by (write_means w.state w.ram w.store image a v)
leaves w (tick n) = left_by (tick_means w.state w.ram w.store n)
leaves w inspect = w
leaves w (choose light level plain exposure) = record {
  state = (choose_means w.state light level plain exposure).state;
  ram = w.ram;
  store = w.store;
}
leaves w (place file) = record {
  state = (place_means w.state w.ram file).state;
  ram = (place_means w.state w.ram file).ram;
  store = w.store;
}

-- what a call answers: its refusal number (0: none), with the byte of a read and the count of a tick; a reset answers nothing
pub data Answer : Type 0 where
  nothing : Answer
  byte : (number value : ℕ) → Answer
  done : (number : ℕ) → Answer
  ran : (number count : ℕ) → Answer
  matrix : Inspection → Answer

abbrev pub byte_of : Outcome → Answer
byte_of o = byte o.number o.value

unfoldable pub answers : World → Call → Answer
answers w reset = nothing
answers w (read rom a) = byte_of (read_means w.state rom w.ram a)
answers w (write image a v) = done (write_means w.state w.ram w.store image a v).number
answers w (tick n) = ran (tick_means w.state w.ram w.store n).number (tick_means w.state w.ram w.store n).value
answers w inspect = matrix (inspect_means w.state)
answers w (choose light level plain exposure) = done (choose_means w.state light level plain exposure).number
answers w (place file) = done (place_means w.state w.ram file).number

-- its refusal number
abbrev pub refusal_in : Answer → ℕ
refusal_in nothing = 0
refusal_in (byte n v) = n
refusal_in (done n) = n
refusal_in (ran n v) = n
refusal_in (matrix i) = i.number

-- the count of running cycles in it; other calls return none
abbrev pub count_in : Answer → ℕ
count_in nothing = 0
count_in (byte n v) = 0
count_in (done n) = 0
count_in (ran n v) = v
count_in (matrix i) = 0

-- what a list of calls leaves, the first call first
unfoldable pub after : World → List Call → World
after w [] = w
after w (c ∷ cs) = after (leaves w c) cs

-- the counts that a list of calls returned, added up
unfoldable pub counted : World → List Call → ℕ
counted w [] = 0
counted w (c ∷ cs) = count_in (answers w c) + counted (leaves w c) cs
