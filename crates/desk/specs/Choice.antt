-- The contrast levels people know: choosing a light set, a level, dithering and an exposure. Assumes nothing.
use Rattle.std.specs.Prelude.{Bool, ◌||◌, List, [], ◌∷◌, ℕ, zero, suc, ◌+◌, ◌*◌, ◌/◌, ◌%◌, ltb, get_or, set}
use Rattle.laws.specs.Pick.{pick}
use Rattle.controller.specs.declared.Controller.{Controller}
use Rattle.controller.specs.declared.Refusal.TheVariants as refusals
use Rattle.controller.specs.Outcome.{Outcome, outcome}
use Rattle.controller.specs.Table.{Row, row, no_state, lowest, judged}
use Rattle.controller.specs.Outcome.{refusal}
use Rattle.std.specs.declared.option.Option.{Option}
use Rattle.std.specs.Prelude.{Some, None}
use Rattle.desk.specs.Levels.{levels}

-- Exposure may be left unnamed and is then 1000h
abbrev pub steps_of : Option ℕ → ℕ
steps_of (Some n) = n
steps_of None = 0x1000

-- the matrix of a light set and a level begins here in the table: level 0 first, of each level light set 0 first
abbrev pub matrix_from : ℕ → ℕ → ℕ
matrix_from light level = 48 * (2 * level + light)

-- which value of the matrix stands in matrix register k: its own; with dithering off one of the upper left three, repeated 16 times
abbrev pub shown : Bool → ℕ → ℕ
shown plain k = pick plain (k % 3) k

-- the value chosen for matrix register k
unfoldable pub value_of : ℕ → ℕ → Bool → ℕ → ℕ
value_of light level plain k = get_or levels (matrix_from light level + shown plain k) 0

-- registers with the values f 0 .. f (n − 1) stored from a register on
unfoldable pub stored : List ℕ → ℕ → (ℕ → ℕ) → ℕ → List ℕ
stored regs from f zero = regs
stored regs from f (suc n) = set (stored regs from f n) (from + n) (f n)

-- the two exposure registers, the high byte first
abbrev pub timed : List ℕ → ℕ → List ℕ
timed regs steps = set (set regs 2 (steps / 256)) 3 (steps % 256)

-- it writes the two exposure registers and the 48 matrix registers, from register 6 on
unfoldable pub registers_chosen : List ℕ → ℕ → ℕ → Bool → Option ℕ → List ℕ
registers_chosen regs light level plain exposure = stored (timed regs (steps_of exposure)) 6 (value_of light level plain) 48

-- and nothing else in the state: a capture running or stopped keeps its taken registers
unfoldable pub with_registers : Controller → List ℕ → Controller
with_registers c regs = record {
  enabled = c.enabled;
  bank = c.bank;
  select = c.select;
  registers = regs;
  held = c.held;
  taken = c.taken;
  elapsed = c.elapsed;
  started = c.started;
  ended = c.ended;
}

-- a light set above 1 or a level above 15
abbrev pub beyond : ℕ → ℕ → Bool
beyond light level = ltb 1 light || ltb 15 level

-- 9 is given for it
abbrev pub no_choice : ℕ → ℕ → Row
no_choice light level = row refusals.Choice (beyond light level)

-- Refusals: 1, then 9
unfoldable pub choose_rows : Controller → ℕ → ℕ → List Row
choose_rows c light level = no_state c ∷ no_choice light level ∷ []

abbrev pub chosen : Controller → ℕ → ℕ → Bool → Option ℕ → Outcome
chosen c light level plain exposure = outcome 0 0 (with_registers c (registers_chosen c.registers light level plain exposure)) [] []

-- refused, the state comes back as given
unfoldable pub choose_means : Controller → ℕ → ℕ → Bool → Option ℕ → Outcome
choose_means c light level plain exposure =
    judged (lowest (choose_rows c light level)) (refusal c [] []) (chosen c light level plain exposure)
