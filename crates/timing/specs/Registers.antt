-- Registers that are all 0. Assumes nothing.
use Rattle.std.specs.Prelude.{Bool, true, ◌&&◌, List, ℕ, zero, suc, eqb, get_or}

-- each of the first n registers is 0
unfoldable pub zero_to : List ℕ → ℕ → Bool
zero_to regs zero = true
zero_to regs (suc n) = zero_to regs n && eqb (get_or regs n 0) 0

-- each of the 54 registers is 0
abbrev pub all_zero : List ℕ → Bool
all_zero regs = zero_to regs 54
