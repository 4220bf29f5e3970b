-- The matrix of thresholds: which of its elements are reversed. Assumes nothing.
use Rattle.std.specs.Prelude.{Bool, ◌||◌, List, ℕ, zero, suc, ◌+◌, ◌*◌, ◌/◌, ◌%◌, ltb, get_or}
use Rattle.laws.specs.Pick.{pick}

-- the values L, M, H of the element in a row and column begin at register 6 + 3 × (4 × row + column); they don't rise or stay level: L > M or M > H
unfoldable pub reversed : List ℕ → ℕ → ℕ → Bool
reversed regs row column =
    ltb (get_or regs (6 + 3 * (4 * row + column) + 1) 0) (get_or regs (6 + 3 * (4 * row + column)) 0)
    || ltb (get_or regs (6 + 3 * (4 * row + column) + 2) 0) (get_or regs (6 + 3 * (4 * row + column) + 1) 0)

-- the number of the first such element, by rows and then columns, among the n from number k on; element k stands in row k/4, column k mod 4;
-- k + n where there is none
unfoldable pub first_in : List ℕ → ℕ → ℕ → ℕ
first_in regs k zero = k
first_in regs k (suc n) = pick (reversed regs (k / 4) (k % 4)) k (first_in regs (suc k) n)
