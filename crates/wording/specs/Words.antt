-- Numbers in words that are printed: decimal without leading zeros. Assumes nothing.
use Rattle.std.specs.Prelude.{List, [], ◌∷◌, ◌++◌, ℕ, zero, suc, ◌+◌, ◌/◌, ◌%◌, ltb}
use Rattle.laws.specs.Pick.{pick}

-- a number in at most n decimal digits
unfoldable pub decimal_in : ℕ → ℕ → List ℕ
decimal_in zero v = []
decimal_in (suc n) v = pick (ltb v 10) ((0x30 + v) ∷ []) (decimal_in n (v / 10) ++ ((0x30 + v % 10) ∷ []))

-- a number of 64 bits has at most 20
abbrev pub decimal : ℕ → List ℕ
decimal v = decimal_in 20 v
