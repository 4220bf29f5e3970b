-- Aside: devices of contracts between functions. Nothing here need be believed: every use of it is tied by a proof to the definitions beside it.
-- The range of the nine values; what a filter is by the bits of its mode; two bits. Assumes nothing.
use Rattle.std.specs.Prelude.{List, ℕ, ◌+◌, ◌-◌, ◌*◌, ◌/◌, ◌%◌, ◌<◌, Bool, ◌||◌, eqb, ℤ, pos, negsuc, ◌+ℤ◌, ◌*ℤ◌}
use Rattle.std.specs.Int.Signed.{mag}
use Rattle.filters.specs.Edge.{nine}

-- each of nine values lies in −128..127
abbrev pub Small : List (List ℤ) → Type 0
Small n = (i j : ℕ) → mag (nine n i j) < 128

-- the modes that have a filter, of the table of modes
abbrev pub has_filter : ℕ → Bool
has_filter mode = eqb mode 0x2 || eqb mode 0x3 || eqb mode 0xC || eqb mode 0xD || eqb mode 0xE || eqb mode 0xF

-- bit 1 of such a mode asks for W and E, bit 2 for N and S: how many of them there are, and what they add up to
abbrev pub count_of : ℕ → ℕ
count_of mode = 2 * (mode / 2 % 2 + mode / 4 % 2)

abbrev pub beside_of : ℕ → List (List ℤ) → ℤ
beside_of mode n = pos (mode / 2 % 2) *ℤ (nine n 1 0 +ℤ nine n 1 2) +ℤ pos (mode / 4 % 2) *ℤ (nine n 0 1 +ℤ nine n 2 1)

-- bit 0 of it leaves P out: P in quarters
abbrev pub own_of : ℕ → ℕ
own_of mode = 4 - 4 * (mode % 2)

-- the two top bits of a number of 16 bits: 0 and 1 of one that is not below zero, 3 and 2 of one that is
abbrev pub top_bits : ℤ → ℕ
top_bits (pos n) = n / 16384
top_bits (negsuc n) = 3 - n / 16384
