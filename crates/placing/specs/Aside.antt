-- Aside: devices of contracts between functions. Nothing here need be believed: every use of it is tied by a proof to the definitions beside it.
-- Eight greys that become two bytes. Assumes nothing.
use Rattle.std.specs.Prelude.{List, ℕ, ◌+◌, ◌/◌, ◌%◌, eqb, get_or}
use Rattle.std.specs.Int.Bits.{bit_and}
use Rattle.laws.specs.Lists.{packed}
use Rattle.laws.specs.Pick.{pick}
use Rattle.strips.specs.Aside.{bits_of}
use Rattle.placing.specs.Placing.{shade_of}

-- the low bits of the eight pixels from a place on, and the high bits
unfoldable pub lows_at : List ℕ → ℕ → ℕ
lows_at pixels at = packed (λ b. shade_of (get_or pixels (at + b) 0) % 2) 8

unfoldable pub highs_at : List ℕ → ℕ → ℕ
highs_at pixels at = packed (λ b. shade_of (get_or pixels (at + b) 0) / 2) 8

-- 1 where a bit of a grey is not set, else 0
abbrev pub unset : ℕ → ℕ → ℕ
unset bit grey = pick (eqb (bit_and grey bit) 0) 1 0

-- those of the first b columns of tile t where they stand in its byte, in a row that is turned
abbrev pub unset_bits : ℕ → List ℕ → ℕ → ℕ → ℕ
unset_bits bit turned = bits_of (λ p. unset bit (get_or turned p 0))
