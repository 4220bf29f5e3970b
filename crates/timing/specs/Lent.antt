-- Memory lent to the controller: which lengths are allowed. Assumes nothing.
use Rattle.std.specs.Prelude.{Bool, ◌&&◌, ℕ, ◌/◌, ◌%◌, eqb, leb}
use Rattle.std.specs.Int.Count.{ones}

-- whole banks of a size, at most so many; the count of banks must have exactly one bit set
unfoldable pub banks_allowed : ℕ → ℕ → ℕ → Bool
banks_allowed size most n = eqb (n % size) 0 && (leb (n / size) most && eqb (ones (n / size)) 1)

-- ROM: 16,384 × k bytes, k in 1, 2, 4 .. 64
abbrev pub rom_allowed : ℕ → Bool
rom_allowed n = banks_allowed 16384 64 n

-- RAM: 8,192 × r bytes, r in 1, 2, 4, 8, 16
abbrev pub ram_allowed : ℕ → Bool
ram_allowed n = banks_allowed 8192 16 n

-- Image: 128 × 128 bytes, row by row, 16,384 in all. Frame store: 16,384 bytes
abbrev pub frame_allowed : ℕ → Bool
frame_allowed n = eqb n 16384
