-- Aside: devices of contracts between functions. Nothing here need be believed: every use of it is tied by a proof to the definitions beside it.
-- A row's shades as bytes, worked out with its columns turned. Assumes nothing.
use Rattle.std.specs.Prelude.{List, [], ◌∷◌, ℕ, ◌+◌, ◌*◌, ◌/◌, ◌%◌, get_or}
use Rattle.laws.specs.Lists.{listed, packed}
use Rattle.sensor.specs.Shade.{shade_by, shade_of}

-- eight pixels of a row of values, from column 8 t on, as two bytes: the low bits, and the high bits
unfoldable pub low_of : List ℕ → List ℕ → ℕ → ℕ → ℕ
low_of values regs row t = packed (λ b. shade_of regs (8 * t + b) row (get_or values (8 * t + b) 0) % 2) 8

unfoldable pub high_of : List ℕ → List ℕ → ℕ → ℕ → ℕ
high_of values regs row t = packed (λ b. shade_of regs (8 * t + b) row (get_or values (8 * t + b) 0) / 2) 8

-- which column stands at place p of a row that is turned
abbrev pub column_of : ℕ → ℕ
column_of p = 8 * (p % 16) + p / 16

-- the matrix spread over the columns: threshold k of row r of it at 512 k + 128 r + p
abbrev pub threshold_at : List ℕ → ℕ → ℕ
threshold_at regs i = get_or regs (6 + 12 * (i / 128 % 4) + 3 * (i % 128 / 16 % 4) + i / 512) 0

unfoldable pub spread_of : List ℕ → List ℕ
spread_of regs = listed (threshold_at regs) 1536

-- the shade of what stands at place p of a row that is turned, by the thresholds from `at` on
unfoldable pub turned_shade : List ℕ → List ℕ → ℕ → ℕ → ℕ
turned_shade values matrix at p =
    shade_by (get_or matrix (at + p) 0) (get_or matrix (at + p + 512) 0) (get_or matrix (at + p + 1024) 0) (get_or values p 0)

-- the weight in a byte of the last of its first b bits
abbrev pub place_of : ℕ → ℕ
place_of b = get_or (256 ∷ 128 ∷ 64 ∷ 32 ∷ 16 ∷ 8 ∷ 4 ∷ 2 ∷ 1 ∷ []) b 0

-- bits f, each of a place of a row that is turned: those of the first b columns of tile t where they stand in its byte
abbrev pub bits_of : (ℕ → ℕ) → ℕ → ℕ → ℕ
bits_of f b t = packed (λ k. f (16 * k + t)) b * place_of b

-- all eight of tile t, its byte
abbrev pub bytes_of : (ℕ → ℕ) → ℕ → ℕ
bytes_of f t = packed (λ k. f (16 * k + t)) 8
