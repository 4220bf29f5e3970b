-- Starting, stopping, ending: how long a capture takes, and what each of its cycles writes. Assumes nothing.
use Rattle.std.specs.Prelude.{Bool, not, ◌&&◌, List, ℕ, ◌+◌, ◌-◌, ◌*◌, ◌/◌, ◌%◌, eqb, leb, ltb, get_or}
use Rattle.laws.specs.Pick.{pick}
use Rattle.laws.specs.Bits.{is_set}
use Rattle.lighting.specs.Taken.{exposure_of}
use Rattle.sensor.specs.Shade.{shade_at}
use Rattle.tiles.specs.Tiles.{put_at}

-- N is bit 7 of A001
abbrev pub n_set : List ℕ → Bool
n_set regs = is_set (get_or regs 1 0) 7

-- Total cycles = 32,446 + (N set: 0, clear: 512) + 16 × exposure
unfoldable pub total_of : List ℕ → ℕ
total_of regs = 32446 + pick (n_set regs) 0 512 + 16 * exposure_of regs

-- Reading begins after S = 92 + 8 × exposure clocks
unfoldable pub reading_from : List ℕ → ℕ
reading_from regs = 92 + 8 * exposure_of regs

-- With N clear, k runs over 128 rows; with N set, over 126 rows
unfoldable pub rows_read : List ℕ → ℕ
rows_read regs = pick (n_set regs) 126 128

-- with N set, sensor rows 1 to 126 (house rule)
unfoldable pub first_row : List ℕ → ℕ
first_row regs = pick (n_set regs) 1 0

-- two cycles make one clock
abbrev pub clocks : ℕ → ℕ
clocks cycles = cycles / 2

-- Pixel k is written at the one cycle that first makes elapsed/2, rounded down, equal S + k + 1, and at no other
unfoldable pub due : List ℕ → ℕ → ℕ → Bool
due regs k e = eqb (clocks e) (reading_from regs + k + 1) && not (eqb (clocks (e - 1)) (reading_from regs + k + 1))

-- the one pixel that can be due at a cycle
abbrev pub candidate : List ℕ → ℕ → ℕ
candidate regs e = clocks e - (reading_from regs + 1)

-- the sensor row of pixel k
abbrev pub row_of : List ℕ → ℕ → ℕ
row_of regs k = first_row regs + k / 128

-- Picture row y is sensor row y + 8, y from 0 to 111; other rows write nothing
unfoldable pub put_pixel : (ℕ → ℕ → ℕ) → List ℕ → ℕ → List ℕ → List ℕ
put_pixel lit regs k ram =
    pick (leb 8 (row_of regs k) && ltb (row_of regs k) 120)
    (put_at ram (k % 128) (row_of regs k - 8) (shade_at lit regs (k % 128) (row_of regs k)))
    ram

-- what cycle number e of a capture writes: pixel k where it is due, with k running over the rows that are read
unfoldable pub written_at : (ℕ → ℕ → ℕ) → List ℕ → ℕ → List ℕ → List ℕ
written_at lit regs e ram =
    pick (due regs (candidate regs e) e && ltb (candidate regs e) (128 * rows_read regs))
    (put_pixel lit regs (candidate regs e) ram)
    ram
