-- Checked figures: those that carry a star, as one table of what the definitions give beside what the paper says. Assumes nothing.
use Rattle.std.specs.Prelude.{◌≡◌, List, [], ◌∷◌, ℕ, zero, suc, ◌/◌, ◌%◌, ℤ, pos, negsuc, nat_abs, ◌+ℤ◌, eqb, length, get_or, replicate}
use Rattle.laws.specs.Pick.{pick}
use Rattle.lighting.specs.Taken.{setting_of, mode_of, quarters_of, kind_of}
use Rattle.lighting.specs.Light.{adapted_z, lit_of}
use Rattle.filters.specs.Edge.{edge_of}
use Rattle.sensor.specs.Row.{row_filter}
use Rattle.sensor.specs.Shade.{shade_of}
use Rattle.timing.specs.Timing.{total_of, written_at}
use Rattle.tiles.specs.Tiles.{put_at}
use Rattle.laws.specs.Lists.{packed}

-- a row: what the definitions give, and what the paper says
pub record Figure : Type 0 where
  pub given : ℤ
  pub paper : ℤ

-- rows of numbers with a sign, and without
abbrev pub signed : ℤ → ℤ → Figure
signed given paper = record { given = given; paper = paper }

abbrev pub number : ℕ → ℕ → Figure
number given paper = signed (pos given) (pos paper)

-- every row agrees
unfoldable pub Agree : List Figure → Type 0
Agree [] = Unit {0}
Agree (row ∷ rows) = (row.given ≡ row.paper) × Agree rows

-- 54 registers: A000 to A004 as given, all others 0
abbrev pub registers : ℕ → ℕ → ℕ → ℕ → ℕ → List ℕ
registers a0 a1 a2 a3 a4 = a0 ∷ a1 ∷ a2 ∷ a3 ∷ a4 ∷ replicate 49 0

-- 54 registers with L, M, H in the matrix's first element, all others 0
abbrev pub matrix : ℕ → ℕ → ℕ → List ℕ
matrix low mid high = 0 ∷ 0 ∷ 0 ∷ 0 ∷ 0 ∷ 0 ∷ low ∷ mid ∷ high ∷ replicate 45 0

-- the picture's first byte, FF before, after what cycle e of a capture writes; at exposure 0 the image counts for nothing
abbrev pub first_byte : List ℕ → ℕ → ℕ
first_byte regs e = get_or (written_at (lit_of [] (setting_of regs)) regs e (replicate 0x102 0xFF)) 0x100 0

-- the first cycle, of n from e on, that changes it
unfoldable pub first_cycle : List ℕ → ℕ → ℕ → ℕ
first_cycle regs e zero = e
first_cycle regs e (suc n) = pick (eqb (first_byte regs e) 0xFF) (first_cycle regs (suc e) n) e

-- the nine values around P, with N, S, E, W and 0 at the corners
abbrev pub around : ℤ → ℤ → ℤ → ℤ → ℤ → List (List ℤ)
around p n s e w = (pos 0 ∷ n ∷ pos 0 ∷ []) ∷ (w ∷ p ∷ e ∷ []) ∷ (pos 0 ∷ s ∷ pos 0 ∷ []) ∷ []

-- the step 4 value by the registers' mode and α
abbrev pub filtered : List ℕ → List (List ℤ) → ℤ
filtered regs n = edge_of (mode_of regs) (quarters_of regs) n

-- registers that ask mode 2 and the positive setting, and a value of −20
abbrev pub dark : List ℕ
dark = registers 3 0x20 0x00 0x00 0

abbrev pub level : ℤ
level = negsuc 19

-- Shades 0 1 2 3 0 1 2 3
abbrev pub shades : List ℕ
shades = 0 ∷ 1 ∷ 2 ∷ 3 ∷ 0 ∷ 1 ∷ 2 ∷ 3 ∷ []

-- a RAM of bytes FF with the first n of these shades put at pixels (0, 0), (1, 0), ..
unfoldable pub shown : ℕ → List ℕ
shown zero = replicate 0x102 0xFF
shown (suc n) = put_at (shown n) n 0 (get_or shades n 0)

-- the places, counted from i on, of a RAM's bytes that are not FF
unfoldable pub changed : ℕ → List ℕ → List ℕ
changed i [] = []
changed i (b ∷ ram) = let rest = changed (suc i) ram in pick (eqb b 0xFF) rest (i ∷ rest)

-- where white at pixel (127, 111) changes a RAM of bytes FF
abbrev pub last_pixel : List ℕ
last_pixel = changed 0 (put_at (replicate 0x1000 0xFF) 127 111 0)

-- the figures, in the paper's order; each comment is the paper's line
unfoldable pub table : List Figure
table =
    -- Totals: N set, exposure 0: 32,446
    number (total_of (registers 1 0x80 0x00 0x00 0)) 32446
    -- N clear, 0: 32,958
    ∷ number (total_of (registers 1 0x00 0x00 0x00 0)) 32958
    -- N clear, 1000h: 98,494
    ∷ number (total_of (registers 1 0x00 0x10 0x00 0)) 98494
    -- Largest: 1,081,518
    ∷ number (total_of (registers 1 0x00 0xFF 0xFF 0)) 1081518
    -- First picture pixel, exposure 0: cycle 2,234 (N clear)
    ∷ number (first_cycle (registers 1 0x00 0x00 0x00 0) 1 3000) 2234
    -- and it is pixel (0, 0), whose bit is the highest
    ∷ number (first_byte (registers 1 0x00 0x00 0x00 0) 2234) 0x7F
    -- 1,978 (N set)
    ∷ number (first_cycle (registers 1 0x80 0x00 0x00 0) 1 3000) 1978
    ∷ number (first_byte (registers 1 0x80 0x00 0x00 0) 1978) 0x7F
    -- Not at 2,233
    ∷ number (first_byte (registers 1 0x00 0x00 0x00 0) 2233) 0xFF
    -- Step 1: 0 to 48, 126 to 127, 129 to 128, 130 to 129, 255 to 207
    ∷ signed (adapted_z 0) (pos 48)
    ∷ signed (adapted_z 126) (pos 127)
    ∷ signed (adapted_z 129) (pos 128)
    ∷ signed (adapted_z 130) (pos 129)
    ∷ signed (adapted_z 255) (pos 207)
    -- Mode E, 75 %, P 10, neighbours adding to 55: −1
    ∷ signed (filtered (registers 1 0xE0 0x00 0x00 0x10) (around (pos 10) (pos 13) (pos 14) (pos 14) (pos 14))) (negsuc 0)
    -- Mode D, 50 %, P 5, N 6, S 5: 0
    ∷ signed (filtered (registers 1 0xC0 0x00 0x00 0x80) (around (pos 5) (pos 6) (pos 5) (pos 0) (pos 0))) (pos 0)
    -- Mode 2, P −20, level neighbours, positive: the value is 108
    ∷ number (nat_abs (row_filter (kind_of dark) (filtered dark (around level level level level level)) level +ℤ pos 128)) 108
    -- Negative of −128: 127
    ∷ signed (row_filter (kind_of (registers 1 0x00 0x00 0x00 0)) (negsuc 127) (pos 0)) (pos 127)
    -- L M H 89 92 A2: 88h black, 89h dark, 92h light, A2h white
    ∷ number (shade_of (matrix 0x89 0x92 0xA2) 0 0 0x88) 3
    ∷ number (shade_of (matrix 0x89 0x92 0xA2) 0 0 0x89) 2
    ∷ number (shade_of (matrix 0x89 0x92 0xA2) 0 0 0x92) 1
    ∷ number (shade_of (matrix 0x89 0x92 0xA2) 0 0 0xA2) 0
    -- Shades 0 1 2 3 0 1 2 3: bytes 55 33, put pixel by pixel
    ∷ number (get_or (shown 8) 0x100 0) 0x55
    ∷ number (get_or (shown 8) 0x101 0) 0x33
    -- and packed afresh
    ∷ number (packed (λ b. get_or shades b 0 % 2) 8) 0x55
    ∷ number (packed (λ b. get_or shades b 0 / 2) 8) 0x33
    -- Pixel (127, 111): bytes 0EFE, 0EFF, and no others
    ∷ number (get_or last_pixel 0 0) 0x0EFE
    ∷ number (get_or last_pixel 1 0) 0x0EFF
    ∷ number (length last_pixel) 2
    ∷ []
