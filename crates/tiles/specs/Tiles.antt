-- From light to shade, step 7: where a pixel of the picture stands in the RAM, and what putting one does. Assumes nothing.
use Rattle.std.specs.Prelude.{List, ℕ, ◌+◌, ◌-◌, ◌*◌, ◌/◌, ◌%◌, ◌<◌, get_or, set, take, drop}
use Rattle.laws.specs.Bits.{bit_of, put_bit}

-- RAM bank 0, offset 100h + 16 × (16 × (y/8) + x/8) + 2 × (y mod 8)
abbrev pub place : ℕ → ℕ → ℕ
place x y = 0x100 + 16 * (16 * (y / 8) + x / 8) + 2 * (y % 8)

-- bit 7 − x mod 8 gets the shade's low bit, and in the next byte its high bit
unfoldable pub put_at : List ℕ → ℕ → ℕ → ℕ → List ℕ
put_at ram x y shade =
    set
    (set ram (place x y) (put_bit (get_or ram (place x y) 0) (7 - x % 8) (shade % 2)))
    (place x y + 1)
    (put_bit (get_or ram (place x y + 1) 0) (7 - x % 8) (shade / 2))

-- the shade that the RAM shows at pixel (x, y): its low bit, and twice its high bit
unfoldable pub shade_in : List ℕ → ℕ → ℕ → ℕ
shade_in ram x y =
    bit_of (get_or ram (place x y) 0) (7 - x % 8) + 2 * bit_of (get_or ram (place x y + 1) 0) (7 - x % 8)

-- Area 0100h to 0EFFh
abbrev pub area_of : List ℕ → List ℕ
area_of ram = take 3584 (drop 0x100 ram)

-- each of the numbers is a byte
abbrev pub Bytes : List ℕ → Type 0
Bytes l = (i : ℕ) → get_or l i 0 < 256
