-- The picture worked out afresh and whole, from lit values and 54 registers. Assumes nothing.
use Rattle.std.specs.Prelude.{List, ℕ, ◌+◌, ◌*◌, ◌/◌, ◌%◌, eqb}
use Rattle.laws.specs.Pick.{pick}
use Rattle.laws.specs.Lists.{listed, packed}
use Rattle.sensor.specs.Shade.{shade_at}

-- the shade of pixel (x, y) of the picture: picture row y is sensor row y + 8
abbrev pub picture_shade : (ℕ → ℕ → ℕ) → List ℕ → ℕ → ℕ → ℕ
picture_shade lit regs x y = shade_at lit regs x (y + 8)

-- eight pixels of a row, from column 8 t on, as two bytes: the low bits, and the high bits
unfoldable pub low_byte : (ℕ → ℕ → ℕ) → List ℕ → ℕ → ℕ → ℕ
low_byte lit regs t y = packed (λ b. picture_shade lit regs (8 * t + b) y % 2) 8

unfoldable pub high_byte : (ℕ → ℕ → ℕ) → List ℕ → ℕ → ℕ → ℕ
high_byte lit regs t y = packed (λ b. picture_shade lit regs (8 * t + b) y / 2) 8

-- byte i of the area, by step 7: tile 16 × (y/8) + t, row y mod 8 of it, low byte first
unfoldable pub picture_byte : (ℕ → ℕ → ℕ) → List ℕ → ℕ → ℕ
picture_byte lit regs i =
    pick (eqb (i % 2) 0)
    (low_byte lit regs (i / 16 % 16) (8 * (i / 256) + i / 2 % 8))
    (high_byte lit regs (i / 16 % 16) (8 * (i / 256) + i / 2 % 8))

-- the 3,584 bytes of the picture
unfoldable pub picture_of : (ℕ → ℕ → ℕ) → List ℕ → List ℕ
picture_of lit regs = listed (picture_byte lit regs) 3584
