-- The picture area as a grey image: a Netpbm file of kind P5. Assumes nothing.
use Rattle.std.specs.Prelude.{List, [], ◌∷◌, ◌++◌, ℕ, ◌-◌, ◌*◌, ◌/◌, ◌%◌, length, drop}
use Rattle.laws.specs.Lists.{listed}
use Rattle.tiles.specs.Picture.{picture_shade}
use Rattle.shades.specs.Shades.{shade_nth, Exported, exported}
use Rattle.controller.specs.Table.{Row, no_ram, no_room, lowest, judged}

-- the header: `P5`, LF, `128 112`, LF, `255`, LF
unfoldable pub header : List ℕ
header =
    0x50 ∷ 0x35 ∷ 0x0A ∷ 0x31 ∷ 0x32 ∷ 0x38 ∷ 0x20 ∷ 0x31 ∷ 0x31 ∷ 0x32 ∷ 0x0A ∷ 0x32 ∷ 0x35 ∷ 0x35 ∷ 0x0A ∷ []

-- shades 0, 1, 2, 3 as 255, 170, 85, 0
unfoldable pub grey_of : ℕ → ℕ
grey_of shade = 255 - 85 * shade

-- the grey of pixel k
unfoldable pub grey_at : List ℕ → ℕ → ℕ
grey_at ram k = grey_of (shade_nth ram k)

-- the file: the header of 15 bytes, then 14,336 pixels. The RAM is read straight
unfoldable pub plate_of : List ℕ → List ℕ
plate_of ram = header ++ listed (grey_at ram) 14336

-- the file of the picture afresh, from lit values and 54 registers
unfoldable pub plate_afresh : (ℕ → ℕ → ℕ) → List ℕ → List ℕ
plate_afresh lit regs = header ++ listed (λ k. grey_of (picture_shade lit regs (k % 128) (k / 128))) 14336

-- Refusals: 3 first, then 7 for a shorter buffer
unfoldable pub export_rows : List ℕ → List ℕ → List Row
export_rows ram out = no_ram (length ram) ∷ no_room 14351 (length out) ∷ []

-- The output is exactly 14,351 bytes; bytes beyond stay. Refused, nothing is written
unfoldable pub export_means : List ℕ → List ℕ → Exported
export_means ram out =
    judged (lowest (export_rows ram out)) (λ n. exported n 0 out) (exported 0 14351 (plate_of ram ++ drop 14351 out))
