-- A plate's file back into the picture area. Assumes nothing.
use Rattle.std.specs.Prelude.{Bool, true, not, ◌&&◌, ◌||◌, List, [], ◌∷◌, ◌++◌, ℕ, zero, suc, ◌+◌, ◌-◌, ◌*◌, ◌/◌, ◌%◌, eqb, length, get_or, take, drop}
use Rattle.laws.specs.Pick.{pick}
use Rattle.laws.specs.Lists.{listed, packed}
use Rattle.controller.specs.declared.Controller.{Controller}
use Rattle.controller.specs.declared.Refusal.TheVariants.{File}
use Rattle.controller.specs.Outcome.{Outcome, outcome, refusal}
use Rattle.controller.specs.Table.{Row, row, no_state, no_ram, some_held, lowest, judged}
use Rattle.plates.specs.Grey.{header}

-- a test holds at 0, 1, .. n − 1
unfoldable pub each : (ℕ → Bool) → ℕ → Bool
each test zero = true
each test (suc n) = each test n && test n

-- that exact header
unfoldable pub has_header : List ℕ → Bool
has_header file = each (λ k. eqb (get_or file k 0) (get_or header k 0)) 15

-- the four grey values
unfoldable pub is_grey : ℕ → Bool
is_grey grey = eqb grey 255 || (eqb grey 170 || (eqb grey 85 || eqb grey 0))

-- each of 14,336 pixels is one of them
unfoldable pub only_greys : List ℕ → Bool
only_greys pixels = each (λ k. is_grey (get_or pixels k 0)) 14336

-- what stands after the header
abbrev pub pixels_of : List ℕ → List ℕ
pixels_of file = drop 15 file

-- a file of the kind that is exported: that exact length, header and greys
unfoldable pub is_plate : List ℕ → Bool
is_plate file = eqb (length file) 14351 && (has_header file && only_greys (pixels_of file))

-- greys 255, 170, 85, 0 as shades 0, 1, 2, 3
unfoldable pub shade_of : ℕ → ℕ
shade_of grey = (255 - grey) / 85

-- the shade of pixel (x, y), from the pixels row by row
unfoldable pub shade_at : List ℕ → ℕ → ℕ → ℕ
shade_at pixels x y = shade_of (get_or pixels (128 * y + x) 0)

-- byte i of the area, by step 7: tile 16 × (y/8) + t, row y mod 8 of it, low byte first
unfoldable pub placed_byte : List ℕ → ℕ → ℕ
placed_byte pixels i =
    pick (eqb (i % 2) 0)
    (packed (λ b. shade_at pixels (8 * (i / 16 % 16) + b) (8 * (i / 256) + i / 2 % 8) % 2) 8)
    (packed (λ b. shade_at pixels (8 * (i / 16 % 16) + b) (8 * (i / 256) + i / 2 % 8) / 2) 8)

-- the 3,584 bytes of the area
unfoldable pub placed_area : List ℕ → List ℕ
placed_area pixels = listed (placed_byte pixels) 3584

-- RAM bank 0, 0100h to 0EFFh; every other byte stays
unfoldable pub placed_in : List ℕ → List ℕ → List ℕ
placed_in ram file = take 0x100 ram ++ (placed_area (pixels_of file) ++ drop 0xF00 ram)

-- 8: the file is of another kind
abbrev pub no_plate : List ℕ → Row
no_plate file = row File (not (is_plate file))

-- Refusals, in order: 1, 3, 8 for the file, 10 while a capture is held, running or stopped
unfoldable pub place_rows : Controller → List ℕ → List ℕ → List Row
place_rows c ram file = no_state c ∷ no_ram (length ram) ∷ no_plate file ∷ some_held c ∷ []

-- placed, whether or not RAM writing is enabled; the state stays
abbrev pub placed : Controller → List ℕ → List ℕ → Outcome
placed c ram file = outcome 0 0 c (placed_in ram file) []

-- refused, nothing is written
unfoldable pub place_means : Controller → List ℕ → List ℕ → Outcome
place_means c ram file = judged (lowest (place_rows c ram file)) (refusal c ram []) (placed c ram file)
