-- The reading before the dots: the 0 to 255 value of each pixel of a held capture, as grey in a file of the kind that a plate has. Assumes nothing.
use Rattle.std.specs.Prelude.{not, List, [], ◌∷◌, ◌++◌, ℕ, ◌+◌, ◌/◌, ◌%◌, length, drop}
use Rattle.laws.specs.Lists.{listed}
use Rattle.lighting.specs.Light.{byte_at}
use Rattle.sensor.specs.Shade.{reading_at}
use Rattle.controller.specs.declared.Controller.{Controller}
use Rattle.controller.specs.declared.Refusal.TheVariants.{NotHeld}
use Rattle.controller.specs.Table.{Row, row, no_state, no_frame, no_room, lowest, judged}
use Rattle.plates.specs.Grey.{header}
use Rattle.shades.specs.Shades.{Exported, exported}

-- the value of pixel k, row by row: column k mod 128 of picture row k/128, which is sensor row k/128 + 8
unfoldable pub reading : (ℕ → ℕ → ℕ) → List ℕ → ℕ → ℕ
reading lit regs k = reading_at lit regs (k % 128) (k / 128 + 8)

-- the file: the header of 15 bytes, then 14,336 values
unfoldable pub readings_of : (ℕ → ℕ → ℕ) → List ℕ → List ℕ
readings_of lit regs = header ++ listed (reading lit regs) 14336

-- 11 when no capture is held
abbrev pub not_held : Controller → Row
not_held c = row NotHeld (not c.held)

-- Refusals: 1, 4, 7, then 11
unfoldable pub reading_rows : Controller → List ℕ → List ℕ → List Row
reading_rows c store out = no_state c ∷ no_frame (length store) ∷ no_room 14351 (length out) ∷ not_held c ∷ []

-- worked out from frame store, whose bytes are read as lit values, and taken registers of a held capture: exactly 14,351 bytes; bytes beyond stay.
-- Refused, nothing is written
unfoldable pub readings_mean : Controller → List ℕ → List ℕ → Exported
readings_mean c store out =
    judged (lowest (reading_rows c store out)) (λ n. exported n 0 out)
    (exported 0 14351 (readings_of (byte_at store) c.taken ++ drop 14351 out))
