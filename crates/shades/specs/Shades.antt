-- The picture area as shades, one a byte. Assumes nothing.
use Rattle.std.specs.Prelude.{List, [], ◌∷◌, ◌++◌, ℕ, ◌/◌, ◌%◌, length, drop}
use Rattle.laws.specs.Lists.{listed}
use Rattle.tiles.specs.Tiles.{shade_in}
use Rattle.controller.specs.Outcome.{number_of}
use Rattle.controller.specs.Table.{Row, no_ram, no_room, lowest, judged}
use Rattle.std.specs.declared.result.Result.{Result}
use Rattle.controller.specs.declared.Refusal.{Refusal}
use Rattle.std.specs.Prelude.{Ok, Err}

-- the shade of pixel k, row by row: column k mod 128 of row k/128
abbrev pub shade_nth : List ℕ → ℕ → ℕ
shade_nth ram k = shade_in ram (k % 128) (k / 128)

-- 14,336 of them, row by row. The RAM is read straight
unfoldable pub shades_of : List ℕ → List ℕ
shades_of ram = listed (shade_nth ram) 14336

-- Reading shades refuses 3, then 7
unfoldable pub shades_rows : List ℕ → List ℕ → List Row
shades_rows ram out = no_ram (length ram) ∷ no_room 14336 (length out) ∷ []

-- refusal number (0: none), how many bytes were written, and the buffer afterwards
pub record Exported : Type 0 where
  pub number : ℕ
  pub value : ℕ
  pub bytes : List ℕ

abbrev pub exported : ℕ → ℕ → List ℕ → Exported
exported n v bytes = record { number = n; value = v; bytes = bytes }

-- what such a call answers: the bytes written, or none
abbrev pub output_number : Result ℕ Refusal → ℕ
output_number (Ok n) = 0
output_number (Err why) = number_of why

abbrev pub output_value : Result ℕ Refusal → ℕ
output_value (Ok n) = n
output_value (Err why) = 0

-- bytes beyond stay. Refused, nothing is written
unfoldable pub shades_means : List ℕ → List ℕ → Exported
shades_means ram out =
    judged (lowest (shades_rows ram out)) (λ n. exported n 0 out) (exported 0 14336 (shades_of ram ++ drop 14336 out))
