-- From light to shade, step 4: the nine values around a pixel. Assumes nothing.
use Rattle.std.specs.Prelude.{List, [], ◌∷◌, ℕ, ◌+◌, ◌-◌, min, ℤ, pos, ◌-ℤ◌}
use Rattle.lighting.specs.declared.Setting.{Setting}
use Rattle.filters.specs.Edge.{edge_of}

-- left and right of the sensor the edge pixel is repeated: the columns beside one
abbrev pub left_of : ℕ → ℕ
left_of x = x - 1

abbrev pub right_of : ℕ → ℕ
right_of x = min (x + 1) 127

-- the lit value at a column and a row, less 128
unfoldable pub signed_at : (ℕ → ℕ → ℕ) → ℕ → ℕ → ℤ
signed_at lit x row = pos (lit x row) -ℤ pos 128

-- the three signed values around a column of a row
unfoldable pub three_of : (ℕ → ℕ → ℕ) → ℕ → ℕ → List ℤ
three_of lit x row = signed_at lit (left_of x) row ∷ signed_at lit x row ∷ signed_at lit (right_of x) row ∷ []

-- the nine signed values around a pixel, three rows of three: asked of rows 8 to 120 alone, they lie in rows 7 to 121
unfoldable pub nine_of : (ℕ → ℕ → ℕ) → ℕ → ℕ → List (List ℤ)
nine_of lit x row = three_of lit x (row - 1) ∷ three_of lit x row ∷ three_of lit x (row + 1) ∷ []

-- the step 4 value of a pixel
unfoldable pub step4 : (ℕ → ℕ → ℕ) → Setting → ℕ → ℕ → ℤ
step4 lit set x row = edge_of set.mode set.quarters (nine_of lit x row)
