-- Aside: devices of contracts between functions. Nothing here need be believed: every use of it is tied by a proof to the definitions beside it.
-- Rows of values, and rows of step 4 values with 128 added. Assumes nothing.
use Rattle.std.specs.Prelude.{Bool, true, ◌&&◌, List, ◌≡◌, ℕ, ◌+◌, ◌-◌, min, eqb, ltb, ℤ, pos, nat_abs, ◌+ℤ◌, length, get_or}
use Rattle.laws.specs.Lists.{listed}
use Rattle.lighting.specs.declared.Setting.{Setting}
use Rattle.filters.specs.Edge.{edge_of}
use Rattle.sensor.specs.Nine.{nine_of}
use Rattle.sensor.specs.Row.{passes}
use Rattle.sensor.specs.Shade.{value_at}

-- the values of a row
abbrev pub value_row : (ℕ → ℕ → ℕ) → Setting → ℕ → List ℕ
value_row lit set row = listed (λ x. value_at lit set x row) 128

-- the mode passes the 1-D filter, and its kind is 2 or 3: it asks for the row below
unfoldable pub asks_below : Setting → Bool
asks_below set = passes set.mode && ltb 1 set.kind

-- the mode passes it, and its kind is 0: it asks for the negative
unfoldable pub negates : Setting → Bool
negates set = passes set.mode && eqb set.kind 0

-- a value with 128 added
unfoldable pub raised_of : ℤ → ℕ
raised_of z = nat_abs (z +ℤ pos 128)

-- the step 4 value by a mode at column x of a row, with 128 added
unfoldable pub pixel_by : ℕ → ℕ → (ℕ → ℕ → ℕ) → ℕ → ℕ → ℕ
pixel_by mode q lit row x = raised_of (edge_of mode q (nine_of lit x row))

-- a row of them
abbrev pub row_by : ℕ → ℕ → (ℕ → ℕ → ℕ) → ℕ → List ℕ
row_by mode q lit row = listed (pixel_by mode q lit row) 128

-- the same by what a setting asks
abbrev pub step_row : (ℕ → ℕ → ℕ) → Setting → ℕ → List ℕ
step_row lit set row = row_by set.mode set.quarters lit row

-- what is carried from row to row: where the row below is asked for, the step 4 values of the row that comes next
pub record Carried (lit : ℕ → ℕ → ℕ) (set : Setting) (row : ℕ) (p : List ℕ) : Type 0 where
  pub whole : length p ≡ 128
  pub below : asks_below set ≡ true → p ≡ step_row lit set row

-- P − s held, of two bytes that are values with 128 added, with 128 added
abbrev pub less_of : ℕ → ℕ → ℕ
less_of p s = min (p + 128 - s) 255

-- a row of them, of a row and the row below; and of a row the negative, 0 − P
abbrev pub less_row : List ℕ → List ℕ → List ℕ
less_row p s = listed (λ x. less_of (get_or p x 0) (get_or s x 0)) 128

abbrev pub negative_row : List ℕ → List ℕ
negative_row p = listed (λ x. less_of 128 (get_or p x 0)) 128
