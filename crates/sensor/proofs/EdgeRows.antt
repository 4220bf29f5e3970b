-- What the steps meant while the sensor's first and last row were repeated beyond it, and that every pixel of the picture has now the value
-- and the shade that it had then. The old meaning is for these statements alone; nothing else names it. Assumes nothing.
use mathlib.Core.List.{List, [], ◌∷◌}
use mathlib.Core.Path.{◌≡◌, ap, ap₂, ◌∙◌}
use Prim.Native.Nat.{ℕ, ◌+◌, ◌-◌, ◌≤◌, ◌<◌, min}
use native.Mathlib.Omega.{arith}
use lib.IntN.{ℤ, pos, nat_abs, ◌+ℤ◌}
use Rattle.laws.specs.Pick.{pick}
use Rattle.lighting.specs.declared.Setting.{Setting}
use Rattle.lighting.specs.Taken.{setting_of}
use Rattle.filters.specs.Edge.{edge_of}
use Rattle.sensor.specs.Nine.{three_of, nine_of, step4}
use Rattle.sensor.specs.Row.{passes, row_filter, step5}
use Rattle.sensor.specs.Shade.{value_at, shade_of, reading_at, shade_at}

-- ---- the old meaning

-- the row above row 0 was row 0, the one below row 127 was row 127
abbrev above_before : ℕ → ℕ
above_before row = row - 1

abbrev below_before : ℕ → ℕ
below_before row = min (row + 1) 127

abbrev nine_before : (ℕ → ℕ → ℕ) → ℕ → ℕ → List (List ℤ)
nine_before lit x row = three_of lit x (above_before row) ∷ three_of lit x row ∷ three_of lit x (below_before row) ∷ []

abbrev step4_before : (ℕ → ℕ → ℕ) → Setting → ℕ → ℕ → ℤ
step4_before lit set x row = edge_of set.mode set.quarters (nine_before lit x row)

abbrev step5_before : (ℕ → ℕ → ℕ) → Setting → ℕ → ℕ → ℤ
step5_before lit set x row =
    pick (passes set.mode) (row_filter set.kind (step4_before lit set x row) (step4_before lit set x (below_before row)))
    (step4_before lit set x row)

abbrev pub reading_before : (ℕ → ℕ → ℕ) → List ℕ → ℕ → ℕ → ℕ
reading_before lit regs x row = nat_abs (step5_before lit (setting_of regs) x row +ℤ pos 128)

abbrev pub shade_before : (ℕ → ℕ → ℕ) → List ℕ → ℕ → ℕ → ℕ
shade_before lit regs x row = shade_of regs x row (reading_before lit regs x row)

-- ---- it is the meaning now

module _ (lit : ℕ → ℕ → ℕ) (set : Setting) (x : ℕ) where
  below_same : (row : ℕ) → row ≤ 120 → row + 1 ≡ below_before row
  below_same row h = omega arith

  step4_same : (row : ℕ) → row ≤ 120 → step4 lit set x row ≡ step4_before lit set x row
  unfolding step4 nine_of
  step4_same row h =
      ap (λ (r : ℕ). edge_of set.mode set.quarters (three_of lit x (row - 1) ∷ three_of lit x row ∷ three_of lit x r ∷ [])) (below_same row h)

  step5_same : (row : ℕ) → row ≤ 119 → step5 lit set x row ≡ step5_before lit set x row
  unfolding step5
  step5_same row h =
      ap₂ (λ p s. pick (passes set.mode) (row_filter set.kind p s) p) (step4_same row (omega arith))
      (step4_same (row + 1) (omega arith) ∙ ap (step4_before lit set x) (below_same row (omega arith)))

-- a pixel has the value and the shade that it had
pub record AsBefore (lit : ℕ → ℕ → ℕ) (regs : List ℕ) (x row : ℕ) : Type 0 where
  pub value : reading_at lit regs x row ≡ reading_before lit regs x row
  pub shade : shade_at lit regs x row ≡ shade_before lit regs x row

-- every pixel of the picture, whatever the lit values and the registers taken: picture row y is sensor row y + 8
pub pixel_same : (lit : ℕ → ℕ → ℕ) (regs : List ℕ) (x y : ℕ) → y < 112 → AsBefore lit regs x (y + 8)
unfolding value_at shade_at
pixel_same lit regs x y h =
    let e : reading_at lit regs x (y + 8) ≡ reading_before lit regs x (y + 8)
    = ap (λ z. nat_abs (z +ℤ pos 128)) (step5_same lit (setting_of regs) x (y + 8) (omega arith)) in
    record { value = e; shade = ap (shade_of regs x (y + 8)) e }
