-- The picture is the one that it was while the sensor's first and last row were repeated beyond it. Assumes nothing.
use mathlib.Core.List.{List}
use mathlib.Core.Path.{◌≡◌, ◌∙◌}
use Prim.Native.Nat.{ℕ, ◌+◌}
use Rattle.laws.specs.Lists.{listed}
use Rattle.sensor.proofs.EdgeRows.{shade_before, pixel_same}
use Rattle.tiles.specs.Picture.{picture_of}
use Rattle.tiles.proofs.Area.{byte_of, bytes_alike, picture_shown}

-- the picture of the old meaning, which is for this statement alone
abbrev pub picture_before : (ℕ → ℕ → ℕ) → List ℕ → List ℕ
picture_before lit regs = listed (byte_of (λ x y. shade_before lit regs x (y + 8))) 3584

-- whatever the lit values and the registers taken
pub picture_same_as_before : (lit : ℕ → ℕ → ℕ) (regs : List ℕ) → picture_of lit regs ≡ picture_before lit regs
picture_same_as_before lit regs =
    picture_shown lit regs ∙ bytes_alike _ _ (λ x y hx hy. (pixel_same lit regs x y hy).shade)
