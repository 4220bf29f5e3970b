-- Aside: devices of contracts between functions. Nothing here need be believed: every use of it is tied by a proof to the definitions beside it.
-- The nine values with their bounds, and a pixel as a record. Assumes nothing.
use Rattle.std.specs.Prelude.{List, ◌≡◌, ℕ, ℤ}
use Rattle.filters.specs.Aside.{Small}
use Rattle.sensor.specs.declared.Pixel.{Pixel}
use Rattle.sensor.specs.Nine.{nine_of}
use Rattle.sensor.specs.Shade.{reading_at, shade_at}

-- the nine values around a pixel, each in −128..127
pub record Nine (lit : ℕ → ℕ → ℕ) (x row : ℕ) (n : List (List ℤ)) : Type 0 where
  pub same : n ≡ nine_of lit x row
  pub small : Small n

-- the pixel: its value beside its shade
abbrev pub pixel_at : (ℕ → ℕ → ℕ) → List ℕ → ℕ → ℕ → Pixel
pixel_at lit regs x row = record { value = reading_at lit regs x row; shade = shade_at lit regs x row }
