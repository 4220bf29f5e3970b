-- From light to shade, steps 1 to 3: the light of a pixel, as a number 0 to 255. Quotients are cut toward zero. Assumes nothing.
use Rattle.std.specs.Prelude.{Bool, List, ℕ, ◌+◌, ◌-◌, ◌*◌, ◌/◌, ◌≤◌, ◌<◌, min, ℤ, pos, nat_abs, ◌+ℤ◌, ◌-ℤ◌, ◌*ℤ◌, get_or}
use Rattle.std.specs.Int.Signed.{quot_z}
use Rattle.laws.specs.Pick.{pick}
use Rattle.laws.specs.Lists.{listed}
use Rattle.lighting.specs.declared.Setting.{Setting}

-- 1. v becomes 128 + (v − 128) × 5 / 8
unfoldable pub adapted_z : ℕ → ℤ
adapted_z v = pos 128 +ℤ quot_z ((pos v -ℤ pos 128) *ℤ pos 5) (pos 8)

-- the same, as the number 48 to 207 that it is for every byte v
unfoldable pub adapted : ℕ → ℕ
adapted v = nat_abs (adapted_z v)

-- 2. Times exposure / 256, at most 255
unfoldable pub exposed : ℕ → ℕ → ℕ
exposed e v = min (v * e / 256) 255

-- 3. If bit 3 of A004 is set, 255 − v
unfoldable pub turned : Bool → ℕ → ℕ
turned inverted v = pick inverted (255 - v) v

-- steps 1 to 3 of a byte, before 128 is subtracted
unfoldable pub light_of : Setting → ℕ → ℕ
light_of set v = turned set.inverted (exposed set.exposure (adapted v))

-- what a start puts into the frame store: that value of each pixel of the image, 128 × 128 bytes, row by row
unfoldable pub light_frame : List ℕ → Setting → List ℕ
light_frame image set = listed (λ i. light_of set (get_or image i 0)) 16384

-- the byte at a column and a row; of a frame store it is the lit value there
abbrev pub byte_at : List ℕ → ℕ → ℕ → ℕ
byte_at bytes x row = get_or bytes (row * 128 + x) 0

-- the column is within a frame, and the row is one of first to last
pub record Within (x row first last : ℕ) : Type 0 where
  pub column : x < 128
  pub from : first ≤ row
  pub to : row ≤ last

-- the lit value at a column and a row of an image
unfoldable pub lit_of : List ℕ → Setting → ℕ → ℕ → ℕ
lit_of image set x row = light_of set (byte_at image x row)
