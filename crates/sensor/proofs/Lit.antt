-- The light of a whole image, read as a frame store, is the light of each of its pixels. Assumes nothing.
use mathlib.Core.List.{List}
use mathlib.Core.Path.{◌≡◌}
use Prim.Native.Nat.{ℕ, ◌+◌, ◌*◌, ◌<◌}
use native.Mathlib.Omega.{arith}
use lib.ListN.{length}
use Rattle.laws.proofs.Packed.{listed_length, listed_at}
use Rattle.lighting.specs.declared.Setting.{Setting}
use Rattle.lighting.specs.Light.{light_frame, byte_at, lit_of}
use Rattle.sensor.proofs.Rows.{Alike}

pub light_length : (image : List ℕ) (set : Setting) → length (light_frame image set) ≡ 16384
unfolding light_frame
light_length image set = listed_length _ 16384

-- at each column and row of the sensor
pub light_at : (image : List ℕ) (set : Setting) (x row : ℕ) → x < 128 → row < 128 → byte_at (light_frame image set) x row ≡ lit_of image set x row
unfolding light_frame lit_of
light_at image set x row h k = listed_at _ 16384 (row * 128 + x) (omega arith)

pub light_alike : (image : List ℕ) (set : Setting) → Alike (byte_at (light_frame image set)) (lit_of image set)
light_alike image set x row h a b = light_at image set x row h (omega arith)
