-- Lit values that agree in rows 7 to 120 put the same pixels, and so an image's light in a frame store gives the picture and the pixels that
-- the image gives. Assumes nothing.
use mathlib.Core.List.{List}
use mathlib.Core.Path.{◌≡◌, refl, ap, ◌∙◌}
use Prim.Native.Nat.{ℕ, zero, suc, ◌+◌, ◌/◌, ◌%◌, ◌<◌, ◌≤◌}
use native.Mathlib.Omega.{arith}
use lib.Dec.{leb}
use Rattle.laws.specs.Pick.{pick}
use Rattle.lighting.specs.declared.Setting.{Setting}
use Rattle.lighting.specs.Light.{light_frame, byte_at, lit_of}
use Rattle.sensor.proofs.Rows.{Alike, rows}
use Rattle.sensor.proofs.Lit.{light_alike}
use Rattle.tiles.specs.Tiles.{put_at}
use Rattle.tiles.specs.Picture.{picture_of}
use Rattle.tiles.specs.Aside.{put_nth, pixels}
use Rattle.tiles.proofs.Area.{picture_lit}

module _ {lit mit : ℕ → ℕ → ℕ} (alike : Alike lit mit) (regs : List ℕ) where
  put_lit : (j : ℕ) (ram : List ℕ) → j < 14336 → put_nth lit regs j ram ≡ put_nth mit regs j ram
  unfolding put_nth
  put_lit j ram h =
      ap (put_at ram (j % 128) (j / 128)) (rows alike regs (j % 128) (j / 128 + 8) (omega arith) (omega arith) (omega arith)).shade

  -- the pixels from..to of the picture
  pub pixels_lit : (from to : ℕ) (ram : List ℕ) → to ≤ 14336 → pixels lit regs from to ram ≡ pixels mit regs from to ram
  unfolding pixels
  pixels_lit from zero ram h = refl
  pixels_lit from (suc j) ram h =
      ap (λ r. pick (leb from j) r ram) (put_lit j _ (omega arith) ∙ ap (put_nth mit regs j) (pixels_lit from j ram (omega arith)))

module _ (image : List ℕ) (set : Setting) (regs : List ℕ) where
  -- the picture of an image's light
  pub picture_light : picture_of (byte_at (light_frame image set)) regs ≡ picture_of (lit_of image set) regs
  picture_light = picture_lit (light_alike image set) regs

  -- and any range of its pixels
  pub pixels_light : (from to : ℕ) (ram : List ℕ) → to ≤ 14336
      → pixels (byte_at (light_frame image set)) regs from to ram ≡ pixels (lit_of image set) regs from to ram
  pixels_light = pixels_lit (light_alike image set) regs
