-- `plates::grey::put_pixels` meets its contract: the negative of 85 and 170 for the two bits is the grey. Assumes nothing.
use mathlib.Core.Path.{◌≡◌, ◌∙◌}
use mathlib.Core.Bool.{true}
use mathlib.Core.List.{List}
use Prim.Native.Nat.{ℕ}
use native.Mathlib.Omega.{arith}
use Rattle.laws.specs.Lists.{listed}
use Rattle.laws.proofs.Packed.{listed_ext}
use Rattle.lighting.specs.Light.{turned}
use Rattle.tiles.specs.Tiles.{shade_in}
use Rattle.shades.specs.Aside.{tone_nth}
use Rattle.plates.specs.Grey.{grey_of, grey_at}
use Rattle.plates.proofs.grey.put_pixels.Goals as goal

tones-greys : (ram : List ℕ) → listed (tone_nth 85 170 true ram) 14336 ≡ listed (grey_at ram) 14336
unfolding tone_nth turned shade_in grey_at grey_of
tones-greys ram = listed_ext _ _ 14336 (λ k h. omega arith)

pub returns : goal.returns
returns c = c.put_tones.ensures ∙ tones-greys _
