-- The picture afresh, as a call: from an image and 54 registers into lent bytes. Assumes nothing.
use Rattle.std.specs.Prelude.{ℕ, List, [], ◌∷◌, length}
use Rattle.lighting.specs.Taken.{setting_of}
use Rattle.lighting.specs.Light.{lit_of}
use Rattle.tiles.specs.Picture.{picture_of}
use Rattle.controller.specs.Table.{Row, no_frame, lowest, judged}

-- the outcome of working it out: refusal number (0: none), and the bytes lent afterwards
pub record Afresh : Type 0 where
  pub number : ℕ
  pub bytes : List ℕ

abbrev pub afresh : ℕ → List ℕ → Afresh
afresh n bytes = record { number = n; bytes = bytes }

unfoldable pub picture_rows : List ℕ → List Row
picture_rows image = no_frame (length image) ∷ []

-- from an image, lit by the registers. 4 is given when it is not 16,384 bytes, and then no byte lent changes
unfoldable pub picture_means : List ℕ → List ℕ → List ℕ → Afresh
picture_means image regs out =
    judged (lowest (picture_rows image)) (λ n. afresh n out) (afresh 0 (picture_of (lit_of image (setting_of regs)) regs))
