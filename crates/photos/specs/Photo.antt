-- A colour photograph as an image: a Netpbm file of kind P6. Assumes nothing.
use Rattle.std.specs.Prelude.{Bool, not, ◌&&◌, List, [], ◌∷◌, ℕ, ◌+◌, ◌-◌, ◌*◌, ◌/◌, leb, length, get_or, take, drop}
use Rattle.laws.specs.Lists.{listed}
use Rattle.controller.specs.declared.Refusal.TheVariants.{File}
use Rattle.controller.specs.Table.{Row, row, no_frame, lowest, judged}
use Rattle.photos.specs.Aside.{is_header}

-- exactly 49,152 bytes come after the header
abbrev pub header_length : List ℕ → ℕ
header_length file = length file - 49152

-- the header is at most 256 bytes
unfoldable pub is_photo : List ℕ → Bool
is_photo file =
    leb 49152 (length file) && (leb (header_length file) 256 && is_header (take (header_length file) file))

-- V = (2R + 5G + B) / 8 rounded down
abbrev pub value_of : List ℕ → ℕ → ℕ
value_of pixels k = (2 * get_or pixels (3 * k) 0 + 5 * get_or pixels (3 * k + 1) 0 + get_or pixels (3 * k + 2) 0) / 8

-- the image, pixel by pixel, row by row
unfoldable pub image_of : List ℕ → List ℕ
image_of file = listed (value_of (drop (header_length file) file)) 16384

-- 8: the file breaks any of this
abbrev pub no_photo : List ℕ → Row
no_photo file = row File (not (is_photo file))

-- Refusals: 4 for the image's size, then 8
unfoldable pub import_rows : List ℕ → List ℕ → List Row
import_rows file image = no_frame (length image) ∷ no_photo file ∷ []

-- refusal number (0: none), and the image afterwards
pub record Imported : Type 0 where
  pub number : ℕ
  pub image : List ℕ

abbrev pub imported : ℕ → List ℕ → Imported
imported n image = record { number = n; image = image }

-- the image then stays unchanged
unfoldable pub import_means : List ℕ → List ℕ → Imported
import_means file image = judged (lowest (import_rows file image)) (λ n. imported n image) (imported 0 (image_of file))
