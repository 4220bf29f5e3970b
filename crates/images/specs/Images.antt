-- What each exported function of pictures, plates and photographs answers and leaves. Assumes nothing.
use Rattle.std.specs.Prelude.{List, [], ℕ}
use Rattle.laws.specs.Pick.{pick}
use Rattle.controller.specs.Picture.{Afresh, picture_means}
use Rattle.shades.specs.Shades.{shades_means}
use Rattle.plates.specs.Grey.{export_means}
use Rattle.placing.specs.Placing.{place_means}
use Rattle.readings.specs.Readings.{readings_mean}
use Rattle.photos.specs.Photo.{Imported, import_means}
use Rattle.layout.specs.Layout.{is_record, decoded}
use Rattle.answers.specs.Packed.{packed}
use Rattle.answers.specs.Called.{Called, as_bytes, no_record, unread, Filled, filled, as_written}

-- a picture afresh, as what a call fills
abbrev pub as_drawn : Afresh → Filled
as_drawn a = filled (packed a.number 0) a.bytes

-- the picture afresh needs no record: frame, 54 registers, and the bytes that it fills
unfoldable pub picture_bytes : List ℕ → List ℕ → List ℕ → Filled
picture_bytes frame registers picture = as_drawn (picture_means frame registers picture)

-- the picture area as a grey image
unfoldable pub export_bytes : List ℕ → List ℕ → Filled
export_bytes ram out = as_written (export_means ram out)

-- the picture area as shades, one a byte
unfoldable pub shades_bytes : List ℕ → List ℕ → Filled
shades_bytes ram out = as_written (shades_means ram out)

-- a plate's file back into the picture area
unfoldable pub place_bytes : List ℕ → List ℕ → List ℕ → Called
place_bytes s ram file = pick (is_record s) (as_bytes (place_means (decoded s) ram file)) (unread s ram [])

-- the values of the held capture as a grey image
unfoldable pub readings_bytes : List ℕ → List ℕ → List ℕ → Filled
readings_bytes s store out = pick (is_record s) (as_written (readings_mean (decoded s) store out)) (filled no_record out)

-- a photograph read into a lent image
abbrev pub as_read : Imported → Filled
as_read i = filled (packed i.number 0) i.image

unfoldable pub import_bytes : List ℕ → List ℕ → Filled
import_bytes file image = as_read (import_means file image)
