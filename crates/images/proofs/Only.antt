-- No second answer fits: the answers of pictures, plates and photographs. Assumes nothing.
use mathlib.Core.Path.{◌≡◌}
use mathlib.Core.Bool.{true}
use mathlib.Core.List.{List}
use Prim.Native.Nat.{ℕ}
use native.Mathlib.Omega.{arith}
use Rattle.shades.specs.Shades.{shades_means}
use Rattle.plates.specs.Grey.{export_means}
use Rattle.placing.specs.Placing.{place_means}
use Rattle.readings.specs.Readings.{readings_mean}
use Rattle.photos.specs.Photo.{import_means}
use Rattle.layout.specs.Layout.{is_record, decoded}
use Rattle.shades.proofs.Outputs.{shades_refuses}
use Rattle.plates.proofs.Exports.{export_refuses}
use Rattle.placing.proofs.Placed.{place_refuses}
use Rattle.readings.proofs.Values.{readings_refuse}
use Rattle.images.specs.Images.{export_bytes, shades_bytes, place_bytes, readings_bytes, import_bytes}
use Rattle.images.proofs.Cases.{place_done, readings_done}
use Rattle.answers.proofs.Only.{Says, packed_says, small, written_small}

-- an export's answer
pub export_says : (ram out : List ℕ) → Says (export_bytes ram out).answer (export_means ram out).number (export_means ram out).value
unfolding export_bytes
export_says ram out = packed_says _ _ (written_small (export_refuses ram out) (omega arith))

-- and that of shades
pub shades_says : (ram out : List ℕ) → Says (shades_bytes ram out).answer (shades_means ram out).number (shades_means ram out).value
unfolding shades_bytes
shades_says ram out = packed_says _ _ (written_small (shades_refuses ram out) (omega arith))

-- a placing's answer
pub place_says : (s ram file : List ℕ) → is_record s ≡ true → Says (place_bytes s ram file).answer (place_means (decoded s) ram file).number (place_means (decoded s) ram file).value
place_says s ram file h = rw (place_done s ram file h) (packed_says _ _ (small (place_refuses (decoded s) ram file) (omega arith)))

-- that of the readings
pub readings_says : (s store out : List ℕ) → is_record s ≡ true → Says (readings_bytes s store out).answer (readings_mean (decoded s) store out).number (readings_mean (decoded s) store out).value
readings_says s store out h = rw (readings_done s store out h) (packed_says _ _ (written_small (readings_refuse (decoded s) store out) (omega arith)))

-- a photograph's answer
pub import_says : (file image : List ℕ) → Says (import_bytes file image).answer (import_means file image).number 0
unfolding import_bytes
import_says file image = packed_says _ _ (omega arith)
