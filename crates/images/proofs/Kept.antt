-- A refused call leaves the buffers and the RAM as they were, and a placing the state. Assumes nothing.
use mathlib.Core.Path.{◌≡◌, refl, sym, ap, ◌∙◌}
use mathlib.Core.List.{List, []}
use Prim.Native.Nat.{ℕ, ◌/◌}
use Rattle.tiles.specs.Tiles.{Bytes}
use Rattle.layout.specs.Layout.{encoded, is_record, decoded}
use Rattle.layout.proofs.Inverse.{encode_decode}
use Rattle.shades.proofs.Outputs.{shades_refuses}
use Rattle.plates.proofs.Exports.{export_refuses}
use Rattle.placing.proofs.Placed.{place_refuses}
use Rattle.readings.proofs.Values.{readings_refuse}
use Rattle.laws.proofs.Bools.{either}
use Rattle.images.specs.Images.{export_bytes, shades_bytes, place_bytes, readings_bytes}
use Rattle.images.proofs.Cases.{place_done, readings_done, place_unread, readings_unread, place_state}
use Rattle.images.proofs.Only.{place_says, export_says, shades_says, readings_says}
use Rattle.answers.proofs.Kept.{Keeps, called_kept, written_kept}

pub place_kept : (s ram file : List ℕ) → Bytes s → (0 ≡ (place_bytes s ram file).answer / 4294967296 → ⊥) → Keeps (place_bytes s ram file) s ram []
place_kept s ram file bytes =
    called_kept s ram [] bytes (place_unread s ram file) (place_done s ram file) (place_refuses (decoded s) ram file) (place_says s ram file)

pub export_kept : (ram out : List ℕ) → (0 ≡ (export_bytes ram out).answer / 4294967296 → ⊥) → (export_bytes ram out).bytes ≡ out
unfolding export_bytes
export_kept ram out some = written_kept (export_refuses ram out) (λ z. some (z ∙ sym (export_says ram out).number))

pub shades_kept : (ram out : List ℕ) → (0 ≡ (shades_bytes ram out).answer / 4294967296 → ⊥) → (shades_bytes ram out).bytes ≡ out
unfolding shades_bytes
shades_kept ram out some = written_kept (shades_refuses ram out) (λ z. some (z ∙ sym (shades_says ram out).number))

pub readings_kept : (s store out : List ℕ) → (0 ≡ (readings_bytes s store out).answer / 4294967296 → ⊥) → (readings_bytes s store out).bytes ≡ out
readings_kept s store out some =
    either (is_record s)
    (λ h. rw (readings_done s store out h) (written_kept (readings_refuse (decoded s) store out) (λ z. some (z ∙ sym (readings_says s store out h).number))))
    (λ h. rw (readings_unread s store out h) refl)

-- a placing, done or refused, leaves the state bytes as they were
pub place_left : (s ram file : List ℕ) → Bytes s → (place_bytes s ram file).state ≡ s
place_left s ram file bytes =
    either (is_record s)
    (λ h. rw (place_done s ram file h) (ap encoded (place_state s ram file (decoded s)) ∙ encode_decode s bytes h))
    (λ h. rw (place_unread s ram file h) refl)
