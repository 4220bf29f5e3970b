-- Each exported function of pictures, plates and photographs, case by case. Assumes nothing.
use mathlib.Core.Path.{◌≡◌, refl, sym, ap, ◌∙◌}
use mathlib.Core.Bool.{true, false}
use mathlib.Core.List.{List, []}
use Prim.Native.Nat.{ℕ}
use Rattle.controller.specs.declared.Controller.{Controller}
use Rattle.std.specs.declared.result.Result.{Result}
use Rattle.controller.specs.declared.Refusal.{Refusal}
use Rattle.std.specs.Prelude.{⊤}
use Rattle.tiles.specs.Tiles.{Bytes}
use Rattle.controller.specs.Outcome.{Outcome, outcome, write_number}
use Rattle.controller.specs.Table.{lowest}
use Rattle.controller.specs.Picture.{afresh, picture_means}
use Rattle.controller.proofs.Refusals.{judged_ind}
use Rattle.shades.specs.Shades.{exported, output_number, output_value, shades_means}
use Rattle.plates.specs.Grey.{export_means}
use Rattle.placing.specs.Placing.{place_rows, place_means}
use Rattle.readings.specs.Readings.{readings_mean}
use Rattle.photos.specs.Photo.{imported, import_means}
use Rattle.layout.specs.Layout.{encoded, is_record, decoded}
use Rattle.answers.specs.Packed.{packed}
use Rattle.layout.proofs.Inverse.{encode_decode}
use Rattle.answers.specs.Called.{called, as_bytes, no_record, unread, filled, as_written}
use Rattle.images.specs.Images.{as_drawn, picture_bytes, export_bytes, shades_bytes, place_bytes, readings_bytes, as_read, import_bytes}
use Rattle.answers.proofs.Kept.{written}

-- ---- the picture afresh

pub picture_drawn : (frame registers picture : List ℕ) (r : Result ⊤ Refusal) (left : List ℕ) → afresh (write_number r) left ≡ picture_means frame registers picture
    → (p : ℕ) → p ≡ packed (write_number r) 0 → filled p left ≡ picture_bytes frame registers picture
unfolding picture_bytes
picture_drawn frame registers picture r left means p q = (λ i. filled (q i) left) ∙ ap as_drawn means

-- ---- the picture area as a grey image, and as shades

module _ (ram out : List ℕ) (r : Result ℕ Refusal) (left : List ℕ) where
  pub export_written : exported (output_number r) (output_value r) left ≡ export_means ram out → (p : ℕ) → p ≡ packed (output_number r) (output_value r) → filled p left ≡ export_bytes ram out
  unfolding export_bytes
  export_written = written (export_means ram out) r left

  pub shades_written : exported (output_number r) (output_value r) left ≡ shades_means ram out → (p : ℕ) → p ≡ packed (output_number r) (output_value r) → filled p left ≡ shades_bytes ram out
  unfolding shades_bytes
  shades_written = written (shades_means ram out) r left

-- ---- a plate's file back into the picture area

module _ (s ram file : List ℕ) where
  pub place_unread : is_record s ≡ false → place_bytes s ram file ≡ unread s ram []
  unfolding place_bytes
  place_unread h = simp h

  pub place_done : is_record s ≡ true → place_bytes s ram file ≡ as_bytes (place_means (decoded s) ram file)
  unfolding place_bytes
  place_done h = simp h

  -- placed or refused, the state is the one given
  pub place_state : (c : Controller) → (place_means c ram file).state ≡ c
  unfolding place_means
  place_state c = judged_ind (λ (o : Outcome). o.state ≡ c) (lowest (place_rows c ram file)) (λ k. refl) refl

  -- so the state bytes are those lent
  pub place_answered : Bytes s → is_record s ≡ true → (d : Controller) (r : Result ⊤ Refusal) (ram' : List ℕ) → d ≡ decoded s → outcome (write_number r) 0 d ram' [] ≡ place_means d ram file
      → (p : ℕ) → p ≡ packed (write_number r) 0 → called p s ram' [] ≡ place_bytes s ram file
  place_answered bytes h d r ram' e means p q =
      (λ i. called (q i) s ram' [])
      ∙ ap (λ t. called (packed (write_number r) 0) t ram' []) (sym (ap encoded e ∙ encode_decode s bytes h))
      ∙ ap as_bytes (means ∙ ap (λ c. place_means c ram file) e)
      ∙ sym (place_done h)

-- ---- the values of the held capture

module _ (s store out : List ℕ) where
  pub readings_unread : is_record s ≡ false → readings_bytes s store out ≡ filled no_record out
  unfolding readings_bytes
  readings_unread h = simp h

  pub readings_done : is_record s ≡ true → readings_bytes s store out ≡ as_written (readings_mean (decoded s) store out)
  unfolding readings_bytes
  readings_done h = simp h

  pub readings_written : is_record s ≡ true → (d : Controller) (r : Result ℕ Refusal) (left : List ℕ) → d ≡ decoded s → exported (output_number r) (output_value r) left ≡ readings_mean d store out
      → (p : ℕ) → p ≡ packed (output_number r) (output_value r) → filled p left ≡ readings_bytes s store out
  readings_written h d r left e means p q =
      written (readings_mean (decoded s) store out) r left (means ∙ ap (λ c. readings_mean c store out) e) p q ∙ sym (readings_done h)

-- ---- a photograph

pub import_read : (file image : List ℕ) (r : Result ⊤ Refusal) (left : List ℕ) → imported (write_number r) left ≡ import_means file image
    → (p : ℕ) → p ≡ packed (write_number r) 0 → filled p left ≡ import_bytes file image
unfolding import_bytes
import_read file image r left means p q = (λ i. filled (q i) left) ∙ ap as_read means
