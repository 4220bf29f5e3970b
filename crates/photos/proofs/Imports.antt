-- The import of a photograph: when it is refused, and that no second outcome fits. Assumes nothing.
use mathlib.Core.Path.{◌≡◌, refl}
use mathlib.Core.Bool.{true}
use mathlib.Core.List.{List}
use Prim.Native.Nat.{ℕ, ◌-◌, ◌≤◌}
use lib.ListN.{length, take, drop, length-drop}
use lib.Seq.{take-length}
use lib.Dec.{leb}
use borrow.Author.Tests.{leb-true}
use Rattle.laws.proofs.Bools.{not_fails, both_left}
use Rattle.std.specs.declared.result.Result.{Result}
use Rattle.controller.specs.declared.Refusal.{Refusal}
use Rattle.std.specs.Prelude.{⊤}
use Rattle.timing.specs.Lent.{frame_allowed}
use Rattle.controller.specs.Outcome.{write_number}
use Rattle.controller.specs.Picture.{afresh}
use Rattle.controller.specs.Table.{lowest}
use Rattle.controller.proofs.Afresh.{only_picture}
use Rattle.controller.proofs.Refusals.{Refuses, refuses, rising_from, first_fails}
use Rattle.photos.specs.Photo.{is_photo, image_of, Imported, imported, import_rows, import_means}

abbrev pub in_imported : Imported → ℕ
in_imported i = i.number

-- an import is refused by the lowest number of its rows, and only then
pub import_refuses : (file image : List ℕ) → Refuses (import_rows file image) in_imported (λ n. imported n image) (import_means file image) (imported 0 (image_of file))
unfolding import_rows import_means rising_from
import_refuses file image =
    refuses (import_rows file image) in_imported (λ n. imported n image) (imported 0 (image_of file)) (λ n. refl) refl refl

-- what is so where it is not
pub import_fits : (file image : List ℕ) → lowest (import_rows file image) ≡ 0 → (frame_allowed (length image) ≡ true) × (is_photo file ≡ true)
unfolding import_rows
import_fits file image e =
    let m = first_fails _ _ e in
    let r = first_fails _ _ m.1 in
    (not_fails _ m.0, not_fails _ r.0)

pub photo_long : (file : List ℕ) → is_photo file ≡ true → 49152 ≤ length file
unfolding is_photo
photo_long file e = leb-true 49152 (length file) (both_left (leb 49152 (length file)) _ e)

-- one answer, and one image
pub only_import : (r s : Result ⊤ Refusal) (image image' : List ℕ) → imported (write_number r) image ≡ imported (write_number s) image' → (r ≡ s) × (image ≡ image')
only_import r s image image' e = only_picture r s image image' (λ i. afresh (e i).number (e i).image)

-- a part up to the end is what is left
pub take_drop : (l : List ℕ) (n : ℕ) → take (length l - n) (drop n l) ≡ drop n l
take_drop l n = rw (← length-drop n l) (take-length (drop n l))
