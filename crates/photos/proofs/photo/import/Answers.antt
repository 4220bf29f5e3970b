-- `photos::photo::import` meets its contract: it is judged, and then done. Assumes nothing.
use mathlib.Core.Path.{ap, ◌∙◌}
use Prim.Native.Nat.{ℕ, ◌-◌}
use native.Mathlib.Omega.{arith}
use lib.ListN.{length, length-take, length-drop}
use Rattle.timing.proofs.Lent.{frame_lent}
use Rattle.std.proofs.lemmas.Result.{err_from_is_err_and}
use Rattle.controller.proofs.Refusals.{by_why, by_fits, fits_none}
use mathlib.Core.List.{List}
use Rattle.laws.specs.Lists.{listed}
use Rattle.photos.specs.Photo.{value_of, image_of, imported}
use Rattle.photos.proofs.Imports.{import_refuses, import_fits, photo_long, take_drop}
use Rattle.photos.proofs.photo.import.Goals as goal

pub returns-in_err-judge_import : goal.returns-in_err-judge_import
returns-in_err-judge_import c =
    let p = err_from_is_err_and c.from_residual.result c.from_residual.ensures.1 in
    rw (p.1, p.2) (by_why (import_refuses _ _) _ c.judge_import.ensures _ c.in_err-judge_import.was)

pub put_image-requires : goal.put_image-requires
put_image-requires c =
    let f = import_fits _ _ (fits_none _ _ c.judge_import.ensures c.in_ok-judge_import.was) in
    (simp (length-take, length-drop) (omega (arith, photo_long _ f.1)), frame_lent _ f.0)

pub returns : goal.returns
unfolding image_of
returns c =
    let file = c.args.file.now in
    ap (imported 0) (c.put_image.ensures ∙ ap (λ (l : List ℕ). listed (value_of l) 16384) (take_drop file (length file - 49152)))
    ∙ by_fits (import_refuses _ _) _ c.judge_import.ensures c.in_ok-judge_import.was

pub overflow_sub-start : goal.overflow_sub-start
overflow_sub-start c = photo_long _ (import_fits _ _ (fits_none _ _ c.judge_import.ensures c.in_ok-judge_import.was)).1
