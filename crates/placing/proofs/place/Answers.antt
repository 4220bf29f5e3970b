-- `placing::place` meets its contract: it is judged, and then done. Assumes nothing.
use mathlib.Core.Path.{ap, ap₂, ◌∙◌}
use mathlib.Core.List.{List, [], ◌++◌}
use Prim.Native.Nat.{ℕ}
use native.Mathlib.Omega.{arith}
use lib.ListN.{take}
use lib.Seq.{drop-drop}
use Rattle.controller.specs.Outcome.{outcome}
use Rattle.timing.proofs.Lent.{ram_lent}
use Rattle.std.proofs.lemmas.Result.{err_from_is_err_and}
use Rattle.controller.proofs.Refusals.{by_why, by_fits, fits_none}
use Rattle.placing.specs.Placing.{placed_area, placed_in}
use Rattle.placing.proofs.Placed.{place_refuses, place_fits, plate_length, plate_greys, pixels_whole}
use Rattle.placing.proofs.place.Goals as goal

pub returns-in_err-judge_place : goal.returns-in_err-judge_place
returns-in_err-judge_place c =
    let p = err_from_is_err_and c.from_residual.result c.from_residual.ensures.1 in
    rw (p.1, p.2) (by_why (place_refuses _ _ _) _ c.judge_place.ensures _ c.in_err-judge_place.was)

pub slice_bounds-put_area-end : goal.slice_bounds-put_area-end
slice_bounds-put_area-end c =
    let a = c.args in
    let f = place_fits a.state a.ram.now a.file.now (fits_none _ _ c.judge_place.ensures c.in_ok-judge_place.was) in
    omega (arith, plate_length _ f.file_fits)

pub slice_bounds-put_area-end-2 : goal.slice_bounds-put_area-end-2
slice_bounds-put_area-end-2 c =
    let a = c.args in
    let f = place_fits a.state a.ram.now a.file.now (fits_none _ _ c.judge_place.ensures c.in_ok-judge_place.was) in
    omega (arith, (ram_lent _ f.ram_fits).least)

pub put_area-requires-clause-pixels_value : goal.put_area-requires-clause-pixels_value
put_area-requires-clause-pixels_value c =
    let a = c.args in
    plate_greys _ (place_fits a.state a.ram.now a.file.now (fits_none _ _ c.judge_place.ensures c.in_ok-judge_place.was)).file_fits

pub returns : goal.returns
unfolding placed_in
returns c =
    let a = c.args in
    let ram = a.ram.now in
    let f = place_fits a.state ram a.file.now (fits_none _ _ c.judge_place.ensures c.in_ok-judge_place.was) in
    ap₂ (λ (l r : List ℕ). outcome 0 0 a.state (take 0x100 ram ++ (l ++ r)) []) (c.put_area.ensures ∙ ap placed_area (pixels_whole a.file.now (plate_length _ f.file_fits))) (drop-drop 3584 0x100 ram)
    ∙ by_fits (place_refuses _ _ _) _ c.judge_place.ensures c.in_ok-judge_place.was
