-- `shades::shades` meets its contract: it is judged, and then done. Assumes nothing.
use mathlib.Core.Path.{ap, ◌∙◌}
use mathlib.Core.List.{List, ◌++◌}
use Prim.Native.Nat.{ℕ}
use native.Mathlib.Omega.{arith}
use lib.ListN.{drop, length-take, length-drop}
use Rattle.timing.proofs.Lent.{ram_lent}
use Rattle.std.proofs.lemmas.Result.{err_from_is_err_and}
use Rattle.controller.proofs.Refusals.{by_why, by_fits, fits_none}
use Rattle.shades.specs.Shades.{exported, shades_of}
use Rattle.shades.proofs.Outputs.{shades_refuses, shades_fits}
use Rattle.shades.proofs.shades.Goals as goal

pub returns-in_err-judge_shades : goal.returns-in_err-judge_shades
returns-in_err-judge_shades c =
    let p = err_from_is_err_and c.from_residual.result c.from_residual.ensures.1 in
    rw (p.1, p.2) (by_why (shades_refuses _ _) _ c.judge_shades.ensures _ c.in_err-judge_shades.was)

pub slice_bounds-put_shades-end : goal.slice_bounds-put_shades-end
slice_bounds-put_shades-end c = (shades_fits _ _ (fits_none _ _ c.judge_shades.ensures c.in_ok-judge_shades.was)).1

pub put_shades-requires : goal.put_shades-requires
put_shades-requires c =
    let f = shades_fits c.args.ram.now c.args.out.now (fits_none _ _ c.judge_shades.ensures c.in_ok-judge_shades.was) in
    ((ram_lent _ f.0).least, simp (length-take, length-drop) (omega (arith, f.1)))

pub returns : goal.returns
unfolding shades_of
returns c =
    ap (λ (l : List ℕ). exported 0 14336 (l ++ drop 14336 c.args.out.now)) c.put_shades.ensures
    ∙ by_fits (shades_refuses _ _) _ c.judge_shades.ensures c.in_ok-judge_shades.was
