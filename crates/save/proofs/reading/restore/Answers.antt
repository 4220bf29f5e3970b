-- `save::reading::restore` meets its contract: it is judged, and then each part is put. Assumes nothing.
use mathlib.Core.Path.{◌∙◌}
use native.Mathlib.Omega.{arith}
use Rattle.std.proofs.lemmas.Result.{err_from_is_err_and}
use Rattle.controller.proofs.Refusals.{by_why, by_fits, fits_none}
use Rattle.save.proofs.Restored.{save_parts, restore_refuses, restore_fits, state_room, ram_inside, store_inside, store_room, restore_done}
use Rattle.save.proofs.reading.restore.Goals as goal

pub returns-in_err-judge_restore : goal.returns-in_err-judge_restore
returns-in_err-judge_restore c =
    let p = err_from_is_err_and c.from_residual.result c.from_residual.ensures.1 in
    rw (p.1, p.2) (by_why (restore_refuses _ _ _ _) _ c.judge_restore.ensures _ c.in_err-judge_restore.was)

pub slice_bounds-put-end : goal.slice_bounds-put-end
slice_bounds-put-end c =
    let a = c.args in
    let f = restore_fits a.file.now a.state.now a.ram.now a.store.now (fits_none _ _ c.judge_restore.ensures c.in_ok-judge_restore.was) in
    omega (arith, (save_parts _ f.file_fits).size.long)

pub put-requires : goal.put-requires
put-requires c =
    let a = c.args in
    let f = restore_fits a.file.now a.state.now a.ram.now a.store.now (fits_none _ _ c.judge_restore.ensures c.in_ok-judge_restore.was) in
    state_room a.file.now a.state.now a.ram.now a.store.now f

pub slice_bounds-put-end-2 : goal.slice_bounds-put-end-2
slice_bounds-put-end-2 c =
    let a = c.args in
    let f = restore_fits a.file.now a.state.now a.ram.now a.store.now (fits_none _ _ c.judge_restore.ensures c.in_ok-judge_restore.was) in
    ram_inside a.file.now a.state.now a.ram.now a.store.now f

pub slice_bounds-put-end-3 : goal.slice_bounds-put-end-3
slice_bounds-put-end-3 c =
    let a = c.args in
    let f = restore_fits a.file.now a.state.now a.ram.now a.store.now (fits_none _ _ c.judge_restore.ensures c.in_ok-judge_restore.was) in
    store_inside a.file.now a.state.now a.ram.now a.store.now f

pub put-requires-3 : goal.put-requires-3
put-requires-3 c =
    let a = c.args in
    let f = restore_fits a.file.now a.state.now a.ram.now a.store.now (fits_none _ _ c.judge_restore.ensures c.in_ok-judge_restore.was) in
    store_room a.file.now a.state.now a.ram.now a.store.now f

pub returns : goal.returns
returns c =
    let a = c.args in
    let f = restore_fits a.file.now a.state.now a.ram.now a.store.now (fits_none _ _ c.judge_restore.ensures c.in_ok-judge_restore.was) in
    restore_done a.file.now a.state.now a.ram.now a.store.now f c.put.new.to c.put-2.new.to c.put-3.new.to c.put.ensures c.put-2.ensures c.put-3.ensures
    ∙ by_fits (restore_refuses a.file.now a.state.now a.ram.now a.store.now) c.judge_restore.result c.judge_restore.ensures c.in_ok-judge_restore.was
