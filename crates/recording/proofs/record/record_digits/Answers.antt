-- `recording::record::record_digits` meets its contract: it is judged, and then put. Assumes nothing.
use mathlib.Core.Path.{sym, ap, ◌∙◌}
use mathlib.Core.Bool.{false}
use Prim.Native.Nat.{◌+◌}
use native.Mathlib.Nat.{zero-add}
use Rattle.std.proofs.lemmas.Result.{err_from_is_err_and}
use Rattle.controller.proofs.Refusals.{by_why, by_fits}
use Rattle.lines.specs.Hex.{placed}
use Rattle.recording.specs.Record.{recording}
use Rattle.recording.proofs.Written.{line_refuses, numbers, ended_printed, length_digits, digits_judged}
use Rattle.recording.proofs.record.record_digits.Goals as goal

pub returns-in_err-no_room : goal.returns-in_err-no_room
returns-in_err-no_room c =
    let a = c.args in
    let p = err_from_is_err_and c.from_residual.result c.from_residual.ensures.1 in
    rw (p.1, p.2) (by_why (line_refuses false (numbers a.kind a.digits a.value) a.out.now) _ (digits_judged a.kind a.digits a.value a.out.now c.no_room.ensures) _ c.in_err-no_room.was)

pub returns : goal.returns
returns c =
    let a = c.args in
    let p = c.put_line.ensures in
    let n = p.1 ∙ zero-add (3 + a.digits) ∙ sym (length_digits a.kind a.digits a.value) in
    let o = p.0 ∙ ap (placed a.out.now 0) (sym (ended_printed a.kind a.digits a.value)) in
    (λ i. recording 0 (n i) (o i))
    ∙ by_fits (line_refuses false (numbers a.kind a.digits a.value) a.out.now) _ (digits_judged a.kind a.digits a.value a.out.now c.no_room.ensures) c.in_ok-no_room.was
