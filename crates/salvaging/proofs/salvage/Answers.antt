-- `salvage::salvage` meets its contract: it is judged, and then put. Assumes nothing.
use mathlib.Core.Path.{◌≡◌, refl, sym, ap, ◌∙◌}
use mathlib.Core.List.{List}
use Prim.Native.Nat.{ℕ, ◌≤◌}
use native.Mathlib.Omega.{arith}
use lib.ListN.{length, take}
use lib.Seq.{length-take-le}
use Rattle.std.proofs.lemmas.Result.{err_from_is_err_and}
use Rattle.std.specs.Prelude.{⊤, Ok, Err}
use Rattle.std.specs.declared.result.Result.{Result}
use Rattle.controller.specs.declared.Refusal.{Refusal}
use Rattle.controller.specs.Outcome.{number_of, verdict_number}
use Rattle.controller.specs.Table.{no_room, before, lowest}
use Rattle.controller.proofs.Refusals.{by_why, by_fits, fits_none}
use Rattle.lines.specs.Hex.{placed}
use Rattle.script.specs.Text.{lines_of}
use Rattle.salvaging.specs.Kept.{salvaged, text_of, marks, report_of}
use Rattle.salvaging.specs.Salvage.{cleaned, salvaging, unsalvaged, salvage_done, salvage_means}
use Rattle.salvaging.specs.Aside.{accepted_at}
use Rattle.salvaging.proofs.Outcomes.{room_rows, room_refused, room_passed, salvage_long, salvage_short, salvage_fits, too_long_judged, not_long_judged}
use Rattle.salvaging.proofs.salvage.Goals as goal

pub returns-in_err-refused_if : goal.returns-in_err-refused_if
returns-in_err-refused_if c =
    let p = err_from_is_err_and c.from_residual.result c.from_residual.ensures.1 in
    let h = too_long_judged c.args.script.now _ c.refused_if.ensures _ c.in_err-refused_if.was in
    rw (p.1, p.2, h.1) (sym (salvage_long _ _ _ h.0))

-- the text of the lines that are kept is the cleaned text
is-cleaned : (script : List ℕ) (n : ℕ) → take n (accepted_at script 0) ≡ salvaged (lines_of script) → text_of (take n (accepted_at script 0)) ≡ cleaned script
unfolding cleaned
is-cleaned script n e = ap text_of e

is-report : (script : List ℕ) (n : ℕ) → n ≤ length (accepted_at script 0) → take n (accepted_at script 0) ≡ salvaged (lines_of script) → marks n (lines_of script) ≡ report_of (lines_of script)
unfolding report_of
is-report script n l e = ap (λ n. marks n (lines_of script)) (sym (length-take-le n (accepted_at script 0) l) ∙ ap length e)

-- the two buffers, judged
module _ (script text report : List ℕ) (small : length script ≤ 32768) {long many : ℕ} (n : long ≡ length (cleaned script)) (m : many ≡ length (lines_of script)) where
  text_refused : (v : Result ⊤ Refusal) → verdict_number v ≡ before (no_room long (length text)) 0 → (why : Refusal) → v ≡ Err why → unsalvaged text report (number_of why) ≡ salvage_means script text report
  text_refused v e why f = by_why (salvage_short script text report small) (Err why) (room_refused script text report long why n (sym (ap verdict_number f) ∙ e)) why refl

  module _ (v : Result ⊤ Refusal) (e : verdict_number v ≡ before (no_room long (length text)) 0) {x : ⊤} (f : v ≡ Ok x) (w : Result ⊤ Refusal) (q : verdict_number w ≡ before (no_room many (length report)) 0) where
    both_judged : verdict_number w ≡ lowest (room_rows script text report)
    both_judged = room_passed script text report long many _ n m (sym (ap verdict_number f) ∙ e) q

    report_refused : (why : Refusal) → w ≡ Err why → unsalvaged text report (number_of why) ≡ salvage_means script text report
    report_refused why g = by_why (salvage_short script text report small) w both_judged why g

    both_room : {y : ⊤} → w ≡ Ok y → (length (cleaned script) ≤ length text) × (length (lines_of script) ≤ length report)
    both_room g = salvage_fits script text report (fits_none _ w both_judged g)

    both_done : {y : ⊤} → w ≡ Ok y → salvage_done script text report ≡ salvage_means script text report
    both_done g = by_fits (salvage_short script text report small) w both_judged g

pub invariant_of-script : goal.invariant_of-script
invariant_of-script c = record { bound = not_long_judged c.args.script.now _ c.refused_if.ensures c.in_ok-refused_if.was }

pub returns-in_err-no_room : goal.returns-in_err-no_room
returns-in_err-no_room c =
    let a = c.args in
    let s = a.script.now in
    let p = err_from_is_err_and c.from_residual-in_err-no_room.result c.from_residual-in_err-no_room.ensures.1 in
    let n = c.text_length-length.ensures ∙ ap length (is-cleaned s c.kept-n.result c.kept-n.ensures.1) in
    rw (p.1, p.2) (text_refused s a.text.now a.report.now (not_long_judged s _ c.refused_if.ensures c.in_ok-refused_if.was) n c.count_lines-lines.ensures _ c.no_room.ensures _ c.in_err-no_room.was)

pub returns-in_err-no_room-2 : goal.returns-in_err-no_room-2
returns-in_err-no_room-2 c =
    let a = c.args in
    let s = a.script.now in
    let p = err_from_is_err_and c.from_residual-in_err-no_room-2.result c.from_residual-in_err-no_room-2.ensures.1 in
    let n = c.text_length-length.ensures ∙ ap length (is-cleaned s c.kept-n.result c.kept-n.ensures.1) in
    rw (p.1, p.2) (report_refused s a.text.now a.report.now (not_long_judged s _ c.refused_if.ensures c.in_ok-refused_if.was) n c.count_lines-lines.ensures _ c.no_room.ensures c.in_ok-no_room.was _ c.no_room-2.ensures _ c.in_err-no_room-2.was)

pub put_text-requires : goal.put_text-requires
put_text-requires c =
    let a = c.args in
    let s = a.script.now in
    let small = not_long_judged s _ c.refused_if.ensures c.in_ok-refused_if.was in
    let e = is-cleaned s c.kept-n.result c.kept-n.ensures.1 in
    let f = both_room s a.text.now a.report.now small (c.text_length-length.ensures ∙ ap length e) c.count_lines-lines.ensures _ c.no_room.ensures c.in_ok-no_room.was _ c.no_room-2.ensures c.in_ok-no_room-2.was in
    (c.kept-n.ensures.0, omega (arith, ap length e, f.0))

pub put_report-requires : goal.put_report-requires
put_report-requires c =
    let a = c.args in
    let s = a.script.now in
    let small = not_long_judged s _ c.refused_if.ensures c.in_ok-refused_if.was in
    let e = is-cleaned s c.kept-n.result c.kept-n.ensures.1 in
    let f = both_room s a.text.now a.report.now small (c.text_length-length.ensures ∙ ap length e) c.count_lines-lines.ensures _ c.no_room.ensures c.in_ok-no_room.was _ c.no_room-2.ensures c.in_ok-no_room-2.was in
    f.1

pub returns : goal.returns
unfolding salvage_done
returns c =
    let a = c.args in
    let s = a.script.now in
    let small = not_long_judged s _ c.refused_if.ensures c.in_ok-refused_if.was in
    let e = is-cleaned s c.kept-n.result c.kept-n.ensures.1 in
    let n = c.text_length-length.ensures ∙ ap length e in
    let m = c.count_lines-lines.ensures in
    let t = c.put_text.ensures ∙ ap (placed a.text.now 0) e in
    let r = c.put_report.ensures ∙ ap (placed a.report.now 0) (is-report s c.kept-n.result c.kept-n.ensures.0 c.kept-n.ensures.1) in
    (λ i. salvaging 0 (n i) (m i) (t i) (r i)) ∙ both_done s a.text.now a.report.now small n m _ c.no_room.ensures c.in_ok-no_room.was _ c.no_room-2.ensures c.in_ok-no_room-2.was
