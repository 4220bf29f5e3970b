-- `recording::record::record_row` meets its contract: it is judged, and then put. Assumes nothing.
use mathlib.Core.Path.{◌≡◌, sym, ◌∙◌}
use mathlib.Core.Bool.{not}
use mathlib.Core.List.{List}
use Prim.Native.Nat.{ℕ, ◌≤◌}
use native.Mathlib.Omega.{arith}
use lib.ListN.{length}
use Rattle.laws.proofs.Bools.{not_fails}
use Rattle.std.specs.declared.result.Result.{Result}
use Rattle.controller.specs.declared.Refusal.{Refusal}
use Rattle.std.specs.Prelude.{⊤, Ok}
use Rattle.controller.specs.Outcome.{verdict_number}
use Rattle.controller.specs.Table.{Row, lowest}
use Rattle.std.proofs.lemmas.Result.{err_from_is_err_and}
use Rattle.controller.proofs.Refusals.{by_why, by_fits, fits_none}
use Rattle.recording.specs.Record.{row_line, row_allowed, line_of, cant_say, record_rows, recording, record_means}
use Rattle.recording.proofs.Written.{line_refuses, line_fits, length_row_line, row_long}
use Rattle.recording.proofs.record.record_row.Goals as goal

-- what the judging came to
abbrev rows : ℕ → List ℕ → List ℕ → List Row
rows row bytes out = record_rows (not (row_allowed row (length bytes))) (row_line row bytes) out

-- a row that fits has 128 bytes, and the buffer room for its line
fits : (row : ℕ) (bytes out : List ℕ) (v : Result ⊤ Refusal) {x : ⊤} → verdict_number v ≡ lowest (rows row bytes out) → v ≡ Ok x → (length bytes ≡ 128) × (261 ≤ length out)
fits row bytes out v e t =
    let f = line_fits _ (row_line row bytes) out (fits_none (rows row bytes out) _ e t) in
    let l = row_long row bytes (not_fails _ f.said) in
    (l, omega (arith, f.room, length_row_line row bytes l))

pub returns-in_err-judge_row : goal.returns-in_err-judge_row
unfolding record_means line_of cant_say
returns-in_err-judge_row c =
    let p = err_from_is_err_and c.from_residual.result c.from_residual.ensures.1 in
    rw (p.1, p.2) (by_why (line_refuses _ _ _) _ c.judge_row.ensures _ c.in_err-judge_row.was)

pub put_row-requires : goal.put_row-requires
put_row-requires c =
    let a = c.args in
    fits a.row a.bytes.now a.out.now _ c.judge_row.ensures c.in_ok-judge_row.was

pub returns : goal.returns
unfolding record_means line_of cant_say
returns c =
    let a = c.args in
    let n = sym (length_row_line a.row a.bytes.now (fits a.row a.bytes.now a.out.now _ c.judge_row.ensures c.in_ok-judge_row.was).0) in
    (λ i. recording 0 (n i) (c.put_row.ensures i)) ∙ by_fits (line_refuses _ _ _) _ c.judge_row.ensures c.in_ok-judge_row.was
