-- `matrix::first_reversed` meets its contract: what is left to look at is what there was at first. Assumes nothing.
use Rattle.matrix.proofs.First.{first_skip, first_hit, first_none}
use Prim.Native.Nat.{◌+◌, ◌-◌, ◌*◌}
use mathlib.Core.Path.{◌≡◌, refl, sym, ap, ◌∙◌}
use Rattle.matrix.specs.Matrix.{first_in}
use native.Mathlib.Omega.{arith}
use Rattle.matrix.proofs.first_reversed.Goals as goal

pub rows-init : goal.rows-init
rows-init c = (omega arith, omega arith, refl)

pub loop-column-init : goal.loop-column-init
loop-column-init c =
    let l = c.rows in
    let e : 4 * l.row ≡ 4 * l.row + 0 = omega arith in
    (omega arith, omega arith, omega arith, l.invariant.2 ∙ ap (λ n. first_in c.args.regs.now n (16 - n)) e)

pub is_reversed-requires : goal.is_reversed-requires
is_reversed-requires c = omega arith

pub overflow_mul-first : goal.overflow_mul-first
overflow_mul-first c = omega arith

pub overflow_add-first : goal.overflow_add-first
overflow_add-first c = omega arith

pub overflow_step-column : goal.overflow_step-column
overflow_step-column c = omega arith

pub loop-column-smaller : goal.loop-column-smaller
loop-column-smaller c = omega arith

pub loop-column-preserved : goal.loop-column-preserved
loop-column-preserved c =
    let l = c.loop-column in
    let row = c.rows.row in (
      omega arith,
      omega arith,
      omega arith,
      l.invariant.3 ∙ first_skip c.args.regs.now row l.column (omega arith) (omega arith) (sym c.is_reversed.ensures ∙ c.if-is_reversed.false),
    )

pub overflow_step-row : goal.overflow_step-row
overflow_step-row c = omega arith

pub rows-smaller : goal.rows-smaller
rows-smaller c = omega arith

pub rows-preserved : goal.rows-preserved
rows-preserved c =
    let l = c.loop-column in
    let row = c.rows.row in
    let e : 4 * row + l.column ≡ 4 * (row + 1) = omega arith in
    (omega arith, omega arith, l.invariant.3 ∙ ap (λ n. first_in c.args.regs.now n (16 - n)) e)

pub returns-after-rows : goal.returns-after-rows
returns-after-rows c =
    let l = c.rows in
    let e : 4 * l.row ≡ 16 = omega arith in
    l.invariant.1 ∙ sym (l.invariant.2 ∙ ap (λ n. first_in c.args.regs.now n (16 - n)) e ∙ first_none _)

pub returns-then-is_reversed : goal.returns-then-is_reversed
returns-then-is_reversed c =
    let l = c.loop-column in
    let row = c.rows.row in
    sym (l.invariant.3 ∙ first_hit c.args.regs.now row l.column (omega arith) (omega arith) (sym c.is_reversed.ensures ∙ c.if-is_reversed.true))
