-- `desk::choice::put_matrix` meets its contract: the invariant: the values stored so far. Assumes nothing.
use mathlib.Core.Path.{◌≡◌, ap, ◌∙◌}
use Prim.Native.Nat.{ℕ, ◌+◌}
use native.Mathlib.Omega.{arith}
use lib.ListN.{get_or}
use Rattle.desk.specs.Choice.{stored}
use Rattle.desk.proofs.Registers.{stored_none, stored_more}
use Rattle.desk.proofs.choice.put_matrix.Invariants.{values}
use Rattle.desk.proofs.choice.put_matrix.Goals as goal

pub loop-k-init : goal.loop-k-init
loop-k-init c = (omega arith, stored_none _ 6 _)

pub loop-k-preserved : goal.loop-k-preserved
loop-k-preserved c =
    let a = c.args in
    (omega arith, stored_more a.regs _ 6 (values a.table.now a.from a.plain) c.loop-k.k _ c.loop-k.invariant.1 (ap (λ (j : ℕ). get_or a.table.now (a.from + j) 0) c.shown_at.ensures.0))

pub returns : goal.returns
returns c =
    let a = c.args in
    let all : c.loop-k.k ≡ 48 = omega arith in
    c.loop-k.invariant.1 ∙ ap (stored a.regs 6 (values a.table.now a.from a.plain)) all
