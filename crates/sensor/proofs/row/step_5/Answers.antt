-- `sensor::row::step_5` meets its contract: step 4 gives values of at most 128, so that their negative and their difference fit.
-- Assumes nothing.
use borrow.Author.Tests.{ne_eqb}
use mathlib.Core.Path.{sym, ap, ◌∙◌}
use Prim.Native.Nat.{◌+◌, ◌*◌, ◌≤◌}
use native.Mathlib.Omega.{arith}
use lib.IntN.{nat_abs}
use mir.Syntax.{w32}
use Rattle.std.proofs.lemmas.Int.{ints, to_z-of_z}
use Rattle.laws.proofs.Signed.{val, sub, read, got}
use Rattle.lighting.specs.Light.{byte_at}
use Rattle.filters.specs.Edge.{held}
use Rattle.sensor.specs.Row.{row_filter, step5}
use Rattle.sensor.proofs.Facts.{step4_small, step4_size}
use Rattle.sensor.proofs.row.step_5.Goals as goal

pub returns-in-0 : goal.returns-in-0
unfolding step5 row_filter
returns-in-0 c = grind (arith, ints, to_z-of_z, step4_small)

pub returns-in_default : goal.returns-in_default
unfolding step5 row_filter
returns-in_default c =
    let a = c.args in
    let size = step4_size (byte_at a.store.now) (λ x row. c.fits-store (row * 128 + x)) a.set a.x in
    let h : nat_abs c.step_4-p.result ≤ 128 = rw c.step_4-p.ensures (size a.row) in
    let k : nat_abs c.step_4.result ≤ 128 = rw c.step_4.ensures (size (a.row + 1)) in
    got w32 c.hold-in_default.type_inv (c.hold-in_default.ensures ∙ ap held (read {w = w32} (sub (val 128 c.step_4-p.result h) (val 128 c.step_4.result k)) tt))
    ∙ rw (
      c.step_4-p.ensures,
      c.step_4.ensures,
      sym c.passing.ensures ∙ c.if-not-passing.false,
      ne_eqb a.set.kind 0 (omega arith),
      ne_eqb a.set.kind 1 (omega arith),
    )
