-- `sensor::nine::three` meets its contract, from what its callees ensure. Assumes nothing.
use mathlib.Core.Path.{◌≡◌}
use mathlib.Core.List.{[], ◌∷◌}
use Prim.Native.Nat.{◌+◌, ◌*◌}
use native.Mathlib.Omega.{arith}
use mir.Syntax.{w32}
use Rattle.laws.proofs.Signed.{got}
use Rattle.sensor.specs.Nine.{left_of, right_of, signed_at, three_of}
use Rattle.sensor.proofs.nine.three.Goals as goal

pub returns : goal.returns
unfolding three_of signed_at
returns c =
    let a = c.args in
    let l : c.left.result ≡ a.row * 128 + left_of a.x = omega (arith, c.left.ensures) in
    let r : c.right.result ≡ a.row * 128 + right_of a.x = omega (arith, c.right.ensures) in
    let q₁ = got w32 c.less_at.type_inv (rw l at c.less_at.ensures) in
    let q₂ = got w32 c.less_at-2.type_inv c.less_at-2.ensures in
    let q₃ = got w32 c.less_at-3.type_inv (rw r at c.less_at-3.ensures) in
    λ i. q₁ i ∷ q₂ i ∷ q₃ i ∷ []
