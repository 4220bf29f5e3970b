-- `wording::words::put_decimal` meets its contract: the invariant is that the digits left, put into the buffer as it is, make the whole. Assumes nothing.
use mathlib.Core.Path.{◌≡◌, sym, ap, ◌∙◌}
use Prim.Native.Nat.{◌+◌, ◌-◌}
use native.Mathlib.Omega.{arith}
use Rattle.lines.specs.Hex.{placed}
use Rattle.lines.proofs.Placed.{placed_none}
use Rattle.wording.specs.Aside.{digits_in}
use Rattle.wording.proofs.Puts.{placed_decimal}
use Rattle.wording.proofs.words.put_decimal.Goals as goal

pub loop-k-preserved : goal.loop-k-preserved
loop-k-preserved c =
    let a = c.args in
    let l = c.loop-k in
    let e : l.k - 1 + 1 ≡ l.k = omega arith in
    sym (placed_decimal l.out a.at (l.k - 1) l.rest (omega arith)) ∙ ap (λ k. placed l.out a.at (digits_in k l.rest)) e ∙ l.invariant

pub returns : goal.returns
unfolding digits_in
returns c =
    let a = c.args in
    let l = c.loop-k in
    let e : 0 ≡ l.k = omega arith in
    sym (placed_none l.out a.at) ∙ ap (λ k. placed l.out a.at (digits_in k l.rest)) e ∙ l.invariant
