-- `placing::row_of` meets its contract: the part is its bytes, one by one. Assumes nothing.
use mathlib.Core.Path.{◌≡◌, ◌∙◌}
use mathlib.Core.List.{List}
use Prim.Native.Nat.{ℕ, ◌+◌, ◌-◌, ◌≤◌}
use native.Mathlib.Omega.{arith}
use lib.ListN.{length, get_or, take, drop, length-drop}
use lib.Seq.{length-take-le, get_or-take, get_or-drop}
use Rattle.std.proofs.lemmas.Result.{MatchResult-at_ok}
use Rattle.laws.specs.Lists.{listed}
use Rattle.laws.proofs.Packed.{listed_of, listed_ext}
use Rattle.placing.proofs.row_of.Goals as goal

part : (l : List ℕ) (at : ℕ) → at + 128 ≤ length l → take (at + 128 - at) (drop at l) ≡ listed (λ x. get_or l (at + x) 0) 128
part l at h =
    let n : at + 128 - at ≡ 128 = omega arith in
    rw n (listed_of (take 128 (drop at l)) 128 (length-take-le 128 (drop at l) (omega (arith, length-drop at l))) ∙ listed_ext _ _ 128 (λ x k. get_or-take 128 (drop at l) x 0 k ∙ get_or-drop at l x 0))

pub returns : goal.returns
returns c =
    let h = MatchResult-at_ok _ _ _ c.unwrap.ensures c.try_into.ensures.1 in
    h.same ∙ part c.args.pixels.now c.args.at c.requires
