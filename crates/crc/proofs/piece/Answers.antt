-- `crc::piece` meets its contract: the invariant, that the fours from the end on are done. Assumes nothing.
use mathlib.Core.Path.{◌≡◌, refl, sym, ap, ◌∙◌}
use mathlib.Core.List.{List, []}
use Prim.Native.Nat.{ℕ, ◌-◌, ◌*◌, ◌/◌}
use native.Mathlib.Omega.{arith}
use lib.ListN.{length, get_or, drop}
use lib.Seq.{drop-length}
use Rattle.crc.specs.Crc.{over}
use Rattle.crc.proofs.Steps.{chunk_at, fours_next}
use Rattle.crc.proofs.piece.Goals as goal

pub loop-j-init : goal.loop-j-init
unfolding over
loop-j-init g c = let s = c.args.s.now in sym (ap (over 0) (ap (λ (m : ℕ). drop m s) (omega arith) ∙ drop-length s))

pub returns : goal.returns
returns g c =
    let a = c.args in
    let s = a.s.now in
    let last = g.row.N / 4 - 1 in
    let place : length s - 4 * c.loop-j.j ≡ 4 = omega arith in
    let four = ap (λ (t : List (List ℕ)). get_or t 0 []) c.as_chunks.ensures.front ∙ chunk_at 4 (length s / 4) 0 s (omega arith) in
    fours_next a.c 0 4 (4 * last) _ _ s _ refl (omega arith) four (c.loop-j.invariant ∙ ap (λ (m : ℕ). over 0 (drop m s)) place) c.part.ensures
