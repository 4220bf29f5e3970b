-- `photos::header::gap_end` meets its contract: the invariant: the text goes on as before, in the gap. Assumes nothing.
use mathlib.Core.Path.{◌≡◌, sym, ◌∙◌}
use Prim.Native.Nat.{◌<◌}
use native.Mathlib.Omega.{arith}
use lib.ListN.{length}
use Rattle.photos.proofs.Reader.{gap_on, gap_comment, next_end}
use Rattle.photos.proofs.header.gap_end.Goals as goal

pub loop-i-preserved-then-is_white : goal.loop-i-preserved-then-is_white
loop-i-preserved-then-is_white c =
    let l = c.loop-i in
    let text = c.args.text.now in
    let h : l.i < length text = omega arith in
    (omega arith, λ n k. l.invariant.1 n k ∙ gap_on text l.i n h k (sym c.is_white.ensures ∙ c.if-is_white.true))

pub loop-i-preserved : goal.loop-i-preserved
loop-i-preserved c =
    let l = c.loop-i in
    let text = c.args.text.now in
    let h : l.i < length text = omega arith in
    let white = sym c.is_white.ensures ∙ c.if-is_white.false in
    (omega (arith, c.comment_end-i.ensures.1), λ n k. l.invariant.1 n k ∙ gap_comment text l.i n h k white c.if-b-eq35.true ∙ c.comment_end-i.ensures.2 n k)

pub returns : goal.returns
returns c =
    let l = c.loop-i in
    let text = c.args.text.now in
    let e : l.i ≡ length text = omega arith in
    (rw e (next_end text), l.invariant.1)
