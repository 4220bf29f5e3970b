-- `photos::header::comment_end` meets its contract: the invariant: the text goes on as before, in the comment. Assumes nothing.
use mathlib.Core.Path.{◌≡◌, refl, sym, ◌∙◌}
use Prim.Native.Nat.{◌<◌}
use native.Mathlib.Omega.{arith}
use lib.ListN.{length}
use Rattle.photos.proofs.Reader.{comment_over, comment_on, short}
use Rattle.photos.proofs.header.comment_end.Goals as goal

pub returns-then-is_end : goal.returns-then-is_end
returns-then-is_end c =
    let l = c.loop-i in
    let text = c.args.text.now in
    let h : l.i < length text = omega arith in
    (omega arith, omega arith, λ n k. l.invariant.2 n k ∙ comment_over text l.i n h k (sym c.is_end.ensures ∙ c.if-is_end.true))

pub loop-i-preserved : goal.loop-i-preserved
loop-i-preserved c =
    let l = c.loop-i in
    let text = c.args.text.now in
    let h : l.i < length text = omega arith in
    (omega arith, omega arith, λ n k. l.invariant.2 n k ∙ comment_on text l.i n h k (sym c.is_end.ensures ∙ c.if-is_end.false))

pub returns : goal.returns
returns c =
    let l = c.loop-i in
    let text = c.args.text.now in
    let e : l.i ≡ length text = omega arith in
    (omega arith, omega arith, λ n k. l.invariant.2 n k ∙ short text l.i 2 n e k ∙ sym (short text (length text) 1 n refl k))
