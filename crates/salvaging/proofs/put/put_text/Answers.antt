-- `salvaging::put::put_text` meets its contract: the invariant is that what is still to be put, from here and from the start, comes to the same.
-- Assumes nothing.
use Rattle.std.proofs.Common.{◌≡◌, ◌+◌, ◌-◌, sym, ap, refl, ◌∙◌, length, take, arith}
use Rattle.lines.specs.Hex.{placed}
use Rattle.lines.proofs.Placed.{placed_none}
use Rattle.script.specs.Text.{lines_of}
use Rattle.salvaging.specs.Kept.{accepted_of, text_of}
use Rattle.salvaging.proofs.Puts.{text_next, text_longer, text_over, ended_long, put_next}
use Rattle.salvaging.proofs.put.put_text.Goals as goal

pub loop-line-init : goal.loop-line-init
loop-line-init c =
    let e = c.take-line-items.ensures in
    rw (c.into_iter-line-iterator.ensures.into_iter_gives, e.source, e.count) (omega (arith, c.requires.1), refl)

pub put_line-requires : goal.put_line-requires
put_line-requires c =
    let l = c.loop-line in
    let s = c.in-Some.ensures.steps in
    omega (arith, l.invariant.0, text_longer l.line-iterator.n (omega (arith, s.1)) s.0)

pub loop-line-preserved : goal.loop-line-preserved
loop-line-preserved c =
    let l = c.loop-line in
    let s = c.in-Some.ensures.steps in
    let line = c.in-Some.line.now in
    let p : l.line-iterator.n - 1 ≡ c.next.new.self.n = omega (arith, s.1) in
    let longer = rw p at (text_longer l.line-iterator.n (omega (arith, s.1)) s.0) in
    let next = rw p at (text_next l.line-iterator.n (omega (arith, s.1)) s.0) in (
      omega (arith, l.invariant.0, longer),
      ap (λ t. placed t (l.out + (length line + 1)) (text_of (take c.next.new.self.n (accepted_of (lines_of c.next.new.self.iter.0.0.now))))) c.put_line.ensures
          ∙ put_next l.text l.out line _ _ (l.out + (length line + 1)) (omega (arith, l.invariant.0)) (omega (arith, ended_long line)) next
          ∙ l.invariant.1,
    )

pub returns : goal.returns
returns c =
    let l = c.loop-line in
    let s = c.in-None.ensures.steps in
    sym (placed_none l.text l.out)
    ∙ ap (placed l.text l.out) (sym (text_over l.line-iterator.n (accepted_of (lines_of l.line-iterator.iter.0.0.now)) (λ p. (s p).0)))
    ∙ l.invariant.1
