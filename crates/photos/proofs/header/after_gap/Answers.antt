-- `photos::header::after_gap` meets its contract: a gap begins with white space. Assumes nothing.
use mathlib.Core.Path.{◌≡◌, refl, sym, ◌∙◌}
use Prim.Native.Nat.{◌+◌, ◌<◌}
use native.Mathlib.Omega.{arith}
use lib.ListN.{length}
use Rattle.photos.proofs.Reader.{gap_begins, no_gap, short, next_end}
use Rattle.photos.proofs.header.after_gap.Goals as goal
use Rattle.photos.proofs.header.after_gap.Goals.{else-from-text-via-then-from-text+else-is_white, else-from-text-via-else-from-text}

pub returns-then-is_white : goal.returns-then-is_white
returns-then-is_white c =
    let text = c.args.text.now in
    let h : c.args.from < length text = omega arith in
    let white = sym c.is_white.ensures ∙ c.if-is_white.true in
    (c.gap_end.ensures.0, λ n k z. gap_begins text c.args.from n h (omega arith) z white ∙ c.gap_end.ensures.1 (n + 1) (omega arith))

pub returns : goal.returns
returns c =
    let text = c.args.text.now in
    let at = c.args.from in
    elim c.else-from-text.branch [
      | else-from-text-via-then-from-text+else-is_white w ↦
          let h : at < length text = omega arith in
          (next_end text, λ n k z. no_gap text at n h (omega arith) z (sym w.is_white.ensures ∙ w.if-is_white.false) ∙ sym (short text (length text) 1 (n + 1) refl (omega arith)))
      | else-from-text-via-else-from-text w ↦
          let e : at ≡ length text = omega arith in
          (next_end text, λ n k z. short text at 0 n e (omega arith) ∙ sym (short text (length text) 1 (n + 1) refl (omega arith)))
    ]
