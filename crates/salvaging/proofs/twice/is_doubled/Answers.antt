-- `salvage::twice::is_doubled` meets its contract: its tests are the definition's. Assumes nothing.
use mathlib.Core.Path.{sym, ap, ◌∙◌}
use Prim.Native.Nat.{◌/◌, ◌%◌}
use native.Mathlib.Omega.{arith}
use lib.ListN.{length, length-drop}
use lib.Seq.{length-take-le}
use Rattle.salvaging.specs.Aside.{accepted_at}
use Rattle.salvaging.proofs.Turns.{few, odd, first_not, second_not, both_start}
use Rattle.salvaging.proofs.twice.is_doubled.Goals as goal

pub returns-then-half-eq0 : goal.returns-then-half-eq0
returns-then-half-eq0 c =
    let s = c in
    sym (few _ (ap (λ k. k / 2) (length-take-le s.args.n (accepted_at s.args.script.text.now 0) s.requires) ∙ c.if-half-eq0.true))

pub returns-then-n-ne0 : goal.returns-then-n-ne0
returns-then-n-ne0 c =
    let s = c in
    sym (odd _ (λ e. c.if-n-ne0.true (sym (ap (λ k. k % 2) (length-take-le s.args.n (accepted_at s.args.script.text.now 0) s.requires)) ∙ e)))

pub returns-then-not-starts_reset : goal.returns-then-not-starts_reset
returns-then-not-starts_reset c =
    let s = c in
    sym (first_not (accepted_at s.args.script.text.now 0) s.args.n s.requires c.if-half-eq0.false c.if-n-ne0.false (sym c.starts_reset.ensures ∙ c.if-not-starts_reset.true))

pub returns-then-not-starts_reset-2 : goal.returns-then-not-starts_reset-2
returns-then-not-starts_reset-2 c =
    let s = c in
    sym (second_not (accepted_at s.args.script.text.now 0) s.args.n s.requires c.if-half-eq0.false c.if-n-ne0.false c.after-later.ensures (sym c.starts_reset-2.ensures ∙ c.if-not-starts_reset-2.true))

pub same_lines-requires : goal.same_lines-requires
same_lines-requires c =
    let s = c in (
      omega (arith, s.requires),
      omega (arith, s.requires, ap length c.after-later.ensures, length-drop (s.args.n / 2) (accepted_at s.args.script.text.now 0)),
    )

pub returns : goal.returns
returns c =
    let s = c in
    c.same_lines.ensures
    ∙ sym (both_start (accepted_at s.args.script.text.now 0) s.args.n s.requires c.if-half-eq0.false c.if-n-ne0.false c.after-later.ensures (sym c.starts_reset.ensures ∙ c.if-not-starts_reset.false) (sym c.starts_reset-2.ensures ∙ c.if-not-starts_reset-2.false))
