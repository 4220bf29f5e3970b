-- `salvage::twice::kept` meets its contract: the invariant is that what is kept of the lines left is what is kept of all. Assumes nothing.
use mathlib.Core.Path.{sym, ap, ◌∙◌}
use native.Mathlib.Omega.{arith}
use lib.ListN.{take}
use Rattle.script.specs.Text.{lines_of}
use Rattle.salvaging.specs.Kept.{unrepeated}
use Rattle.salvaging.specs.Aside.{accepted_at}
use Rattle.salvaging.proofs.Turns.{all_counted, some_doubled, first_half, again, stays}
use Rattle.salvaging.proofs.twice.kept.Goals as goal

pub loop-n-init : goal.loop-n-init
loop-n-init c = (omega (arith, c.count_accepted-n.ensures), all_counted (lines_of c.args.script.text.now) _ c.count_accepted-n.ensures)

pub is_doubled-requires : goal.is_doubled-requires
is_doubled-requires c = c.loop-n.invariant.0

pub loop-n-smaller : goal.loop-n-smaller
loop-n-smaller c = omega (arith, some_doubled c.loop-n.n (accepted_at c.args.script.text.now 0) (sym c.is_doubled.ensures ∙ c.loop-n-test.true))

pub loop-n-preserved : goal.loop-n-preserved
loop-n-preserved c =
    let l = c.loop-n in
    let lines = accepted_at c.args.script.text.now 0 in
    (omega (arith, l.invariant.0), ap unrepeated (sym (first_half l.n lines l.invariant.0)) ∙ sym (again (take l.n lines) (sym c.is_doubled.ensures ∙ c.loop-n-test.true)) ∙ l.invariant.1)

pub returns : goal.returns
returns c =
    let l = c.loop-n in
    (l.invariant.0, sym (stays _ (sym c.is_doubled.ensures ∙ c.loop-n-test.false)) ∙ l.invariant.1)
