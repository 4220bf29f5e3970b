-- `events::sight::takes_at` meets its contract: select, register 0 and write enable. Assumes nothing.
use mathlib.Core.Path.{sym, ap, ◌∙◌}
use mathlib.Core.Bool.{not, false≢true}
use Rattle.calls.proofs.Bytes.{on_at}
use Rattle.events.proofs.Sights.{takes_byte}
use Rattle.events.proofs.sight.takes_at.Goals.{then-not-registers_on, else-not-registers_on}
use Rattle.events.proofs.sight.takes_at.Goals as goal

pub returns-then-state-ne1 : goal.returns-then-state-ne1
returns-then-state-ne1 c =
    let e = takes_byte c.args.state.now c.registers_on.result (c.registers_on.ensures ∙ on_at c.args.state.now) in
    elim c.if-not-registers_on.branch [
      | then-not-registers_on w ↦ sym (simp (w.if-not-registers_on.true, sym w.value-is ∙ c.if-state-ne1.true) at e)
      | else-not-registers_on w ↦ absurd (false≢true (sym (w.value-is ∙ ap not w.if-not-registers_on.false) ∙ c.if-state-ne1.true))
    ]

pub returns-else-state-ne1 : goal.returns-else-state-ne1
returns-else-state-ne1 c =
    let e = takes_byte c.args.state.now c.registers_on.result (c.registers_on.ensures ∙ on_at c.args.state.now) in
    elim c.if-not-registers_on.branch [
      | then-not-registers_on w ↦ c.if-state-ne1.false ∙ sym (simp (w.if-not-registers_on.true, sym w.value-is ∙ c.if-state-ne1.false) at e)
      | else-not-registers_on w ↦ c.if-state-ne1.false ∙ sym (simp w.if-not-registers_on.false at e)
    ]
