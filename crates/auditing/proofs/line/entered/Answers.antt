-- `auditing::line::entered` meets its contract: without an event a line is counted alone. Assumes nothing.
use mathlib.Core.Path.{◌∙◌, sym}
use Rattle.auditing.specs.Line.{line_counted}
use Rattle.events.specs.Aside.{facts_of, kind_in}
use Rattle.auditing.proofs.Lines.{quiet_entered}
use Rattle.auditing.proofs.line.entered.Goals as goal

pub returns-in_default : goal.returns-in_default
returns-in_default c =
    let a = c.args in
    let none = sym c.kind-kind.ensures ∙ c.in_default.is in
    let q = quiet_entered a.book.now (line_counted a.book.now a.step.frame a.step.number) a.image.now a.ram.now a.registers.now a.out.now (facts_of a.step) a.at (kind_in a.step) none in
    record {
      book = c.counted.ensures ∙ q.book;
      text = q.text;
      end = q.end;
      few = q.few;
    }
