-- `sweeping::lines_audited` meets its contract: over no record, or another book, nothing is played. Assumes nothing.
use mathlib.Core.Path.{refl, sym, ◌∙◌}
use Rattle.laws.proofs.Bools.{not_both}
use Rattle.sweeping.proofs.Turns.{sweeps_none}
use Rattle.sweeping.proofs.lines_audited.Goals.{else-book-eq13-via-then-book-eq13+else-is_record, else-book-eq13-via-else-book-eq13}
use Rattle.sweeping.proofs.lines_audited.Goals as goal

pub returns : goal.returns
returns c = (
  sweeps_none _ _ _ _ _,
  record {
    played = λ y t.
        elim c.else-book-eq13.branch [
          | else-book-eq13-via-then-book-eq13+else-is_record w ↦ not_both y (sym w.is_record.ensures ∙ w.if-is_record.false)
          | else-book-eq13-via-else-book-eq13 w ↦ absurd (w.if-book-eq13.false t)
        ];
    left = λ _. (refl, refl);
  },
)
