-- `placing::is_plate` meets its contract: test by test. Assumes nothing.
use mathlib.Core.Path.{sym, ap, ◌∙◌}
use borrow.Author.Tests.{eq-eqb, ne_eqb, eqb-true}
use Rattle.placing.specs.Placing.{only_greys, is_plate}
use Rattle.placing.proofs.Placed.{pixels_whole}
use Rattle.placing.proofs.is_plate.Goals as goal
use Rattle.placing.proofs.is_plate.Goals.{then-file-eq-FILE, else-file-eq-FILE}

pub returns-then-has_header : goal.returns-then-has_header
unfolding is_plate
returns-then-has_header c =
    elim c.if-file-eq-FILE.branch [
      | then-file-eq-FILE w ↦
          let e = w.if-file-eq-FILE.true in
          simp (eq-eqb _ _ e, sym w.has_header.ensures ∙ sym w.value-is ∙ c.if-has_header.true) (c.only_greys.ensures ∙ ap only_greys (pixels_whole c.args.file.now e))
      | else-file-eq-FILE w ↦ absurd (w.if-file-eq-FILE.false (eqb-true _ _ (sym w.value-is ∙ c.if-has_header.true)))
    ]

pub returns-else-has_header : goal.returns-else-has_header
unfolding is_plate
returns-else-has_header c =
    elim c.if-file-eq-FILE.branch [
      | then-file-eq-FILE w ↦ simp (c.if-has_header.false, eq-eqb _ _ w.if-file-eq-FILE.true, sym w.has_header.ensures ∙ sym w.value-is ∙ c.if-has_header.false)
      | else-file-eq-FILE w ↦ simp (c.if-has_header.false, ne_eqb _ _ w.if-file-eq-FILE.false)
    ]
