-- `salvaging::place::is_accepted` meets its contract: a frame, or none. Assumes nothing.
use Rattle.std.proofs.Common.{◌≡◌, true, sym, refl, ap, ◌∙◌}
use Rattle.lines.specs.declared.line.Frame.{Frame}
use Rattle.lines.specs.declared.line.Frame.TheVariants.{Reset, Read, Write, Tick, Row, Malformed}
use Rattle.salvaging.specs.Kept.{is_frame, accepted}
use Rattle.salvaging.proofs.place.is_accepted.Goals.{in-Malformed, in_default}
use Rattle.salvaging.proofs.place.is_accepted.Goals as goal

some_frame : (f : Frame) → (f ≡ Malformed → ⊥) → is_frame f ≡ true
some_frame Reset h = refl
some_frame (Read a) h = refl
some_frame (Write a v) h = refl
some_frame (Tick n) h = refl
some_frame (Row y) h = refl
some_frame Malformed h = absurd (h refl)

pub returns : goal.returns
unfolding accepted
returns c =
    elim c.match-matches.branch [
      | in-Malformed w ↦ rw w.matches-is (ap is_frame (sym w.in-Malformed.is ∙ c.frame_of.ensures))
      | in_default w ↦ rw w.matches-is (sym (some_frame _ w.in_default.not-Malformed) ∙ ap is_frame c.frame_of.ensures)
    ]
