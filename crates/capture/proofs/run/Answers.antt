-- `capture::run` meets its contract: what the cycles come to, put in the state. Assumes nothing.
use mathlib.Core.Path.{refl, ◌∙◌}
use Rattle.capture.specs.Capture.{moved}
use Rattle.capture.proofs.run.Goals as goal

pub returns-in-Some : goal.returns-in-Some
unfolding moved
returns-in-Some c = c.ran.ensures _ _ ∙ rw c.in-Some.is at (c.pass-passed.ensures c.args.state c.requires.0 refl refl)

pub returns-in-None : goal.returns-in-None
returns-in-None c = c.ran-in-None.ensures _ _ ∙ rw c.at_end.ensures (rw c.in-None.is at (c.pass-passed.ensures c.args.state c.requires.0 refl refl))
