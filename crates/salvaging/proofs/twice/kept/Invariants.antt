-- The invariants of `salvaging::twice::kept`. Assumes nothing.
use mathlib.Core.Path.{◌≡◌}
use Prim.Native.Nat.{◌≤◌}
use lib.ListN.{length, take}
use Rattle.script.specs.Text.{lines_of}
use Rattle.salvaging.specs.Kept.{unrepeated, salvaged}
use Rattle.salvaging.specs.Aside.{accepted_at}
use Rattle.salvaging.proofs.twice.kept.Given as goal

abbrev pub invariant-loop-n : goal.invariant-loop-n
invariant-loop-n l = (l.n ≤ length (accepted_at l.script.text.now 0)) × (unrepeated (take l.n (accepted_at l.script.text.now 0)) ≡ salvaged (lines_of l.script.text.now))

abbrev pub decreases-loop-n : goal.decreases-loop-n
decreases-loop-n l = l.n
