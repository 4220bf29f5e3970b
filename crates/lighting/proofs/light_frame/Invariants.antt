-- The invariant of `lighting::light_frame`. Assumes nothing.
use lib.ListN.{get_or}
use Rattle.laws.proofs.Filled.{Filled}
use Rattle.lighting.specs.Light.{light_of}
use Rattle.lighting.proofs.light_frame.Given as goal

abbrev pub invariant-loop-i : goal.invariant-loop-i
invariant-loop-i l = Filled (λ k. light_of l.set (get_or l.image k 0)) 16384 l.i l.store
