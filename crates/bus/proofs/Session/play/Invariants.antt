-- The measure of `bus::Session::play`: what is left of the piece falls. Assumes nothing.
use lib.ListN.{length}
use Rattle.bus.proofs.Session.play.Given as goal

abbrev pub decreases-loop-rest : goal.decreases-loop-rest
decreases-loop-rest g l = length l.rest
