-- `controller::Controller::reset` meets its contract. Assumes nothing.
use Rattle.std.proofs.Common.{refl}
use Rattle.controller.specs.State.{reset_state}
use Rattle.controller.proofs.Controller.reset.Goals as goal

pub returns : goal.returns
unfolding reset_state
returns c = refl
