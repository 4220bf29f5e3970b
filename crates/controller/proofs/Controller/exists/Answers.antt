-- `controller::Controller::exists` meets its contract: what is looked at is all that is asked. Assumes nothing.
use Rattle.controller.proofs.Records.{looks_same}
use Rattle.std.proofs.Common.{not, refl, ap, ◌∙◌}
use Rattle.controller.proofs.Controller.exists.Goals as goal

pub returns : goal.returns
returns c = c.can_exist.ensures ∙ ap not (looks_same _ _ refl)
