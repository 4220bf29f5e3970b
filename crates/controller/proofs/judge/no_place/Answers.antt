-- `controller::judge::no_place` meets its contract: the row, with what the test equals. Assumes nothing.
use Rattle.controller.proofs.judge.no_place.Goals as goal

pub returns : goal.returns
returns c = rw c.on_cartridge.ensures at c.refused_if.ensures
