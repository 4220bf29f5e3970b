-- `controller::judge::no_ram` meets its contract: the row, with what the test equals. Assumes nothing.
use Rattle.controller.proofs.judge.no_ram.Goals as goal

pub returns : goal.returns
returns c = rw c.ram_allowed.ensures at c.refused_if.ensures
