-- `controller::judge::no_rom` meets its contract: the row, with what the test equals. Assumes nothing.
use Rattle.controller.proofs.judge.no_rom.Goals as goal

pub returns : goal.returns
returns c = rw c.rom_allowed.ensures at c.refused_if.ensures
