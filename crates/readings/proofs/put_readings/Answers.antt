-- `readings::put_readings` meets its contract: the header, and then the values. Assumes nothing.
use lib.Seq.{drop-drop}
use Rattle.plates.specs.Grey.{header}
use Rattle.readings.specs.Readings.{reading, readings_of}
use Rattle.readings.proofs.put_readings.Goals as goal

pub returns : goal.returns
unfolding header readings_of reading
returns c =
    rw (c.put_values.ensures, c.of.ensures.same, c.put_header.ensures, drop-drop 14336 15)
