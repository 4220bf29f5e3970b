-- `placing::has_header` meets its contract. Assumes nothing.
use Rattle.plates.specs.Grey.{header}
use Rattle.placing.specs.Placing.{has_header}
use Rattle.placing.proofs.has_header.Goals as goal

pub returns : goal.returns
unfolding has_header header
returns c = c.begins.ensures
