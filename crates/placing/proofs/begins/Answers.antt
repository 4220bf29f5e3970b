-- `placing::begins` meets its contract. Assumes nothing.
use Rattle.placing.proofs.Each.{starts}
use Rattle.placing.proofs.begins.Goals as goal

pub returns : goal.returns
returns c = starts _ _ _ c.requires c.starts_with.ensures.value
