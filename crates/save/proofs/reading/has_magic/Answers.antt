-- `save::reading::has_magic` meets its contract. Assumes nothing.
use Rattle.save.specs.Save.{magic}
use Rattle.save.specs.Restore.{has_magic}
use Rattle.save.proofs.reading.has_magic.Goals as goal

pub returns : goal.returns
unfolding has_magic magic
returns c = c.begins.ensures
