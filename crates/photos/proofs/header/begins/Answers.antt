-- `photos::header::begins` meets its contract. Assumes nothing.
use Rattle.photos.proofs.Reader.{begins_by}
use Rattle.photos.proofs.header.begins.Goals as goal

pub returns : goal.returns
returns c = begins_by _ _ c.starts_with.ensures.value
