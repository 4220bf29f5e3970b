-- `photos::header::has` meets its contract. Assumes nothing.
use native.Mathlib.Omega.{arith}
use Rattle.photos.proofs.Imports.{take_drop}
use Rattle.photos.proofs.Reader.{has_by}
use Rattle.photos.proofs.header.has.Goals as goal

pub returns : goal.returns
returns c =
    let a = c.args in
    has_by a.text.now a.at a.bytes.now _ c.requires (omega arith) (rw (take_drop a.text.now a.at) at c.starts_with.ensures.value)
