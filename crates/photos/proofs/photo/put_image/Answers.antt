-- `photos::photo::put_image` meets its contract: the invariant: the pixels put so far. Assumes nothing.
use native.Mathlib.Omega.{arith}
use Rattle.laws.proofs.Filled.{filled_end}
use Rattle.photos.proofs.photo.put_image.Goals as goal

pub returns : goal.returns
returns c = filled_end _ _ c.loop-k.invariant.1 (omega arith)
