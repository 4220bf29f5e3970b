-- The invariants of `photos::photo::put_image`. Assumes nothing.
use Prim.Native.Nat.{◌≤◌}
use Rattle.photos.specs.Photo.{value_of}
use Rattle.laws.proofs.Filled.{Filled}
use Rattle.photos.proofs.photo.put_image.Given as goal

abbrev pub invariant-loop-k : goal.invariant-loop-k
invariant-loop-k l = (l.k ≤ 16384) × Filled (value_of l.pixels) 16384 l.k l.image
