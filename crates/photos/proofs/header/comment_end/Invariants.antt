-- The invariants of `photos::header::comment_end`. Assumes nothing.
use mathlib.Core.Path.{◌≡◌}
use Prim.Native.Nat.{ℕ, ◌<◌, ◌≤◌}
use lib.ListN.{length}
use Rattle.photos.specs.Aside.{goes}
use Rattle.photos.proofs.header.comment_end.Given as goal

abbrev pub invariant-loop-i : goal.invariant-loop-i
invariant-loop-i l = (l.from ≤ l.i) × (l.i ≤ length l.text) × ((n : ℕ) → n < 15 → goes l.text l.from 2 n ≡ goes l.text l.i 2 n)
