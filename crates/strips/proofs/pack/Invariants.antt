-- The invariants of `strips::pack`. Assumes nothing.
use Rattle.std.proofs.Common.{◌≡◌}
use Rattle.laws.specs.Lists.{listed}
use Rattle.strips.specs.Aside.{bits_of}
use Rattle.strips.proofs.pack.Given as goal

abbrev pub invariant-loop-b : goal.invariant-loop-b
invariant-loop-b g l =
    let m = g.R.Turned in
    (l.low ≡ listed (bits_of (m.low l.row) l.b) 16) × (l.high ≡ listed (bits_of (m.high l.row) l.b) 16)
