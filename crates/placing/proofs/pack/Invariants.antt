-- The invariants of `placing::pack`. Assumes nothing.
use mathlib.Core.Path.{◌≡◌}
use Prim.Native.Nat.{◌+◌, ◌≤◌}
use Rattle.laws.specs.Lists.{listed}
use Rattle.strips.specs.Aside.{place_of}
use Rattle.placing.specs.Aside.{unset_bits}
use Rattle.placing.proofs.pack.Given as goal

abbrev pub invariant-loop-b : goal.invariant-loop-b
invariant-loop-b l =
    (l.b ≤ 8) × (l.w ≡ place_of (l.b + 1)) × (l.low ≡ listed (unset_bits 1 l.turned l.b) 16) × (l.high ≡ listed (unset_bits 2 l.turned l.b) 16)
