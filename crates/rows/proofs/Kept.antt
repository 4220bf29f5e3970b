-- A loop that works on a row in its place: what it has not come to is as it was. Assumes nothing.
use mathlib.Core.List.{List}
use mathlib.Core.Path.{◌≡◌}
use Prim.Native.Nat.{ℕ, ◌≤◌}
use lib.ListN.{get_or}

-- from element n on, out is as first
pub record Kept (first : List ℕ) (n : ℕ) (out : List ℕ) : Type 0 where
  pub kept : (k : ℕ) → n ≤ k → get_or out k 0 ≡ get_or first k 0
