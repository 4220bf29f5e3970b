-- Lines that are read where they stand, as steps of a piece that is read. Assumes nothing.
use mathlib.Core.Path.{refl}
use mathlib.Core.List.{List, []}
use Prim.Native.Nat.{ℕ}
use Rattle.session.specs.Session.{World}
use Rattle.short.specs.Aside.{Carries, stays, goes}
use Rattle.script.specs.Pieces.{Reading, Going}
use Rattle.script.proofs.Feeds.{going_line, going_on, printed_as}
use Rattle.script.proofs.Whole.{as_it_stands}

-- whatever was going on where they begin, with no line begun, goes on where they end
pub moved : (rom piece : List ℕ) (start : Reading) (out₀ : List ℕ)
    → {w : World} {out : List ℕ} {at i : ℕ} {w' : World} {out' : List ℕ} {at' i' : ℕ} → Carries rom piece w out at i w' out' at' i'
    → Going rom start out₀ piece w [] out at i → Going rom start out₀ piece w' [] out' at' i'
moved rom piece start out₀ stays g = g
moved rom piece start out₀ (goes {w} {out} {at} {i} end {w'} {out'} {at'} e l r p k m) g =
    moved rom piece start out₀ m
    (going_line rom start out₀ piece w _ out at end (going_on rom start out₀ piece w [] out at i end g e) l (e.found l) r w' out' at'
    (printed_as (as_it_stands rom w [] _ 0 refl) p) k)
