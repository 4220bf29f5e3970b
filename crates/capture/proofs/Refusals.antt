-- A tick: each number exactly when its row holds and no lower one does, and what is so where none is given. Assumes nothing.
use mathlib.Core.Path.{◌≡◌, refl}
use mathlib.Core.Bool.{Bool, true, false, not, ◌&&◌}
use mathlib.Core.List.{List}
use Prim.Native.Nat.{ℕ}
use lib.Dec.{eqb}
use lib.ListN.{length}
use Rattle.laws.specs.Pick.{pick}
use Rattle.laws.proofs.Bools.{not_fails}
use Rattle.lighting.specs.Light.{byte_at}
use Rattle.controller.specs.declared.Controller.{Controller}
use Rattle.timing.specs.Lent.{ram_allowed, frame_allowed}
use Rattle.controller.specs.State.{cant_exist}
use Rattle.capture.specs.Capture.{ticks, from}
use Rattle.controller.specs.Table.{lowest}
use Rattle.controller.specs.Outcome.{refusal}
use Rattle.capture.specs.Calls.{tick_rows, ticked, tick_means}
use Rattle.controller.proofs.Refusals.{rising_from, Refuses, refuses, first_fails, in_outcome}

module _ (c : Controller) where
  -- a tick
  pub tick_refuses : (ram store : List ℕ) (n : ℕ) → Refuses (tick_rows c ram store) in_outcome (refusal c ram store) (tick_means c ram store n) (ticked store (ticks (byte_at store) n (from c ram)))
  unfolding tick_rows tick_means rising_from
  tick_refuses ram store n =
      refuses (tick_rows c ram store) in_outcome (refusal c ram store) (ticked store (ticks (byte_at store) n (from c ram))) (λ n. refl) refl refl

pub record TickFits (c : Controller) (ram store : List ℕ) : Type 0 where
  pub exists : cant_exist c ≡ false
  pub ram_fits : ram_allowed (length ram) ≡ true
  pub store_fits : frame_allowed (length store) ≡ true

pub tick_fits : (c : Controller) (ram store : List ℕ) → lowest (tick_rows c ram store) ≡ 0 → TickFits c ram store
unfolding tick_rows
tick_fits c ram store e =
    let s = first_fails _ _ e in
    let m = first_fails _ _ s.1 in
    let f = first_fails _ _ m.1 in
    record { exists = s.0; ram_fits = not_fails _ m.0; store_fits = not_fails _ f.0 }

-- no number is given to a state that can exist just where the lengths are allowed
pub tick_lent : (c : Controller) (ram store : List ℕ) → cant_exist c ≡ false → eqb (lowest (tick_rows c ram store)) 0 ≡ (ram_allowed (length ram) && frame_allowed (length store))
unfolding tick_rows lowest
tick_lent c ram store e = rw e (by_tests (ram_allowed (length ram)) (frame_allowed (length store)))
  where
    by_tests : (p q : Bool) → eqb (pick (not p) 3 (pick (not q) 4 0)) 0 ≡ (p && q)
    by_tests false q = refl
    by_tests true false = refl
    by_tests true true = refl

-- a tick of what fits: no number
pub tick_none : (c : Controller) (ram store : List ℕ) → TickFits c ram store → lowest (tick_rows c ram store) ≡ 0
unfolding tick_rows lowest
tick_none c ram store f = simp (f.exists, f.ram_fits, f.store_fits)
