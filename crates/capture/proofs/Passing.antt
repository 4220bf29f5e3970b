-- What some cycles of a running capture come to, by its elapsed cycles and the registers it took; and what a tick is judged as. Assumes nothing.
use mathlib.Core.Path.{◌≡◌, refl, sym}
use mathlib.Core.Bool.{true}
use mathlib.Core.List.{List}
use Prim.Native.Nat.{ℕ, ◌+◌, ◌-◌, ◌<◌, ◌≤◌}
use Rattle.controller.specs.declared.Controller.{Controller}
use Rattle.controller.specs.Outcome.{outcome}
use Rattle.controller.specs.Table.{before}
use Rattle.tiles.specs.Aside.{pixels}
use Rattle.timing.specs.Timing.{total_of}
use Rattle.timing.specs.Aside.{done_by}
use Rattle.capture.specs.Capture.{running, ended, moved, ticks, from}
use Rattle.capture.specs.Calls.{ticked}
use Rattle.capture.proofs.Ticks.{going_outcome, over_outcome}

module _ (lit : ℕ → ℕ → ℕ) (c : Controller) (ram : List ℕ) (runs : running c ≡ true) {e : ℕ} {regs : List ℕ} (pe : c.elapsed.0 ≡ e) (pt : c.taken ≡ regs) (store : List ℕ) (n : ℕ) (r : List ℕ) where
  -- it goes on
  pub going_passed : e + n < total_of regs → r ≡ pixels lit regs (done_by regs e) (done_by regs (e + n)) ram → outcome 0 n (moved c (e + n)) r store ≡ ticked store (ticks lit n (from c ram))
  going_passed before p = rw (sym pe) (going_outcome lit c ram runs store n (moved c (c.elapsed.0 + n)) r (rw (pe, pt) before) refl (rw (pe, pt) p))

  -- it is over
  pub over_passed : (t : ℕ) → e < total_of regs → t ≡ total_of regs → t - e ≤ n → r ≡ pixels lit regs (done_by regs e) (done_by regs t) ram → outcome 0 (t - e) (ended c) r store ≡ ticked store (ticks lit n (from c ram))
  over_passed t before q past p = rw (sym pe) (over_outcome lit c ram runs store n t (ended c) r (rw (pe, pt) before) (rw pt q) (rw pe past) refl (rw (pe, pt) p))
