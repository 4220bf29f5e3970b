-- A tick of a + b cycles is a tick of a, and then one of b: the counts add up. Assumes nothing.
use mathlib.Core.Path.{◌≡◌, refl, ap, ◌∙◌}
use mathlib.Core.Bool.{true, false}
use mathlib.Core.List.{List}
use Prim.Native.Nat.{ℕ, zero, suc, ◌+◌, ◌<◌}
use native.Mathlib.Nat.{add-zero, add_assoc}
use native.Mathlib.Omega.{arith}
use lib.ListN.{length}
use Rattle.laws.specs.Iter.{iter}
use Rattle.laws.proofs.Iter.{iter_add, iter_maps, iter_keeps}
use Rattle.laws.proofs.Order.{split}
use Rattle.lighting.specs.Light.{byte_at}
use Rattle.controller.specs.declared.Controller.{Controller}
use Rattle.timing.specs.Timing.{total_of, put_pixel, written_at}
use Rattle.controller.specs.State.{cant_exist, started}
use Rattle.controller.specs.Outcome.{Outcome, outcome}
use Rattle.capture.specs.Capture.{Ticking, running, runs, cycle, ticks, from}
use Rattle.capture.specs.Calls.{tick_rows, tick_means, ticked}
use Rattle.laws.proofs.Pick.{ap_pick, pick_one}
use Rattle.laws.proofs.Bools.{either, both_left}
use Rattle.controller.proofs.Exists.{before_total}
use Rattle.capture.proofs.Exists.{exists_moved, exists_ended}
use Rattle.tiles.proofs.Run.{put_length}
use Rattle.capture.proofs.Ticks.{rest, cycle_on, cycle_last}
use Rattle.capture.proofs.Refusals.{tick_refuses, tick_fits, tick_none}
use Rattle.controller.specs.Table.{lowest}

-- ---- cycles, one after the other

pub ticks_add : (lit : ℕ → ℕ → ℕ) (a b : ℕ) (w : Ticking) → ticks lit (a + b) w ≡ ticks lit b (ticks lit a w)
ticks_add lit a b w = iter_add (cycle lit) a b w

-- r more cycles that ran
abbrev pub more : ℕ → Ticking → Ticking
more r w = record { state = w.state; ram = w.ram; ran = r + w.ran }

pub more_cycle : (lit : ℕ → ℕ → ℕ) (r : ℕ) (w : Ticking) → cycle lit (more r w) ≡ more r (cycle lit w)
unfolding cycle runs
more_cycle lit r w = simp (ap_pick (more r), add_assoc)

-- the counts add up
pub ticks_sum : (lit : ℕ → ℕ → ℕ) (a b : ℕ) (c : Controller) (ram : List ℕ)
    → ticks lit (a + b) (from c ram) ≡ more (ticks lit a (from c ram)).ran (ticks lit b (from (ticks lit a (from c ram)).state (ticks lit a (from c ram)).ram))
ticks_sum lit a b c ram =
    let w = ticks lit a (from c ram) in
    ticks_add lit a b (from c ram)
    ∙ ap (iter (cycle lit) b) (rw add-zero)
    ∙ iter_maps (cycle lit) (cycle lit) (more w.ran) (more_cycle lit w.ran) b (from w.state w.ram)

-- ---- what a cycle keeps: a state that can exist, and the RAM's length

written_length : (lit : ℕ → ℕ → ℕ) (regs : List ℕ) (e : ℕ) (ram : List ℕ) → length (written_at lit regs e ram) ≡ length ram
unfolding written_at put_pixel
written_length lit regs e ram = simp (ap_pick (λ (l : List ℕ). length l), put_length, pick_one)

-- the state can exist, and the RAM has so many bytes
pub record Kept (n : ℕ) (w : Ticking) : Type 0 where
  pub exists : cant_exist w.state ≡ false
  pub long : length w.ram ≡ n

pub cycle_keeps : (lit : ℕ → ℕ → ℕ) (n : ℕ) (w : Ticking) → Kept n w → Kept n (cycle lit w)
cycle_keeps lit n w k =
    either (running w.state)
    (λ runs.
    let held : w.state.held ≡ true = both_left w.state.held (started w.state.registers) runs in
    let before : w.state.elapsed.0 < total_of w.state.taken = before_total w.state k.exists held in
    let long = written_length lit w.state.taken (suc w.state.elapsed.0) w.ram ∙ k.long in
    split (suc w.state.elapsed.0) (total_of w.state.taken)
    (λ on. rw (cycle_on lit w runs on) (record { exists = exists_moved _ _ k.exists held on; long = long }))
    (λ last. rw (cycle_last lit w runs (omega arith)) (record { exists = exists_ended _ k.exists; long = long })))
    (λ idle. rw (rest lit w idle) k)

pub ticks_keep : (lit : ℕ → ℕ → ℕ) (n a : ℕ) (w : Ticking) → Kept n w → Kept n (ticks lit a w)
ticks_keep lit n a w k = iter_keeps (cycle lit) (Kept n) (cycle_keeps lit n) a w k

-- ---- ticks, one after the other, refusals too

-- a tick after another: the outcome of the second, and the sum of the counts
abbrev pub after : Outcome → Outcome → Outcome
after p q = outcome q.number (p.value + q.value) q.state q.ram q.store

abbrev pub again : Outcome → ℕ → Outcome
again p b = tick_means p.state p.ram p.store b

pub tick_sum : (c : Controller) (ram store : List ℕ) (a b : ℕ) → tick_means c ram store (a + b) ≡ after (tick_means c ram store a) (again (tick_means c ram store a) b)
tick_sum c ram store a b = by_number (lowest (tick_rows c ram store)) refl
  where
    by_number : (n : ℕ) → lowest (tick_rows c ram store) ≡ n → tick_means c ram store (a + b) ≡ after (tick_means c ram store a) (again (tick_means c ram store a) b)
    by_number (suc n) h =
        rw ((tick_refuses c ram store (a + b)).kept n h, (tick_refuses c ram store a).kept n h, (tick_refuses c ram store b).kept n h)
    by_number zero h =
        let f = tick_fits c ram store h in
        let w = ticks (byte_at store) a (from c ram) in
        let k : Kept (length ram) w = ticks_keep (byte_at store) (length ram) a (from c ram) (record { exists = f.exists; long = refl }) in
        let again = tick_none w.state w.ram store (record { exists = k.exists; ram_fits = rw k.long f.ram_fits; store_fits = f.store_fits }) in
        rw ((tick_refuses c ram store (a + b)).does h, (tick_refuses c ram store a).does h, (tick_refuses w.state w.ram store b).does again)
        (ap (ticked store) (ticks_sum (byte_at store) a b c ram))
