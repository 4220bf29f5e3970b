-- Laws of many cycles: idle ones change nothing, and those of a capture are a range of pixels and a sum. Assumes nothing.
use mathlib.Core.Path.{◌≡◌, refl, sym, ap, ◌∙◌}
use mathlib.Core.Bool.{true, false}
use mathlib.Core.List.{List}
use Prim.Native.Nat.{ℕ, suc, ◌+◌, ◌-◌, ◌<◌, ◌≤◌}
use native.Mathlib.Nat.{add-zero, add-suc}
use native.Mathlib.Numerals.{add-one}
use native.Mathlib.Omega.{arith}
use borrow.Author.Tests.{eq-eqb, ne_eqb}
use Rattle.laws.specs.Iter.{iter}
use Rattle.laws.proofs.Iter.{iter_fixed, iter_form, iter_phase}
use Rattle.controller.specs.declared.Controller.{Controller}
use Rattle.timing.specs.Timing.{total_of, written_at}
use Rattle.capture.specs.Capture.{Ticking, moved, ended, running, runs, cycle, ticks, from}
use Rattle.controller.specs.Outcome.{outcome}
use Rattle.capture.specs.Calls.{ticked}
use Rattle.tiles.specs.Aside.{pixels}
use Rattle.timing.specs.Aside.{done_by}
use Rattle.tiles.proofs.Run.{pixels_none}
use Rattle.timing.proofs.Range.{pixels_step, done_mono}

-- ---- idle cycles

-- a capture that is not running is not moved by a cycle
pub rest : (lit : ℕ → ℕ → ℕ) (w : Ticking) → running w.state ≡ false → cycle lit w ≡ w
unfolding cycle
rest lit w h = simp h

pub idle : (lit : ℕ → ℕ → ℕ) (w : Ticking) (n : ℕ) → running w.state ≡ false → ticks lit n w ≡ w
idle lit w n h = iter_fixed (cycle lit) w (rest lit w h) n

-- none is held; or register 0 has bit 0 clear
pub not_held_lem : (c : Controller) → c.held ≡ false → running c ≡ false
not_held_lem c h = simp h

-- ---- a cycle of a running capture: it goes on, or it is the last

pub cycle_on : (lit : ℕ → ℕ → ℕ) (w : Ticking) → running w.state ≡ true → suc w.state.elapsed.0 < total_of w.state.taken
    → cycle lit w ≡ record { state = moved w.state (suc w.state.elapsed.0); ram = written_at lit w.state.taken (suc w.state.elapsed.0) w.ram; ran = suc w.ran }
unfolding cycle runs
cycle_on lit w h on = simp (h, add-one, ne_eqb (suc w.state.elapsed.0) (total_of w.state.taken) (omega arith))

pub cycle_last : (lit : ℕ → ℕ → ℕ) (w : Ticking) → running w.state ≡ true → suc w.state.elapsed.0 ≡ total_of w.state.taken
    → cycle lit w ≡ record { state = ended w.state; ram = written_at lit w.state.taken (suc w.state.elapsed.0) w.ram; ran = suc w.ran }
unfolding cycle runs
cycle_last lit w h last = simp (h, add-one, eq-eqb (suc w.state.elapsed.0) (total_of w.state.taken) last)

module _ (lit : ℕ → ℕ → ℕ) (c : Controller) (ram : List ℕ) (runs : running c ≡ true) where
  -- m cycles of a running capture: a range of pixels, and a sum
  abbrev pub form : ℕ → Ticking
  form m = record {
    state = moved c (c.elapsed.0 + m);
    ram = pixels lit c.taken (done_by c.taken c.elapsed.0) (done_by c.taken (c.elapsed.0 + m)) ram;
    ran = m;
  }

  pub form_zero : form 0 ≡ from c ram
  unfolding moved
  form_zero = simp (add-zero, pixels_none)

  step : (m : ℕ) → written_at lit c.taken (suc (c.elapsed.0 + m)) (form m).ram ≡ pixels lit c.taken (done_by c.taken c.elapsed.0) (done_by c.taken (suc (c.elapsed.0 + m))) ram
  step m = pixels_step lit c.taken (done_by c.taken c.elapsed.0) (c.elapsed.0 + m) ram (done_mono _ _ _ (omega arith))

  pub form_suc : (m : ℕ) → suc (c.elapsed.0 + m) < total_of c.taken → cycle lit (form m) ≡ form (suc m)
  unfolding moved
  form_suc m h = cycle_on lit _ runs h ∙ simp (add-suc, step m)

  -- the capture's end
  abbrev pub final : Ticking
  final = record {
    state = ended c;
    ram = pixels lit c.taken (done_by c.taken c.elapsed.0) (done_by c.taken (total_of c.taken)) ram;
    ran = total_of c.taken - c.elapsed.0;
  }

  pub form_last : (m : ℕ) → suc (c.elapsed.0 + m) ≡ total_of c.taken → cycle lit (form m) ≡ final
  unfolding moved ended
  form_last m h =
      let n : suc m ≡ total_of c.taken - c.elapsed.0 = omega arith in
      cycle_last lit _ runs h ∙ rw (step m, h, n)

  -- while the capture goes on
  pub going : (n : ℕ) → c.elapsed.0 + n < total_of c.taken → ticks lit n (from c ram) ≡ form n
  going n h = ap (iter (cycle lit) n) (sym form_zero) ∙ iter_form (cycle lit) form n (λ m l. form_suc m (omega arith))

  -- and past its end
  pub over : (n : ℕ) → c.elapsed.0 < total_of c.taken → total_of c.taken - c.elapsed.0 ≤ n → ticks lit n (from c ram) ≡ final
  unfolding ended
  over n before past =
      ap (iter (cycle lit) n) (sym form_zero)
      ∙ iter_phase (cycle lit) form final (total_of c.taken - c.elapsed.0) n (λ m l. form_suc m (omega arith)) (omega arith) (form_last _ (omega arith)) past
      ∙ idle lit final (n - (total_of c.taken - c.elapsed.0)) (not_held_lem (ended c) refl)

  -- the same as outcomes: what was put in hand, with what it was found to be
  pub going_outcome : (store : List ℕ) (n : ℕ) (s : Controller) (r : List ℕ) → c.elapsed.0 + n < total_of c.taken → s ≡ moved c (c.elapsed.0 + n)
      → r ≡ pixels lit c.taken (done_by c.taken c.elapsed.0) (done_by c.taken (c.elapsed.0 + n)) ram
      → outcome 0 n s r store ≡ ticked store (ticks lit n (from c ram))
  going_outcome store n s r before p q = rw (p, q) (sym (ap (ticked store) (going n before)))

  pub over_outcome : (store : List ℕ) (n t : ℕ) (s : Controller) (r : List ℕ) → c.elapsed.0 < total_of c.taken → t ≡ total_of c.taken → t - c.elapsed.0 ≤ n → s ≡ ended c
      → r ≡ pixels lit c.taken (done_by c.taken c.elapsed.0) (done_by c.taken t) ram
      → outcome 0 (t - c.elapsed.0) s r store ≡ ticked store (ticks lit n (from c ram))
  over_outcome store n t s r before e past p q = rw (p, q, e) (sym (ap (ticked store) (over n before (omega arith))))
