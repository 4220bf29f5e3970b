-- Every state reached from reset can exist, whatever is called, so refusal 1 is never given. Assumes nothing.
use mathlib.Core.Path.{◌≡◌, refl, sym, ◌∙◌}
use mathlib.Core.Bool.{Bool, true, false}
use mathlib.Core.List.{List, [], ◌∷◌}
use Prim.Native.Nat.{ℕ, ◌+◌, ◌%◌}
use native.Mathlib.Omega.{arith}
use lib.Dec.{eqb, ltb}
use lib.ListN.{length, length-set}
use borrow.Author.Tests.{eqb-false}
use Rattle.laws.proofs.Iter.{iter_keeps}
use Rattle.laws.proofs.Pick.{pick_ind}
use Rattle.controller.specs.declared.Controller.{Controller}
use Rattle.timing.specs.Timing.{total_of}
use Rattle.controller.specs.State.{cant_exist, reset_state}
use Rattle.capture.specs.Capture.{begun, moved, ended, Ticking, cycle, runs, running, ticks, from}
use Rattle.cartridge.specs.Bus.{Left, byte_written, control_written, register_written, capture_written, with_bank, with_register, with_enabled, with_select, is_start, registers_on}
use Rattle.lighting.specs.Light.{byte_at}
use Rattle.controller.specs.Outcome.{Outcome}
use Rattle.controller.specs.Table.{lowest}
use Rattle.cartridge.specs.Calls.{read_rows, read_means, write_rows, write_means}
use Rattle.capture.specs.Calls.{tick_rows, tick_means}
use Rattle.controller.specs.Inspect.{inspect_rows}
use Rattle.controller.proofs.Refusals.{row_holds, inspect_refuses, judged_ind, not_one}
use Rattle.cartridge.proofs.Refusals.{read_refuses, write_refuses}
use Rattle.capture.proofs.Refusals.{tick_refuses}
use Rattle.capture.proofs.TickSum.{ticks_keep}
use Rattle.std.specs.declared.option.Option.{Option}
use Rattle.desk.specs.Choice.{registers_chosen, with_registers, choose_rows, choose_means}
use Rattle.desk.proofs.Choices.{choose_refuses}
use Rattle.desk.proofs.Level.{chosen_length, chosen_exists}
use Rattle.placing.specs.Placing.{place_rows, place_means}
use Rattle.placing.proofs.Placed.{place_refuses}
use Rattle.history.specs.History.{Call, reset, read, write, tick, inspect, choose, place, World, fresh, leaves, answers, refusal_in, after}
use Rattle.history.proofs.Exists.{exists_reset, exists_enabled, exists_bank, exists_select, exists_register, exists_stored, exists_begun}

-- a state that can exist, with its 54 registers
pub record Sound (c : Controller) : Type 0 where
  pub exists : cant_exist c ≡ false
  pub wide : length c.registers ≡ 54

pub reset_sound : Sound reset_state
unfolding reset_state
reset_sound = record { exists = exists_reset; wide = refl }

-- a write to the banks keeps it
control_sound : (c : Controller) (a v : ℕ) → Sound c → Sound (control_written c a v)
unfolding control_written with_enabled with_bank with_select
control_sound c a v s =
    pick_ind Sound (ltb a 0x2000)
    (λ _. pick_ind Sound (eqb v 0x0A) (λ _. enabled true) (λ _. pick_ind Sound (eqb v 0x00) (λ _. enabled false) (λ _. s)))
    (λ _.
    pick_ind Sound (ltb a 0x4000)
    (λ _. record { exists = exists_bank c s.exists v; wide = s.wide })
    (λ _. pick_ind Sound (ltb a 0x6000) (λ _. record { exists = exists_select c s.exists v; wide = s.wide }) (λ _. s)))
  where
    enabled : (b : Bool) → Sound (with_enabled c b)
    enabled b = record { exists = exists_enabled c s.exists b; wide = s.wide }

-- a write to the registers, a start too
registers_sound : (c : Controller) (i v : ℕ) → Sound c → Sound (register_written c i v)
unfolding register_written capture_written with_register begun
registers_sound c i v s =
    pick_ind Sound (eqb i 0)
    (λ _.
    pick_ind Sound (is_start c v)
    (λ e. record { exists = exists_begun c s.exists s.wide v e; wide = length-set c.registers 0 (v % 8) ∙ s.wide })
    (λ e. record { exists = exists_stored c s.exists s.wide v e; wide = length-set c.registers 0 (v % 8) ∙ s.wide }))
    (λ e.
    pick_ind Sound (ltb i 54)
    (λ _. record { exists = exists_register c s.exists i v (λ z. eqb-false i 0 e (sym z)); wide = length-set c.registers i v ∙ s.wide })
    (λ _. s))

written_sound : (c : Controller) (ram store image : List ℕ) (a v : ℕ) → Sound c → Sound (byte_written c ram store image a v).state
unfolding byte_written
written_sound c ram store image a v s =
    pick_ind (λ (l : Left). Sound l.state) (ltb a 0x8000)
    (λ _. control_sound c a v s)
    (λ _. pick_ind (λ (l : Left). Sound l.state) (registers_on c) (λ _. registers_sound c (a % 128) v s) (λ _. s))

-- any number of cycles
Wide : Ticking → Type 0
Wide w = length w.state.registers ≡ 54

cycle_wide : (lit : ℕ → ℕ → ℕ) (w : Ticking) → Wide w → Wide (cycle lit w)
unfolding Wide cycle runs moved ended
cycle_wide lit w h =
    pick_ind Wide (running w.state)
    (λ _.
    pick_ind (λ (c : Controller). length c.registers ≡ 54) (eqb (w.state.elapsed.0 + 1) (total_of w.state.taken))
    (λ _. length-set w.state.registers 0 _ ∙ h)
    (λ _. h))
    (λ _. h)

ticks_sound : (lit : ℕ → ℕ → ℕ) (ram : List ℕ) (n : ℕ) (c : Controller) → Sound c → Sound (ticks lit n (from c ram)).state
unfolding Wide
ticks_sound lit ram n c s = record {
  exists = (ticks_keep lit (length ram) n (from c ram) (record { exists = s.exists; long = refl })).exists;
  wide = iter_keeps (cycle lit) Wide (cycle_wide lit) n (from c ram) s.wide;
}

-- a choice
chosen_sound : (c : Controller) (light level : ℕ) (plain : Bool) (exposure : Option ℕ) → Sound c → Sound (with_registers c (registers_chosen c.registers light level plain exposure))
unfolding with_registers
chosen_sound c light level plain exposure s = record {
  exists = chosen_exists light level plain exposure c s.exists;
  wide = chosen_length light level plain exposure c.registers ∙ s.wide;
}

abbrev Of : Outcome → Type 0
Of o = Sound o.state

-- a call
pub call_sound : (w : World) (c : Call) → Sound w.state → Sound (leaves w c).state
unfolding leaves read_means write_means tick_means choose_means place_means
call_sound w reset s = reset_sound
call_sound w (read rom a) s = judged_ind Of (lowest (read_rows w.state rom w.ram a)) (λ k. s) s
call_sound w (write image a v) s =
    judged_ind Of (lowest (write_rows w.state w.ram w.store image a)) (λ k. s) (written_sound w.state w.ram w.store image a v s)
call_sound w (tick n) s =
    judged_ind Of (lowest (tick_rows w.state w.ram w.store)) (λ k. s) (ticks_sound (byte_at w.store) w.ram n w.state s)
call_sound w inspect s = s
call_sound w (choose light level plain exposure) s =
    judged_ind Of (lowest (choose_rows w.state light level)) (λ k. s) (chosen_sound w.state light level plain exposure s)
call_sound w (place file) s = judged_ind Of (lowest (place_rows w.state w.ram file)) (λ k. s) s

-- a list of calls
pub calls_sound : (cs : List Call) (w : World) → Sound w.state → Sound (after w cs).state
unfolding after
calls_sound [] w s = s
calls_sound (c ∷ cs) w s = calls_sound cs (leaves w c) (call_sound w c s)

pub sound : (ram store : List ℕ) (cs : List Call) → Sound (after (fresh ram store) cs).state
sound ram store cs = calls_sound cs (fresh ram store) reset_sound

-- Reachable: from reset, over any RAM and lit store, any calls lead to a state that can exist
pub reachable : (ram store : List ℕ) (cs : List Call) → cant_exist (after (fresh ram store) cs).state ≡ false
reachable ram store cs = (sound ram store cs).exists

-- ---- refusal 1

-- a state that can exist is not refused
other_number : (w : World) (c : Call) → cant_exist w.state ≡ false → refusal_in (answers w c) ≡ 1 → ⊥
unfolding answers read_rows write_rows tick_rows inspect_rows choose_rows place_rows row_holds
other_number w reset e = λ z. omega arith
other_number w (read rom a) e = not_one (read_refuses w.state rom w.ram a) (simp e)
other_number w (write image a v) e = not_one (write_refuses w.state w.ram w.store image a v) (simp e)
other_number w (tick n) e = not_one (tick_refuses w.state w.ram w.store n) (simp e)
other_number w inspect e = not_one (inspect_refuses w.state) (simp e)
other_number w (choose light level plain exposure) e = not_one (choose_refuses w.state light level plain exposure) (simp e)
other_number w (place file) e = not_one (place_refuses w.state w.ram file) (simp e)

-- Never impossible: from reset, whatever was called before, no call answers refusal 1
pub never_impossible : (ram store : List ℕ) (cs : List Call) (c : Call) → refusal_in (answers (after (fresh ram store) cs) c) ≡ 1 → ⊥
never_impossible ram store cs c = other_number (after (fresh ram store) cs) c (reachable ram store cs)
