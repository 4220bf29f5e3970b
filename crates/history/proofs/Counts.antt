-- The two counts of the state: captures started, and captures that reached their end, since the last reset. Assumes nothing.
use mathlib.Core.Path.{◌≡◌, refl, sym, ap, subst, ◌∙◌}
use mathlib.Core.Bool.{Bool, true, false, not, ◌&&◌}
use mathlib.Core.List.{List, [], ◌∷◌}
use Prim.Native.Nat.{ℕ, ◌+◌, ◌%◌}
use native.Mathlib.Omega.{arith}
use lib.Dec.{eqb, ltb}
use lib.ListN.{length}
use Rattle.laws.specs.Pick.{pick}
use Rattle.laws.proofs.Pick.{pick_ind}
use Rattle.lighting.specs.Taken.{setting_of}
use Rattle.lighting.specs.Light.{light_frame}
use Rattle.controller.specs.declared.Controller.{Controller}
use Rattle.timing.specs.Lent.{ram_allowed, frame_allowed}
use Rattle.controller.specs.State.{cant_exist, reset_state, one_more}
use Rattle.capture.specs.Capture.{begun}
use Rattle.cartridge.specs.Bus.{left, byte_written, control_written, register_written, capture_written, with_bank, with_register, with_enabled, with_select, is_start, registers_on}
use Rattle.controller.specs.Table.{on_cartridge}
use Rattle.controller.specs.Outcome.{Outcome}
use Rattle.controller.specs.Table.{lowest}
use Rattle.cartridge.specs.Calls.{read_rows, read_means}
use Rattle.controller.proofs.Refusals.{judged_ind}
use Rattle.std.specs.declared.option.Option.{Option}
use Rattle.desk.specs.Choice.{beyond, with_registers}
use Rattle.placing.specs.Placing.{is_plate}
use Rattle.history.specs.History.{Call, reset, read, write, tick, inspect, choose, place, World, fresh, leaves, after}
use Rattle.history.specs.Seen.{is_reset, start_seen, end_seen, tally, starts_seen, ends_seen}
use Rattle.history.proofs.Track.{Track, write_accepted, to_registers, ends, starts, next, seen}
use Rattle.history.proofs.Follows.{world_of, write_leaves, choose_leaves, place_leaves, tick_told, Moment, at_reset_lem, moment_next}
use Rattle.history.proofs.Shows.{start_same, end_same}

-- a state's two counts
pub record Counts (s e : ℕ) (c : Controller) : Type 0 where
  pub started : c.started ≡ s
  pub ended : c.ended ≡ e

-- what a write leaves, test by test: only a start has its own count
parted : (P : ℕ → Controller → Type 0) (m n : ℕ) (ok low regs zeroth new some : Bool) (x b y z : Controller) (r ram store store' : List ℕ) (w : World)
    → P n x → P m b → P n y → P n z → P n w.state
    → P (pick ((ok && (not low && regs)) && (zeroth && new)) m n)
    (pick ok (world_of (pick low (left x ram store) (pick regs (left (pick zeroth (pick new b y) (pick some z w.state)) ram store') (left w.state r store)))) w).state
parted P m n false low regs zeroth new some x b y z r ram store store' w px pb py pz pw = pw
parted P m n true true regs zeroth new some x b y z r ram store store' w px pb py pz pw = px
parted P m n true false false zeroth new some x b y z r ram store store' w px pb py pz pw = pw
parted P m n true false true true true some x b y z r ram store store' w px pb py pz pw = pb
parted P m n true false true true false some x b y z r ram store store' w px pb py pz pw = py
parted P m n true false true false new true x b y z r ram store store' w px pb py pz pw = pz
parted P m n true false true false new false x b y z r ram store store' w px pb py pz pw = pw

-- one more at a call of a kind, and none at a reset
abbrev up_to : Bool → Bool → ℕ → ℕ
up_to back more n = pick back 0 (pick more (one_more n) n)

module _ (w : World) (im : List ℕ) (own : w.state.held ≡ true → w.store ≡ light_frame im (setting_of w.state.taken)) (exists : cant_exist w.state ≡ false) where
  abbrev c : Controller
  c = w.state

  abbrev Same : Controller → Type 0
  Same d = Counts c.started c.ended d

  same : Same c
  same = record { started = refl; ended = refl }

  control_same : (a v : ℕ) → Same (control_written c a v)
  unfolding control_written with_enabled with_bank with_select
  control_same a v =
      pick_ind Same (ltb a 0x2000)
      (λ _. pick_ind Same (eqb v 0x0A) (λ _. record { started = refl; ended = refl }) (λ _. pick_ind Same (eqb v 0x00) (λ _. record { started = refl; ended = refl }) (λ _. same)))
      (λ _.
      pick_ind Same (ltb a 0x4000) (λ _. record { started = refl; ended = refl })
      (λ _. pick_ind Same (ltb a 0x6000) (λ _. record { started = refl; ended = refl }) (λ _. same)))

  abbrev Next : Call → Type 0
  Next k = Counts (up_to (is_reset k) (starts (seen w im) k) c.started) (up_to (is_reset k) (ends (seen w im) k) c.ended) (leaves w k).state

  write_next : (image : List ℕ) (a v : ℕ) → Next (write image a v)
  unfolding is_reset starts ends to_registers write_accepted byte_written register_written capture_written is_start with_register begun
  write_next image a v =
      rw (write_leaves w image a v exists)
      (parted (λ (n : ℕ) (d : Controller). Counts n c.ended d) (one_more c.started) c.started
      (ram_allowed (length w.ram) && ((frame_allowed (length w.store) && frame_allowed (length image)) && on_cartridge a)) (ltb a 0x8000) (registers_on c) (eqb (a % 128) 0) (eqb (v % 2) 1 && not c.held) (ltb (a % 128) 54)
      (control_written c a v) (begun c (v % 8)) (with_register c 0 (v % 8)) (with_register c (a % 128) v) _ _ _ _ w
      (control_same a v) (record { started = refl; ended = refl }) (record { started = refl; ended = refl }) (record { started = refl; ended = refl }) same)

  choose_next : (light level : ℕ) (plain : Bool) (exposure : Option ℕ) → Next (choose light level plain exposure)
  unfolding is_reset starts ends with_registers
  choose_next light level plain exposure =
      rw (choose_leaves w light level plain exposure exists)
      (pick_ind (λ (u : World). Same u.state) (not (beyond light level)) (λ _. record { started = refl; ended = refl }) (λ _. same))

  place_next : (file : List ℕ) → Next (place file)
  unfolding is_reset starts ends
  place_next file = rw (place_leaves w file exists) (pick_ind (λ (u : World). Same u.state) (ram_allowed (length w.ram) && (is_plate file && not c.held)) (λ _. same) (λ _. same))

  -- each call
  call_counts : (k : Call) → Next k
  unfolding is_reset starts ends leaves read_means reset_state
  call_counts reset = record { started = refl; ended = refl }
  call_counts (read rom a) = judged_ind (λ (o : Outcome). Same o.state) (lowest (read_rows c rom w.ram a)) (λ _. same) same
  call_counts (write image a v) = write_next image a v
  call_counts (tick n) = let t = tick_told w im own exists n in record { started = t.starts_kept; ended = t.ends_told }
  call_counts inspect = same
  call_counts (choose light level plain exposure) = choose_next light level plain exposure
  call_counts (place file) = place_next file

pub counts_next : (t : Track) (w : World) → Moment t w → (k : Call)
    → Counts (up_to (is_reset k) (start_seen w k) w.state.started) (up_to (is_reset k) (end_seen w k) w.state.ended) (leaves w k).state
counts_next t w m k =
    rw (← start_same t w m k, ← end_same t w m k)
    (subst (λ (u : Track). Counts (up_to (is_reset k) (starts u k) w.state.started) (up_to (is_reset k) (ends u k) w.state.ended) (leaves w k).state)
    (sym m.told.same) (call_counts w t.capture.image m.told.own m.sound.exists k))

-- a count that wraps is the number modulo 65,536
wraps : (back more : Bool) (n : ℕ) → up_to back more (n % 65536) ≡ pick back 0 (pick more (n + 1) n) % 65536
wraps true more n = refl
wraps false true n = omega arith
wraps false false n = refl

-- along a history
counts_after : (cs : List Call) (t : Track) (w : World) (s e : ℕ) → Moment t w → Counts (s % 65536) (e % 65536) w.state
    → Counts (tally start_seen w cs s % 65536) (tally end_seen w cs e % 65536) (after w cs).state
unfolding tally after
counts_after [] t w s e m p = p
counts_after (k ∷ cs) t w s e m p =
    let q = counts_next t w m k in
    counts_after cs (next t k) (leaves w k) (pick (is_reset k) 0 (pick (start_seen w k) (s + 1) s)) (pick (is_reset k) 0 (pick (end_seen w k) (e + 1) e)) (moment_next t w m k)
    (record {
      started = q.started ∙ ap (up_to (is_reset k) (start_seen w k)) p.started ∙ wraps (is_reset k) (start_seen w k) s;
      ended = q.ended ∙ ap (up_to (is_reset k) (end_seen w k)) p.ended ∙ wraps (is_reset k) (end_seen w k) e;
    })

module _ (ram store : List ℕ) (cs : List Call) where
  counts : Counts (starts_seen ram store cs % 65536) (ends_seen ram store cs % 65536) (after (fresh ram store) cs).state
  unfolding reset_state
  counts = counts_after cs _ (fresh ram store) 0 0 (at_reset_lem ram store) (record { started = refl; ended = refl })

  -- Started: after any calls from reset, `started` is the number of starts since the last reset, modulo 65,536
  pub started_counts : (after (fresh ram store) cs).state.started ≡ starts_seen ram store cs % 65536
  started_counts = counts.started

  -- Ended: and `ended` the number of captures that reached their end
  pub ended_counts : (after (fresh ram store) cs).state.ended ≡ ends_seen ram store cs % 65536
  ended_counts = counts.ended
