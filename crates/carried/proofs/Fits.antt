-- From reset, over calls whose numbers fit, every state is one that the record's bytes hold. Assumes nothing.
use mathlib.Core.Path.{◌≡◌, refl, sym, ap, subst, ◌∙◌}
use mathlib.Core.Bool.{Bool, true, false, not, ◌&&◌}
use mathlib.Core.List.{List, [], ◌∷◌}
use Prim.Native.Nat.{ℕ, zero, suc, ◌+◌, ◌*◌, ◌/◌, ◌%◌, ◌<◌}
use native.Mathlib.Omega.{arith}
use lib.Dec.{eqb, ltb}
use lib.ListN.{length, get_or, set, length-set}
use borrow.Author.Tests.{ltb-true, ltb-false}
use Rattle.laws.specs.Bits.{is_set}
use Rattle.laws.specs.Pick.{pick}
use Rattle.laws.proofs.Pick.{pick_ind}
use Rattle.laws.proofs.Bools.{both_left, both_right}
use Rattle.tiles.specs.Tiles.{Bytes}
use Rattle.controller.specs.State.{no_registers, reset_state}
use Rattle.std.specs.declared.option.Option.{Option}
use Rattle.desk.specs.Levels.{levels}
use Rattle.desk.specs.Choice.{steps_of, value_of, stored, timed, registers_chosen}
use Rattle.desk.proofs.Level.{chosen_length}
use Rattle.layout.proofs.Inverse.{Whole}
use Rattle.embed.specs.Exports.{plain_in, exposure_in}
use Rattle.calls.proofs.Left.{elapsed_small}
use Rattle.history.specs.History as history
use Rattle.history.specs.History.{World, fresh, leaves}
use Rattle.history.proofs.Track.{Track, at_reset, write_accepted, choice_accepted, ends, enabling, selecting, storing, beginning, running, ending, controlled, registered, written, next}
use Rattle.history.specs.Seen.{is_reset, start_seen, end_seen}
use Rattle.history.proofs.Follows.{Moment, at_reset_lem, moment_next}
use Rattle.history.proofs.Counts.{counts_next}
use Rattle.carried.specs.Exported.{Export, reset, read, write, tick, inspect, choose, place, call_of, fits}

-- ---- bytes

set_bytes : (l : List ℕ) (i v : ℕ) → Bytes l → v < 256 → Bytes (set l i v)
set_bytes [] i v b h j = b j
set_bytes (x ∷ l) zero v b h zero = h
set_bytes (x ∷ l) zero v b h (suc j) = b (suc j)
set_bytes (x ∷ l) (suc i) v b h zero = b 0
set_bytes (x ∷ l) (suc i) v b h (suc j) = set_bytes l i v (λ k. b (suc k)) h j

-- the table of levels: one test, computed
all_bytes : List ℕ → Bool
all_bytes [] = true
all_bytes (x ∷ l) = ltb x 256 && all_bytes l

bytes_at_lem : (l : List ℕ) → all_bytes l ≡ true → Bytes l
unfolding all_bytes
bytes_at_lem [] e i = omega arith
bytes_at_lem (x ∷ l) e zero = ltb-true x 256 (both_left (ltb x 256) (all_bytes l) e)
bytes_at_lem (x ∷ l) e (suc i) = bytes_at_lem l (both_right (ltb x 256) (all_bytes l) e) i

levels_bytes : all_bytes levels ≡ true
unfolding levels all_bytes
levels_bytes = refl

value_byte : (light level : ℕ) (plain : Bool) (k : ℕ) → value_of light level plain k < 256
unfolding value_of
value_byte light level plain k = bytes_at_lem levels levels_bytes _

stored_bytes : (regs : List ℕ) (from : ℕ) (f : ℕ → ℕ) (n : ℕ) → Bytes regs → ((k : ℕ) → f k < 256) → Bytes (stored regs from f n)
unfolding stored
stored_bytes regs from f zero b h = b
stored_bytes regs from f (suc n) b h = set_bytes (stored regs from f n) (from + n) (f n) (stored_bytes regs from f n b h) (h n)

-- an exposure that a number names has 16 bits
exposure_small : (n : ℕ) → steps_of (exposure_in n) < 65536
unfolding exposure_in
exposure_small n = pick_ind (λ (e : Option ℕ). steps_of e < 65536) (ltb 0xFFFF n) (λ _. omega arith) (λ h. omega (arith, ltb-false 0xFFFF n h))

chosen_bytes : (light level : ℕ) (plain : Bool) (exposure : Option ℕ) (regs : List ℕ) → steps_of exposure < 65536 → Bytes regs → Bytes (registers_chosen regs light level plain exposure)
unfolding registers_chosen
chosen_bytes light level plain exposure regs small b =
    stored_bytes (timed regs (steps_of exposure)) 6 (value_of light level plain) 48
    (set_bytes (set regs 2 (steps_of exposure / 256)) 3 (steps_of exposure % 256) (set_bytes regs 2 (steps_of exposure / 256) b (omega arith)) (omega arith))
    (value_byte light level plain)

zeros_bytes : Bytes no_registers
unfolding all_bytes
zeros_bytes = bytes_at_lem no_registers refl

-- ---- what the calls tell

-- 54 registers and 54 taken, all bytes
pub record Fitting (regs took : List ℕ) : Type 0 where
  pub registers : length regs ≡ 54
  pub taken : length took ≡ 54
  pub bytes : Bytes regs
  pub taken_bytes : Bytes took

abbrev pub Fit : Track → Type 0
Fit t = Fitting t.registers t.capture.taken

module _ (t : Track) (f : Fit t) where
  -- registers that are written
  stored_fit : (regs : List ℕ) → length regs ≡ 54 → Bytes regs → Fit (storing t regs)
  unfolding storing
  stored_fit regs l b = record { registers = l; taken = f.taken; bytes = b; taken_bytes = f.taken_bytes }

  set_long : (i v : ℕ) → length (set t.registers i v) ≡ 54
  set_long i v = length-set t.registers i v ∙ f.registers

  set_fit : (i v : ℕ) → v < 256 → Fit (storing t (set t.registers i v))
  set_fit i v h = stored_fit (set t.registers i v) (set_long i v) (set_bytes t.registers i v f.bytes h)

  begun_fit : (image : List ℕ) (v : ℕ) → v < 256 → Fit (beginning t image (set t.registers 0 v))
  unfolding beginning
  begun_fit image v h =
      let b = set_bytes t.registers 0 v f.bytes h in
      record { registers = set_long 0 v; taken = set_long 0 v; bytes = b; taken_bytes = b }

  control_fit : (a v : ℕ) → Fit (controlled t a v)
  unfolding controlled enabling selecting
  control_fit a v =
      pick_ind Fit (ltb a 0x2000)
      (λ _. pick_ind Fit (eqb v 0x0A) (λ _. f) (λ _. pick_ind Fit (eqb v 0x00) (λ _. f) (λ _. f)))
      (λ _. pick_ind Fit (ltb a 0x4000) (λ _. f) (λ _. pick_ind Fit (ltb a 0x6000) (λ _. f) (λ _. f)))

  write_fit : (image : List ℕ) (a v : ℕ) → v < 256 → Fit (next t (history.write image a v))
  unfolding next written registered
  write_fit image a v h =
      pick_ind Fit (write_accepted t image a)
      (λ _.
      pick_ind Fit (ltb a 0x8000)
      (λ _. control_fit a v)
      (λ _.
      pick_ind Fit (is_set t.select 4)
      (λ _.
      pick_ind Fit (eqb (a % 128) 0)
      (λ _. pick_ind Fit (eqb (v % 2) 1 && not t.capture.held) (λ _. begun_fit image (v % 8) (omega arith)) (λ _. set_fit 0 (v % 8) (omega arith)))
      (λ _. pick_ind Fit (ltb (a % 128) 54) (λ _. set_fit (a % 128) v h) (λ _. f)))
      (λ _. f)))
      (λ _. f)

  tick_fit : (n : ℕ) → Fit (next t (history.tick n))
  unfolding next ending running
  tick_fit n =
      pick_ind Fit (ends t (history.tick n))
      (λ _.
      record {
        registers = set_long 0 (get_or t.registers 0 0 / 2 * 2);
        taken = refl;
        bytes = set_bytes t.registers 0 _ f.bytes (omega (arith, f.bytes 0));
        taken_bytes = zeros_bytes;
      })
      (λ _. f)

  choose_fit : (light level : ℕ) (plain : Bool) (n : ℕ) → Fit (next t (history.choose light level plain (exposure_in n)))
  unfolding next
  choose_fit light level plain n =
      pick_ind Fit (choice_accepted light level)
      (λ _.
      stored_fit _ (chosen_length light level plain (exposure_in n) t.registers ∙ f.registers)
      (chosen_bytes light level plain (exposure_in n) t.registers (exposure_small n) f.bytes))
      (λ _. f)

reset_fit : (r s : ℕ) → Fit (at_reset r s)
unfolding at_reset
reset_fit r s = record { registers = refl; taken = refl; bytes = zeros_bytes; taken_bytes = zeros_bytes }

fit_next : (t : Track) → Fit t → (k : Export) → fits k ≡ true → Fit (next t (call_of k))
unfolding call_of fits
fit_next t f reset h = unfold next in reset_fit _ _
fit_next t f (read rom a) h = unfold next in f
fit_next t f (write image a v) h = write_fit t f image a v (ltb-true v 256 h)
fit_next t f (tick n) h = tick_fit t f n
fit_next t f inspect h = unfold next in f
fit_next t f (choose light level plain exposure) h = choose_fit t f light level (plain_in plain) exposure
fit_next t f (place file) h = unfold next in f

-- ---- the state

-- what is told is true, it fits, and the two counts have 16 bits
pub record Now (t : Track) (w : World) : Type 0 where
  pub moment : Moment t w
  pub fit : Fit t
  pub started : w.state.started < 65536
  pub ended : w.state.ended < 65536

pub now_reset : (ram store : List ℕ) → Now (at_reset (length ram) (length store)) (fresh ram store)
unfolding reset_state
now_reset ram store = record { moment = at_reset_lem ram store; fit = reset_fit _ _; started = omega arith; ended = omega arith }

-- one more, or none after a reset
count_small : (back more : Bool) (n : ℕ) → n < 65536 → pick back 0 (pick more ((n + 1) % 65536) n) < 65536
count_small true more n h = omega arith
count_small false true n h = omega arith
count_small false false n h = h

pub now_next : (t : Track) (w : World) → Now t w → (k : Export) → fits k ≡ true → Now (next t (call_of k)) (leaves w (call_of k))
now_next t w n k h =
    let c = counts_next t w n.moment (call_of k) in
    record {
      moment = moment_next t w n.moment (call_of k);
      fit = fit_next t n.fit k h;
      started = rw c.started (count_small (is_reset (call_of k)) (start_seen w (call_of k)) w.state.started n.started);
      ended = rw c.ended (count_small (is_reset (call_of k)) (end_seen w (call_of k)) w.state.ended n.ended);
    }

-- so the record's bytes hold the state
pub now_whole : (t : Track) (w : World) → Now t w → Whole w.state
now_whole t w n =
    let s = n.moment.told.same in
    record {
      registers = sym (ap (λ (u : Track). length u.registers) s) ∙ n.fit.registers;
      taken = sym (ap (λ (u : Track). length u.capture.taken) s) ∙ n.fit.taken;
      elapsed = elapsed_small w.state n.moment.sound.exists (subst (λ (u : Track). Bytes u.capture.taken) s n.fit.taken_bytes);
      started = n.started;
      ended = n.ended;
    }
