-- What a write or a tick leaves, of a state that is read from bytes, has the sizes of a record. Assumes nothing.
use mathlib.Core.Path.{◌≡◌, refl, ◌∙◌}
use mathlib.Core.Bool.{true, false, not, ◌||◌}
use mathlib.Core.List.{List, [], ◌∷◌}
use Prim.Native.Nat.{ℕ, zero, suc, ◌+◌, ◌*◌, ◌%◌, ◌<◌}
use native.Mathlib.Omega.{arith}
use lib.Dec.{eqb, ltb}
use lib.ListN.{length, get_or, take, drop, replicate, length-set, length-drop}
use lib.Seq.{length-take-le}
use borrow.Author.Tests.{eqb-true, not-false}
use Rattle.laws.proofs.Iter.{iter_keeps}
use Rattle.laws.proofs.Pick.{pick_ind}
use Rattle.lighting.specs.Taken.{exposure_of}
use Rattle.controller.specs.declared.Controller.{Controller}
use Rattle.timing.specs.Registers.{all_zero}
use Rattle.timing.specs.Timing.{n_set, total_of}
use Rattle.controller.specs.State.{cant_exist, left_over}
use Rattle.tiles.specs.Tiles.{Bytes}
use Rattle.cartridge.specs.Bus.{registers_on, with_enabled, with_bank, with_select, with_register, control_written, is_start, capture_written, register_written, Left, byte_written}
use Rattle.lighting.specs.Light.{byte_at}
use Rattle.capture.specs.Capture.{Ticking, begun, moved, ended, running, runs, cycle, ticks, from}
use Rattle.cartridge.specs.Calls.{write_rows, write_means}
use Rattle.capture.specs.Calls.{tick_rows, tick_means}
use Rattle.controller.specs.Table.{lowest}
use Rattle.controller.proofs.Exists.{exists_parts, before_total}
use Rattle.cartridge.proofs.Refusals.{write_refuses}
use Rattle.capture.proofs.Refusals.{tick_refuses, tick_fits}
use Rattle.laws.proofs.Bools.{either, neither_left}
use Rattle.capture.proofs.TickSum.{Kept, ticks_keep}
use Rattle.layout.specs.Layout.{is_record, four_at, decoded}
use Rattle.layout.proofs.Inverse.{Whole, record_parts}

-- ---- what bytes are read as

pub decoded_whole : (s : List ℕ) → Bytes s → is_record s ≡ true → Whole (decoded s)
unfolding decoded four_at
decoded_whole s b h =
    let l = (record_parts s h).long in
    record {
      registers = length-take-le 54 (drop 13 s) (simp length-drop (omega arith));
      taken = length-take-le 54 (drop 67 s) (simp length-drop (omega arith));
      elapsed = omega (arith, b 5, b 6, b 7, b 8);
      started = omega (arith, b 9, b 10);
      ended = omega (arith, b 11, b 12);
    }

-- a part of bytes
dropped_bytes : (n : ℕ) (l : List ℕ) → Bytes l → Bytes (drop n l)
dropped_bytes zero l b = b
dropped_bytes (suc n) [] b = b
dropped_bytes (suc n) (x ∷ l) b = dropped_bytes n l (λ i. b (suc i))

taken_bytes : (n : ℕ) (l : List ℕ) → Bytes l → Bytes (take n l)
taken_bytes zero l b i = omega arith
taken_bytes (suc n) [] b i = b i
taken_bytes (suc n) (x ∷ l) b zero = b 0
taken_bytes (suc n) (x ∷ l) b (suc i) = taken_bytes n l (λ j. b (suc j)) i

-- ---- a tick

-- 54 registers, 54 bytes taken, and counts of 16 bits
record Sized (c : Controller) : Type 0 where
  registers : length c.registers ≡ 54
  taken : length c.taken ≡ 54
  bytes : Bytes c.taken
  begun : c.started < 65536
  done : c.ended < 65536

zeros : (n : ℕ) → Bytes (replicate n 0)
zeros zero i = omega arith
zeros (suc n) zero = omega arith
zeros (suc n) (suc i) = zeros n i

cycle_sized : (lit : ℕ → ℕ → ℕ) (w : Ticking) → Sized w.state → Sized (cycle lit w).state
unfolding cycle runs moved ended
cycle_sized lit w z =
    pick_ind (λ (v : Ticking). Sized v.state) (running w.state)
    (λ t.
    pick_ind Sized (eqb (w.state.elapsed.0 + 1) (total_of w.state.taken))
    (λ u. record { registers = simp length-set z.registers; taken = refl; bytes = zeros 54; begun = z.begun; done = omega arith })
    (λ u. record { registers = z.registers; taken = z.taken; bytes = z.bytes; begun = z.begun; done = z.done }))
    (λ t. z)

-- elapsed cycles of a record that can exist fit 32 bits: below the longest capture, or 0
total_small : (regs : List ℕ) → Bytes regs → total_of regs < 4294967296
unfolding total_of exposure_of
total_small regs b = pick_ind (λ n. 32446 + n + 16 * (get_or regs 2 0 * 256 + get_or regs 3 0) < 4294967296) (n_set regs) (λ t. omega (arith, b 2, b 3)) (λ t. omega (arith, b 2, b 3))

pub elapsed_small : (c : Controller) → cant_exist c ≡ false → Bytes c.taken → c.elapsed.0 < 4294967296
unfolding left_over
elapsed_small c e b =
    either c.held (λ h. omega (arith, before_total c e h, total_small c.taken b))
    (λ h.
    let none = not (eqb c.elapsed.0 0) in
    let rest = not (all_zero c.taken) in
    let over : (none || rest) ≡ false = simp h at (exists_parts c e).nothing in
    omega (arith, eqb-true c.elapsed.0 0 (not-false _ (neither_left none rest over))))

ticks_whole : (lit : ℕ → ℕ → ℕ) (ram : List ℕ) (n : ℕ) (c : Controller) → cant_exist c ≡ false → Sized c → Whole (ticks lit n (from c ram)).state
ticks_whole lit ram n c e z =
    let k : Kept (length ram) (ticks lit n (from c ram)) = ticks_keep lit (length ram) n (from c ram) (record { exists = e; long = refl }) in
    let y : Sized (ticks lit n (from c ram)).state = iter_keeps (cycle lit) (λ (w : Ticking). Sized w.state) (cycle_sized lit) n (from c ram) z in
    record {
      registers = y.registers;
      taken = y.taken;
      elapsed = elapsed_small (ticks lit n (from c ram)).state k.exists y.bytes;
      started = y.begun;
      ended = y.done;
    }

-- ---- a write

pub same_sizes : (c d : Controller) → Whole c → length d.registers ≡ length c.registers → length d.taken ≡ length c.taken → d.elapsed.0 ≡ c.elapsed.0 → d.started ≡ c.started → d.ended ≡ c.ended → Whole d
same_sizes c d w r t e m n = record { registers = r ∙ w.registers; taken = t ∙ w.taken; elapsed = rw e w.elapsed; started = rw m w.started; ended = rw n w.ended }

control_whole : (c : Controller) (a v : ℕ) → Whole c → Whole (control_written c a v)
unfolding control_written with_enabled with_bank with_select
control_whole c a v w =
    pick_ind Whole (ltb a 0x2000)
    (λ t. pick_ind Whole (eqb v 0x0A) (λ u. same_sizes c (with_enabled c true) w refl refl refl refl refl) (λ u. pick_ind Whole (eqb v 0x00) (λ z. same_sizes c (with_enabled c false) w refl refl refl refl refl) (λ z. w)))
    (λ t.
    pick_ind Whole (ltb a 0x4000) (λ u. same_sizes c (with_bank c (v % 64)) w refl refl refl refl refl)
    (λ u. pick_ind Whole (ltb a 0x6000) (λ z. same_sizes c (with_select c (v % 32)) w refl refl refl refl refl) (λ z. w)))

register_whole : (c : Controller) (i v : ℕ) → Whole c → Whole (with_register c i v)
unfolding with_register
register_whole c i v w = same_sizes c (with_register c i v) w (simp length-set) refl refl refl refl

begun_whole : (c : Controller) (v : ℕ) → Whole c → Whole (begun c v)
unfolding begun
begun_whole c v w = record { registers = simp length-set w.registers; taken = simp length-set w.registers; elapsed = omega arith; started = omega arith; ended = w.ended }

written_whole : (c : Controller) (ram store image : List ℕ) (a v : ℕ) → Whole c → Whole (byte_written c ram store image a v).state
unfolding byte_written register_written capture_written
written_whole c ram store image a v w =
    pick_ind (λ (l : Left). Whole l.state) (ltb a 0x8000) (λ t. control_whole c a v w)
    (λ t.
    pick_ind (λ (l : Left). Whole l.state) (registers_on c)
    (λ u.
    pick_ind Whole (eqb (a % 128) 0)
    (λ z. pick_ind Whole (is_start c v) (λ y. begun_whole c (v % 8) w) (λ y. register_whole c 0 (v % 8) w))
    (λ z. pick_ind Whole (ltb (a % 128) 54) (λ y. register_whole c (a % 128) v w) (λ y. w)))
    (λ u. w))

module _ (s ram store : List ℕ) (bytes : Bytes s) (h : is_record s ≡ true) where
  whole : Whole (decoded s)
  whole = decoded_whole s bytes h

  pub write_whole : (image : List ℕ) (a v : ℕ) → Whole (write_means (decoded s) ram store image a v).state
  write_whole image a v = by_number (lowest (write_rows (decoded s) ram store image a)) refl
    where
      by_number : (k : ℕ) → lowest (write_rows (decoded s) ram store image a) ≡ k → Whole (write_means (decoded s) ram store image a v).state
      by_number zero e = rw ((write_refuses (decoded s) ram store image a v).does e) (written_whole (decoded s) ram store image a v whole)
      by_number (suc k) e = rw ((write_refuses (decoded s) ram store image a v).kept k e) whole

  sized : Sized (decoded s)
  unfolding decoded
  sized = record { registers = whole.registers; taken = whole.taken; bytes = taken_bytes 54 (drop 67 s) (dropped_bytes 67 s bytes); begun = whole.started; done = whole.ended }

  pub tick_whole : (n : ℕ) → Whole (tick_means (decoded s) ram store n).state
  tick_whole n = by_number (lowest (tick_rows (decoded s) ram store)) refl
    where
      by_number : (k : ℕ) → lowest (tick_rows (decoded s) ram store) ≡ k → Whole (tick_means (decoded s) ram store n).state
      by_number zero e = rw ((tick_refuses (decoded s) ram store n).does e) (ticks_whole (byte_at store) ram n (decoded s) (tick_fits (decoded s) ram store e).exists sized)
      by_number (suc k) e = rw ((tick_refuses (decoded s) ram store n).kept k e) whole
