-- Which states can exist: what each write keeps. Assumes nothing.
use mathlib.Core.Path.{◌≡◌, refl}
use mathlib.Core.Bool.{Bool, true, false, not, ◌&&◌, and-false}
use mathlib.Core.List.{List}
use Prim.Native.Nat.{ℕ, ◌%◌}
use native.Mathlib.Omega.{arith}
use lib.Dec.{eqb, ltb, leb}
use lib.ListN.{length, get_or, set}
use lib.Seq.{get_or-set_same, get_or-set_other}
use borrow.Author.Tests.{le-ltb, lt-leb}
use Rattle.controller.specs.declared.Controller.{Controller}
use Rattle.timing.specs.Registers.{zero_to}
use Rattle.timing.specs.Timing.{total_of}
use Rattle.controller.specs.State.{started, left_over, wrong_capture, cant_exist, reset_state}
use Rattle.capture.specs.Capture.{begun}
use Rattle.cartridge.specs.Bus.{with_enabled, with_bank, with_select, with_register, is_start}
use Rattle.controller.proofs.Exists.{Exists, exists_parts, exists_whole}
use Rattle.laws.proofs.Bools.{both_left}

-- reset
pub exists_reset : cant_exist reset_state ≡ false
unfolding reset_state cant_exist left_over wrong_capture zero_to
exists_reset = refl

-- a total is never 0
long : (regs : List ℕ) → leb (total_of regs) 0 ≡ false
unfolding total_of
long regs = lt-leb (total_of regs) 0 (omega arith)

module _ (c : Controller) (e : cant_exist c ≡ false) where
  abbrev p : Exists c
  p = exists_parts c e

  -- writes to the banks: the rest of the state stays
  exists_control : (on : Bool) (bank select : ℕ) → ltb 63 bank ≡ false → ltb 31 select ≡ false
      → cant_exist (record { enabled = on; bank = bank; select = select; registers = c.registers; held = c.held; taken = c.taken; elapsed = c.elapsed; started = c.started; ended = c.ended }) ≡ false
  unfolding left_over wrong_capture
  exists_control on bank select b s =
      exists_whole _ (record { bank = b; select = s; first = p.first; holds = p.holds; nothing = p.nothing; capture = p.capture })

  pub exists_enabled : (b : Bool) → cant_exist (with_enabled c b) ≡ false
  unfolding with_enabled
  exists_enabled b = exists_control b c.bank c.select p.bank p.select

  pub exists_bank : (v : ℕ) → cant_exist (with_bank c (v % 64)) ≡ false
  unfolding with_bank
  exists_bank v = exists_control c.enabled (v % 64) c.select (le-ltb 63 (v % 64) (omega arith)) p.select

  pub exists_select : (v : ℕ) → cant_exist (with_select c (v % 32)) ≡ false
  unfolding with_select
  exists_select v = exists_control c.enabled c.bank (v % 32) p.bank (le-ltb 31 (v % 32) (omega arith))

  -- a write to a register, by what register 0 then is
  exists_first : (i v f : ℕ) → get_or (set c.registers i v) 0 0 ≡ f → ltb 7 f ≡ false → (eqb (f % 2) 1 && not c.held) ≡ false → cant_exist (with_register c i v) ≡ false
  unfolding with_register left_over wrong_capture
  exists_first i v f same low odd =
      exists_whole (with_register c i v)
      (record {
        bank = p.bank;
        select = p.select;
        first = rw same low;
        holds = rw same odd;
        nothing = p.nothing;
        capture = p.capture;
      })

  -- above register 0
  pub exists_register : (i v : ℕ) → (0 ≡ i → ⊥) → cant_exist (with_register c i v) ≡ false
  exists_register i v ne = exists_first i v (get_or c.registers 0 0) (get_or-set_other c.registers i 0 v 0 ne) p.first p.holds

  module _ (wide : length c.registers ≡ 54) (v : ℕ) where
    -- register 0 stores the low three bits
    zeroth : get_or (set c.registers 0 (v % 8)) 0 0 ≡ v % 8
    zeroth = get_or-set_same c.registers 0 (v % 8) 0 (omega arith)

    low_bit : v % 8 % 2 ≡ v % 2
    low_bit = omega arith

    small : ltb 7 (v % 8) ≡ false
    small = le-ltb 7 (v % 8) (omega arith)

    -- a write to register 0 that is no start
    pub exists_stored : is_start c v ≡ false → cant_exist (with_register c 0 (v % 8)) ≡ false
    unfolding is_start
    exists_stored idle = exists_first 0 (v % 8) (v % 8) zeroth small (rw low_bit idle)

    -- a start
    pub exists_begun : is_start c v ≡ true → cant_exist (begun c (v % 8)) ≡ false
    unfolding begun left_over wrong_capture is_start
    exists_begun start =
        let odd : started (set c.registers 0 (v % 8)) ≡ true = rw (zeroth, low_bit) (both_left (eqb (v % 2) 1) (not c.held) start) in
        let low : ltb 7 (get_or (set c.registers 0 (v % 8)) 0 0) ≡ false = rw zeroth small in
        exists_whole (begun c (v % 8))
        (record {
          bank = p.bank;
          select = p.select;
          first = low;
          holds = and-false (started (set c.registers 0 (v % 8)));
          nothing = refl;
          capture = simp (odd, low, long (set c.registers 0 (v % 8)));
        })
