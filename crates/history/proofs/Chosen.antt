-- A choice in a history: what it leaves alone, which registers the next start takes, and the bus writes that it amounts to. Assumes nothing.
use mathlib.Core.Path.{◌≡◌, refl, sym, ap, ◌∙◌}
use mathlib.Core.Bool.{Bool, true, false, not}
use mathlib.Core.List.{List, [], ◌∷◌, ◌++◌}
use Prim.Native.Nat.{ℕ, zero, suc, ◌+◌, ◌/◌, ◌%◌, ◌<◌, ◌≤◌}
use native.Mathlib.Omega.{arith}
use lib.ListN.{length, get_or, set}
use borrow.Author.Tests.{eqb-true, ne_eqb, lt-ltb, le-ltb, le-leb, ltb-false}
use Rattle.laws.specs.Pick.{pick}
use Rattle.controller.specs.declared.Controller.{Controller}
use Rattle.timing.specs.Lent.{ram_allowed, frame_allowed}
use Rattle.controller.specs.State.{cant_exist}
use Rattle.controller.specs.Table.{on_cartridge}
use Rattle.cartridge.specs.Bus.{byte_written, control_written, register_written, store_written, with_register, with_select}
use Rattle.controller.proofs.Exists.{exists_parts}
use Rattle.cartridge.proofs.Written.{written_register}
use Rattle.std.specs.declared.option.Option.{Option}
use Rattle.desk.specs.Choice.{beyond, steps_of, value_of, stored, registers_chosen, with_registers}
use Rattle.desk.proofs.Registers.{stored_before}
use Rattle.desk.proofs.Choices.{choose_none, choose_refuses}
use Rattle.desk.proofs.Level.{exists_with, level_after}
use Rattle.history.specs.History.{Call, write, inspect, choose, World, fresh, leaves, answers, matrix, after}
use Rattle.history.specs.Seen.{start_seen, end_seen, goes_in, lands_seen}
use Rattle.history.proofs.Track.{Track, starts, ends, registers_at, told}
use Rattle.history.specs.Writes.{writes_from, choice_writes}
use Rattle.history.proofs.Exists.{exists_select, exists_register}
use Rattle.history.proofs.Follows.{Moment, at_reset_lem, moment_next, moment_after, write_leaves, choose_leaves}
use Rattle.history.proofs.Goes.{start_of_lem, after_append}
use Rattle.history.proofs.Shows.{start_same, end_same}
use Rattle.history.proofs.Reachable.{sound, reachable}

-- a call that is seen to start nothing, to end nothing and to land nowhere
pub record Quiet (w : World) (k : Call) : Type 0 where
  pub no_start : start_seen w k ≡ false
  pub no_end : end_seen w k ≡ false
  pub no_landing : (p : ℕ) → lands_seen w k p ≡ false

-- a world with nothing changed but the registers
abbrev with_all : World → List ℕ → World
with_all w regs = record { state = with_registers w.state regs; ram = w.ram; store = w.store }

module _ (ram store : List ℕ) (cs : List Call) (light level : ℕ) (plain : Bool) (exposure : Option ℕ) where
  abbrev now : World
  now = after (fresh ram store) cs

  abbrev choice : Call
  choice = choose light level plain exposure

  m : Moment (told ram store cs) now
  m = moment_after cs _ _ (at_reset_lem ram store)

  -- Quiet: after any calls from reset, a choice starts nothing, ends nothing and lands nowhere
  pub choice_quiet : Quiet (after (fresh ram store) cs) (choose light level plain exposure)
  unfolding starts ends lands_seen goes_in
  choice_quiet = record { no_start = sym (start_same _ _ m choice); no_end = sym (end_same _ _ m choice); no_landing = λ p. refl }

  -- Chosen: after any calls from reset, a choice of the table changes the registers of the state and nothing else, and any other changes nothing
  pub choice_leaves : leaves (after (fresh ram store) cs) (choose light level plain exposure)
      ≡ pick (not (beyond light level)) (with_all (after (fresh ram store) cs) (registers_chosen (after (fresh ram store) cs).state.registers light level plain exposure)) (after (fresh ram store) cs)
  choice_leaves = choose_leaves now light level plain exposure (reachable ram store cs)

  -- Taken next: a start right after it takes the registers that it wrote, with the new register 0
  pub choice_taken : beyond light level ≡ false → (image : List ℕ) (a v : ℕ) → start_seen (leaves (after (fresh ram store) cs) (choose light level plain exposure)) (write image a v) ≡ true
      → (leaves (leaves (after (fresh ram store) cs) (choose light level plain exposure)) (write image a v)).state.taken ≡ set (registers_chosen (after (fresh ram store) cs).state.registers light level plain exposure) 0 (v % 8)
  unfolding registers_at with_registers
  choice_taken ok image a v h =
      let n = moment_next _ _ m choice in
      sym (ap (λ (u : Track). u.capture.taken) (moment_next _ _ n (write image a v)).told.same)
      ∙ (start_of_lem _ (write image a v) (start_same _ _ n (write image a v) ∙ h)).taken
      ∙ ap (λ (u : Track). set u.registers 0 (v % 8)) n.told.same
      ∙ ap (λ (w : World). set w.state.registers 0 (v % 8)) choice_leaves
      ∙ rw ok

  -- Level: an inspection right after it finds no reversed element
  pub choice_level : beyond light level ≡ false
      → answers (leaves (after (fresh ram store) cs) (choose light level plain exposure)) inspect ≡ matrix (record { number = 0; found = false; row = 0; column = 0 })
  unfolding answers leaves
  choice_level ok =
      let s = sound ram store cs in
      let none = eqb-true _ _ (choose_none now.state light level s.exists ∙ rw ok) in
      ap matrix (level_after light level plain exposure now.state s.wide ((choose_refuses now.state light level plain exposure).numbered ∙ none))

-- ---- as bus writes

-- a world whose sizes fit, with an image lent
pub record Lends (w : World) (image : List ℕ) : Type 0 where
  pub ram_fits : ram_allowed (length w.ram) ≡ true
  pub store_fits : frame_allowed (length w.store) ≡ true
  pub image_fits : frame_allowed (length image) ≡ true

module _ (w : World) (image : List ℕ) (fits : Lends w image) where
  abbrev pub with_state : Controller → World
  with_state c = record { state = c; ram = w.ram; store = w.store }

  module _ (c : Controller) (exists : cant_exist c ≡ false) where
    -- a write of select
    pub select_leaves : (v : ℕ) → leaves (with_state c) (write image 0x4000 v) ≡ with_state (with_select c (v % 32))
    unfolding on_cartridge byte_written control_written
    select_leaves v = write_leaves (with_state c) image 0x4000 v exists ∙ rw (fits.ram_fits, fits.store_fits, fits.image_fits)

    -- a write of a register above 0
    register_leaves : c.select ≡ 16 → (i v : ℕ) → 0 < i → i < 54 → leaves (with_state c) (write image (0xA000 + i) v) ≡ with_state (with_register c i v)
    unfolding on_cartridge register_written store_written
    register_leaves on i v low high =
        let a = 0xA000 + i in
        let m : a % 128 ≡ i = omega arith in
        let at = written_register c w.ram w.store image a v (le-ltb a 0x8000 (omega arith)) (rw on refl) in
        write_leaves (with_state c) image a v exists
        ∙ rw (fits.ram_fits, fits.store_fits, fits.image_fits, le-ltb a 0x8000 (omega arith), le-leb 0xA000 a (omega arith), lt-ltb a 0xC000 (omega arith), at, m, ne_eqb i 0 (λ z. omega arith), lt-ltb i 54 high)

  module _ (c : Controller) (exists : cant_exist c ≡ false) where
    -- one more, after some of them
    register_more : c.select ≡ 16 → (regs : List ℕ) → get_or regs 0 0 ≡ get_or c.registers 0 0 → (i v : ℕ) → 0 < i → i < 54
        → leaves (with_state (with_registers c regs)) (write image (0xA000 + i) v) ≡ with_state (with_registers c (set regs i v))
    unfolding with_registers with_register
    register_more on regs same i v low high = register_leaves (with_registers c regs) (exists_with c regs exists same) on i v low high

    -- writes of the registers from one on
    registers_leave : c.select ≡ 16 → (from : ℕ) (f : ℕ → ℕ) (n : ℕ) → 0 < from → from + n ≤ 54
        → after (with_state c) (writes_from image from f n) ≡ with_state (with_registers c (stored c.registers from f n))
    unfolding after writes_from stored with_registers
    registers_leave on from f zero low high = refl
    registers_leave on from f (suc n) low high =
        after_append (writes_from image from f n) _ (with_state c)
        ∙ ap (λ (u : World). leaves u (write image (0xA000 + (from + n)) (f n))) (registers_leave on from f n low (omega arith))
        ∙ register_more on (stored c.registers from f n) (stored_before c.registers from f n 0 low) (from + n) (f n) (omega arith) (omega arith)

  -- Played: the bus writes that a choice amounts to leave what the choice leaves
  pub choice_writes_lem : (light level : ℕ) (plain : Bool) (exposure : Option ℕ) → cant_exist w.state ≡ false → beyond light level ≡ false
      → after w (choice_writes image w.state.select light level plain exposure) ≡ leaves w (choose light level plain exposure)
  unfolding after choice_writes registers_chosen with_select with_register with_registers
  choice_writes_lem light level plain exposure e ok =
      let c = w.state in
      let n = steps_of exposure in
      let back : List Call = write image 0x4000 c.select ∷ [] in
      let matrix : List Call = writes_from image 6 (value_of light level plain) 48 ++ back in
      let low : List Call = write image 0xA003 (n % 256) ∷ matrix in
      let high : List Call = write image 0xA002 (n / 256) ∷ low in
      let c₁ : Controller = with_select c 16 in
      let e₁ : cant_exist c₁ ≡ false = exists_select c e 0x10 in
      let c₂ : Controller = with_register c₁ 2 (n / 256) in
      let e₂ : cant_exist c₂ ≡ false = exists_register c₁ e₁ 2 (n / 256) (λ z. omega arith) in
      let c₃ : Controller = with_register c₂ 3 (n % 256) in
      let e₃ : cant_exist c₃ ≡ false = exists_register c₂ e₂ 3 (n % 256) (λ z. omega arith) in
      let all : List ℕ = stored c₃.registers 6 (value_of light level plain) 48 in
      let c₄ : Controller = with_registers c₃ all in
      let e₄ : cant_exist c₄ ≡ false = exists_with c₃ all e₃ (stored_before c₃.registers 6 (value_of light level plain) 48 0 (omega arith)) in
      let s : c.select % 32 ≡ c.select = omega (arith, ltb-false 31 c.select (exists_parts c e).select) in
      ap (λ (u : World). after u high) (select_leaves c e 0x10)
      ∙ ap (λ (u : World). after u low) (register_leaves c₁ e₁ refl 2 (n / 256) (omega arith) (omega arith))
      ∙ ap (λ (u : World). after u matrix) (register_leaves c₂ e₂ refl 3 (n % 256) (omega arith) (omega arith))
      ∙ after_append (writes_from image 6 (value_of light level plain) 48) back (with_state c₃)
      ∙ ap (λ (u : World). after u back) (registers_leave c₃ e₃ refl 6 (value_of light level plain) 48 (omega arith) (omega arith))
      ∙ select_leaves c₄ e₄ c.select
      ∙ ap (λ (x : ℕ). with_state (with_select c₄ x)) s
      ∙ sym (choose_leaves w light level plain exposure e ∙ rw ok)
