-- What a choice leaves: a state that can exist, with its 54 registers, in which no element is reversed. Assumes nothing.
use mathlib.Core.Path.{◌≡◌, refl, sym, ◌∙◌}
use mathlib.Core.Bool.{Bool, false}
use mathlib.Core.List.{List}
use Prim.Native.Nat.{ℕ, zero, suc, ◌+◌, ◌*◌, ◌/◌, ◌%◌, ◌<◌}
use native.Mathlib.Omega.{arith}
use lib.ListN.{length, get_or, set, length-set}
use lib.Seq.{get_or-set_other}
use borrow.Author.Tests.{le-ltb}
use Rattle.controller.specs.declared.Controller.{Controller}
use Rattle.controller.specs.State.{left_over, wrong_capture, cant_exist}
use Rattle.controller.specs.Table.{lowest}
use Rattle.matrix.specs.Matrix.{reversed, first_in}
use Rattle.controller.specs.Inspect.{inspect_rows, inspect_means}
use Rattle.controller.proofs.Exists.{exists_parts, exists_whole}
use Rattle.std.specs.declared.option.Option.{Option}
use Rattle.desk.specs.Choice.{steps_of, value_of, timed, registers_chosen, with_registers, choose_rows, choose_means}
use Rattle.desk.proofs.Registers.{stored_length, stored_before, stored_at}
use Rattle.desk.proofs.Choices.{choose_refuses, choose_fits}
use Rattle.desk.proofs.Rising.{value_rises}

timed_length : (regs : List ℕ) (n : ℕ) → length (timed regs n) ≡ length regs
timed_length regs n = length-set (set regs 2 (n / 256)) 3 (n % 256) ∙ length-set regs 2 (n / 256)

-- a state whose register 0 stays still can exist
pub exists_with : (c : Controller) (regs : List ℕ) → cant_exist c ≡ false → get_or regs 0 0 ≡ get_or c.registers 0 0 → cant_exist (with_registers c regs) ≡ false
unfolding with_registers left_over wrong_capture
exists_with c regs e f =
    let p = exists_parts c e in
    exists_whole _ (record { bank = p.bank; select = p.select; first = rw f p.first; holds = rw f p.holds; nothing = p.nothing; capture = p.capture })

module _ (light level : ℕ) (plain : Bool) (exposure : Option ℕ) where
  -- as many registers as before
  pub chosen_length : (regs : List ℕ) → length (registers_chosen regs light level plain exposure) ≡ length regs
  unfolding registers_chosen
  chosen_length regs = stored_length (timed regs (steps_of exposure)) 6 (value_of light level plain) 48 ∙ timed_length regs (steps_of exposure)

  -- register 0 stays
  pub chosen_first : (regs : List ℕ) → get_or (registers_chosen regs light level plain exposure) 0 0 ≡ get_or regs 0 0
  unfolding registers_chosen
  chosen_first regs =
      stored_before (timed regs (steps_of exposure)) 6 (value_of light level plain) 48 0 (omega arith)
      ∙ get_or-set_other (set regs 2 (steps_of exposure / 256)) 3 0 (steps_of exposure % 256) 0 (λ z. omega arith)
      ∙ get_or-set_other regs 2 0 (steps_of exposure / 256) 0 (λ z. omega arith)

  pub chosen_exists : (c : Controller) → cant_exist c ≡ false → cant_exist (with_registers c (registers_chosen c.registers light level plain exposure)) ≡ false
  chosen_exists c e = exists_with c _ e (chosen_first c.registers)

  module _ (regs : List ℕ) (wide : length regs ≡ 54) where
    abbrev after : List ℕ
    after = registers_chosen regs light level plain exposure

    -- matrix register k
    value_at_lem : (k : ℕ) → k < 48 → get_or after (6 + k) 0 ≡ value_of light level plain k
    unfolding registers_chosen
    value_at_lem k h = stored_at (timed regs (steps_of exposure)) 6 (value_of light level plain) 48 k (omega (arith, timed_length regs (steps_of exposure))) h

    -- no element is reversed
    level_at : (e : ℕ) → e < 16 → reversed after (e / 4) (e % 4) ≡ false
    unfolding reversed
    level_at e h =
        let r = value_rises light level plain e in
        let p : 6 + 3 * (4 * (e / 4) + e % 4) ≡ 6 + 3 * e = omega arith in
        let q : 6 + 3 * e + 1 ≡ 6 + (3 * e + 1) = omega arith in
        let s : 6 + 3 * e + 2 ≡ 6 + (3 * e + 2) = omega arith in
        rw (p, q, s, value_at_lem (3 * e) (omega arith), value_at_lem (3 * e + 1) (omega arith), value_at_lem (3 * e + 2) (omega arith), le-ltb _ _ r.0, le-ltb _ _ r.1)

    first_none : (k n : ℕ) → k + n ≡ 16 → first_in after k n ≡ 16
    unfolding first_in
    first_none k zero e = omega arith
    first_none k (suc n) e = simp (level_at k (omega arith)) (first_none (suc k) n (omega arith))

  -- Level: after any choice that is not refused, an inspection finds no reversed element
  pub level_after : (c : Controller) → length c.registers ≡ 54 → (choose_means c light level plain exposure).number ≡ 0
      → inspect_means (choose_means c light level plain exposure).state ≡ record { number = 0; found = false; row = 0; column = 0 }
  unfolding inspect_means inspect_rows lowest with_registers
  level_after c wide e =
      let r = choose_refuses c light level plain exposure in
      let none : lowest (choose_rows c light level) ≡ 0 = sym r.numbered ∙ e in
      let exists = chosen_exists c (choose_fits c light level none).exists in
      rw (r.does none, exists, first_none c.registers wide 0 16 refl)
