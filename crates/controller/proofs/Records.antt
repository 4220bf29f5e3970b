-- Which records can exist: what each test of the code comes to in the definition. Assumes nothing.
use Rattle.std.proofs.Common.{◌≡◌, ℕ, zero, suc, ◌%◌, ◌<◌, Bool, true, false, not, ◌&&◌, ◌||◌, eqb, ltb, leb, List, [], ◌∷◌, get_or, sym, refl, ap, ◌∙◌, arith, le-ltb, lt-ltb, eq-eqb, ne_eqb, le-leb}
use mathlib.Core.Bool.{and-false, or-false}
use borrow.Author.Tests.{lt-leb}
use Rattle.laws.proofs.Order.{split}
use Rattle.controller.specs.State.{started, left_over, wrong_capture, cant_exist}
use Rattle.controller.specs.Aside.{seen}
use Rattle.timing.specs.declared.Cycles.{Cycles}
use Rattle.timing.specs.Registers.{all_zero}
use Rattle.controller.specs.declared.Controller.{Controller}

-- one test or the other: `<` is `not ≥`
pub not_leb : (a b : ℕ) → ltb a b ≡ not (leb b a)
not_leb a b = split a b (λ h. lt-ltb a b h ∙ sym (ap not (lt-leb b a h))) (λ h. le-ltb a b h ∙ sym (ap not (le-leb b a h)))

-- an odd number, and an even one, by the remainder
pub odd_not : (n : ℕ) → n % 2 ≡ 0 → eqb (n % 2) 1 ≡ false
odd_not n h = ne_eqb (n % 2) 1 (λ e. omega arith)

pub odd_yes : (n : ℕ) → (n % 2 ≡ 0 → ⊥) → eqb (n % 2) 1 ≡ true
odd_yes n h = eq-eqb (n % 2) 1 (odd (n % 2) (omega arith) h)
  where
    odd : (r : ℕ) → r < 2 → (r ≡ 0 → ⊥) → r ≡ 1
    odd zero l h = absurd (h refl)
    odd (suc zero) l h = refl
    odd (suc (suc r)) l h = absurd (omega arith)

-- with a capture held nothing is left over, and with none no capture is wrong: what is left of the last tests
module _ (bank select first : ℕ) (held : Bool) (elapsed : Cycles) (taken : List ℕ) where
  abbrev looked : Controller
  looked = seen bank select first held elapsed taken

  pub held_only : held ≡ true → ((started (first ∷ []) && not held) || (left_over looked || wrong_capture looked)) ≡ wrong_capture (seen 0 0 0 true elapsed taken)
  unfolding left_over wrong_capture
  held_only h = simp (h, and-false)

  pub none_only : held ≡ false → (left_over looked || wrong_capture looked) ≡ left_over (seen 0 0 0 false elapsed taken)
  unfolding left_over wrong_capture
  none_only h = rw h (or-false (not (eqb elapsed.0 0) || not (all_zero taken)))

-- whether a record can exist is asked of what is looked at
pub looks_same : (c : Controller) (first : ℕ) → first ≡ get_or c.registers 0 0 → cant_exist (seen c.bank c.select first c.held c.elapsed c.taken) ≡ cant_exist c
unfolding cant_exist left_over wrong_capture
looks_same c first e = rw e
