-- Stretches of RAM that changed, as the code seeks them: laws of `seek` and `reach`. Assumes nothing.
use mathlib.Core.Path.{◌≡◌, refl, sym, ap, ◌∙◌}
use mathlib.Core.Bool.{true, false}
use mathlib.Core.List.{List, []}
use Prim.Native.Nat.{ℕ, zero, suc, ◌+◌, ◌-◌, ◌%◌, ◌<◌, ◌≤◌}
use native.Mathlib.Numerals.{add-one}
use native.Mathlib.Omega.{arith}
use lib.Dec.{eqb}
use lib.ListN.{length}
use borrow.Author.Tests.{eq-eqb, ne_eqb}
use Rattle.laws.proofs.Pick.{pick_ind}
use Rattle.lines.proofs.Placed.{placed_none}
use Rattle.wording.specs.Aside.{Put}
use Rattle.changes.specs.Changes.{differs, seek, reach, begins, ends}

module _ (first ram : List ℕ) where
  -- no place is left
  pub seek_none : (n p : ℕ) → n ≡ 0 → seek first ram n p ≡ p
  unfolding seek
  seek_none zero p e = refl
  seek_none (suc n) p e = absurd (omega arith)

  -- the place differs
  pub seek_here : (n p : ℕ) → 0 < n → differs first ram p ≡ true → seek first ram n p ≡ p
  unfolding seek
  seek_here zero p h d = absurd (omega arith)
  seek_here (suc n) p h d = simp d

  -- it does not, and is passed
  pub seek_past : (n m p : ℕ) → n ≡ m + 1 → differs first ram p ≡ false → seek first ram n p ≡ seek first ram m (p + 1)
  unfolding seek
  seek_past n m p e d = ap (λ k. seek first ram k p) (e ∙ add-one m) ∙ simp d

  pub seek_to : (n p : ℕ) → seek first ram n p ≤ p + n
  unfolding seek
  seek_to zero p = omega arith
  seek_to (suc n) p = pick_ind (λ r. r ≤ p + suc n) (differs first ram p) (λ _. omega arith) (λ _. omega (arith, seek_to n (p + 1)))

  -- what is found differs
  pub seek_found : (n p : ℕ) → seek first ram n p < p + n → differs first ram (seek first ram n p) ≡ true
  unfolding seek
  seek_found zero p h = absurd (omega arith)
  seek_found (suc n) p h =
      pick_ind (λ r. r < p + suc n → differs first ram r ≡ true) (differs first ram p) (λ d _. d) (λ _ l. seek_found n (p + 1) (omega arith)) h

  pub reach_none : (n p : ℕ) → n ≡ 0 → reach first ram n p ≡ p
  unfolding reach
  reach_none zero p e = refl
  reach_none (suc n) p e = absurd (omega arith)

  -- a byte that does not differ ends a stretch
  pub reach_here : (n p : ℕ) → differs first ram p ≡ false → reach first ram n p ≡ p
  unfolding reach
  reach_here zero p d = refl
  reach_here (suc n) p d = simp d

  -- so does the end of a bank
  pub reach_bank : (n p : ℕ) → 0 < n → differs first ram p ≡ true → (p + 1) % 8192 ≡ 0 → reach first ram n p ≡ p + 1
  unfolding reach
  reach_bank zero p h d b = absurd (omega arith)
  reach_bank (suc n) p h d b = simp (d, eq-eqb ((p + 1) % 8192) 0 b)

  pub reach_past : (n m p : ℕ) → n ≡ m + 1 → differs first ram p ≡ true → ((p + 1) % 8192 ≡ 0 → ⊥) → reach first ram n p ≡ reach first ram m (p + 1)
  unfolding reach
  reach_past n m p e d b = ap (λ k. reach first ram k p) (e ∙ add-one m) ∙ simp (d, ne_eqb ((p + 1) % 8192) 0 b)

  pub reach_to : (n p : ℕ) → (p ≤ reach first ram n p) × (reach first ram n p ≤ p + n)
  unfolding reach
  reach_to zero p = (omega arith, omega arith)
  reach_to (suc n) p =
      let r = reach_to n (p + 1) in
      pick_ind (λ r. (p ≤ r) × (r ≤ p + suc n)) (differs first ram p)
      (λ _. pick_ind (λ r. (p ≤ r) × (r ≤ p + suc n)) (eqb ((p + 1) % 8192) 0) (λ _. (omega arith, omega arith)) (λ _. (omega arith, omega arith)))
      (λ _. (omega arith, omega arith))

  -- a stretch is not empty
  pub reach_on : (n p : ℕ) → 0 < n → differs first ram p ≡ true → p < reach first ram n p
  unfolding reach
  reach_on zero p h d = absurd (omega arith)
  reach_on (suc n) p h d =
      let r = reach_to n (p + 1) in
      simp d (pick_ind (λ r. p < r) (eqb ((p + 1) % 8192) 0) (λ _. omega arith) (λ _. omega arith))

  -- a stretch begins and ends in the RAM
  pub begins_within : (from : ℕ) → from ≤ length ram → begins first ram from ≤ length ram
  begins_within from h = omega (arith, seek_to (length ram - from) from)

  pub ends_within : (from : ℕ) → from ≤ length ram → ends first ram from ≤ length ram
  ends_within from h =
      let b = begins first ram from in
      omega (arith, begins_within from h, (reach_to (length ram - b) b).1)

  pub stretch_some : (from : ℕ) → from ≤ length ram → begins first ram from < length ram → begins first ram from < ends first ram from
  stretch_some from h l =
      let b = begins first ram from in
      reach_on (length ram - b) b (omega arith) (seek_found (length ram - from) from (omega arith))

-- no text
pub put_nothing : (out : List ℕ) → Put out 0 [] 256 out 0
put_nothing out = record { text = sym (placed_none out 0); end = refl; few = omega arith }
