-- Laws of ℤ by which a pixel is weighed once: a product of a sum. Assumes nothing.
use mathlib.Core.Path.{◌≡◌, sym, ap, ◌∙◌}
use Prim.Native.Nat.{ℕ, zero, suc, ◌+◌, ◌*◌}
use native.Mathlib.Omega.{arith}
use Rattle.std.proofs.lemmas.Int.{ints}
use native.Mathlib.Nat.{add-zero, add-suc, mul-zero, mul-suc}
use lib.IntN.{ℤ, pos, neg_ℤ, ◌+ℤ◌, ◌-ℤ◌, ◌*ℤ◌, +ℤ_idr, +ℤ_assoc, zero-*ℤ, suc_ℤ-*ℤ}

-- (a + b) − (c + d) = (a − c) + (b − d)
pairs : (a b c d : ℤ) → a +ℤ b -ℤ (c +ℤ d) ≡ (a -ℤ c) +ℤ (b -ℤ d)
pairs a b c d = omega (arith, ints)

module _ (p : ℤ) where
  -- (m + n)p = mp + np
  apart : (m n : ℕ) → pos (m + n) *ℤ p ≡ pos m *ℤ p +ℤ pos n *ℤ p
  apart m zero = simp (add-zero, zero-*ℤ, +ℤ_idr)
  apart m (suc n) =
      ap (λ x. pos x *ℤ p) (add-suc m n) ∙
      suc_ℤ-*ℤ (pos (m + n)) p ∙
      ap (λ x. x +ℤ p) (apart m n) ∙
      +ℤ_assoc (pos m *ℤ p) (pos n *ℤ p) p ∙
      ap (λ x. pos m *ℤ p +ℤ x) (sym (suc_ℤ-*ℤ (pos n) p))

  module _ (k : ℕ) (b : ℤ) where
    -- kqp − qb = q(kp − b)
    weighed : (q : ℕ) → pos (k * q) *ℤ p -ℤ pos q *ℤ b ≡ pos q *ℤ (pos k *ℤ p -ℤ b)
    weighed zero = simp (mul-zero, zero-*ℤ)
    weighed (suc q) =
        ap (λ x. pos x *ℤ p -ℤ pos (suc q) *ℤ b) (mul-suc k q) ∙
        (λ i. apart (k * q) k i -ℤ suc_ℤ-*ℤ (pos q) b i) ∙
        pairs (pos (k * q) *ℤ p) (pos k *ℤ p) (pos q *ℤ b) b ∙
        ap (λ x. x +ℤ (pos k *ℤ p -ℤ b)) (weighed q) ∙
        sym (suc_ℤ-*ℤ (pos q) (pos k *ℤ p -ℤ b))

    -- (m + kq)p − qb = mp + q(kp − b)
    pub weighed_more : (m q : ℕ) → pos (m + k * q) *ℤ p -ℤ pos q *ℤ b ≡ pos m *ℤ p +ℤ pos q *ℤ (pos k *ℤ p -ℤ b)
    weighed_more m q =
        ap (λ x. x -ℤ pos q *ℤ b) (apart m (k * q)) ∙
        +ℤ_assoc (pos m *ℤ p) (pos (k * q) *ℤ p) (neg_ℤ (pos q *ℤ b)) ∙
        ap (λ x. pos m *ℤ p +ℤ x) (weighed q)
