-- A test at each of the first n places: its laws. Assumes nothing.
use mathlib.Core.Path.{◌≡◌, refl, sym, ap, ◌∙◌}
use mathlib.Core.Bool.{Bool, true, false, ◌&&◌, and-false}
use Prim.Native.Nat.{ℕ, zero, suc, ◌+◌, ◌<◌, ◌≤◌}
use native.Mathlib.Numerals.{add-one}
use native.Mathlib.Omega.{arith}
use Rattle.laws.proofs.Bools.{both_left, both_right}
use Rattle.laws.proofs.Order.{split}
use lib.Dec.{eqb}
use lib.ListN.{length, get_or, take}
use lib.Pointwise.{pointwise}
use mathlib.Core.List.{List}
use borrow.Author.Tests.{eqb-true, eq-eqb}
use Rattle.std.proofs.lemmas.Bool.Decides.{Decides-eqb}
use Rattle.std.proofs.lemmas.Slice.Eq.{starts_is}
use Rattle.std.proofs.lemmas.List.Prefix.{front_reads, front_from_reads}
use Rattle.placing.specs.Placing.{each}

module _ (test : ℕ → Bool) where
  pub each_none : each test 0 ≡ true
  unfolding each
  each_none = refl

  -- one place more
  pub each_more : (n : ℕ) → each test n ≡ true → test n ≡ true → each test (n + 1) ≡ true
  unfolding each
  each_more n e t = simp (add-one, e, t)

  -- whether it holds there
  pub each_next : (n : ℕ) → each test (n + 1) ≡ (each test n && test n)
  unfolding each
  each_next n = simp add-one

  -- where it fails at one place
  pub each_fails : (n k : ℕ) → k < n → test k ≡ false → each test n ≡ false
  unfolding each
  each_fails zero k h e = absurd (omega arith)
  each_fails (suc n) k h e =
      split k n
      (λ before. simp (each_fails n k before e))
      (λ after. let here : n ≡ k = omega arith in simp (ap test here ∙ e, and-false))

  -- it holds at each exactly when it holds at all
  pub each_at : (n : ℕ) → each test n ≡ true → (k : ℕ) → k < n → test k ≡ true
  unfolding each
  each_at zero e k h = absurd (omega arith)
  each_at (suc n) e k h =
      split k n
      (λ before. each_at n (both_left (each test n) _ e) k before)
      (λ after. let here : k ≡ n = omega arith in ap test here ∙ both_right (each test n) _ e)

  pub each_all : (n : ℕ) → ((k : ℕ) → k < n → test k ≡ true) → each test n ≡ true
  unfolding each
  each_all zero f = refl
  each_all (suc n) f = simp (each_all n (λ k h. f k (omega arith)), f n (omega arith))

-- two tests that hold together are one
same_test : (a b : Bool) → (a ≡ true → b ≡ true) → (b ≡ true → a ≡ true) → a ≡ b
same_test true b f g = sym (f refl)
same_test false true f g = g refl
same_test false false f g = refl

-- what `starts_with` tells, byte by byte
pub starts : (file head : List ℕ) (r : Bool) → length head ≤ length file → r ≡ pointwise eqb head (take (length head) file) → r ≡ each (λ k. eqb (get_or file k 0) (get_or head k 0)) (length head)
starts file head r fits e =
    let s = starts_is Decides-eqb file head r e in
    same_test r _
    (λ y. each_all _ (length head) (λ k h. eq-eqb _ _ (front_reads 0 file head _ (s.0 y) k h)))
    (λ y. s.1 _ (front_from_reads 0 file head fits (λ k h. eqb-true _ _ (each_at _ (length head) y k h))))
