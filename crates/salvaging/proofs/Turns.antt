-- Lines that are some sequence followed by itself: laws of `same_by`, `doubled` and `unrepeated`. Assumes nothing.
use mathlib.Core.Path.{◌≡◌, refl, sym, ap, ◌∙◌}
use mathlib.Core.Logic.{◌↔◌}
use mathlib.Core.Bool.{Bool, true, false, ◌&&◌, and-false, false≢true}
use mathlib.Core.List.{List, [], ◌∷◌, ◌++◌}
use Prim.Native.Nat.{ℕ, zero, suc, ◌+◌, ◌-◌, ◌/◌, ◌%◌, ◌<◌, ◌≤◌}
use native.Mathlib.Omega.{arith}
use lib.Dec.{eqb}
use lib.Pointwise.{pointwise}
use lib.ListN.{length, take, drop, length-take, length-drop, length-append, take-append-drop}
use lib.Seq.{take-add, take_at, drop_at, take-take, take-length, length-take-le}
use borrow.Author.Tests.{eq-eqb, eqb-true}
use Rattle.std.specs.List.{list_all, zip}
use Rattle.laws.specs.Iter.{iter}
use Rattle.laws.proofs.Iter.{iter_add, iter_cons, iter_fixed}
use Rattle.laws.proofs.Bools.{either, not_both, both_left, both_right}
use Rattle.salvaging.specs.Kept.{accepted_of, starts_reset, same_by, same_line, same_lines, earlier, later, doubled, halved, unrepeated, salvaged}

-- ---- the same, element by element

pub same_unlike : {A : Type 0} (f : A → A → Bool) (a b : List A) → (length a ≡ length b → ⊥) → same_by f a b ≡ false
unfolding same_by
same_unlike f [] [] h = absurd (h refl)
same_unlike f [] (y ∷ b) h = refl
same_unlike f (x ∷ a) [] h = refl
same_unlike f (x ∷ a) (y ∷ b) h = ap (λ t. f x y && t) (same_unlike f a b (λ e. h (ap suc e))) ∙ and-false (f x y)

-- as std compares two slices
pub same_pointwise : {A : Type 0} (f : A → A → Bool) (a b : List A) → pointwise f a b ≡ same_by f a b
unfolding same_by
same_pointwise f [] [] = refl
same_pointwise f [] (y ∷ b) = refl
same_pointwise f (x ∷ a) [] = refl
same_pointwise f (x ∷ a) (y ∷ b) = ap (λ t. f x y && t) (same_pointwise f a b)

-- all pairs of the first n lines are the same where those lines are
pub all_same : (n : ℕ) (P Q : List (List ℕ)) → n ≤ length P → n ≤ length Q → list_all (λ p. pointwise eqb p.0 p.1) (zip (take n P) Q) ≡ same_lines (take n P) (take n Q)
unfolding same_by
all_same zero P Q h k = refl
all_same (suc n) [] Q h k = absurd (omega arith)
all_same (suc n) (x ∷ P) [] h k = absurd (omega arith)
all_same (suc n) (x ∷ P) (y ∷ Q) h k = (λ i. same_pointwise eqb x y i && all_same n P Q (omega arith) (omega arith) i)

-- ---- the first half and the second

-- lines that start with reset do so however many are looked at
pub starts_first : (n : ℕ) (lines : List (List ℕ)) → 0 < n → starts_reset (take n lines) ≡ starts_reset lines
unfolding starts_reset
starts_first zero lines h = absurd (omega arith)
starts_first (suc n) [] h = refl
starts_first (suc n) (line ∷ lines) h = refl

-- two halves of h lines each
module _ (lines : List (List ℕ)) (h : ℕ) (enough : h + h ≤ length lines) where
  one : List (List ℕ)
  one = take h lines

  two : List (List ℕ)
  two = take h (drop h lines)

  abbrev both : List (List ℕ)
  both = take (h + h) lines

  apart : both ≡ one ++ two
  unfolding one two
  apart = take-add h h lines

  long : length one ≡ h
  unfolding one
  long = length-take-le h lines (omega arith)

  half : length both / 2 ≡ h
  half = let n : length both ≡ h + h = length-take-le (h + h) lines enough in omega arith

  first : earlier both ≡ one
  first = ap (λ k. take k both) half ∙ ap (take h) apart ∙ take_at one two h long

  second : later both ≡ two
  second = ap (λ k. drop k both) half ∙ ap (drop h) apart ∙ drop_at one two h long

  pub halves : doubled (take (h + h) lines) ≡ (starts_reset (take h lines) && (starts_reset (take h (drop h lines)) && same_lines (take h lines) (take h (drop h lines))))
  unfolding doubled one two
  halves = rw (first, second)

-- an even number of lines, with the places where its halves begin
module _ (lines : List (List ℕ)) (n : ℕ) (enough : n ≤ length lines) (some : n / 2 ≡ 0 → ⊥) (even : n % 2 ≡ 0) where
  abbrev h : ℕ
  h = n / 2

  tests : doubled (take n lines) ≡ (starts_reset lines && (starts_reset (drop h lines) && same_lines (take h lines) (take h (drop h lines))))
  tests =
      let e : n ≡ h + h = omega arith in
      ap (λ k. doubled (take k lines)) e
      ∙ halves lines h (omega arith)
      ∙ ap (λ t. t && (starts_reset (take h (drop h lines)) && same_lines (take h lines) (take h (drop h lines)))) (starts_first h lines (omega arith))
      ∙ ap (λ t. starts_reset lines && (t && same_lines (take h lines) (take h (drop h lines)))) (starts_first h (drop h lines) (omega arith))

  pub first_not : starts_reset lines ≡ false → doubled (take n lines) ≡ false
  first_not f = tests ∙ ap (λ t. t && (starts_reset (drop h lines) && same_lines (take h lines) (take h (drop h lines)))) f

  pub second_not : {rest : List (List ℕ)} → rest ≡ drop (n / 2) lines → starts_reset rest ≡ false → doubled (take n lines) ≡ false
  second_not e f =
      tests
      ∙ ap (λ t. starts_reset lines && (t && same_lines (take h lines) (take h (drop h lines)))) (ap starts_reset (sym e) ∙ f)
      ∙ and-false (starts_reset lines)

  pub both_start : {rest : List (List ℕ)} → rest ≡ drop (n / 2) lines → starts_reset lines ≡ true → starts_reset rest ≡ true
      → doubled (take n lines) ≡ same_lines (take (n / 2) lines) (take (n / 2) rest)
  both_start e f g =
      tests
      ∙ ap (λ t. t && (starts_reset (drop h lines) && same_lines (take h lines) (take h (drop h lines)))) f
      ∙ ap (λ t. t && same_lines (take h lines) (take h (drop h lines))) (ap starts_reset (sym e) ∙ g)
      ∙ ap (λ r. same_lines (take h lines) (take h r)) (sym e)

-- fewer than two lines are no sequence followed by itself that starts with reset
pub few : (lines : List (List ℕ)) → length lines / 2 ≡ 0 → doubled lines ≡ false
unfolding doubled starts_reset
few lines e = ap (λ k. starts_reset (take k lines) && (starts_reset (drop k lines) && same_lines (take k lines) (drop k lines))) e

-- an odd number of lines is no sequence followed by itself
pub odd : (lines : List (List ℕ)) → (length lines % 2 ≡ 0 → ⊥) → doubled lines ≡ false
unfolding doubled
odd lines h =
    rw (same_unlike same_line (earlier lines) (later lines) (λ e. h (omega (arith, e, length-take (length lines / 2) lines, length-drop (length lines / 2) lines))), and-false (starts_reset (later lines)), and-false (starts_reset (earlier lines)))

-- and neither are none
pub empty : doubled [] ≡ false
unfolding doubled starts_reset
empty = refl

-- ---- until none is left

pub halves_kept : (lines : List (List ℕ)) → doubled lines ≡ true → halved lines ≡ earlier lines
unfolding halved
halves_kept lines e = simp e

pub whole_kept : (lines : List (List ℕ)) → doubled lines ≡ false → halved lines ≡ lines
unfolding halved
whole_kept lines e = simp e

-- as often as there are lines is often enough
enough_turns : (n : ℕ) (lines : List (List ℕ)) → length lines ≤ n → doubled (iter halved n lines) ≡ false
unfolding iter
enough_turns zero [] h = empty
enough_turns zero (line ∷ lines) h = absurd (omega arith)
enough_turns (suc n) lines h =
    either (doubled lines)
    (λ t.
    ap doubled (iter_cons halved n lines ∙ ap (iter halved n) (halves_kept lines t))
    ∙ enough_turns n (earlier lines) (omega (arith, length-take (length lines / 2) lines)))
    (λ f. ap doubled (iter_fixed halved lines (whole_kept lines f) (suc n)) ∙ f)

-- no repetition is left
pub none_left : (lines : List (List ℕ)) → doubled (unrepeated lines) ≡ false
unfolding unrepeated
none_left lines = enough_turns (length lines) lines (omega arith)

-- lines with no repetition stay
pub stays : (lines : List (List ℕ)) → doubled lines ≡ false → unrepeated lines ≡ lines
unfolding unrepeated
stays lines f = iter_fixed halved lines (whole_kept lines f) (length lines)

-- more turns than lines change nothing more
more_turns : (n : ℕ) (lines : List (List ℕ)) → length lines ≤ n → iter halved n lines ≡ unrepeated lines
unfolding unrepeated
more_turns n lines h =
    let d : n ≡ length lines + (n - length lines) = omega arith in
    ap (λ k. iter halved k lines) d
    ∙ iter_add halved (length lines) (n - length lines) lines
    ∙ iter_fixed halved (iter halved (length lines) lines) (whole_kept _ (enough_turns (length lines) lines (omega arith))) (n - length lines)

-- of lines with a repetition, what is kept is what is kept of one half
pub again : (lines : List (List ℕ)) → doubled lines ≡ true → unrepeated lines ≡ unrepeated (earlier lines)
unfolding unrepeated
again [] t = not_both t empty
again (line ∷ lines) t =
    iter_cons halved (length lines) (line ∷ lines)
    ∙ ap (iter halved (length lines)) (halves_kept (line ∷ lines) t)
    ∙ more_turns (length lines) (earlier (line ∷ lines)) (omega (arith, length-take (length (line ∷ lines) / 2) (line ∷ lines)))

-- ---- the first n of some lines

pub some_doubled : (n : ℕ) (lines : List (List ℕ)) → doubled (take n lines) ≡ true → 0 < n
some_doubled zero lines t = not_both t empty
some_doubled (suc n) lines t = omega arith

pub first_half : (n : ℕ) (lines : List (List ℕ)) → n ≤ length lines → earlier (take n lines) ≡ take (n / 2) lines
first_half n lines h =
    ap (λ k. take (k / 2) (take n lines)) (length-take-le n lines h) ∙ take-take (n / 2) n lines (omega arith)

-- all the accepted lines
pub all_counted : (lines : List (List ℕ)) (n : ℕ) → n ≡ length (accepted_of lines) → unrepeated (take n (accepted_of lines)) ≡ salvaged lines
unfolding salvaged
all_counted lines n e = ap (λ k. unrepeated (take k (accepted_of lines))) e ∙ ap unrepeated (take-length (accepted_of lines))

-- ---- some sequence followed by itself

same_is : {A : Type 0} (f : A → A → Bool) → ((x y : A) → f x y ≡ true → x ≡ y) → (a b : List A) → same_by f a b ≡ true → a ≡ b
unfolding same_by
same_is f is [] [] t = refl
same_is f is [] (y ∷ b) t = absurd (false≢true t)
same_is f is (x ∷ a) [] t = absurd (false≢true t)
same_is f is (x ∷ a) (y ∷ b) t =
    (λ i. is x y (both_left (f x y) (same_by f a b) t) i ∷ same_is f is a b (both_right (f x y) (same_by f a b) t) i)

same_self : {A : Type 0} (f : A → A → Bool) → ((x : A) → f x x ≡ true) → (a : List A) → same_by f a a ≡ true
unfolding same_by
same_self f is [] = refl
same_self f is (x ∷ a) = rw (is x) (same_self f is a)

-- a sequence that starts with reset, twice
pub record Twice (lines : List (List ℕ)) : Type 0 where
  pub half : List (List ℕ)
  pub twice : lines ≡ half ++ half
  pub starts : starts_reset half ≡ true

module _ (lines : List (List ℕ)) where
  is_twice : doubled lines ≡ true → Twice lines
  unfolding doubled
  is_twice t =
      let first = both_left (starts_reset (earlier lines)) _ t in
      let rest = both_right (starts_reset (earlier lines)) _ t in
      let same = same_is same_line (same_is eqb eqb-true) (earlier lines) (later lines) (both_right (starts_reset (later lines)) _ rest) in
      record {
        half = earlier lines;
        twice = sym (take-append-drop (length lines / 2) lines) ∙ ap (λ l. earlier lines ++ l) (sym same);
        starts = first;
      }

  of_twice : Twice lines → doubled lines ≡ true
  unfolding doubled
  of_twice r =
      let h = r.half in
      let n : length h ≡ length lines / 2 = omega (arith, ap length r.twice ∙ length-append h h) in
      let one : earlier lines ≡ h = ap (take (length lines / 2)) r.twice ∙ take_at h h (length lines / 2) n in
      let two : later lines ≡ h = ap (drop (length lines / 2)) r.twice ∙ drop_at h h (length lines / 2) n in
      rw (one, two, r.starts) (same_self same_line (same_self eqb (λ x. eq-eqb x x refl)) h)

  -- lines are taken for a repetition exactly when they are some sequence followed by itself that starts with reset
  pub twice_exactly : (doubled lines ≡ true) ↔ Twice lines
  twice_exactly = (is_twice, of_twice)
