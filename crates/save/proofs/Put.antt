-- Bytes put one part after the other: so many are put, and the others stay. Assumes nothing.
use mathlib.Core.Path.{◌≡◌, sym, ap, ap₂, ◌∙◌}
use mathlib.Core.List.{List, ◌++◌, append_assoc, append-nil}
use Prim.Native.Nat.{ℕ, ◌+◌, ◌≤◌}
use lib.ListN.{length, take, drop, length-append, drop_of_length-le}
use lib.Seq.{take_at, drop_at, drop-drop}

-- `p` stands before `at`, and from there on what stood there at first
pub record Put (o₀ p : List ℕ) (at : ℕ) (o : List ℕ) : Type 0 where
  pub long : length p ≡ at
  pub same : o ≡ p ++ drop at o₀

-- one part more
pub put_next : {o₀ p o : List ℕ} {at : ℕ} → Put o₀ p at o → (q : List ℕ) {o' : List ℕ} (to : ℕ) → at + length q ≡ to → o' ≡ take at o ++ (q ++ drop (at + length q) o) → Put o₀ (p ++ q) to o'
put_next {o₀} {p} {o} {at} r q {o'} to e f = record {
  long = length-append p q ∙ ap (λ (n : ℕ). n + length q) r.long ∙ e;
  same =
      f
      ∙ ap₂ (λ (x y : List ℕ). x ++ (q ++ y)) (ap (take at) r.same ∙ take_at p (drop at o₀) at r.long) after
      ∙ sym (append_assoc p q (drop to o₀));
}
  where
    after : drop (at + length q) o ≡ drop to o₀
    after =
        sym (drop-drop (length q) at o)
        ∙ ap (drop (length q)) (ap (drop at) r.same ∙ drop_at p (drop at o₀) at r.long)
        ∙ drop-drop (length q) at o₀
        ∙ ap (λ (n : ℕ). drop n o₀) e

-- as many as there are
pub put_all : (o q o' : List ℕ) (n : ℕ) → length o ≤ n → o' ≡ q ++ drop n o → o' ≡ q
put_all o q o' n h f = f ∙ ap (λ (l : List ℕ). q ++ l) (drop_of_length-le o {i = n} h) ∙ append-nil q
