-- Texts put into a buffer one after another, and the digits of a number: laws of `Put` and `decimal_in`. Assumes nothing.
use mathlib.Core.Path.{◌≡◌, refl, sym, ap, subst, ◌∙◌}
use mathlib.Core.List.{List, [], ◌∷◌, ◌++◌, append_assoc}
use Prim.Native.Nat.{ℕ, zero, suc, ◌+◌, ◌-◌, ◌*◌, ◌/◌, ◌%◌, ◌<◌, ◌≤◌}
use native.Mathlib.Numerals.{add-one}
use native.Mathlib.Omega.{arith}
use lib.ListN.{length, set, length-append}
use borrow.Author.Tests.{lt-ltb, le-ltb}
use Rattle.laws.proofs.Order.{split}
use Rattle.lines.specs.Hex.{hex_text, placed}
use Rattle.lines.proofs.Placed.{placed_last, placed_next, length_placed}
use Rattle.recording.specs.Record.{row_hex}
use Rattle.recording.proofs.Written.{length_row}
use Rattle.wording.specs.Words.{decimal_in, decimal}
use Rattle.wording.specs.Keys.{end_word, cycles_word, plate_word}
use Rattle.wording.specs.Events.{opening, end_text}
use Rattle.wording.specs.Aside.{Put, count_in, digits_in, end_begun}

module _ {out t o : List ℕ} {at m a : ℕ} (p : Put out at t m o a) where
  -- more bytes at most
  pub put_within : (most : ℕ) → m ≤ most → Put out at t most o a
  put_within most h = record { text = p.text; end = p.end; few = omega (arith, p.few) }

  -- another name of the text
  pub put_named : {u : List ℕ} → t ≡ u → Put out at u m o a
  put_named e = subst (λ w. Put out at w m o a) e p

  -- one text after another is both texts
  pub put_then : {u o' : List ℕ} {n a' : ℕ} → (a + n ≤ length o → Put o a u n o' a') → at + (m + n) ≤ length out → Put out at (t ++ u) (m + n) o' a'
  put_then {u} rest room =
      let e : at + length t ≤ length out = omega (arith, p.end, p.few) in
      let same : length o ≡ length out = ap length p.text ∙ length_placed out at t (omega arith) e in
      let q = rest (omega (arith, p.few)) in
      record {
        text = q.text ∙ ap (λ b. placed b a u) p.text ∙ placed_next out at t (omega arith) u a p.end;
        end = omega (arith, p.end, q.end, length-append t u);
        few = omega (arith, p.few, q.few);
      }

-- a text after one that has two parts
pub put_after : {out : List ℕ} (t s : List ℕ) {u o o' : List ℕ} {at m n a a' : ℕ}
    → Put out at (t ++ s) m o a → (a + n ≤ length o → Put o a u n o' a') → at + (m + n) ≤ length out → Put out at (t ++ (s ++ u)) (m + n) o' a'
put_after t s {u} p rest room = put_named (put_then p rest room) (append_assoc t s u)

-- ---- the digits of a number

-- of none at most there is none
pub count_none : (n v : ℕ) → n ≡ 0 → count_in n v ≡ 0
unfolding count_in
count_none zero v e = refl
count_none (suc n) v e = absurd (omega arith)

-- one that is below ten has one
pub count_last : (n v : ℕ) → 0 < n → v < 10 → count_in n v ≡ 1
unfolding count_in
count_last zero v some h = absurd (omega arith)
count_last (suc n) v some h = simp (lt-ltb v 10 h)

same : (n : ℕ) → suc n - 1 ≡ n
same n = omega arith

-- any other one more than without its last
pub count_next : (n v : ℕ) → 0 < n → 10 ≤ v → count_in n v ≡ count_in (n - 1) (v / 10) + 1
unfolding count_in
count_next zero v some h = absurd (omega arith)
count_next (suc n) v some h = simp (le-ltb v 10 h) (ap (λ k. count_in k (v / 10) + 1) (sym (same n)))

-- a number is so many of its digits as it has
digits_all : (n v : ℕ) → decimal_in n v ≡ digits_in (count_in n v) v
unfolding decimal_in
digits_all zero v = unfold count_in digits_in in refl
digits_all (suc n) v =
    split v 10
    (λ h.
    let e : count_in (suc n) v ≡ 1 = count_last (suc n) v (omega arith) h in
    let m : v % 10 ≡ v = omega (arith, h) in
    let d : digits_in 1 v ≡ (0x30 + v % 10) ∷ [] = unfold digits_in in refl in
    simp (lt-ltb v 10 h) (sym (ap (λ k. digits_in k v) e ∙ d ∙ ap (λ k. (0x30 + k) ∷ []) m)))
    (λ h.
    let e : count_in (suc n) v ≡ suc (count_in n (v / 10)) = count_next (suc n) v (omega arith) h ∙ ap (λ k. count_in k (v / 10) + 1) (same n) ∙ add-one (count_in n (v / 10)) in
    let d : digits_in (suc (count_in n (v / 10))) v ≡ digits_in (count_in n (v / 10)) (v / 10) ++ ((0x30 + v % 10) ∷ []) = unfold digits_in in refl in
    simp (le-ltb v 10 h) (ap (λ t. t ++ ((0x30 + v % 10) ∷ [])) (digits_all n (v / 10)) ∙ sym (ap (λ k. digits_in k v) e ∙ d)))

length_digits : (n v : ℕ) → length (digits_in n v) ≡ n
unfolding digits_in
length_digits zero v = refl
length_digits (suc n) v = omega (arith, length-append (digits_in n (v / 10)) ((0x30 + v % 10) ∷ []), length_digits n (v / 10))

-- the last digit first
pub placed_decimal : (out : List ℕ) (at n v : ℕ) → at + n < length out
    → placed out at (digits_in (n + 1) v) ≡ placed (set out (at + n) (0x30 + v % 10)) at (digits_in n (v / 10))
unfolding digits_in
placed_decimal out at n v h =
    ap (λ k. placed out at (digits_in k v)) (add-one n)
    ∙ placed_last out at (digits_in n (v / 10)) (0x30 + v % 10) (rw length_digits h)
    ∙ ap (λ k. placed (set out (at + k) (0x30 + v % 10)) at (digits_in n (v / 10))) (length_digits n (v / 10))

-- a number put
pub put_decimal_lem : (out : List ℕ) (at n v k : ℕ) {o : List ℕ} → k ≡ count_in n v → k ≤ n → o ≡ placed out at (digits_in k v) → Put out at (decimal_in n v) n o (at + k)
put_decimal_lem out at n v k e few p =
    let d : digits_in k v ≡ decimal_in n v = ap (λ j. digits_in j v) e ∙ sym (digits_all n v) in
    record { text = p ∙ ap (placed out at) d; end = ap (λ j. at + j) (sym (length_digits k v) ∙ ap length d); few = omega arith }

-- bytes, two digits each
pub put_row_lem : (out : List ℕ) (at : ℕ) (bytes : List ℕ) {o : List ℕ} (n : ℕ) → 2 * length bytes ≡ n → o ≡ placed out at (row_hex bytes) → Put out at (row_hex bytes) n o (at + n)
put_row_lem out at bytes n long e = record { text = e; end = ap (λ k. at + k) (sym (length_row bytes ∙ long)); few = omega arith }

-- seven texts and one more
eighth : (a b c d e f g v : List ℕ) → (a ++ (b ++ (c ++ (d ++ (e ++ (f ++ g)))))) ++ v ≡ a ++ (b ++ (c ++ (d ++ (e ++ (f ++ (g ++ v))))))
eighth a b c d e f g v = simp append_assoc

-- an end is what comes before its verdict, and that
pub end_joined : (n serial cycles plate : ℕ) (verdict : List ℕ) → end_begun n serial cycles plate ++ verdict ≡ end_text n serial cycles plate verdict
end_joined n serial cycles plate verdict = eighth (opening n) end_word (decimal serial) cycles_word (decimal cycles) plate_word (hex_text 8 plate) verdict
