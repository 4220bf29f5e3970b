-- A text put into a buffer, and the digits of a number: laws of `placed`, `hex_text` and `printed`. Assumes nothing.
use Rattle.std.proofs.Common.{◌≡◌, ℕ, zero, suc, ◌+◌, ◌/◌, ◌%◌, ◌<◌, ◌≤◌, List, [], ◌∷◌, ◌++◌, length, get_or, take, drop, set, sym, refl, ap, ◌∙◌, append_assoc, add-zero, add_assoc, add-one, arith, length-append, length-drop, length-set, take-append-drop, length-take-le, drop-cons, take-suc, get_or-set_same, drop-drop, take_at, drop-set-lt}
use lib.Seq.{take-set-le, drop-append-add}
use Rattle.lines.specs.Hex.{digit_byte, hex_text, printed, placed}

-- no text changes nothing
pub placed_none : (out : List ℕ) (at : ℕ) → placed out at [] ≡ out
unfolding placed
placed_none out at = simp add-zero (take-append-drop at out)

-- what stands from a store on
drop_set : (out : List ℕ) (k x : ℕ) → k < length out → drop k (set out k x) ≡ x ∷ drop (suc k) out
drop_set out k x h =
    drop-cons (set out k x) k 0 (simp length-set h)
    ∙ ap (λ y. y ∷ drop (suc k) (set out k x)) (get_or-set_same out k x 0 h)
    ∙ ap (λ r. x ∷ r) (drop-set-lt (suc k) out k x (omega arith))

-- the last byte of a text may be stored first
pub placed_last : (out : List ℕ) (at : ℕ) (t : List ℕ) (x : ℕ) → at + length t < length out
    → placed out at (t ++ (x ∷ [])) ≡ placed (set out (at + length t) x) at t
unfolding placed
placed_last out at t x h =
    let k = at + length t in
    let e : at + length (t ++ (x ∷ [])) ≡ suc k = omega (arith, length-append t (x ∷ [])) in
    ap (λ r. take at out ++ r) (append_assoc t (x ∷ []) (drop (at + length (t ++ (x ∷ []))) out))
    ∙ ap (λ n. take at out ++ (t ++ (x ∷ drop n out))) e
    ∙ sym
    (ap (λ r. r ++ (t ++ drop k (set out k x))) (take-set-le at out k x (omega arith))
    ∙ ap (λ r. take at out ++ (t ++ r)) (drop_set out k x h))

module _ (out : List ℕ) (at : ℕ) (t : List ℕ) (fits : at ≤ length out) where
  front : placed out at t ≡ (take at out ++ t) ++ drop (at + length t) out
  unfolding placed
  front = sym (append_assoc (take at out) t (drop (at + length t) out))

  front_length : length (take at out ++ t) ≡ at + length t
  front_length = length-append (take at out) t ∙ ap (λ n. n + length t) (length-take-le at out fits)

  -- what stands up to the end of the text
  pub take_placed : take (at + length t) (placed out at t) ≡ take at out ++ t
  take_placed = ap (take (at + length t)) front ∙ take_at (take at out ++ t) (drop (at + length t) out) (at + length t) front_length

  -- what stands past it is as it was
  pub drop_placed : (n : ℕ) → drop (at + length t + n) (placed out at t) ≡ drop (at + length t + n) out
  drop_placed n =
      ap (drop (at + length t + n)) front
      ∙ ap (λ k. drop (k + n) ((take at out ++ t) ++ drop (at + length t) out)) (sym front_length)
      ∙ drop-append-add (take at out ++ t) (drop (at + length t) out) n
      ∙ drop-drop n (at + length t) out

  pub length_placed : at + length t ≤ length out → length (placed out at t) ≡ length out
  length_placed h =
      ap length front
      ∙ length-append (take at out ++ t) (drop (at + length t) out)
      ∙ ap (λ n. n + length (drop (at + length t) out)) front_length
      ∙ ap (λ n. at + length t + n) (length-drop (at + length t) out)
      ∙ omega arith

  -- one text after another
  pub placed_next : (u : List ℕ) (k : ℕ) → k ≡ at + length t → placed (placed out at t) k u ≡ placed out at (t ++ u)
  unfolding placed
  placed_next u k e =
      let j = at + length t in
      ap (λ i. placed (placed out at t) i u) e
      ∙ ap (λ r. r ++ (u ++ drop (j + length u) (placed out at t))) take_placed
      ∙ ap (λ r. (take at out ++ t) ++ (u ++ r)) (drop_placed (length u))
      ∙ append_assoc (take at out) t (u ++ drop (j + length u) out)
      ∙ ap (λ r. take at out ++ r) (sym (append_assoc t u (drop (j + length u) out)))
      ∙ ap (λ i. take at out ++ ((t ++ u) ++ drop i out)) (add_assoc at (length t) (length u) ∙ ap (λ i. at + i) (sym (length-append t u)))

-- a byte that is stored is a text of one
pub placed_one : (out : List ℕ) (k x : ℕ) → k < length out → set out k x ≡ placed out k (x ∷ [])
placed_one out k x h =
    sym (placed_last out k [] x (simp add-zero h) ∙ placed_none (set out (k + 0) x) k ∙ ap (λ j. set out j x) (add-zero k))

-- the next byte of a text
pub placed_byte_lem : (out : List ℕ) (at : ℕ) (t : List ℕ) (i : ℕ) → i < length t → at + i < length out
    → set (placed out at (take i t)) (at + i) (get_or t i 0) ≡ placed out at (take (i + 1) t)
placed_byte_lem out at t i h fits =
    let n : length (take i t) ≡ i = length-take-le i t (omega arith) in
    placed_one (placed out at (take i t)) (at + i) (get_or t i 0) (rw (length_placed out at (take i t) (omega arith) (omega arith)) (omega arith))
    ∙ placed_next out at (take i t) (omega arith) (get_or t i 0 ∷ []) (at + i) (omega arith)
    ∙ ap (placed out at) (sym (take-suc t i 0 h) ∙ ap (λ k. take k t) (sym (add-one i)))

-- n digits are n bytes
pub length_hex : (n v : ℕ) → length (hex_text n v) ≡ n
unfolding hex_text
length_hex zero v = refl
length_hex (suc n) v = omega (arith, length-append (hex_text n (v / 16)) (digit_byte (v % 16) ∷ []), length_hex n (v / 16))

-- the last digit first
pub placed_digit : (out : List ℕ) (at n v : ℕ) → at + n < length out
    → placed out at (hex_text (n + 1) v) ≡ placed (set out (at + n) (digit_byte (v % 16))) at (hex_text n (v / 16))
unfolding hex_text
placed_digit out at n v h =
    ap (λ k. placed out at (hex_text k v)) (add-one n)
    ∙ placed_last out at (hex_text n (v / 16)) (digit_byte (v % 16)) (rw length_hex h)
    ∙ ap (λ k. placed (set out (at + k) (digit_byte (v % 16))) at (hex_text n (v / 16))) (length_hex n (v / 16))

-- two digits, so many more, and LF
pub length_printed : (number digits value : ℕ) → length (printed number digits value) ≡ 3 + digits
unfolding printed
length_printed number digits value =
    omega (arith, length-append (hex_text 2 number) (hex_text digits value ++ (0x0A ∷ [])), length-append (hex_text digits value) (0x0A ∷ []), length_hex 2 number, length_hex digits value)

-- number, value and LF, one after another
pub placed_printed : (out : List ℕ) (at number digits value : ℕ) → at + (3 + digits) ≤ length out
    → placed (placed (placed out at (hex_text 2 number)) (at + 2) (hex_text digits value)) (at + 2 + digits) (0x0A ∷ []) ≡ placed out at (printed number digits value)
unfolding printed
placed_printed out at number digits value h =
    let a = hex_text 2 number in
    let b = hex_text digits value in
    let m = placed out at a in
    placed_next m (at + 2) b (rw (length_placed out at a (omega arith) (rw length_hex (omega arith))) (omega arith)) (0x0A ∷ []) (at + 2 + digits) (rw length_hex refl)
    ∙ placed_next out at a (omega arith) (b ++ (0x0A ∷ [])) (at + 2) (rw length_hex refl)
