-- A line is malformed exactly when it is of none of the five kinds. Assumes nothing.
use Rattle.std.proofs.Common.{◌≡◌, ℕ, zero, suc, ◌+◌, ◌-◌, ◌*◌, ◌<◌, ◌≤◌, Bool, true, false, not, ◌&&◌, ◌||◌, eqb, leb, List, [], ◌∷◌, length, get_or, sym, refl, ap, ◌∙◌, arith, lit<, lit≤, lt-ltb, eq-eqb, eqb-true, le-leb}
use mathlib.Core.Bool.{and-true, and-false, false≢true}
use borrow.Author.Tests.{lt-leb}
use Rattle.laws.specs.Pick.{pick}
use Rattle.laws.proofs.Bools.{either, both_left, both_right, both_hold, not_both}
use Rattle.laws.proofs.Order.{split}
use Rattle.lines.specs.declared.line.Frame.TheVariants.{Reset, Read, Write, Tick, Row, Malformed}
use Rattle.lines.specs.Hex.{digit_byte}
use Rattle.lines.specs.Line.{is_hex, worth, hex_part, number_at, is_line, spelled, frame_of}
use Rattle.lines.specs.Kinds.{all_hex, of_kind, says_reset, says_read, says_write, says_tick, says_row, said_by, is_kind, is_malformed}
use Rattle.lines.proofs.Digits.{number_two, worth_small, digit_back, hex_parts, hex_stops}
use Rattle.lines.proofs.Frames.{good, bad}
use Rattle.lines.proofs.Spelt.{digit_worth}

-- two tests that hold together are the same
same_test : (x y : Bool) → (x ≡ true → y ≡ true) → (y ≡ true → x ≡ true) → x ≡ y
same_test true y f g = sym (f refl)
same_test false y f g = either y (λ t. absurd (false≢true (g t))) (λ e. sym e)

-- ---- digits

-- a byte in front moves every part of a line
part_on : (b : ℕ) (line : List ℕ) (n : ℕ) → hex_part (b ∷ line) 1 n ≡ hex_part line 0 n
unfolding hex_part
part_on b line zero = refl
part_on b line (suc n) =
    let e : 1 + n ≡ suc n = omega arith in
    let z : 0 + n ≡ n = omega arith in
    (λ i. part_on b line n i && is_hex (get_or (b ∷ line) (e i) 0)) ∙ ap (λ k. hex_part line 0 n && is_hex (get_or line k 0)) (sym z)

part_one : (b : ℕ) (line : List ℕ) → hex_part (b ∷ line) 0 1 ≡ is_hex b
unfolding hex_part
part_one b line = refl

part_none : (line : List ℕ) → hex_part line 0 0 ≡ true
unfolding hex_part
part_none line = refl

all_hex_lem : (line : List ℕ) → all_hex line ≡ hex_part line 0 (length line)
unfolding all_hex
all_hex_lem [] = sym (part_none [])
all_hex_lem (b ∷ line) =
    let e : suc (length line) ≡ 1 + length line = omega arith in
    ap (λ t. is_hex b && t) (all_hex_lem line ∙ sym (part_on b line (length line)))
    ∙ ap (λ t. t && hex_part (b ∷ line) 1 (length line)) (sym (part_one b line))
    ∙ sym (ap (hex_part (b ∷ line) 0) e ∙ hex_parts (b ∷ line) 0 1 (length line))

-- digits below ten
below : (d : ℕ) → d < 10 → digit_byte d ≡ 0x30 + d
unfolding digit_byte
below d l = simp (lt-ltb d 10 l)

worth_below : (c d : ℕ) → d < 10 → c ≡ 0x30 + d → worth c ≡ d
worth_below c d l e = ap worth (e ∙ sym (below d l)) ∙ digit_worth d (omega arith)

-- two digits are worth a number below ten just where they are 0 and that number's digit
two_digits : (a b k : ℕ) → is_hex a ≡ true → is_hex b ≡ true → k < 10 → eqb (worth a * 16 + worth b) k ≡ (eqb a 0x30 && eqb b (0x30 + k))
two_digits a b k p q h =
    same_test (eqb (worth a * 16 + worth b) k) (eqb a 0x30 && eqb b (0x30 + k))
    (λ e.
    let n = eqb-true (worth a * 16 + worth b) k e in
    let x : worth a ≡ 0 = omega arith in
    let y : worth b ≡ k = omega arith in
    both_hold (eq-eqb a 0x30 (sym (digit_back a p) ∙ ap digit_byte x ∙ below 0 (lit< tt))) (eq-eqb b (0x30 + k) (sym (digit_back b q) ∙ ap digit_byte y ∙ below k h)))
    (λ e.
    let x : worth a ≡ 0 = worth_below a 0 (lit< tt) (eqb-true a 0x30 (both_left (eqb a 0x30) (eqb b (0x30 + k)) e)) in
    let y : worth b ≡ k = worth_below b k h (eqb-true b (0x30 + k) (both_right (eqb a 0x30) (eqb b (0x30 + k)) e)) in
    eq-eqb (worth a * 16 + worth b) k (omega arith))

-- a row is at most 7F just where its first digit is 0 to 7
row_digits : (c d : ℕ) → is_hex c ≡ true → is_hex d ≡ true → leb (worth c * 16 + worth d) 0x7F ≡ leb c 0x37
row_digits c d p q =
    let s = worth_small d q in
    split 0x39 c
    (λ l. let w : worth c ≡ c - 0x41 + 10 = simp (lt-leb c 0x39 l) in
    lt-leb (worth c * 16 + worth d) 0x7F (omega arith) ∙ sym (lt-leb c 0x37 (omega arith)))
    (λ l. let w : worth c ≡ c - 0x30 = simp (le-leb c 0x39 l) in
    split c 0x38
    (λ m. le-leb (worth c * 16 + worth d) 0x7F (omega arith) ∙ sym (le-leb c 0x37 (omega arith)))
    (λ m. lt-leb (worth c * 16 + worth d) 0x7F (omega arith) ∙ sym (lt-leb c 0x37 (omega arith))))

-- ---- a line of digits

length_of : (digit n : ℕ) (line : List ℕ) → of_kind digit n line ≡ true → length line ≡ n
unfolding of_kind
length_of digit n line t = eqb-true (length line) n (both_left (eqb (length line) n) _ t)

module _ (line : List ℕ) (h : all_hex line ≡ true) where
  hex_at : (i : ℕ) → i < length line → is_hex (get_or line i 0) ≡ true
  hex_at i l =
      let z : 0 + i ≡ i = omega arith in
      either (is_hex (get_or line i 0)) (λ t. t)
      (λ f. not_both (sym (all_hex_lem line) ∙ h) (hex_stops line 0 i (length line) l (ap (λ k. is_hex (get_or line k 0)) z ∙ f)))

  of_kind_lem : (k n : ℕ) → k < 10 → 2 ≤ n → is_line line k n ≡ of_kind (0x30 + k) n line
  unfolding of_kind
  of_kind_lem k n l m =
      either (eqb (length line) n)
      (λ t.
      let long : length line ≡ n = eqb-true (length line) n t in
      simp (t, h) (and-true (eqb (number_at line 0 2) k) ∙ ap (λ v. eqb v k) (number_two line 0) ∙ two_digits (get_or line 0 0) (get_or line 1 0) k (hex_at 0 (omega arith)) (hex_at 1 (omega arith)) l))
      (λ f. simp f (and-false (eqb (number_at line 0 2) k)))

  of_row : (is_line line 4 260 && leb (number_at line 2 2) 0x7F) ≡ says_row line
  of_row =
      ap (λ t. t && leb (number_at line 2 2) 0x7F) (of_kind_lem 4 260 (lit< tt) (lit≤ tt))
      ∙ either (of_kind 0x34 260 line)
      (λ t. simp t
      (let long = length_of 0x34 260 line t in
      ap (λ v. leb v 0x7F) (number_two line 2) ∙ row_digits (get_or line 2 0) (get_or line 3 0) (hex_at 2 (omega arith)) (hex_at 3 (omega arith))))
      (λ f. simp f)

-- ---- the kinds

spelt : (line : List ℕ) → all_hex line ≡ true → spelled line ≡ said_by line
unfolding spelled
spelt line h =
    λ i.
    pick (of_kind_lem line h 0 2 (lit< tt) (lit≤ tt) i) Reset
    (pick (of_kind_lem line h 1 6 (lit< tt) (lit≤ tt) i) (Read (number_at line 2 4))
    (pick (of_kind_lem line h 2 8 (lit< tt) (lit≤ tt) i) (Write (number_at line 2 4) (number_at line 6 2))
    (pick (of_kind_lem line h 3 10 (lit< tt) (lit≤ tt) i) (Tick (number_at line 2 8)) (pick (of_row line h i) (Row (number_at line 2 2)) Malformed))))

-- a line with a byte that is no digit is of no kind
no_kind : (line : List ℕ) → all_hex line ≡ false → (digit n : ℕ) → of_kind digit n line ≡ false
unfolding of_kind
no_kind line f digit n = simp (f, and-false)

-- what a line says goes by its kind
pub kinds : (line : List ℕ) → frame_of line ≡ said_by line
kinds line =
    either (all_hex line) (λ h. good line (sym (all_hex_lem line) ∙ h) ∙ spelt line h)
    (λ f. let none = no_kind line f in bad line (sym (all_hex_lem line) ∙ f) ∙ sym (simp (none 0x30 2, none 0x31 6, none 0x32 8, none 0x33 10, none 0x34 260)))

told : (a b c d e : Bool) (f g : ℕ) (v n y : ℕ) → is_malformed (pick a Reset (pick b (Read f) (pick c (Write g v) (pick d (Tick n) (pick e (Row y) Malformed))))) ≡ not (a || (b || (c || (d || e))))
told true b c d e f g v n y = refl
told false true c d e f g v n y = refl
told false false true d e f g v n y = refl
told false false false true e f g v n y = refl
told false false false false true f g v n y = refl
told false false false false false f g v n y = refl

-- a line is malformed exactly when it is of no kind
pub only : (line : List ℕ) → is_malformed (frame_of line) ≡ not (is_kind line)
unfolding is_kind
only line = ap is_malformed (kinds line) ∙ told (says_reset line) (says_read line) (says_write line) (says_tick line) (says_row line) _ _ _ _ _
