-- Digits and the numbers that they spell: laws of `digit_of`, `hex_part`, `number_at` and `number_of`. Assumes nothing.
use Rattle.std.proofs.Common.{◌≡◌, ℕ, zero, suc, ◌+◌, ◌-◌, ◌*◌, ◌^◌, ◌<◌, ◌≤◌, Bool, true, false, ◌&&◌, leb, Some, None, List, [], ◌∷◌, ◌++◌, length, get_or, take, drop, take_at, sym, refl, ap, ap₂, ◌∙◌, add-zero, add_assoc, add-suc, pow-suc, zero-add, add-one, arith, lit<, le-ltb, lt-ltb, le-leb, leb-true}
use Rattle.std.proofs.lemmas.List.{get_or-take, get_or-drop, length_push}
use lib.Seq.{get_or_at}
use mathlib.Core.Bool.{and-true, true-and, and-false, and_assoc, false≢true}
use borrow.Author.Tests.{lt-leb}
use Rattle.laws.specs.Pick.{pick}
use Rattle.laws.proofs.Bools.{either, both_left, both_right}
use Rattle.laws.proofs.Order.{split}
use Rattle.lines.specs.Hex.{digit_byte}
use Rattle.lines.specs.Line.{is_hex, worth, digit_of, hex_part, number_at, number_of}
use Rattle.lines.specs.declared.line.Digit.TheVariants as digits

-- past 39h a digit is a letter
above : (b : ℕ) → 0x39 < b → is_hex b ≡ (leb 0x41 b && leb b 0x46)
above b h = simp (le-leb 0x30 b (omega arith), lt-leb b 0x39 h)

-- a digit is worth less than sixteen
pub worth_small : (b : ℕ) → is_hex b ≡ true → worth b < 16
worth_small b h =
    split 0x39 b
    (λ l. let m : b ≤ 0x46 = leb-true b 0x46 (both_right (leb 0x41 b) (leb b 0x46) (sym (above b l) ∙ h)) in simp (lt-leb b 0x39 l) (omega arith))
    (λ l. simp (le-leb b 0x39 l) (omega arith))

-- a digit is the byte of what it is worth
pub digit_back : (b : ℕ) → is_hex b ≡ true → digit_byte (worth b) ≡ b
unfolding digit_byte
digit_back b h =
    split 0x39 b
    (λ l.
    let m = sym (above b l) ∙ h in
    let low : 0x41 ≤ b = leb-true 0x41 b (both_left (leb 0x41 b) (leb b 0x46) m) in
    let w : 10 ≤ b - 0x41 + 10 = omega arith in
    simp (lt-leb b 0x39 l, le-ltb (b - 0x41 + 10) 10 w) (omega arith))
    (λ l.
    split b 0x30
    (λ m. absurd (false≢true (simp (lt-leb 0x30 b m, lt-leb 0x41 b (omega arith)) at h)))
    (λ m. let w : b - 0x30 < 10 = omega arith in simp (le-leb b 0x39 l, lt-ltb (b - 0x30) 10 w) (omega arith)))

-- what a byte is taken as tells whether it is a digit, and its worth
pub not_hex : (b : ℕ) → digits.NotHex ≡ digit_of b → is_hex b ≡ false
unfolding digit_of
not_hex b = either (is_hex b) (λ t e. absurd (let n : ◌≡◌ {A = ℕ} 0 1 = (let f = rw t at e in cc) in omega arith)) (λ f e. f)

pub as_digit : (b d : ℕ) → digits.Value d ≡ digit_of b → (is_hex b ≡ true) × (d ≡ worth b)
unfolding digit_of
as_digit b d = either (is_hex b) (λ t e. (t, let f = rw t at e in cc)) (λ n e. absurd (let m : ◌≡◌ {A = ℕ} 0 1 = (let f = rw n at e in cc) in omega arith))

-- one digit more
pub hex_more : (line : List ℕ) (at n : ℕ) → hex_part line at (n + 1) ≡ (hex_part line at n && is_hex (get_or line (at + n) 0))
unfolding hex_part
hex_more line at n = simp add-one

pub number_more : (line : List ℕ) (at n : ℕ) → number_at line at (n + 1) ≡ number_at line at n * 16 + worth (get_or line (at + n) 0)
unfolding number_at
number_more line at n = simp add-one

-- n digits are worth less than sixteen to the n
pub number_small : (line : List ℕ) (at n : ℕ) → hex_part line at n ≡ true → number_at line at n < 16 ^ n
unfolding hex_part number_at
number_small line at zero h = lit< tt
number_small line at (suc n) h =
    let d = get_or line (at + n) 0 in
    let s : number_at line at n < 16 ^ n = number_small line at n (both_left (hex_part line at n) (is_hex d) h) in
    let w : worth d < 16 = worth_small d (both_right (hex_part line at n) (is_hex d) h) in
    rw pow-suc (omega arith)

-- a part that begins with bytes that are no digits is none
pub hex_fails : (line : List ℕ) (at n m : ℕ) → hex_part line at n ≡ false → hex_part line at (n + m) ≡ false
unfolding hex_part
hex_fails line at n zero h = simp add-zero h
hex_fails line at n (suc m) h = simp (add-suc, hex_fails line at n m h)

-- a part is its front and its back
pub hex_parts : (line : List ℕ) (at n m : ℕ) → hex_part line at (n + m) ≡ (hex_part line at n && hex_part line (at + n) m)
unfolding hex_part
hex_parts line at n zero = simp add-zero (sym (and-true (hex_part line at n)))
hex_parts line at n (suc m) = simp (add-suc, hex_parts line at n m, add_assoc) (and_assoc (hex_part line at n) (hex_part line (at + n) m) (is_hex (get_or line (at + (n + m)) 0)))

pub record Spells (line : List ℕ) (at n v : ℕ) : Type 0 where
  pub hex : hex_part line at n ≡ true
  pub is : v ≡ number_at line at n
  pub small : v < 16 ^ n

-- a part with a byte that is no digit is none
pub hex_stops : (line : List ℕ) (at i n : ℕ) → i < n → is_hex (get_or line (at + i) 0) ≡ false → hex_part line at n ≡ false
hex_stops line at i n l h =
    let e : n ≡ (i + 1) + (n - (i + 1)) = omega arith in
    ap (hex_part line at) e ∙ hex_fails line at (i + 1) (n - (i + 1)) (hex_more line at i ∙ simp (h, and-false))

pub hex_joined : (line : List ℕ) (at n m : ℕ) → hex_part line at n ≡ true → hex_part line (at + n) m ≡ true → hex_part line at (n + m) ≡ true
hex_joined line at n m p q = hex_parts line at n m ∙ simp (p, q)

-- a part of digits is digits
pub hex_within : (line : List ℕ) (n k m : ℕ) → hex_part line 0 n ≡ true → k + m ≤ n → hex_part line k m ≡ true
hex_within line n k m h l =
    let e : n ≡ k + (m + (n - k - m)) = omega arith in
    let back = both_right (hex_part line 0 k) (hex_part line (0 + k) (m + (n - k - m))) (sym (hex_parts line 0 k (m + (n - k - m))) ∙ ap (hex_part line 0) (sym e) ∙ h) in
    let from : hex_part line k (m + (n - k - m)) ≡ true = rw zero-add at back in
    both_left (hex_part line k m) (hex_part line (k + m) (n - k - m)) (sym (hex_parts line k m (n - k - m)) ∙ from)

-- a part's digits, one by one
pub digit_within : (line : List ℕ) (at n k : ℕ) → hex_part line at n ≡ true → k < n → is_hex (get_or line (at + k) 0) ≡ true
digit_within line at n k h l = either (is_hex (get_or line (at + k) 0)) (λ t. t) (λ f. absurd (false≢true (sym (hex_stops line at k n l f) ∙ h)))

-- no digit spells 0
pub number_zero : (line : List ℕ) (at : ℕ) → number_at line at 0 ≡ 0
unfolding number_at
number_zero line at = refl

-- two digits, each by its place
pub number_two : (line : List ℕ) (at : ℕ) → number_at line at 2 ≡ worth (get_or line at 0) * 16 + worth (get_or line (at + 1) 0)
number_two line at =
    let first = ap (λ (n : ℕ). worth (get_or line n 0)) (add-zero at) in
    omega (arith, number_zero line at, number_more line at 0, number_more line at 1, first)

pub hex_two : (line : List ℕ) (at : ℕ) → hex_part line at 2 ≡ (is_hex (get_or line at 0) && is_hex (get_or line (at + 1) 0))
unfolding hex_part
hex_two line at = hex_more line at 1 ∙ ap (λ t. t && is_hex (get_or line (at + 1) 0)) (hex_more line at 0 ∙ ap (λ (n : ℕ). is_hex (get_or line n 0)) (add-zero at))

pub first_hex : (line : List ℕ) (at : ℕ) → hex_part line at 2 ≡ true → is_hex (get_or line at 0) ≡ true
first_hex line at h = rw add-zero at (digit_within line at 2 0 h (omega arith))

pub second_hex : (line : List ℕ) (at : ℕ) → hex_part line at 2 ≡ true → is_hex (get_or line (at + 1) 0) ≡ true
second_hex line at h = digit_within line at 2 1 h (omega arith)

-- a part of a line, cut out of it: its digits are the line's
cut_at : (line : List ℕ) (at n i : ℕ) → i < n → get_or (take n (drop at line)) (0 + i) 0 ≡ get_or line (at + i) 0
cut_at line at n i h = simp zero-add (get_or-take n (drop at line) i 0 h ∙ get_or-drop at line i 0)

pub hex_cut : (line : List ℕ) (at n k : ℕ) → k ≤ n → hex_part (take n (drop at line)) 0 k ≡ hex_part line at k
unfolding hex_part
hex_cut line at n zero h = refl
hex_cut line at n (suc k) h = ap₂ (λ (s t : Bool). s && t) (hex_cut line at n k (omega arith)) (ap is_hex (cut_at line at n k (omega arith)))

pub number_cut : (line : List ℕ) (at n k : ℕ) → k ≤ n → number_at (take n (drop at line)) 0 k ≡ number_at line at k
unfolding number_at
number_cut line at n zero h = refl
number_cut line at n (suc k) h = ap₂ (λ (s t : ℕ). s * 16 + t) (number_cut line at n k (omega arith)) (ap worth (cut_at line at n k (omega arith)))

pub of_cut : (line : List ℕ) (at n : ℕ) → number_of (take n (drop at line)) 0 n ≡ number_of line at n
unfolding number_of
of_cut line at n = ap₂ (λ (t : Bool) (v : ℕ). pick t (Some v) None) (hex_cut line at n n (omega arith)) (number_cut line at n n (omega arith))

-- one byte more behind
pub hex_behind : (bytes : List ℕ) (b : ℕ) → hex_part (bytes ++ (b ∷ [])) 0 (length (bytes ++ (b ∷ []))) ≡ (hex_part bytes 0 (length bytes) && is_hex b)
hex_behind bytes b =
    let n = length bytes in
    let front : take n (drop 0 (bytes ++ (b ∷ []))) ≡ bytes = take_at bytes (b ∷ []) n refl in
    let last : get_or (bytes ++ (b ∷ [])) (0 + n) 0 ≡ b = simp zero-add (get_or_at bytes b [] 0 n refl) in
    ap (hex_part (bytes ++ (b ∷ [])) 0) (length_push bytes b)
    ∙ hex_more (bytes ++ (b ∷ [])) 0 n
    ∙ ap₂ (λ (s t : Bool). s && t) (sym (hex_cut (bytes ++ (b ∷ [])) 0 n n (omega arith)) ∙ ap (λ l. hex_part l 0 n) front) (ap is_hex last)

pub hex_none : true ≡ hex_part [] 0 0
unfolding hex_part
hex_none = refl

-- the parts of a line of each kind
pub six : (line : List ℕ) → hex_part line 0 6 ≡ (hex_part line 0 2 && hex_part line 2 4)
six line = hex_parts line 0 2 4

pub eight : (line : List ℕ) → hex_part line 0 8 ≡ ((hex_part line 0 2 && hex_part line 2 4) && hex_part line 6 2)
eight line = hex_parts line 0 6 2 ∙ ap (λ t. t && hex_part line 6 2) (six line)

pub ten : (line : List ℕ) → hex_part line 0 10 ≡ (hex_part line 0 2 && hex_part line 2 8)
ten line = hex_parts line 0 2 8

pub row : (line : List ℕ) → hex_part line 0 260 ≡ ((hex_part line 0 2 && hex_part line 2 2) && hex_part line 4 256)
row line = hex_parts line 0 4 256 ∙ ap (λ t. t && hex_part line 4 256) (hex_parts line 0 2 2)

pub four_small : (line : List ℕ) (at : ℕ) → hex_part line at 4 ≡ true → number_at line at 4 < 65536
four_small line at h = number_small line at 4 h

pub two_small : (line : List ℕ) (at : ℕ) → hex_part line at 2 ≡ true → number_at line at 2 < 256
two_small line at h = number_small line at 2 h

pub ruleset parts = (six, eight, ten, row, four_small, two_small)

-- what two bytes spell, by what each is taken as
pub no_first : (l : List ℕ) (at : ℕ) → digits.NotHex ≡ digit_of (get_or l at 0) → None ≡ number_of l at 2
unfolding number_of
no_first l at e = simp (hex_two l at, not_hex (get_or l at 0) e)

pub no_second : (l : List ℕ) (at : ℕ) → digits.NotHex ≡ digit_of (get_or l (at + 1) 0) → None ≡ number_of l at 2
unfolding number_of
no_second l at e = simp (hex_two l at, not_hex (get_or l (at + 1) 0) e, and-false)

pub both_read : (l : List ℕ) (at h w : ℕ) → digits.Value h ≡ digit_of (get_or l at 0) → digits.Value w ≡ digit_of (get_or l (at + 1) 0) → Some (16 * h + w) ≡ number_of l at 2
unfolding number_of
both_read l at h w d e =
    let a = as_digit (get_or l at 0) h d in
    let b = as_digit (get_or l (at + 1) 0) w e in
    let v : 16 * h + w ≡ number_at l at 2 = omega (arith, number_two l at, a.1, b.1) in
    simp (hex_two l at, a.0, b.0) (ap Some v)

pub digit_small : (b d : ℕ) → digits.Value d ≡ digit_of b → d < 16
digit_small b d e = let a = as_digit b d e in omega (arith, a.1, worth_small b a.0)

pub ruleset two = (no_first, no_second, both_read, digit_small)

pub ruleset pair = (number_two, first_hex, second_hex, worth_small, two_small)
