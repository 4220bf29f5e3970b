-- The digits of a number spell that number: laws of `digit_byte` and `hex_text` under `hex_part` and `number_at`. Assumes nothing.
use Rattle.std.proofs.Common.{◌≡◌, ℕ, zero, suc, ◌+◌, ◌-◌, ◌*◌, ◌/◌, ◌%◌, ◌^◌, ◌<◌, true, List, [], ◌∷◌, ◌++◌, length, get_or, sym, refl, ap, subst, ◌∙◌, append_assoc, pow-suc, arith, get_or-append-add, le-ltb, lt-ltb, le-leb}
use lib.Seq.{get_or_at}
use borrow.Author.Tests.{lt-leb}
use Rattle.laws.proofs.Bools.{both_hold}
use Rattle.laws.proofs.Order.{split}
use Rattle.lines.specs.Line.{is_hex, worth, hex_part, number_at}
use Rattle.lines.specs.Hex.{digit_byte, hex_text}
use Rattle.lines.proofs.Digits.{Spells}
use Rattle.lines.proofs.Placed.{length_hex}

-- a digit's byte is a digit, and worth what it was made of
digit_hex : (d : ℕ) → d < 16 → is_hex (digit_byte d) ≡ true
unfolding digit_byte
digit_hex d h =
    split d 10
    (λ l. simp (lt-ltb d 10 l, le-leb 0x30 (0x30 + d) (omega arith), le-leb (0x30 + d) 0x39 (omega arith)))
    (λ l. let b = 0x41 + (d - 10) in simp (le-ltb d 10 l, le-leb 0x30 b (omega arith), lt-leb b 0x39 (omega arith), le-leb 0x41 b (omega arith), le-leb b 0x46 (omega arith)))

pub digit_worth : (d : ℕ) → d < 16 → worth (digit_byte d) ≡ d
unfolding digit_byte
digit_worth d h =
    split d 10
    (λ l. simp (lt-ltb d 10 l, le-leb (0x30 + d) 0x39 (omega arith)) (omega arith))
    (λ l. simp (le-ltb d 10 l, lt-leb (0x41 + (d - 10)) 0x39 (omega arith)) (omega arith))

-- the last of a number's digits, with what stands before and after them
module _ (pre post : List ℕ) (n v : ℕ) where
  abbrev shown : List ℕ
  shown = pre ++ (hex_text n (v / 16) ++ (digit_byte (v % 16) ∷ post))

  last_apart : pre ++ (hex_text (suc n) v ++ post) ≡ shown
  unfolding hex_text
  last_apart = ap (λ r. pre ++ r) (append_assoc (hex_text n (v / 16)) (digit_byte (v % 16) ∷ []) post)

  last_digit : get_or shown (length pre + n) 0 ≡ digit_byte (v % 16)
  last_digit =
      get_or-append-add pre (hex_text n (v / 16) ++ (digit_byte (v % 16) ∷ post)) n 0
      ∙ get_or_at (hex_text n (v / 16)) (digit_byte (v % 16)) post 0 n (length_hex n (v / 16))

pub text_hex : (pre post : List ℕ) (n v : ℕ) → hex_part (pre ++ (hex_text n v ++ post)) (length pre) n ≡ true
unfolding hex_part
text_hex pre post zero v = refl
text_hex pre post (suc n) v =
    subst (λ text. hex_part text (length pre) (suc n) ≡ true) (sym (last_apart pre post n v))
    (both_hold (text_hex pre (digit_byte (v % 16) ∷ post) n (v / 16))
    (ap is_hex (last_digit pre post n v) ∙ digit_hex (v % 16) (omega arith)))

pub text_number : (pre post : List ℕ) (n v : ℕ) → v < 16 ^ n → number_at (pre ++ (hex_text n v ++ post)) (length pre) n ≡ v
unfolding number_at
text_number pre post zero v h = omega arith
text_number pre post (suc n) v h =
    let s : v < 16 ^ n * 16 = rw pow-suc at h in
    let a = text_number pre (digit_byte (v % 16) ∷ post) n (v / 16) (omega arith) in
    let d = ap worth (last_digit pre post n v) ∙ digit_worth (v % 16) (omega arith) in
    subst (λ text. number_at text (length pre) (suc n) ≡ v) (sym (last_apart pre post n v)) (rw (a, d) (omega arith))

-- what n digits of a line spell
pub spells : (line pre post : List ℕ) (at n v : ℕ) → line ≡ pre ++ (hex_text n v ++ post) → at ≡ length pre → v < 16 ^ n → Spells line at n v
spells line pre post at n v e p h =
    let hex : hex_part line at n ≡ true = rw (e, p) (text_hex pre post n v) in
    record { hex = hex; is = sym (rw (e, p) (text_number pre post n v h)); small = h }
