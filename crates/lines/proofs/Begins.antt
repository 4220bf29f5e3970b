-- The first two bytes of a line are its kind: laws of `frame_of` by the bytes themselves. Assumes nothing.
use Rattle.std.proofs.Common.{◌≡◌, ℕ, zero, suc, ◌+◌, ◌-◌, ◌<◌, ◌≤◌, Bool, true, false, List, length, get_or, sym, refl, ◌∙◌, arith, lt-ltb, ne_eqb, le-leb}
use Rattle.laws.proofs.Bools.{both_hold}
use Rattle.laws.proofs.Order.{split}
use Rattle.lines.specs.declared.line.Frame.TheVariants.{Malformed}
use Rattle.lines.specs.Hex.{digit_byte}
use Rattle.lines.specs.Line.{is_hex, worth, hex_part, number_at, spelled, frame_of}
use Rattle.lines.proofs.Digits.{number_two, hex_more, hex_fails, digit_within, digit_back}
use Rattle.lines.proofs.Frames.{wrong, bad, too_short_lem}

-- a byte 30h to 39h is a digit, worth as much as it is over 30h
numeral : (b k : ℕ) → b ≡ 0x30 + k → k < 10 → (is_hex b ≡ true) × (worth b ≡ k)
numeral b k e l = (simp (le-leb 0x30 b (omega arith), le-leb b 0x39 (omega arith)), simp (le-leb b 0x39 (omega arith)) (omega arith))

-- a digit worth less than ten is such a byte
back : (b : ℕ) → is_hex b ≡ true → worth b < 10 → b ≡ 0x30 + worth b
unfolding digit_byte
back b h l = sym (simp (lt-ltb (worth b) 10 l) at (digit_back b h))

-- a digit that is none of 30h to 34h is worth more than 4
five : (w b : ℕ) → w ≤ 4 → b ≡ 0x30 + w → (b ≡ 0x30 → ⊥) → (b ≡ 0x31 → ⊥) → (b ≡ 0x32 → ⊥) → (b ≡ 0x33 → ⊥) → (b ≡ 0x34 → ⊥) → ⊥
five zero b l e n₀ n₁ n₂ n₃ n₄ = n₀ (omega arith)
five (suc zero) b l e n₀ n₁ n₂ n₃ n₄ = n₁ (omega arith)
five (suc (suc zero)) b l e n₀ n₁ n₂ n₃ n₄ = n₂ (omega arith)
five (suc (suc (suc zero))) b l e n₀ n₁ n₂ n₃ n₄ = n₃ (omega arith)
five (suc (suc (suc (suc zero)))) b l e n₀ n₁ n₂ n₃ n₄ = n₄ (omega arith)
five (suc (suc (suc (suc (suc w))))) b l e n₀ n₁ n₂ n₃ n₄ = omega arith

module _ (line : List ℕ) where
  -- `00` to `09` are digits that spell their kind
  pub kind_hex : get_or line 0 0 ≡ 0x30 → 0x30 ≤ get_or line 1 0 → get_or line 1 0 ≤ 0x39 → hex_part line 0 2 ≡ true
  unfolding hex_part
  kind_hex e l h =
      let a = numeral (get_or line 0 0) 0 e (omega arith) in
      let b = numeral (get_or line 1 0) (get_or line 1 0 - 0x30) (omega arith) (omega arith) in
      hex_more line 0 1 ∙ both_hold (hex_more line 0 0 ∙ both_hold refl a.0) b.0

  pub kind_number : get_or line 0 0 ≡ 0x30 → 0x30 ≤ get_or line 1 0 → get_or line 1 0 ≤ 0x39 → number_at line 0 2 + 0x30 ≡ get_or line 1 0
  kind_number e l h =
      let a = numeral (get_or line 0 0) 0 e (omega arith) in
      let b = numeral (get_or line 1 0) (get_or line 1 0 - 0x30) (omega arith) (omega arith) in
      omega (arith, number_two line 0, a.1, b.1)

  -- a line of another kind
  no_kind : 2 ≤ length line → (hex_part line 0 2 ≡ true → 4 < number_at line 0 2) → frame_of line ≡ Malformed
  unfolding spelled
  no_kind l h = by (hex_part line 0 2) refl
    where
      by : (t : Bool) → hex_part line 0 2 ≡ t → frame_of line ≡ Malformed
      by true e =
          let m = h e in
          wrong line (simp (ne_eqb (number_at line 0 2) 0 (λ n. omega arith), ne_eqb (number_at line 0 2) 1 (λ n. omega arith), ne_eqb (number_at line 0 2) 2 (λ n. omega arith), ne_eqb (number_at line 0 2) 3 (λ n. omega arith), ne_eqb (number_at line 0 2) 4 (λ n. omega arith)))
      by false e =
          let f : length line ≡ 2 + (length line - 2) = omega arith in
          bad line (rw f (hex_fails line 0 2 (length line - 2) e))

  -- the first byte is not 30h
  pub first_other : 2 ≤ length line → (get_or line 0 0 ≡ 0x30 → ⊥) → frame_of line ≡ Malformed
  first_other l n =
      no_kind l
      (λ h.
      split 0 (worth (get_or line 0 0))
      (λ m. omega (arith, number_two line 0))
      (λ m. absurd (n (omega (arith, back (get_or line 0 0) (digit_within line 0 2 0 h (omega arith)) (omega arith))))))

  -- the second byte is none of 30h to 34h
  pub second_other : 2 ≤ length line → (get_or line 1 0 ≡ 0x30 → ⊥) → (get_or line 1 0 ≡ 0x31 → ⊥) → (get_or line 1 0 ≡ 0x32 → ⊥) → (get_or line 1 0 ≡ 0x33 → ⊥) → (get_or line 1 0 ≡ 0x34 → ⊥) → frame_of line ≡ Malformed
  second_other l n₀ n₁ n₂ n₃ n₄ =
      no_kind l
      (λ h.
      split 4 (worth (get_or line 1 0))
      (λ m. omega (arith, number_two line 0))
      (λ m. absurd (five (worth (get_or line 1 0)) (get_or line 1 0) m (back (get_or line 1 0) (digit_within line 0 2 1 h (omega arith)) (omega arith)) n₀ n₁ n₂ n₃ n₄)))

-- what the first two bytes tell, for the function that looks at them
pub ruleset by_kind = (first_other, second_other, kind_hex, kind_number, too_short_lem)
