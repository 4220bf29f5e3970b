-- Which lines are malformed: laws of `spelled` and `frame_of`. Assumes nothing.
use Rattle.std.proofs.Common.{◌≡◌, ℕ, ◌<◌, Bool, true, false, ◌&&◌, eqb, leb, List, length, refl, arith, ne_eqb, eqb-true, leb-true}
use mathlib.Core.Bool.{and-false}
use Rattle.laws.specs.Pick.{pick}
use Rattle.laws.proofs.Bools.{both_left, both_right}
use Rattle.laws.proofs.Pick.{pick_one}
use Rattle.lines.specs.declared.line.Frame.{Frame}
use Rattle.lines.specs.declared.line.Frame.TheVariants.{Reset, Read, Write, Tick, Row, Malformed}
use Rattle.lines.specs.Line.{is_line, hex_part, number_at, spelled, frame_of}

-- what was picked is not what is different
other : (t : Bool) (a b x : Frame) → pick t a b ≡ x → (a ≡ x → ⊥) → b ≡ x
other true a b x e differs = absurd (differs e)
other false a b x e differs = e

this : (t : Bool) (a b x : Frame) → pick t a b ≡ x → (b ≡ x → ⊥) → (t ≡ true) × (a ≡ x)
this true a b x e differs = (refl, e)
this false a b x e differs = absurd (differs e)

module _ (line : List ℕ) where
  -- digits that spell no frame
  pub wrong : spelled line ≡ Malformed → frame_of line ≡ Malformed
  unfolding frame_of
  wrong e = simp (e, pick_one)

  -- Anything that is not a hex digit ends the reading with 6
  pub bad : hex_part line 0 (length line) ≡ false → frame_of line ≡ Malformed
  unfolding frame_of
  bad e = simp e

  pub good : hex_part line 0 (length line) ≡ true → frame_of line ≡ spelled line
  unfolding frame_of
  good e = simp e

  not_so_long : (k n : ℕ) → (length line ≡ n → ⊥) → is_line line k n ≡ false
  not_so_long k n h = simp (ne_eqb (length line) n h, and-false)

  -- wrong length
  pub no_length : (length line ≡ 2 → ⊥) → (length line ≡ 6 → ⊥) → (length line ≡ 8 → ⊥) → (length line ≡ 10 → ⊥) → (length line ≡ 260 → ⊥) → frame_of line ≡ Malformed
  unfolding spelled
  no_length a b c d e = wrong (simp (not_so_long 0 2 a, not_so_long 1 6 b, not_so_long 2 8 c, not_so_long 3 10 d, not_so_long 4 260 e))

  pub too_short_lem : length line < 2 → frame_of line ≡ Malformed
  too_short_lem h = no_length (λ e. omega arith) (λ e. omega arith) (λ e. omega arith) (λ e. omega arith) (λ e. omega arith)

  -- a line over 260 bytes
  pub too_long_lem : 260 < length line → frame_of line ≡ Malformed
  too_long_lem h = no_length (λ e. omega arith) (λ e. omega arith) (λ e. omega arith) (λ e. omega arith) (λ e. omega arith)

  -- a row line has 260 digits, and its row is at most 7F
  pub row_facts : (y : ℕ) → frame_of line ≡ Row y → (length line ≡ 260) × (hex_part line 0 260 ≡ true) × (y < 128)
  unfolding frame_of spelled
  row_facts y e =
      let h = this (hex_part line 0 (length line)) (spelled line) Malformed (Row y) e (λ n. cc) in
      let a = other (is_line line 0 2) Reset _ (Row y) h.1 (λ n. cc) in
      let b = other (is_line line 1 6) (Read (number_at line 2 4)) _ (Row y) a (λ n. cc) in
      let c = other (is_line line 2 8) (Write (number_at line 2 4) (number_at line 6 2)) _ (Row y) b (λ n. cc) in
      let d = other (is_line line 3 10) (Tick (number_at line 2 8)) _ (Row y) c (λ n. cc) in
      let r = this (is_line line 4 260 && leb (number_at line 2 2) 0x7F) (Row (number_at line 2 2)) Malformed (Row y) d (λ n. cc) in
      let is = both_left (is_line line 4 260) (leb (number_at line 2 2) 0x7F) r.0 in
      let long = eqb-true (length line) 260 (both_right (eqb (number_at line 0 2) 4) (eqb (length line) 260) is) in
      let small = leb-true (number_at line 2 2) 0x7F (both_right (is_line line 4 260) (leb (number_at line 2 2) 0x7F) r.0) in
      let same : number_at line 2 2 ≡ y = cc r.1 in
      (long, rw long at h.0, omega arith)
