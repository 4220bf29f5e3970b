-- Eight pixels of a row that stand in the same two bytes, put at once. Assumes nothing.
use mathlib.Core.Path.{◌≡◌, refl, sym, ap, ap₂, ◌∙◌}
use mathlib.Core.List.{List}
use Prim.Native.Nat.{ℕ, ◌+◌, ◌-◌, ◌*◌, ◌/◌, ◌%◌, ◌<◌, ◌≤◌}
use native.Mathlib.Omega.{arith}
use lib.ListN.{length, get_or, set}
use lib.Seq.{ext_get_or}
use Rattle.tiles.specs.Tiles.{place, shade_in, Bytes}
use Rattle.tiles.specs.Picture.{picture_shade, low_byte, high_byte}
use Rattle.tiles.specs.Aside.{put_nth, pixels}
use Rattle.tiles.proofs.Pixels.{by_place, stored, stored_length, stored_first, stored_second, stored_other, put_elsewhere, pixels_keep, pixels_length, pixels_bytes, pixels_passed}
use Rattle.tiles.proofs.Area.{column_of, row_of, byte_of, byte_of_low, byte_of_high, Stands, stands, area_byte}
use Rattle.laws.proofs.Packed.{packed_ext}

module _ (lit : ℕ → ℕ → ℕ) (regs : List ℕ) (j : ℕ) (ram : List ℕ) (aligned : j % 8 ≡ 0) (most : j + 8 ≤ 14336) (long : 8192 ≤ length ram) (bytes : Bytes ram) where
  -- the first of the two bytes
  abbrev p : ℕ
  p = place (j % 128) (j / 128)

  abbrev after : List ℕ
  after = pixels lit regs j (j + 8) ram

  same_place : (k : ℕ) → j ≤ k → k < j + 8 → place (k % 128) (k / 128) ≡ p
  same_place k a b =
      let e : k / 8 ≡ j / 8 = omega arith in
      let f : k / 128 ≡ j / 128 = omega arith in
      let g : k % 128 / 8 ≡ j % 128 / 8 = omega arith in
      rw (f, g)

  elsewhere : (i : ℕ) → (i ≡ p → ⊥) → (i ≡ p + 1 → ⊥) → get_or after i 0 ≡ get_or ram i 0
  unfolding put_nth
  elsewhere i a b =
      pixels_keep lit regs (λ r. get_or r i 0 ≡ get_or ram i 0) j (j + 8) ram
      (λ k r l m e.
      put_elsewhere r (k % 128) (k / 128) _ i (λ q. a (q ∙ same_place k l m)) (λ q. b (q ∙ ap (λ (n : ℕ). n + 1) (same_place k l m))) ∙ e)
      refl

  abbrev t : ℕ
  t = j % 128 / 8

  -- the shades of the eight, shown by the two bytes
  shown : (b : ℕ) → b < 8 → shade_in after (8 * t + b) (j / 128) ≡ picture_shade lit regs (8 * t + b) (j / 128)
  shown b h =
      let y : (j + b) / 128 ≡ j / 128 = omega arith in
      let c : j % 128 % 8 ≡ 0 = omega arith in
      let x : (j + b) % 128 ≡ 8 * t + b = omega arith in
      rw (x, y) at (pixels_passed lit regs j (j + 8) ram most long (j + b) (omega arith) (omega arith))

  module _ (d i : ℕ) (hd : d < 2) (hi : 0x100 + i ≡ p + d) where
    there : Stands i t (j / 128) d
    there = stands i t (j / 128) d (omega arith) hd (omega arith)

    shown_there : (b : ℕ) → b < 8 → shade_in after (8 * column_of i + b) (row_of i) ≡ picture_shade lit regs (8 * t + b) (j / 128)
    shown_there b h = rw (there.column, there.line) (shown b h)

    byte_there : get_or after (0x100 + i) 0 ≡ byte_of (shade_in after) i
    byte_there =
        let a : j / 128 / 8 < 14 = omega arith in
        let b : t < 16 = omega arith in
        area_byte after (pixels_bytes lit regs j (j + 8) ram most long bytes) i (omega arith)

  low : get_or after p 0 ≡ low_byte lit regs t (j / 128)
  unfolding low_byte
  low =
      let e : 0x100 + (p - 0x100) ≡ p + 0 = omega arith in
      let f : p ≡ 0x100 + (p - 0x100) = omega arith in
      ap (λ (n : ℕ). get_or after n 0) f
      ∙ byte_there 0 (p - 0x100) (omega arith) e
      ∙ byte_of_low (shade_in after) (p - 0x100) (there 0 (p - 0x100) (omega arith) e).half
      ∙ packed_ext _ _ 8 (λ b h. ap (λ (n : ℕ). n % 2) (shown_there 0 (p - 0x100) (omega arith) e b h))

  high : get_or after (p + 1) 0 ≡ high_byte lit regs t (j / 128)
  unfolding high_byte
  high =
      let e : 0x100 + (p - 0xFF) ≡ p + 1 = omega arith in
      ap (λ (n : ℕ). get_or after n 0) (sym e)
      ∙ byte_there 1 (p - 0xFF) (omega arith) e
      ∙ byte_of_high (shade_in after) (p - 0xFF) (there 1 (p - 0xFF) (omega arith) e).half
      ∙ packed_ext _ _ 8 (λ b h. ap (λ (n : ℕ). n / 2) (shown_there 1 (p - 0xFF) (omega arith) e b h))

  -- the eight pixels are the two bytes
  pub eight : pixels lit regs j (j + 8) ram ≡ set (set ram p (low_byte lit regs t (j / 128))) (p + 1) (high_byte lit regs t (j / 128))
  eight =
      let l = low_byte lit regs t (j / 128) in
      let h = high_byte lit regs t (j / 128) in
      ext_get_or 0 after (stored ram p l h)
      (pixels_length lit regs j (j + 8) ram ∙ sym (stored_length ram p l h))
      (λ i _. by_place i p
      (λ e. rw e (low ∙ sym (stored_first ram p l h (omega arith))))
      (λ e. rw e (high ∙ sym (stored_second ram p l h (omega arith))))
      (λ a b. elsewhere i a b ∙ sym (stored_other ram p l h i a b)))

  pub eight_by_lem : (a b : ℕ) → a ≡ low_byte lit regs t (j / 128) → b ≡ high_byte lit regs t (j / 128) → set (set ram p a) (p + 1) b ≡ pixels lit regs j (j + 8) ram
  eight_by_lem a b e f = ap₂ (λ (l h : ℕ). set (set ram p l) (p + 1) h) e f ∙ sym eight
