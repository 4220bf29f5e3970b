-- Pixels that stand in the same two bytes, put into these two. Assumes nothing.
use mathlib.Core.Path.{◌≡◌, sym, ap, ◌∙◌}
use mathlib.Core.List.{List}
use Prim.Native.Nat.{ℕ, ◌+◌, ◌-◌, ◌*◌, ◌/◌, ◌%◌, ◌<◌, ◌≤◌}
use native.Mathlib.Omega.{arith}
use lib.ListN.{length, get_or}
use lib.Seq.{ext_get_or}
use Rattle.laws.specs.Bits.{put_bit}
use Rattle.tiles.specs.Tiles.{place, put_at}
use Rattle.tiles.specs.Picture.{picture_shade}
use Rattle.tiles.specs.Aside.{put_nth, pixels}
use Rattle.tiles.proofs.Run.{pixels_none, pixels_more}
use Rattle.tiles.proofs.Pixels.{by_place, stored, stored_length, stored_first, stored_second, stored_other}

-- two bytes stored as they are, and two stored over two
module _ (l : List ℕ) (p : ℕ) (room : p + 1 < length l) where
  stored_same : stored l p (get_or l p 0) (get_or l (p + 1) 0) ≡ l
  stored_same =
      ext_get_or 0 _ l (stored_length l p _ _)
      (λ i h. by_place i p (λ e. rw e (stored_first l p _ _ (omega arith))) (λ e. rw e (stored_second l p _ _ room)) (λ x y. stored_other l p _ _ i x y))

  stored_over : (a b c d : ℕ) → stored (stored l p a b) p c d ≡ stored l p c d
  stored_over a b c d =
      let m = stored l p a b in
      let n : length m ≡ length l = stored_length l p a b in
      ext_get_or 0 _ _ (stored_length m p c d ∙ n ∙ sym (stored_length l p c d))
      (λ i h. by_place i p
      (λ e. rw e (stored_first m p c d (omega (arith, n)) ∙ sym (stored_first l p c d (omega arith))))
      (λ e. rw e (stored_second m p c d (omega (arith, n)) ∙ sym (stored_second l p c d room)))
      (λ x y. stored_other m p c d i x y ∙ stored_other l p a b i x y ∙ sym (stored_other l p c d i x y)))

-- the pixels from j on, whose two bytes stand at o
module _ (lit : ℕ → ℕ → ℕ) (regs ram : List ℕ) (j o : ℕ) (inside : j < 14336) (room : 8192 ≤ length ram) (at : o ≡ place (j % 128) (j / 128)) where
  pub part_none : stored ram o (get_or ram o 0) (get_or ram (o + 1) 0) ≡ pixels lit regs j j ram
  part_none = stored_same ram o (omega arith) ∙ sym (pixels_none lit regs j ram)

  pub part_more : (k a b s : ℕ) → j ≤ k → k < 8 * (j / 8) + 8 → stored ram o a b ≡ pixels lit regs j k ram → s ≡ picture_shade lit regs (k % 128) (j / 128)
      → stored ram o (put_bit a (7 - k % 128 % 8) (s % 2)) (put_bit b (7 - k % 128 % 8) (s / 2)) ≡ pixels lit regs j (k + 1) ram
  unfolding put_nth put_at
  part_more k a b s low high e shade =
      let y : k / 128 ≡ j / 128 = omega arith in
      let here : place (k % 128) (j / 128) ≡ o = omega arith in
      let m = stored ram o a b in
      let first = stored_first ram o a b (omega arith) in
      let second = stored_second ram o a b (omega arith) in
      let put : put_nth lit regs k m ≡ stored m o (put_bit a (7 - k % 128 % 8) (s % 2)) (put_bit b (7 - k % 128 % 8) (s / 2)) = rw (y, here, first, second, shade) in
      sym (pixels_more lit regs j k ram low ∙ ap (put_nth lit regs k) (sym e) ∙ put ∙ stored_over ram o (omega arith) a b _ _)
