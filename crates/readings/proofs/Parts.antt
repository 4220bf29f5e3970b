-- A list filled part by part: a part that is written at its place. Assumes nothing.
use mathlib.Core.Path.{◌≡◌, sym, ap, ◌∙◌}
use mathlib.Core.List.{List}
use Prim.Native.Nat.{ℕ, ◌+◌, ◌-◌, ◌*◌, ◌/◌, ◌%◌, ◌<◌, ◌≤◌}
use native.Mathlib.Omega.{arith}
use borrow.Rule.Slice.PartMut.{put_mid, same_len_mid}
use lib.ListN.{length, get_or, take, drop, length-drop, get_or-append}
use lib.Seq.{length-take-le, get_or-take, get_or-append-add}
use Rattle.laws.specs.Lists.{listed}
use Rattle.laws.proofs.Order.{split}
use Rattle.laws.proofs.Packed.{listed_length, listed_at, listed_ext}
use Rattle.laws.proofs.Filled.{Filled}
use Rattle.lighting.specs.declared.Setting.{Setting}
use Rattle.sensor.specs.Shade.{value_at}
use Rattle.rows.specs.Aside.{value_row}

-- the m elements from the n-th on, which are the next of f's
pub filled_part : (f : ℕ → ℕ) {size n : ℕ} (m : ℕ) {out part : List ℕ} → Filled f size n out → part ≡ listed (λ x. f (n + x)) m → n + m ≤ size → Filled f size (n + m) (put_mid n m out part)
filled_part f {size} {n} m {out} {part} r e h = record {
  whole = same_len_mid n m out part (long ∙ sym (length-take-le m (drop n out) (omega (arith, length-drop n out, r.whole)))) ∙ r.whole;
  same = λ k l. split k n
      (λ before. get_or-append (take n out) _ 0 k (rw first before) ∙ get_or-take n out k 0 before ∙ r.same k before)
      (λ after.
      let i : k ≡ length (take n out) + (k - n) = omega (arith, first) in
      let there : n + (k - n) ≡ k = omega arith in
      let within : k - n < m = omega arith in
      ap (λ (j : ℕ). get_or (put_mid n m out part) j 0) i
      ∙ get_or-append-add (take n out) _ (k - n) 0
      ∙ get_or-append part _ 0 (k - n) (rw long within)
      ∙ rw e (listed_at (λ x. f (n + x)) m (k - n) within)
      ∙ ap f there);
}
  where
    first : length (take n out) ≡ n
    first = length-take-le n out (omega (arith, r.whole))

    long : length part ≡ m
    long = rw e (listed_length (λ x. f (n + x)) m)

-- the values of sensor row y + 8 are those of the pixels from 128 y on, counted row by row
pub row_listed : (lit : ℕ → ℕ → ℕ) (set : Setting) (y : ℕ) → value_row lit set (y + 8) ≡ listed (λ x. value_at lit set ((128 * y + x) % 128) ((128 * y + x) / 128 + 8)) 128
row_listed lit set y =
    listed_ext _ _ 128 (λ x h.
    let c : (128 * y + x) % 128 ≡ x = omega arith in
    let r : (128 * y + x) / 128 ≡ y = omega arith in
    rw (c, r))
