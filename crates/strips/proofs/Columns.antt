-- A row's shades as bytes: the bits of eight columns, one after another. Assumes nothing.
use mathlib.Core.Path.{◌≡◌, refl, ap, ap₂, ◌∙◌}
use mathlib.Core.List.{List}
use Prim.Native.Nat.{ℕ, zero, suc, ◌+◌, ◌*◌, ◌/◌, ◌%◌, ◌^◌, ◌<◌, ◌≤◌}
use native.Mathlib.Nat.{add-zero}
use native.Mathlib.Omega.{arith}
use lib.ListN.{get_or, set}
use lib.Seq.{get_or-set_other}
use Rattle.laws.specs.Lists.{listed, packed}
use Rattle.laws.proofs.Order.{split}
use Rattle.laws.proofs.Packed.{packed_ext, listed_length, listed_at, listed_ext}
use Rattle.laws.proofs.Filled.{Filled, filled_all, filled_more}
use Rattle.sensor.specs.Shade.{element, shade_of}
use Rattle.strips.specs.Aside.{column_of, threshold_at, spread_of, turned_shade, place_of, bits_of, bytes_of, low_of, high_of}

-- ---- the bits of one column more

-- a list whose first n elements are those of a second function, and the others still those of the first
pub record Moved (f g : ℕ → ℕ) (size n : ℕ) (out : List ℕ) : Type 0 where
  pub done : Filled g size n out
  pub left : (k : ℕ) → n ≤ k → k < size → get_or out k 0 ≡ f k

pub moved_none : (f g : ℕ → ℕ) {size : ℕ} {out : List ℕ} → out ≡ listed f size → Moved f g size 0 out
moved_none f g {size} {out} e = record {
  done = record { whole = rw e (listed_length f size); same = λ k h. absurd (omega arith) };
  left = λ k _ h. rw e (listed_at f size k h);
}

pub moved_more : (f g : ℕ → ℕ) {size n : ℕ} {out : List ℕ} (v : ℕ) → Moved f g size n out → n < size → v ≡ g n → Moved f g size (n + 1) (set out n v)
moved_more f g {size} {n} {out} v r h e = record {
  done = filled_more g v r.done h e;
  left = λ k l m. get_or-set_other out n k v 0 (λ z. omega arith) ∙ r.left k (omega arith) m;
}

pub moved_end : (f g : ℕ → ℕ) {n x : ℕ} {out : List ℕ} → Moved f g n x out → x ≡ n → out ≡ listed g n
moved_end f g r e = filled_all g (rw e at r.done)

-- what is so of each of eight bits
eight : (P : ℕ → Type 0) → P 0 → P 1 → P 2 → P 3 → P 4 → P 5 → P 6 → P 7 → (b : ℕ) → b < 8 → P b
eight P a b c d e f g h zero l = a
eight P a b c d e f g h (suc zero) l = b
eight P a b c d e f g h (suc (suc zero)) l = c
eight P a b c d e f g h (suc (suc (suc zero))) l = d
eight P a b c d e f g h (suc (suc (suc (suc zero)))) l = e
eight P a b c d e f g h (suc (suc (suc (suc (suc zero))))) l = f
eight P a b c d e f g h (suc (suc (suc (suc (suc (suc zero)))))) l = g
eight P a b c d e f g h (suc (suc (suc (suc (suc (suc (suc zero))))))) l = h
eight P a b c d e f g h (suc (suc (suc (suc (suc (suc (suc (suc n)))))))) l = absurd (omega arith)

-- the next weight is half of it
pub next_weight : (b : ℕ) → b < 8 → place_of (b + 1) / 2 ≡ place_of (b + 1 + 1)
next_weight = eight (λ b. place_of (b + 1) / 2 ≡ place_of (b + 1 + 1)) refl refl refl refl refl refl refl refl

-- the weight of a column
pub weight_of : (b : ℕ) → b < 8 → 128 / 2 ^ b ≡ place_of (b + 1)
weight_of = eight (λ b. 128 / 2 ^ b ≡ place_of (b + 1)) refl refl refl refl refl refl refl refl

module _ (f : ℕ → ℕ) (two : (k : ℕ) → f k < 2) where
  abbrev bits : ℕ → ℕ
  bits b = packed f b * place_of b

  -- a byte has room for one bit more
  bits_room : (b : ℕ) → b < 8 → bits b + place_of (b + 1) < 256
  unfolding packed
  bits_room =
      eight (λ b. bits b + place_of (b + 1) < 256)
      (omega arith)
      (omega (arith, two 0))
      (omega (arith, two 0, two 1))
      (omega (arith, two 0, two 1, two 2))
      (omega (arith, two 0, two 1, two 2, two 3))
      (omega (arith, two 0, two 1, two 2, two 3, two 4))
      (omega (arith, two 0, two 1, two 2, two 3, two 4, two 5))
      (omega (arith, two 0, two 1, two 2, two 3, two 4, two 5, two 6))

  -- and gets it
  bits_next : (b : ℕ) → b < 8 → bits b + f b * place_of (b + 1) ≡ bits (b + 1)
  unfolding packed
  bits_next =
      eight (λ b. bits b + f b * place_of (b + 1) ≡ bits (b + 1)) (omega arith) (omega arith) (omega arith) (omega arith) (omega arith) (omega arith) (omega arith) (omega arith)

  -- a bit times its weight is at most the weight
  bit_light : (k w : ℕ) → f k * w ≤ w
  bit_light k w = split (f k) 1 (λ l. let e : f k ≡ 0 = omega arith in rw e (omega arith)) (λ l. let e : f k ≡ 1 = omega (arith, two k) in rw e (omega arith))

-- bits f, each of a place of a row that is turned: the tiles before t have those of column b, and the others those before it
abbrev pub Next : (ℕ → ℕ) → ℕ → ℕ → List ℕ → Type 0
Next f b = Moved (bits_of f b) (bits_of f (b + 1)) 16

module _ (f : ℕ → ℕ) (two : (p : ℕ) → f p < 2) {b w : ℕ} (h : b < 8) (weight : w ≡ place_of (b + 1)) {was : List ℕ} {t v : ℕ} where
  pub column_room : Next f b t was → t < 16 → v ≡ f (16 * b + t) * w → get_or was t 0 + v < 256
  column_room r inside e =
      omega (arith, r.left t (omega arith) inside, bits_room (λ k. f (16 * k + t)) (λ k. two (16 * k + t)) b h, rw weight at e, bit_light (λ k. f (16 * k + t)) (λ k. two (16 * k + t)) b (place_of (b + 1)))

  pub column_next : Next f b t was → t < 16 → v ≡ f (16 * b + t) * w → Next f b (t + 1) (set was t (get_or was t 0 + v))
  column_next r inside e =
      moved_more _ _ _ r inside (ap₂ (λ (x y : ℕ). x + y) (r.left t (omega arith) inside) (rw weight at e) ∙ bits_next (λ k. f (16 * k + t)) (λ k. two (16 * k + t)) b h)

-- all eight, as they are by the columns of each tile
pub all : (f : ℕ → ℕ) (g : ℕ → ℕ → ℕ) → ((t k : ℕ) → t < 16 → k < 8 → f (16 * k + t) ≡ g t k) → {b : ℕ} {bytes : List ℕ} → b ≡ 8
    → bytes ≡ listed (bits_of f b) 16 → bytes ≡ listed (λ t. packed (g t) 8) 16
all f g same e m = rw e at m ∙ listed_ext _ _ 16 (λ t h. let p = packed_ext (λ k. f (16 * k + t)) (g t) 8 (λ k l. same t k h l) in omega arith)

-- eight columns are all of them
pub eight_columns : (f : ℕ → ℕ) {b : ℕ} {bytes : List ℕ} → b ≡ 8 → bytes ≡ listed (bits_of f b) 16 → bytes ≡ listed (bytes_of f) 16
eight_columns f = all f (λ t k. f (16 * k + t)) (λ t k h l. refl)

-- and the bytes of a row that is turned are those of the row
pub bytes_same : (f : ℕ → ℕ) (g : ℕ → ℕ → ℕ) → ((t k : ℕ) → t < 16 → k < 8 → f (16 * k + t) ≡ g t k) → {bytes : List ℕ}
    → bytes ≡ listed (bytes_of f) 16 → bytes ≡ listed (λ t. packed (g t) 8) 16
bytes_same f g same e = e ∙ listed_ext _ _ 16 (λ t h. packed_ext (λ k. f (16 * k + t)) (g t) 8 (λ k l. same t k h l))

-- ---- a row that is turned

-- where column b of tile t stands
pub column : (t b : ℕ) → t < 16 → column_of (16 * b + t) ≡ 8 * t + b
column t b h = omega arith

-- which of four columns stands at place p
in_four : (p : ℕ) → column_of p % 4 ≡ p / 16 % 4
in_four p = omega arith

-- and where its threshold k is among the registers
ordered : (r x k : ℕ) → 6 + 12 * r + 3 * x + k ≡ 6 + 3 * (4 * r + x) + k
ordered r x k = omega arith

-- where a step takes what stands at p from, and where two, three and four steps do
module _ (p : ℕ) (h : p < 128) where
  abbrev from : ℕ → ℕ
  from q = q % 2 * 64 + q / 2

  two : from (from p) ≡ p % 4 * 32 + p / 4
  two = omega arith

  three : from (from (from p)) ≡ p % 8 * 16 + p / 8
  three = ap from two ∙ omega arith

  pub four : from (from (from (from p))) ≡ column_of p
  four = ap from three ∙ omega arith

-- four steps turn it
pub turned : (v : List ℕ) {a b c d : List ℕ} → a ≡ listed (λ p. get_or v (p % 2 * 64 + p / 2) 0) 128 → b ≡ listed (λ p. get_or a (p % 2 * 64 + p / 2) 0) 128
    → c ≡ listed (λ p. get_or b (p % 2 * 64 + p / 2) 0) 128 → d ≡ listed (λ p. get_or c (p % 2 * 64 + p / 2) 0) 128 → d ≡ listed (λ p. get_or v (column_of p) 0) 128
turned v {a} {b} {c} ea eb ec ed =
    ed
    ∙ listed_ext _ _ 128 (λ p h.
    step b ec (step_small p h)
    ∙ step a eb (step_small (from p h p) (step_small p h))
    ∙ step v ea (step_small (from p h (from p h p)) (step_small (from p h p) (step_small p h)))
    ∙ ap (λ (n : ℕ). get_or v n 0) (four p h))
  where
    step_small : (p : ℕ) → p < 128 → p % 2 * 64 + p / 2 < 128
    step_small p h = omega arith

    step : (x : List ℕ) {y : List ℕ} → y ≡ listed (λ p. get_or x (p % 2 * 64 + p / 2) 0) 128 → {q : ℕ} → q < 128 → get_or y q 0 ≡ get_or x (q % 2 * 64 + q / 2) 0
    step x e {q} l = rw e (listed_at (λ p. get_or x (p % 2 * 64 + p / 2) 0) 128 q l)

-- ---- the bytes of a row of values
module _ (values regs : List ℕ) (row : ℕ) where
  -- thresholds out of the spread matrix are those of every place
  module _ {line matrix : List ℕ} (made : line ≡ listed (λ p. get_or values (column_of p) 0) 128) (spread : matrix ≡ spread_of regs) where
    abbrev at : ℕ
    at = 128 * (row % 4)

    threshold : (k i p : ℕ) → k < 3 → p < 128 → i ≡ 512 * k + at + p → get_or matrix i 0 ≡ get_or regs (element (column_of p) row + k) 0
    unfolding spread_of
    threshold k i p hk hp e =
        let a : i / 512 ≡ k = omega arith in
        let b : i / 128 ≡ 4 * k + row % 4 = omega arith in
        let c : i % 128 ≡ p = omega arith in
        let d : (4 * k + row % 4) % 4 ≡ row % 4 = omega arith in
        rw spread (listed_at (threshold_at regs) 1536 i (omega arith)
        ∙ ap (λ (n : ℕ). get_or regs n 0) (rw (a, b, c, d, in_four p) (ordered (row % 4) (p / 16 % 4) k)))

    same : (p : ℕ) → p < 128 → turned_shade line matrix at p ≡ shade_of regs (column_of p) row (get_or values (column_of p) 0)
    unfolding turned_shade shade_of
    same p h =
        let l : get_or matrix (at + p) 0 ≡ get_or regs (element (column_of p) row) 0 = threshold 0 (at + p) p (omega arith) h (omega arith) ∙ ap (λ (n : ℕ). get_or regs n 0) (add-zero (element (column_of p) row)) in
        let m = threshold 1 (at + p + 512) p (omega arith) h (omega arith) in
        let n = threshold 2 (at + p + 1024) p (omega arith) h (omega arith) in
        let v : get_or line p 0 ≡ get_or values (column_of p) 0 = rw made (listed_at (λ p. get_or values (column_of p) 0) 128 p h) in
        rw (l, m, n, v)

    shade : (t b : ℕ) → t < 16 → b < 8 → turned_shade line matrix at (16 * b + t) ≡ shade_of regs (8 * t + b) row (get_or values (8 * t + b) 0)
    shade t b h l = same (16 * b + t) (omega arith) ∙ ap (λ (x : ℕ). shade_of regs x row (get_or values x 0)) (column t b h)

    pub low_all : {bytes : List ℕ} → bytes ≡ listed (bytes_of (λ p. turned_shade line matrix at p % 2)) 16 → bytes ≡ listed (low_of values regs row) 16
    unfolding low_of
    low_all =
        bytes_same (λ p. turned_shade line matrix at p % 2) (λ t b. shade_of regs (8 * t + b) row (get_or values (8 * t + b) 0) % 2) (λ t b h l. ap (λ (s : ℕ). s % 2) (shade t b h l))

    pub high_all : {bytes : List ℕ} → bytes ≡ listed (bytes_of (λ p. turned_shade line matrix at p / 2)) 16 → bytes ≡ listed (high_of values regs row) 16
    unfolding high_of
    high_all =
        bytes_same (λ p. turned_shade line matrix at p / 2) (λ t b. shade_of regs (8 * t + b) row (get_or values (8 * t + b) 0) / 2) (λ t b h l. ap (λ (s : ℕ). s / 2) (shade t b h l))
