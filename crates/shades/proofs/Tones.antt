-- Laws of pixels as sums of what their bits add, eight of them as one number. Assumes nothing.
use mathlib.Core.Path.{◌≡◌, refl, ap, ap₂, ◌∙◌}
use mathlib.Core.Bool.{Bool, true, false}
use mathlib.Core.List.{List, [], ◌∷◌}
use Prim.Native.Nat.{ℕ, zero, suc, ◌^◌, ◌+◌, ◌-◌, ◌*◌, ◌/◌, ◌%◌, ◌<◌, ◌≤◌}
use native.Mathlib.Nat.{mul-le-mul_left, mul-le-mul_right}
use native.Mathlib.Omega.{arith}
use lib.Dec.{T, eqb, eqb→eq}
use lib.ListN.{length, get_or, set}
use Rattle.laws.specs.Bits.{bit_of}
use Rattle.laws.specs.Lists.{listed}
use Rattle.laws.specs.Pick.{pick}
use Rattle.laws.proofs.Filled.{Filled, filled_first, filled_more, filled_to}
use Rattle.laws.proofs.Packed.{listed_ext}
use Rattle.laws.proofs.Table.{every, at}
use Rattle.lighting.specs.Light.{turned}
use Rattle.tiles.specs.Tiles.{place, shade_in}
use Rattle.shades.specs.Shades.{shade_nth}
use Rattle.shades.specs.Aside.{eight_of, bits_of, Built, Weight, put_eight, tone_nth, Eight, eight_by}

-- ---- eight bytes as one number

-- each of them from the number
eight_bytes : (f : ℕ → ℕ) → ((k : ℕ) → f k < 256) → (v : ℕ) → v ≡ eight_of f → (v % 256 ≡ f 0) × (v / 0x100 % 256 ≡ f 1) × (v / 0x10000 % 256 ≡ f 2) × (v / 0x1000000 % 256 ≡ f 3) × (v / 0x100000000 % 256 ≡ f 4) × (v / 0x10000000000 % 256 ≡ f 5) × (v / 0x1000000000000 % 256 ≡ f 6) × (v / 0x100000000000000 % 256 ≡ f 7)
unfolding eight_of
eight_bytes f h v e =
    let h0 : f 0 < 256 = h 0 in
    let h1 : f 1 < 256 = h 1 in
    let h2 : f 2 < 256 = h 2 in
    let h3 : f 3 < 256 = h 3 in
    let h4 : f 4 < 256 = h 4 in
    let h5 : f 5 < 256 = h 5 in
    let h6 : f 6 < 256 = h 6 in
    let h7 : f 7 < 256 = h 7 in
    (omega arith, omega arith, omega arith, omega arith, omega arith, omega arith, omega arith, omega arith)

-- the same bytes are the same number
eight_ext : (f g : ℕ → ℕ) → ((k : ℕ) → k < 8 → f k ≡ g k) → eight_of f ≡ eight_of g
unfolding eight_of
eight_ext f g e = rw (e 0 (omega arith), e 1 (omega arith), e 2 (omega arith), e 3 (omega arith), e 4 (omega arith), e 5 (omega arith), e 6 (omega arith), e 7 (omega arith))

-- a sum of two, each times a step
eight_sum : (f g : ℕ → ℕ) (step : ℕ) → step * eight_of f + 2 * (step * eight_of g) ≡ eight_of (λ k. f k * step + g k * (2 * step))
unfolding eight_of
eight_sum f g step = omega arith

-- the negative of each is the negative of all
ones : (f g : ℕ → ℕ) → ((k : ℕ) → f k + g k ≡ 255) → eight_of f + eight_of g ≡ 0xFFFFFFFFFFFFFFFF
unfolding eight_of
ones f g e = omega (arith, e 0, e 1, e 2, e 3, e 4, e 5, e 6, e 7)

eight_turned : (negative : Bool) (f : ℕ → ℕ) (v : ℕ) → ((k : ℕ) → f k < 256) → v ≡ eight_of f → pick negative (0xFFFFFFFFFFFFFFFF - v) v ≡ eight_of (λ k. turned negative (f k))
unfolding turned
eight_turned true f v h e = omega (arith, ones f (λ k. 255 - f k) (λ k. omega (arith, h k)))
eight_turned false f v h e = e

-- ---- the table

-- eight bits are light, each as a byte
bits_light : (b : ℕ) → bits_of b ≤ 0x0101010101010101
unfolding bits_of eight_of
bits_light b = omega arith

-- and fit three times over, each times a step
pub entry_fits : (step b : ℕ) → 3 * step < 256 → step * bits_of b ≤ 0x5555555555555555
entry_fits step b h =
    let s : step ≤ 85 = omega arith in
    omega (arith, mul-le-mul_left step (bits_light b), mul-le-mul_right 0x0101010101010101 s)

pub weight_fits : (step w bit : ℕ) → 3 * step < 256 → Weight w bit → step * bit ≤ 0x5555555555555555
weight_fits step w bit h r =
    let l : bit ≤ bits_of (w + 0) = omega (arith, r.adds 0 r.some) in
    omega (arith, mul-le-mul_left step l, entry_fits step (w + 0) h)

-- a byte with one bit more
pub entry_sum : (step w bit b v : ℕ) → Weight w bit → b < w → v ≡ step * bits_of b → v + step * bit ≡ step * bits_of (w + b)
entry_sum step w bit b v r h e = omega (arith, e, ap (λ (n : ℕ). step * n) (r.adds b h))

-- byte 0, one byte more, and the same up to a number that is the same
pub built_none : (step : ℕ) (t : List ℕ) → length t ≡ 256 → Built step 1 (set t 0 0)
unfolding bits_of eight_of
built_none step t e =
    let f = filled_first (λ b. step * bits_of b) t 0 e (omega arith) (omega arith) in
    record { whole = f.whole; same = f.same }

pub built_more : {step n : ℕ} (v : ℕ) {t : List ℕ} → Built step n t → n < 256 → v ≡ step * bits_of n → Built step (n + 1) (set t n v)
built_more {step} {n} v {t} r h e =
    let f = filled_more (λ b. step * bits_of b) {size = 256} {n = n} {out = t} v (record { whole = r.whole; same = r.same }) h e in
    record { whole = f.whole; same = f.same }

pub built_to : {step n m : ℕ} {t : List ℕ} → Built step n t → n ≡ m → Built step m t
built_to r e = rw e at r

-- three of its numbers fit
pub built_fits : {step : ℕ} {t : List ℕ} → Built step 256 t → 3 * step < 256 → (b : ℕ) → b < 256 → get_or t b 0 ≤ 0x5555555555555555
built_fits {step} r h b l = omega (arith, r.same b l, entry_fits step b h)

-- the weights of a byte's bits, each by one test of the bytes below it
none : ℕ → List ℕ
none zero = []
none (suc n) = 0 ∷ none n

weight : (w bit : ℕ) → 0 < w → w ≤ 128 → length (none w) ≡ w → T (every (λ b x. eqb (bits_of (w + b)) (bits_of b + bit)) 0 (none w)) → Weight w bit
weight w bit p l e t = record {
  some = p;
  byte = l;
  adds = λ b h. eqb→eq (bits_of (w + b)) (bits_of b + bit) (at (λ b x. eqb (bits_of (w + b)) (bits_of b + bit)) (none w) t b (omega (arith, e)));
}

-- a bit more is twice as many bytes
pub power : (k : ℕ) → k < 8 → (1 * 2 ^ k % 18446744073709551616 ≡ 2 ^ k) × (2 * (1 * 2 ^ k % 18446744073709551616) ≡ 2 ^ (k + 1))
power zero h = (refl, refl)
power (suc zero) h = (refl, refl)
power (suc (suc zero)) h = (refl, refl)
power (suc (suc (suc zero))) h = (refl, refl)
power (suc (suc (suc (suc zero)))) h = (refl, refl)
power (suc (suc (suc (suc (suc zero))))) h = (refl, refl)
power (suc (suc (suc (suc (suc (suc zero)))))) h = (refl, refl)
power (suc (suc (suc (suc (suc (suc (suc zero))))))) h = (refl, refl)
power (suc (suc (suc (suc (suc (suc (suc (suc k)))))))) h = absurd (omega arith)

-- each byte with one bit
pub weight_at : (k : ℕ) → k < 8 → Weight (1 * 2 ^ k % 18446744073709551616) (0x100000000000000 / 2 ^ (8 * k))
unfolding none bits_of eight_of
weight_at zero h = weight 1 0x100000000000000 (omega arith) (omega arith) refl tt
weight_at (suc zero) h = weight 2 0x1000000000000 (omega arith) (omega arith) refl tt
weight_at (suc (suc zero)) h = weight 4 0x10000000000 (omega arith) (omega arith) refl tt
weight_at (suc (suc (suc zero))) h = weight 8 0x100000000 (omega arith) (omega arith) refl tt
weight_at (suc (suc (suc (suc zero)))) h = weight 16 0x1000000 (omega arith) (omega arith) refl tt
weight_at (suc (suc (suc (suc (suc zero))))) h = weight 32 0x10000 (omega arith) (omega arith) refl tt
weight_at (suc (suc (suc (suc (suc (suc zero)))))) h = weight 64 0x100 (omega arith) (omega arith) refl tt
weight_at (suc (suc (suc (suc (suc (suc (suc zero))))))) h = weight 128 1 (omega arith) (omega arith) refl tt
weight_at (suc (suc (suc (suc (suc (suc (suc (suc k)))))))) h = absurd (omega arith)

-- ---- eight pixels

-- put from a place on
pub filled_eight : (f : ℕ → ℕ) {size n : ℕ} {out : List ℕ} (v : ℕ) → Filled f size n out → n + 8 ≤ size → ((k : ℕ) → f k < 256) → v ≡ eight_of (λ k. f (n + k)) → Filled f size (n + 8) (put_eight out n v)
unfolding put_eight
filled_eight f {size} {n} v r h bytes e =
    let d = eight_bytes (λ k. f (n + k)) (λ k. bytes (n + k)) v e in
    let z : n + 0 ≡ n = omega arith in
    next 7 (next 6 (next 5 (next 4 (next 3 (next 2 (next 1 (filled_more f (v % 256) r (omega arith) (d.0 ∙ ap f z)) (omega arith) d.1) (omega arith) d.2) (omega arith) d.3) (omega arith) d.4) (omega arith) d.5) (omega arith) d.6) (omega arith) d.7
  where
    next : (k : ℕ) {out : List ℕ} {v : ℕ} → Filled f size (n + k) out → n + k < size → v ≡ f (n + k) → Filled f size (n + suc k) (set out (n + k) v)
    next k {out} {v} r h e = filled_to f (filled_more f v r h e) (omega arith)

-- what two bits add is below 256
sum_small : (a b step : ℕ) → a < 2 → b < 2 → 3 * step < 256 → a * step + b * (2 * step) < 256
sum_small a b step ha hb h =
    let la : a ≤ 1 = omega arith in
    let lb : b ≤ 1 = omega arith in
    omega (arith, mul-le-mul_right step la, mul-le-mul_right (2 * step) lb)

turned_small : (negative : Bool) (v : ℕ) → v < 256 → turned negative v < 256
unfolding turned
turned_small true v h = omega arith
turned_small false v h = omega arith

pub tone_small : (step : ℕ) (negative : Bool) (ram : List ℕ) → 3 * step < 256 → (k : ℕ) → tone_nth step (2 * step) negative ram k < 256
unfolding tone_nth
tone_small step negative ram h k = turned_small negative _ (sum_small _ _ step (omega arith) (omega arith) h)

-- the pixels of a byte pair, from its two numbers of the table
module _ (ram : List ℕ) (step : ℕ) (negative : Bool) (small : 3 * step < 256) (y x l h : ℕ) (hx : x < 16) (el : l ≡ get_or ram (place (8 * x) y) 0) (eh : h ≡ get_or ram (place (8 * x) y + 1) 0) where
  pair_tone : (k : ℕ) → k < 8 → turned negative (bit_of l (7 - k) * step + bit_of h (7 - k) * (2 * step)) ≡ tone_nth step (2 * step) negative ram (128 * y + 8 * x + k)
  unfolding tone_nth
  pair_tone k m =
      let c : (128 * y + 8 * x + k) % 128 ≡ 8 * x + k = omega arith in
      let r : (128 * y + 8 * x + k) / 128 ≡ y = omega arith in
      let d : (8 * x + k) % 8 ≡ k = omega arith in
      let q : (8 * x + k) / 8 ≡ 8 * x / 8 = omega arith in
      rw (c, r, d, q, el, eh)

  pair_sum : (t : List ℕ) → Built step 256 t → l < 256 → h < 256 → get_or t l 0 + 2 * get_or t h 0 ≡ eight_of (λ k. bit_of l (7 - k) * step + bit_of h (7 - k) * (2 * step))
  unfolding bits_of
  pair_sum t b hl hh = ap₂ (λ (a b : ℕ). a + 2 * b) (b.same l hl) (b.same h hh) ∙ eight_sum (λ k. bit_of l (7 - k)) (λ k. bit_of h (7 - k)) step

  pub pair_eight : (t : List ℕ) → Built step 256 t → l < 256 → h < 256 → pick negative (0xFFFFFFFFFFFFFFFF - (get_or t l 0 + 2 * get_or t h 0)) (get_or t l 0 + 2 * get_or t h 0) ≡ eight_of (λ k. tone_nth step (2 * step) negative ram (128 * y + 8 * x + k))
  pair_eight t b hl hh =
      eight_turned negative (λ k. bit_of l (7 - k) * step + bit_of h (7 - k) * (2 * step)) _ (λ k. sum_small _ _ step (omega arith) (omega arith) small) (pair_sum t b hl hh)
      ∙ eight_ext _ _ pair_tone

-- the pixels of two byte pairs beside each other, put
module _ (ram : List ℕ) (step : ℕ) (negative : Bool) (small : 3 * step < 256) {t : List ℕ} (built : Built step 256 t) where
  abbrev tone : ℕ → ℕ
  tone = tone_nth step (2 * step) negative ram

  by_eight : {x y r : ℕ} → Eight ram t x y negative r → x < 16 → r ≡ eight_of (λ k. tone (128 * y + 8 * x + k))
  unfolding eight_by
  by_eight {x} {y} e h = e.made ∙ pair_eight ram step negative small y x _ _ h refl refl t built e.low e.high

  pub two_put : {x y a b : ℕ} {out : List ℕ} → Eight ram t (2 * x) y negative a → Eight ram t (2 * x + 1) y negative b → x < 8 → y < 112
      → Filled tone 14336 (128 * y + 16 * x) out → Filled tone 14336 (128 * y + 16 * (x + 1)) (put_eight (put_eight out (128 * y + 16 * x) a) (128 * y + 16 * x + 8) b)
  two_put {x} {y} {a} {b} ea eb hx hy r =
      let n : 128 * y + 8 * (2 * x) ≡ 128 * y + 16 * x = omega arith in
      let m : 128 * y + 8 * (2 * x + 1) ≡ 128 * y + 16 * x + 8 = omega arith in
      let first = rw n at (by_eight ea (omega arith)) in
      let second = rw m at (by_eight eb (omega arith)) in
      let one = filled_eight tone a r (omega arith) (tone_small step negative ram small) first in
      filled_to tone (filled_eight tone b one (omega arith) (tone_small step negative ram small) second) (omega arith)

-- ---- all pixels

-- 1 for the low bit and 2 for the high bit make the shades
pub tones_shades : (ram : List ℕ) → listed (tone_nth 1 2 false ram) 14336 ≡ listed (shade_nth ram) 14336
unfolding tone_nth turned shade_in
tones_shades ram = listed_ext _ _ 14336 (λ k h. omega arith)
