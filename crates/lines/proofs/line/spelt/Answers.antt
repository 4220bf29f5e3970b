-- `lines::line::spelt` meets its contract: the invariant is the number so far, at its place. Assumes nothing.
use Rattle.std.proofs.Common.{◌≡◌, ℕ, zero, suc, ◌+◌, ◌-◌, ◌*◌, ◌%◌, ◌^◌, ◌<◌, ◌≤◌, List, get_or, sym, ap, ap₂, ◌∙◌, arith, zero-add, lit<}
use native.Mathlib.Nat.{pow-le-pow_right}
use Rattle.std.proofs.lemmas.Nat.{pow-add}
use Rattle.std.proofs.Math.Nat.{mul-lt-mul_of_pos_right, one-le-pow}
use Rattle.lines.specs.Line.{worth, number_at}
use Rattle.lines.proofs.Digits.{number_zero, number_more, number_small, hex_within, digit_within}
use Rattle.lines.proofs.line.spelt.Goals as goal

-- one digit more, with m to come
module _ (a w : ℕ) (h : w < 16) where
  more : (m : ℕ) → m < 8 → a * 16 ^ (m + 1) + w * 2 ^ (4 * m) % 4294967296 ≡ (a * 16 + w) * 16 ^ m
  more zero l = omega arith
  more (suc zero) l = omega arith
  more (suc (suc zero)) l = omega arith
  more (suc (suc (suc zero))) l = omega arith
  more (suc (suc (suc (suc zero)))) l = omega arith
  more (suc (suc (suc (suc (suc zero))))) l = omega arith
  more (suc (suc (suc (suc (suc (suc zero)))))) l = omega arith
  more (suc (suc (suc (suc (suc (suc (suc zero))))))) l = omega arith
  more (suc (suc (suc (suc (suc (suc (suc (suc m)))))))) l = absurd (omega arith)

-- at its place it has room
fits : (v k m : ℕ) → v < 16 ^ k → k + m ≤ 8 → v * 16 ^ m < 4294967296
fits v k m h l =
    let p : 1 ≤ 16 ^ m = one-le-pow m 16 (lit< tt) in
    let q : v * 16 ^ m < 16 ^ k * 16 ^ m = mul-lt-mul_of_pos_right h p in
    omega (arith, pow-add 16 k m, pow-le-pow_right {n = 16} (lit< tt) {i = k + m} {j = 8} l)

pub loop-k-init : goal.loop-k-init
loop-k-init g c = rw number_zero (omega arith)

pub worth_of-requires : goal.worth_of-requires
worth_of-requires g c = rw zero-add at (digit_within c.args.digits.now 0 g.row.N c.loop-k.k c.requires.1 c.loop-k-test.true)

-- the number with the digit of this turn
next : (digits : List ℕ) (n k v w : ℕ) → k < n → n ≤ 8 → v ≡ number_at digits 0 k * 16 ^ (n - k) → (w ≡ worth (get_or digits k 0)) × (w < 16)
    → v + w * 2 ^ (4 * (n - 1 - k)) % 4294967296 ≡ number_at digits 0 (k + 1) * 16 ^ (n - (k + 1))
next digits n k v w l h e d =
    let m : n - k ≡ (n - 1 - k) + 1 = omega arith in
    let r : n - (k + 1) ≡ n - 1 - k = omega arith in
    let s : number_at digits 0 (k + 1) ≡ number_at digits 0 k * 16 + w = cc (rw zero-add at (number_more digits 0 k)) in
    let t = more (number_at digits 0 k) w d.1 (n - 1 - k) (omega arith) in
    ap (λ x. x + w * 2 ^ (4 * (n - 1 - k)) % 4294967296) (e ∙ ap (λ i. number_at digits 0 k * 16 ^ i) m) ∙ t ∙ sym (ap₂ (λ (x i : ℕ). x * 16 ^ i) s r)

pub overflow_add-v : goal.overflow_add-v
overflow_add-v g c =
    let digits = c.args.digits.now in
    let k = c.loop-k.k in
    let n = g.row.N in
    let e = next digits n k c.loop-k.v c.worth_of.result c.loop-k-test.true c.requires.0 c.loop-k.invariant c.worth_of.ensures in
    let f = fits (number_at digits 0 (k + 1)) (k + 1) (n - (k + 1)) (number_small digits 0 (k + 1) (hex_within digits n 0 (k + 1) c.requires.1 (omega arith))) (omega arith) in
    omega (arith, e, f)

pub loop-k-preserved : goal.loop-k-preserved
loop-k-preserved g c = next _ _ _ _ _ c.loop-k-test.true c.requires.0 c.loop-k.invariant c.worth_of.ensures
