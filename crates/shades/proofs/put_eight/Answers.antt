-- `shades::put_eight` meets its contract: eight bytes put in their place are eight stores. Assumes nothing.
use mathlib.Core.Path.{◌≡◌, refl, ap}
use mathlib.Core.List.{List, [], ◌∷◌, ◌++◌}
use Prim.Native.Nat.{ℕ, zero, suc, ◌+◌, ◌-◌, ◌≤◌}
use native.Mathlib.Omega.{arith}
use lib.ListN.{length, take, drop, set}
use Rattle.shades.specs.Aside.{put_eight}
use Rattle.shades.proofs.put_eight.Goals as goal

put_bytes : (out : List ℕ) (at a b c d e f g h : ℕ) → at + 8 ≤ length out → take at out ++ ((a ∷ b ∷ c ∷ d ∷ e ∷ f ∷ g ∷ h ∷ []) ++ drop 8 (drop at out)) ≡ set (set (set (set (set (set (set (set out at a) (at + 1) b) (at + 2) c) (at + 3) d) (at + 4) e) (at + 5) f) (at + 6) g) (at + 7) h
put_bytes [] zero a b c d e f g h l = absurd (omega arith)
put_bytes (x0 ∷ []) zero a b c d e f g h l = absurd (omega arith)
put_bytes (x0 ∷ x1 ∷ []) zero a b c d e f g h l = absurd (omega arith)
put_bytes (x0 ∷ x1 ∷ x2 ∷ []) zero a b c d e f g h l = absurd (omega arith)
put_bytes (x0 ∷ x1 ∷ x2 ∷ x3 ∷ []) zero a b c d e f g h l = absurd (omega arith)
put_bytes (x0 ∷ x1 ∷ x2 ∷ x3 ∷ x4 ∷ []) zero a b c d e f g h l = absurd (omega arith)
put_bytes (x0 ∷ x1 ∷ x2 ∷ x3 ∷ x4 ∷ x5 ∷ []) zero a b c d e f g h l = absurd (omega arith)
put_bytes (x0 ∷ x1 ∷ x2 ∷ x3 ∷ x4 ∷ x5 ∷ x6 ∷ []) zero a b c d e f g h l = absurd (omega arith)
put_bytes (x0 ∷ x1 ∷ x2 ∷ x3 ∷ x4 ∷ x5 ∷ x6 ∷ x7 ∷ rest) zero a b c d e f g h l = refl
put_bytes [] (suc n) a b c d e f g h l = absurd (omega arith)
put_bytes (x ∷ out) (suc n) a b c d e f g h l =
    let e1 : suc n + 1 ≡ suc (n + 1) = omega arith in
    let e2 : suc n + 2 ≡ suc (n + 2) = omega arith in
    let e3 : suc n + 3 ≡ suc (n + 3) = omega arith in
    let e4 : suc n + 4 ≡ suc (n + 4) = omega arith in
    let e5 : suc n + 5 ≡ suc (n + 5) = omega arith in
    let e6 : suc n + 6 ≡ suc (n + 6) = omega arith in
    let e7 : suc n + 7 ≡ suc (n + 7) = omega arith in
    rw (e1, e2, e3, e4, e5, e6, e7) (ap (λ (l : List ℕ). x ∷ l) (put_bytes out n a b c d e f g h (omega arith)))

pub returns : goal.returns
unfolding put_eight
returns c =
    let k : c.args.at + 8 - c.args.at ≡ 8 = omega arith in
    rw (c.copy_from_slice.ensures.after, c.to_le_bytes.ensures, k) (put_bytes c.args.out.now c.args.at _ _ _ _ _ _ _ _ c.requires)
