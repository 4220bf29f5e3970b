-- `filters::beside` meets its contract: each step is an expression whose bound computes. Assumes nothing.
use mathlib.Core.Path.{◌≡◌, ◌∙◌}
use Prim.Native.Nat.{ℕ, ◌/◌, ◌%◌, ◌≤◌}
use native.Mathlib.Omega.{arith}
use lib.IntN.{ℤ, pos, nat_abs, ◌+ℤ◌, ◌*ℤ◌}
use mir.Syntax.{w16}
use Rattle.laws.proofs.Signed.{E, val, add, mul, fits, read}
use Rattle.filters.proofs.Facts.{back}
use Rattle.filters.proofs.Quarters.{sized}
use Rattle.filters.proofs.beside.Goals as goal
use Rattle.filters.proofs.beside.Given.{Over}

-- two neighbours, by a bit
bit : (r : ℤ) (n : ℕ) → r ≡ pos (n % 2) → nat_abs r ≤ 1
bit r n e = rw e (omega arith)

abbrev pair : (b x y : ℤ) → nat_abs b ≤ 1 → nat_abs x ≤ 128 → nat_abs y ≤ 128 → E w16
pair b x y h i j = mul (val 1 b h) (add (val 128 x i) (val 128 y j))

abbrev sides : (g : Over) → goal.After-from g → E w16
sides g c =
    pair c.from.result c.narrow.result c.narrow-2.result (bit _ _ c.from.ensures) c.narrow.ensures.size c.narrow-2.ensures.size

abbrev ends : (g : Over) → goal.After-from-2 g → E w16
ends g c =
    pair c.from-2.result c.narrow-3.result c.narrow-4.result (bit _ _ c.from-2.ensures) c.narrow-3.ensures.size c.narrow-4.ensures.size

abbrev sum : (g : Over) → goal.After-from-2 g → E w16
sum g c = add (sides g c.before) (ends g c)

pub overflow_add-ends : goal.overflow_add-ends
overflow_add-ends g c = fits (add (val 128 c.narrow-3.result c.narrow-3.ensures.size) (val 128 c.narrow-4.result c.narrow-4.ensures.size)) tt

pub overflow_mul-result : goal.overflow_mul-result
overflow_mul-result g c = fits (sides g c) tt

pub overflow_mul-result-2 : goal.overflow_mul-result-2
overflow_mul-result-2 g c = fits (ends g c) tt

pub overflow_add-result : goal.overflow_add-result
overflow_add-result g c = fits (sum g c) tt

pub returns-clause-size : goal.returns-clause-size
returns-clause-size g c = sized (sum g c) tt tt

pub returns-clause-value : goal.returns-clause-value
returns-clause-value g c =
    let n = c.args.n in
    let a : c.from.result ≡ pos (g.row.MODE / 2 % 2) = c.from.ensures in
    let b : c.from-2.result ≡ pos (g.row.MODE / 4 % 2) = c.from-2.ensures in
    let w = c.narrow.ensures.value ∙ back n c.requires 1 0 in
    let e = c.narrow-2.ensures.value ∙ back n c.requires 1 2 in
    let o = c.narrow-3.ensures.value ∙ back n c.requires 0 1 in
    let s = c.narrow-4.ensures.value ∙ back n c.requires 2 1 in
    read (sum g c) tt ∙ (λ i. a i *ℤ (w i +ℤ e i) +ℤ b i *ℤ (o i +ℤ s i))
