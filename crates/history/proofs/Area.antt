-- The area where a file was placed: each byte that it leaves. Assumes nothing.
use mathlib.Core.Path.{◌≡◌, sym, ◌∙◌}
use mathlib.Core.List.{List}
use Prim.Native.Nat.{ℕ, ◌+◌, ◌-◌, ◌%◌, ◌<◌, ◌≤◌}
use native.Mathlib.Omega.{arith}
use lib.Dec.{eqb}
use lib.ListN.{length, get_or}
use borrow.Author.Tests.{le-leb, lt-leb}
use Rattle.laws.specs.Pick.{pick}
use Rattle.laws.proofs.Order.{split}
use Rattle.laws.proofs.Pick.{pick_ind}
use Rattle.laws.proofs.Packed.{packed_byte}
use Rattle.placing.specs.Placing.{pixels_of, shade_of, shade_at, placed_byte, placed_in}
use Rattle.placing.proofs.Placed.{placed_byte_lem}
use Rattle.placing.proofs.Left.{left_outside, left_inside}
use Rattle.history.specs.Seen.{in_area}

-- each byte of a file in the area is a byte
pub area_small : (pixels : List ℕ) (i : ℕ) → placed_byte pixels i < 256
unfolding placed_byte shade_at shade_of
area_small pixels i = pick_ind (λ (x : ℕ). x < 256) (eqb (i % 2) 0) (λ _. packed_byte _ (λ b. omega arith)) (λ _. packed_byte _ (λ b. omega arith))

-- in the area the file's bytes, and every other as it was
pub area_byte : (ram file : List ℕ) → 8192 ≤ length ram → (p : ℕ) → get_or (placed_in ram file) p 0 ≡ pick (in_area p) (placed_byte (pixels_of file) (p - 0x100)) (get_or ram p 0)
unfolding in_area
area_byte ram file long p =
    split p 0x100
    (λ low. left_outside ram file long p (λ a b. omega arith) ∙ rw (lt-leb 0x100 p low))
    (λ up.
    split p 0xF00
    (λ inside.
    let at : 0x100 + (p - 0x100) ≡ p = omega arith in
    rw at at (left_inside ram file long (p - 0x100) (omega arith))
    ∙ sym (placed_byte_lem (pixels_of file) (p - 0x100))
    ∙ rw (le-leb 0x100 p up, le-leb p 0xEFF (omega arith)))
    (λ high. left_outside ram file long p (λ a b. omega arith) ∙ rw (le-leb 0x100 p up, lt-leb p 0xEFF (omega arith))))
