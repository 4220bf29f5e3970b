-- Lit values that agree in rows 7 to 120 are written alike, cycle by cycle, under the same registers. Assumes nothing.
use mathlib.Core.List.{List}
use mathlib.Core.Path.{◌≡◌, refl, ap}
use Prim.Native.Nat.{ℕ, ◌-◌, ◌*◌, ◌%◌, ◌<◌, ◌≤◌}
use native.Mathlib.Omega.{arith}
use lib.Dec.{leb, ltb}
use mathlib.Core.Bool.{◌&&◌}
use borrow.Author.Tests.{leb-true, ltb-true}
use Rattle.laws.specs.Pick.{pick}
use Rattle.laws.proofs.Pick.{pick_same}
use Rattle.laws.proofs.Bools.{both_left, both_right}
use Rattle.sensor.proofs.Rows.{Alike, rows}
use Rattle.tiles.specs.Tiles.{put_at}
use Rattle.timing.specs.Timing.{rows_read, due, candidate, row_of, put_pixel, written_at}

module _ {lit mit : ℕ → ℕ → ℕ} (alike : Alike lit mit) (regs : List ℕ) where
  put_lit : (k : ℕ) (ram : List ℕ) → put_pixel lit regs k ram ≡ put_pixel mit regs k ram
  unfolding put_pixel
  put_lit k ram =
      pick_same (leb 8 (row_of regs k) && ltb (row_of regs k) 120)
      (λ on.
      let from : 8 ≤ row_of regs k = leb-true _ _ (both_left (leb 8 (row_of regs k)) (ltb (row_of regs k) 120) on) in
      let to : row_of regs k < 120 = ltb-true _ _ (both_right (leb 8 (row_of regs k)) (ltb (row_of regs k) 120) on) in
      ap (put_at ram (k % 128) (row_of regs k - 8)) (rows alike regs (k % 128) (row_of regs k) (omega arith) from (omega arith)).shade)
      (λ off. refl)

  pub written_lit : (e : ℕ) (ram : List ℕ) → written_at lit regs e ram ≡ written_at mit regs e ram
  unfolding written_at
  written_lit e ram =
      ap (λ r. pick (due regs (candidate regs e) e && ltb (candidate regs e) (128 * rows_read regs)) r ram) (put_lit (candidate regs e) ram)
