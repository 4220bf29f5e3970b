-- Every starred figure agrees: one test, computed over the whole table. Assumes nothing.
use mathlib.Core.Bool.{Bool, true, false, ◌&&◌}
use mathlib.Core.Path.{◌≡◌, ap}
use mathlib.Core.List.{List, [], ◌∷◌}
use Prim.Native.Nat.{ℕ, ◌+◌, ◌*◌, ◌≤◌}
use native.Mathlib.Omega.{arith}
use lib.IntN.{ℤ, pos, negsuc}
use lib.Dec.{T, eqb, eqb→eq}
use mir.Facts.{and_yes}
use lib.ListN.{get_or}
use Rattle.laws.specs.Pick.{pick}
use Rattle.laws.specs.Bits.{put_bit}
use Rattle.lighting.specs.Taken.{exposure_of, mode_of, quarters_of, kind_of, setting_of, inverted_of}
use Rattle.lighting.specs.Light.{adapted_z, adapted, exposed, turned, light_of, lit_of}
use Rattle.filters.specs.Edge.{held, edge_of, mode2, mode_d, mode_e}
use Rattle.sensor.specs.Nine.{signed_at, three_of, nine_of, step4}
use Rattle.sensor.specs.Row.{passes, row_filter, step5}
use Rattle.sensor.specs.Shade.{value_at, shade_of, shade_at}
use Rattle.timing.specs.Timing.{n_set, total_of, reading_from, rows_read, first_row, due, put_pixel, written_at}
use Rattle.tiles.specs.Tiles.{Bytes, put_at}
use Rattle.laws.specs.Lists.{packed}
use Rattle.starred.specs.Figures.{Figure, Agree, table, first_cycle, shown, changed}

-- the test of two numbers with signs
same : ℤ → ℤ → Bool
same (pos a) (pos b) = eqb a b
same (pos a) (negsuc b) = false
same (negsuc a) (pos b) = false
same (negsuc a) (negsuc b) = eqb a b

same_eq : (a b : ℤ) → T (same a b) → a ≡ b
unfolding same
same_eq (pos a) (pos b) t = ap pos (eqb→eq a b t)
same_eq (pos a) (negsuc b) t = absurd t
same_eq (negsuc a) (pos b) t = absurd t
same_eq (negsuc a) (negsuc b) t = ap negsuc (eqb→eq a b t)

-- the test of a table
agrees : List Figure → Bool
unfolding same
agrees [] = true
agrees (row ∷ rows) = same row.given row.paper && agrees rows

agree : (rows : List Figure) → T (agrees rows) → Agree rows
unfolding agrees Agree
agree [] t = tt
agree (row ∷ rows) t =
    let p = and_yes (same row.given row.paper) (agrees rows) t in
    (same_eq row.given row.paper p.0, agree rows p.1)

-- The starred figures: what the definitions give is what the paper says, row by row.
pub figures : Agree table
unfolding same agrees table first_cycle shown changed put_bit total_of reading_from rows_read first_row due written_at put_pixel put_at packed exposure_of mode_of quarters_of kind_of setting_of inverted_of adapted_z adapted exposed turned light_of lit_of held edge_of mode2 mode_d mode_e signed_at nine_of three_of step4 passes row_filter step5 value_at shade_of shade_at
figures = agree table tt

-- No capture takes longer than the largest total.
pub largest : (regs : List ℕ) → Bytes regs → total_of regs ≤ 1081518
unfolding total_of exposure_of
largest regs b = within (n_set regs)
  where
    within : (n : Bool) → 32446 + pick n 0 512 + 16 * (get_or regs 2 0 * 256 + get_or regs 3 0) ≤ 1081518
    within true = omega (arith, b 2, b 3)
    within false = omega (arith, b 2, b 3)
