-- A plate placed in the area: when it is refused, that no second outcome fits, and the bytes that are put, two a turn. Assumes nothing.
use mathlib.Core.Path.{◌≡◌, refl, sym, ap, ap₂, ◌∙◌}
use mathlib.Core.Bool.{Bool, true, false, not, ◌&&◌}
use mathlib.Core.List.{List, [], ◌∷◌}
use Prim.Native.Nat.{ℕ, ◌+◌, ◌*◌, ◌/◌, ◌%◌, ◌<◌}
use native.Mathlib.Omega.{arith}
use lib.ListN.{length, get_or, take, drop, length-drop}
use lib.Seq.{take_all}
use lib.Dec.{eqb}
use borrow.Author.Tests.{eqb-true}
use Rattle.laws.proofs.Bools.{not_fails, both_left, both_right}
use Rattle.laws.specs.Pick.{pick}
use Rattle.controller.specs.declared.Controller.{Controller}
use Rattle.controller.specs.declared.Refusal.TheVariants.{State, Held}
use Rattle.std.specs.declared.result.Result.{Result}
use Rattle.controller.specs.declared.Refusal.{Refusal}
use Rattle.std.specs.Prelude.{⊤}
use Rattle.controller.specs.Outcome.{write_number, outcome}
use Rattle.controller.specs.Picture.{afresh}
use Rattle.controller.specs.State.{cant_exist}
use Rattle.timing.specs.Lent.{ram_allowed}
use Rattle.controller.specs.Outcome.{refusal}
use Rattle.controller.specs.Table.{row, no_ram, lowest}
use Rattle.controller.proofs.Afresh.{only_picture}
use Rattle.controller.proofs.Refusals.{Refuses, in_outcome, refuses, judged_pick, rising_from, first_fails}
use Rattle.laws.proofs.Packed.{packed_ext}
use Rattle.tiles.proofs.Area.{column_of, row_of, byte_of, byte_of_low, byte_of_high}
use Rattle.placing.specs.Placing.{has_header, only_greys, is_plate, shade_of, shade_at, placed_byte, placed_in, no_plate, placed, place_rows, place_means}
use Rattle.placing.specs.Aside.{lows_at, highs_at}

-- a placing is refused by the lowest number of its rows, and only then
pub place_refuses : (c : Controller) (ram file : List ℕ) → Refuses (place_rows c ram file) in_outcome (refusal c ram []) (place_means c ram file) (placed c ram file)
unfolding place_rows place_means rising_from
place_refuses c ram file =
    refuses (place_rows c ram file) in_outcome (refusal c ram []) (placed c ram file) (λ n. refl) refl refl

-- what is so where it is not
pub record PlaceFits (c : Controller) (ram file : List ℕ) : Type 0 where
  pub exists : cant_exist c ≡ false
  pub ram_fits : ram_allowed (length ram) ≡ true
  pub file_fits : is_plate file ≡ true
  pub none_held : c.held ≡ false

pub place_fits : (c : Controller) (ram file : List ℕ) → lowest (place_rows c ram file) ≡ 0 → PlaceFits c ram file
unfolding place_rows
place_fits c ram file e =
    let s = first_fails _ _ e in
    let m = first_fails _ _ s.1 in
    let p = first_fails _ _ m.1 in
    let h = first_fails _ _ p.1 in
    record { exists = s.0; ram_fits = not_fails _ m.0; file_fits = not_fails _ p.0; none_held = h.0 }

-- no number is given to a state that can exist just where the RAM and the file are ones of theirs and no capture is held
pub place_none : (c : Controller) (ram file : List ℕ) → cant_exist c ≡ false → eqb (lowest (place_rows c ram file)) 0 ≡ (ram_allowed (length ram) && (is_plate file && not c.held))
unfolding place_rows lowest
place_none c ram file e = rw e (by_tests (ram_allowed (length ram)) (is_plate file) c.held)
  where
    by_tests : (p q r : Bool) → eqb (pick (not p) 3 (pick (not q) 8 (pick r 10 0))) 0 ≡ (p && (q && not r))
    by_tests false q r = refl
    by_tests true false r = refl
    by_tests true true false = refl
    by_tests true true true = refl

-- of the state, the number and the RAM turn on whether it can exist and whether a capture is held, and on nothing else: not on write enable
pub place_same : (c d : Controller) (ram file : List ℕ) → cant_exist c ≡ cant_exist d → c.held ≡ d.held → ((place_means c ram file).number ≡ (place_means d ram file).number) × ((place_means c ram file).ram ≡ (place_means d ram file).ram)
unfolding place_rows place_means
place_same c d ram file e h =
    let n : lowest (place_rows c ram file) ≡ lowest (place_rows d ram file) = rows_same e h in (
      (place_refuses c ram file).numbered ∙ n ∙ sym (place_refuses d ram file).numbered,
      left c ∙ ap (λ (k : ℕ). pick (eqb k 0) (placed_in ram file) ram) n ∙ sym (left d),
    )
  where
    rows_same : cant_exist c ≡ cant_exist d → c.held ≡ d.held → lowest (place_rows c ram file) ≡ lowest (place_rows d ram file)
    rows_same e h = ap₂ (λ (x y : Bool). lowest (row State x ∷ no_ram (length ram) ∷ no_plate file ∷ row Held y ∷ [])) e h

    left : (c : Controller) → (place_means c ram file).ram ≡ pick (eqb (lowest (place_rows c ram file)) 0) (placed_in ram file) ram
    left c = judged_pick (λ o. o.ram) (lowest (place_rows c ram file)) (placed c ram file) ram (λ k. refl)

-- one answer, and one RAM
pub only_place : (r s : Result ⊤ Refusal) (c : Controller) (ram ram' : List ℕ) → outcome (write_number r) 0 c ram [] ≡ outcome (write_number s) 0 c ram' [] → (r ≡ s) × (ram ≡ ram')
only_place r s c ram ram' e = only_picture r s ram ram' (λ i. afresh (e i).number (e i).ram)

pub plate_length : (file : List ℕ) → is_plate file ≡ true → length file ≡ 14351
unfolding is_plate
plate_length file e = eqb-true (length file) 14351 (both_left (eqb (length file) 14351) _ e)

-- what stands after the header, cut at its end
pub pixels_whole : (file : List ℕ) → length file ≡ 14351 → take 14336 (drop 15 file) ≡ drop 15 file
pixels_whole file e = take_all 14336 (drop 15 file) (rw (length-drop 15 file) (omega arith))

-- and its pixels are greys
pub plate_greys : (file : List ℕ) → is_plate file ≡ true → only_greys (take 14336 (drop 15 file)) ≡ true
unfolding is_plate
plate_greys file e =
    ap only_greys (pixels_whole file (plate_length file e))
    ∙ both_right (has_header file) (only_greys (drop 15 file)) (both_right (eqb (length file) 14351) _ e)

-- a shade is one of four
pub shade_of_small : (grey : ℕ) → shade_of grey < 4
unfolding shade_of
shade_of_small grey = omega arith

-- byte i of what is placed, from the shades of the file
pub placed_byte_lem : (pixels : List ℕ) (i : ℕ) → placed_byte pixels i ≡ byte_of (shade_at pixels) i
unfolding placed_byte
placed_byte_lem pixels i = refl

-- the pixels of turn j
abbrev turn : ℕ → ℕ
turn j = 128 * (8 * (j / 128) + j % 8) + 8 * (j / 8 % 16)

turn_place : (j d b : ℕ) → d < 2 → turn j + b ≡ 128 * row_of (2 * j + d) + (8 * column_of (2 * j + d) + b)
turn_place j d b h =
    let a : (2 * j + d) / 256 ≡ j / 128 = omega arith in
    let e : (2 * j + d) / 2 ≡ j = omega arith in
    let f : (2 * j + d) / 16 ≡ j / 8 = omega arith in
    rw (a, e, f) (omega arith)

-- their low bits, and their high bits
pub placed_low : (pixels : List ℕ) (j : ℕ) → lows_at pixels (turn j) ≡ placed_byte pixels (2 * j)
unfolding lows_at shade_at
placed_low pixels j =
    let z : 2 * j + 0 ≡ 2 * j = omega arith in
    packed_ext _ _ 8 (λ b h. ap (λ (n : ℕ). shade_of (get_or pixels n 0) % 2) (rw z at (turn_place j 0 b (omega arith))))
    ∙ sym (placed_byte_lem pixels (2 * j) ∙ byte_of_low (shade_at pixels) (2 * j) (omega arith))

pub placed_high : (pixels : List ℕ) (j : ℕ) → highs_at pixels (turn j) ≡ placed_byte pixels (2 * j + 1)
unfolding highs_at shade_at
placed_high pixels j =
    packed_ext _ _ 8 (λ b h. ap (λ (n : ℕ). shade_of (get_or pixels n 0) / 2) (turn_place j 1 b (omega arith)))
    ∙ sym (placed_byte_lem pixels (2 * j + 1) ∙ byte_of_high (shade_at pixels) (2 * j + 1) (omega arith))
