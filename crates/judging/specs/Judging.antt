-- Judging a plate: which of its rows are those of the picture afresh of a frame. Assumes nothing.
use Rattle.std.specs.Prelude.{Bool, List, [], ◌∷◌, ◌++◌, ℕ, zero, suc, ◌+◌, ◌*◌, ◌/◌, ◌%◌, eqb, length, get_or, drop}
use Rattle.laws.specs.Pick.{pick}
use Rattle.laws.specs.Lists.{listed}
use Rattle.lighting.specs.Taken.{setting_of}
use Rattle.lighting.specs.Light.{lit_of}
use Rattle.tiles.specs.Picture.{picture_of}
use Rattle.controller.specs.Outcome.{number_of}
use Rattle.controller.specs.Table.{Row, no_frame, no_room, lowest, judged}
use Rattle.placing.specs.Placing.{each}
use Rattle.std.specs.declared.result.Result.{Result}
use Rattle.controller.specs.declared.Refusal.{Refusal}
use Rattle.std.specs.Prelude.{Ok, Err}

-- where byte k of row y of the picture stands: the bytes of its sixteen tiles in that row, 256 × (y/8) + 2 × (y mod 8) + 16 × t and the next, t from 0 to 15
abbrev pub row_place : ℕ → ℕ → ℕ
row_place y k = 256 * (y / 8) + 2 * (y % 8) + 16 * (k / 2) + k % 2

abbrev pub row_byte : List ℕ → ℕ → ℕ → ℕ
row_byte picture y k = get_or picture (row_place y k) 0

-- row y of the picture: its 32 bytes
unfoldable pub row_of : List ℕ → ℕ → List ℕ
row_of picture y = listed (row_byte picture y) 32

-- all 32 bytes of row y of the plate are those of the picture
unfoldable pub row_same : List ℕ → List ℕ → ℕ → Bool
row_same plate picture y = each (λ k. eqb (row_byte plate y k) (row_byte picture y k)) 32

-- rows[y]: 1 where they are, else 0
unfoldable pub row_judged : List ℕ → List ℕ → ℕ → ℕ
row_judged plate picture y = pick (row_same plate picture y) 1 0

-- how many of the first n rows are equal
unfoldable pub rows_equal : List ℕ → List ℕ → ℕ → ℕ
rows_equal plate picture zero = 0
rows_equal plate picture (suc n) = rows_equal plate picture n + row_judged plate picture n

-- the picture afresh of a frame under the registers taken
abbrev pub afresh_of : List ℕ → List ℕ → List ℕ
afresh_of frame regs = picture_of (lit_of frame (setting_of regs)) regs

-- refusal number (0: none), how many rows are equal, and the buffer afterwards
pub record Judging : Type 0 where
  pub number : ℕ
  pub equal : ℕ
  pub rows : List ℕ

abbrev pub judging : ℕ → ℕ → List ℕ → Judging
judging n equal rows = record { number = n; equal = equal; rows = rows }

-- what a judging answers, with the buffer afterwards: how many rows are equal, or the refusal
abbrev pub answered : Result ℕ Refusal → List ℕ → Judging
answered (Ok n) rows = judging 0 n rows
answered (Err why) rows = judging (number_of why) 0 rows

-- 112 rows judged, in order; bytes beyond 112 stay
unfoldable pub judged_by : List ℕ → List ℕ → List ℕ → Judging
judged_by plate picture rows = judging 0 (rows_equal plate picture 112) (listed (row_judged plate picture) 112 ++ drop 112 rows)

-- 4 for the frame's size, then 7 for a buffer of fewer than 112 bytes
unfoldable pub judge_rows : List ℕ → List ℕ → List Row
judge_rows frame rows = no_frame (length frame) ∷ no_room 112 (length rows) ∷ []

-- refused, the value is 0 and nothing is written
unfoldable pub judge_means : List ℕ → List ℕ → List ℕ → List ℕ → Judging
judge_means plate frame regs rows =
    judged (lowest (judge_rows frame rows)) (λ n. judging n 0 rows) (judged_by plate (afresh_of frame regs) rows)
