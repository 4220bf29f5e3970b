-- What the exported judging of a plate answers and leaves. Assumes nothing.
use Rattle.std.specs.Prelude.{List, ℕ}
use Rattle.judging.specs.Judging.{Judging, judge_means}
use Rattle.answers.specs.Packed.{packed}
use Rattle.answers.specs.Called.{Filled, filled}

-- a plate judged: the value is how many rows are equal
abbrev pub as_judged : Judging → Filled
as_judged j = filled (packed j.number j.equal) j.rows

-- plate, frame, 54 registers taken, and the buffer with a byte for each row
unfoldable pub judge_bytes : List ℕ → List ℕ → List ℕ → List ℕ → Filled
judge_bytes plate frame registers rows = as_judged (judge_means plate frame registers rows)
