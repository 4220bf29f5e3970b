-- The bytes of a report. Assumes nothing.
use Rattle.std.specs.Prelude.{ℕ}
use Rattle.salvaging.specs.declared.put.Mark.{Mark}
use Rattle.salvaging.specs.declared.put.Mark.TheVariants.{Kept, Malformed, Repeated}

-- 0 kept, 1 malformed, 2 accepted but dropped as repeated
abbrev pub byte_of : Mark → ℕ
byte_of Kept = 0
byte_of Malformed = 1
byte_of Repeated = 2
