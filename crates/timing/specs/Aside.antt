-- Aside: devices of contracts between functions. Nothing here need be believed: every use of it is tied by a proof to the definitions beside it.
-- The closed form of many cycles: how many of the picture's pixels are done after so many. Assumes nothing.
use Rattle.std.specs.Prelude.{List, ℕ, ◌+◌, ◌-◌, min}
use Rattle.laws.specs.Pick.{pick}
use Rattle.timing.specs.Timing.{n_set, reading_from, clocks}

-- the clock after which the picture's pixels begin
unfoldable pub picture_from : List ℕ → ℕ
picture_from regs = reading_from regs + pick (n_set regs) 896 1024

-- how many of the picture's 14,336 pixels are done after e cycles
unfoldable pub done_by : List ℕ → ℕ → ℕ
done_by regs e = min (clocks e - picture_from regs) 14336
