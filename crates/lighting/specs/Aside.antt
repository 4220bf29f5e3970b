-- Aside: devices of contracts between functions. Nothing here need be believed: every use of it is tied by a proof to the definitions beside it.
-- What is asked of a setting. Assumes nothing.
use Rattle.std.specs.Prelude.{List, ◌≡◌, ℕ, ◌≤◌}
use Rattle.lighting.specs.declared.Setting.{Setting}
use Rattle.lighting.specs.Taken.{setting_of}

-- the range that the quarters lie in, whatever the registers hold
pub record Sane (set : Setting) : Type 0 where
  pub quarters : set.quarters ≤ 20

-- a setting is what the registers ask, and in its range
pub record Asked (set : Setting) (regs : List ℕ) : Type 0 where
  pub same : set ≡ setting_of regs
  pub sane : Sane set
