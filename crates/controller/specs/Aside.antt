-- Aside: devices of contracts between functions. Nothing here need be believed: every use of it is tied by a proof to the definitions beside it.
-- What is looked at of a record. Assumes nothing.
use Rattle.std.specs.Prelude.{ℕ, Bool, false, List, [], ◌∷◌}
use Rattle.timing.specs.declared.Cycles.{Cycles}
use Rattle.controller.specs.declared.Controller.{Controller}

-- a record that has what is looked at: ROM bank, select, register 0, whether a capture is held, its elapsed cycles and the registers it took
abbrev pub seen : ℕ → ℕ → ℕ → Bool → Cycles → List ℕ → Controller
seen bank select first held elapsed taken = record {
  enabled = false;
  bank = bank;
  select = select;
  registers = first ∷ [];
  held = held;
  taken = taken;
  elapsed = elapsed;
  started = 0;
  ended = 0;
}
