-- What a cycle meant while a frame store held the image itself, each pixel lit as it was asked for by the registers taken; `proofs/Light.antt` has what that old
-- meaning is compared with. Assumes nothing.
use mathlib.Core.List.{List}
use Prim.Native.Nat.{ℕ}
use Rattle.lighting.specs.Taken.{setting_of}
use Rattle.lighting.specs.Light.{lit_of}
use Rattle.capture.specs.Capture.{Ticking, cycle}

abbrev pub cycle_before : List ℕ → Ticking → Ticking
cycle_before store w = cycle (lit_of store (setting_of w.state.taken)) w
