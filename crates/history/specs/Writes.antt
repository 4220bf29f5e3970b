-- A choice and a placing as the bus writes that they amount to. Assumes nothing.
use Rattle.std.specs.Prelude.{Bool, List, [], ◌∷◌, ◌++◌, ℕ, zero, suc, ◌+◌, ◌/◌, ◌%◌}
use Rattle.laws.specs.Pick.{pick}
use Rattle.std.specs.declared.option.Option.{Option}
use Rattle.desk.specs.Choice.{steps_of, value_of}
use Rattle.placing.specs.Placing.{pixels_of, placed_byte}
use Rattle.history.specs.History.{Call, write}

-- writes of f 0 .. f (n − 1), in order, to the registers or the RAM places from one on
unfoldable pub writes_from : List ℕ → ℕ → (ℕ → ℕ) → ℕ → List Call
writes_from image from f zero = []
writes_from image from f (suc n) = writes_from image from f n ++ (write image (0xA000 + (from + n)) (f n) ∷ [])

-- a choice: select to the registers, the two exposure registers, the 48 matrix registers, and this select back
unfoldable pub choice_writes : List ℕ → ℕ → ℕ → ℕ → Bool → Option ℕ → List Call
choice_writes image select light level plain exposure =
    write image 0x4000 0x10
    ∷ write image 0xA002 (steps_of exposure / 256)
    ∷ write image 0xA003 (steps_of exposure % 256)
    ∷ (writes_from image 6 (value_of light level plain) 48 ++ (write image 0x4000 select ∷ []))

-- a placing: RAM writing enabled, select to RAM bank 0, the area's 3,584 bytes, and this select and this enabling back
unfoldable pub place_writes : List ℕ → Bool → ℕ → List ℕ → List Call
place_writes image enabled select file =
    write image 0x0000 0x0A
    ∷ write image 0x4000 0x00
    ∷ (writes_from image 0x100 (placed_byte (pixels_of file)) 3584
    ++ (write image 0x4000 select ∷ write image 0x0000 (pick enabled 0x0A 0x00) ∷ []))
