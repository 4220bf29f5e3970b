-- What a write does, region by region. Assumes nothing.
use mathlib.Core.Path.{◌≡◌}
use mathlib.Core.Bool.{true, false}
use mathlib.Core.List.{List}
use Prim.Native.Nat.{ℕ, ◌%◌}
use lib.Dec.{ltb}
use Rattle.controller.specs.declared.Controller.{Controller}
use Rattle.cartridge.specs.Bus.{registers_on, control_written, register_written, store_written, ram_written, left, byte_written}

module _ (c : Controller) (ram store image : List ℕ) (a v : ℕ) where
  pub written_control : ltb a 0x8000 ≡ true → byte_written c ram store image a v ≡ left (control_written c a v) ram store
  unfolding byte_written
  written_control h = simp h

  pub written_register : ltb a 0x8000 ≡ false → registers_on c ≡ true → byte_written c ram store image a v ≡ left (register_written c (a % 128) v) ram (store_written c store image (a % 128) v)
  unfolding byte_written
  written_register h r = simp (h, r)

  pub written_ram : ltb a 0x8000 ≡ false → registers_on c ≡ false → byte_written c ram store image a v ≡ left c (ram_written c ram a v) store
  unfolding byte_written
  written_ram h r = simp (h, r)
