-- What a read and a write look at is all that they ask of a record. Assumes nothing.
use mathlib.Core.Path.{◌≡◌}
use mathlib.Core.Bool.{Bool, false}
use mathlib.Core.List.{List}
use Prim.Native.Nat.{ℕ}
use lib.ListN.{get_or}
use Rattle.controller.specs.declared.Controller.{Controller}
use Rattle.cartridge.specs.Bus.{rom_read, byte_read, ram_written}
use Rattle.cartridge.specs.Aside.{facing}

module _ (c : Controller) where
  pub faced_read : (rom ram : List ℕ) (a : ℕ) {bank select first : ℕ} → bank ≡ c.bank → select ≡ c.select → first ≡ get_or c.registers 0 0 → byte_read (facing false bank select first) rom ram a ≡ byte_read c rom ram a
  unfolding byte_read rom_read
  faced_read rom ram a p q r = λ i. byte_read (facing false (p i) (q i) (r i)) rom ram a

  pub faced_write : (ram : List ℕ) (a v : ℕ) {enabled : Bool} {select first : ℕ} → enabled ≡ c.enabled → select ≡ c.select → first ≡ get_or c.registers 0 0 → ram_written (facing enabled 0 select first) ram a v ≡ ram_written c ram a v
  unfolding ram_written
  faced_write ram a v p q r = λ i. ram_written (facing (p i) 0 (q i) (r i)) ram a v
