-- What is seen of a record and of a plate: the devices of the contracts, met by the bytes. Assumes nothing.
use mathlib.Core.Path.{◌≡◌, refl, sym, ap, ◌∙◌}
use mathlib.Core.Bool.{Bool, true, false, not, ◌&&◌}
use mathlib.Core.List.{List, [], ◌++◌, append-nil}
use Prim.Native.Nat.{ℕ, ◌%◌}
use native.Mathlib.Omega.{arith}
use lib.Dec.{eqb}
use lib.ListN.{length, get_or, drop, drop_of_length-le}
use lib.Seq.{get_or-take, get_or-drop}
use borrow.Author.Tests.{le-ltb}
use Rattle.laws.specs.Pick.{pick}
use Rattle.timing.specs.Lent.{ram_allowed}
use Rattle.controller.specs.State.{started}
use Rattle.controller.specs.Table.{lowest}
use Rattle.cartridge.specs.Bus.{registers_on}
use Rattle.layout.specs.Layout.{decoded}
use Rattle.shades.specs.Shades.{exported}
use Rattle.plates.specs.Grey.{plate_of, export_rows, export_means}
use Rattle.plates.proofs.Exports.{export_refuses}
use Rattle.events.specs.Aside.{takes_writes}

-- register 0 has bit 0 set
pub busy_at : (s : List ℕ) → started (decoded s).registers ≡ eqb (get_or s 13 0 % 2) 1
unfolding decoded
busy_at s = ap (λ (x : ℕ). eqb (x % 2) 1) (get_or-take 54 (drop 13 s) 0 0 (omega arith) ∙ get_or-drop 13 s 0 0)

-- whether bus writes go to the RAM, byte by byte
pub takes_byte : (s : List ℕ) (on : Bool) → on ≡ registers_on (decoded s) → takes_writes (decoded s) ≡ (not on && (not (eqb (get_or s 13 0 % 2) 1) && eqb (get_or s 1 0) 1))
unfolding decoded
takes_byte s on e = (λ i. not (sym e i) && pick (busy_at s i) false (eqb (get_or s 1 0) 1)) ∙ ap (λ (t : Bool). not on && t) (as_both (eqb (get_or s 13 0 % 2) 1) (eqb (get_or s 1 0) 1))
  where
    as_both : (b t : Bool) → pick b false t ≡ (not b && t)
    as_both true t = refl
    as_both false t = refl

-- the file of a plate, where the RAM's length is allowed and the buffer is as long as it
pub plate_file : (ram out file : List ℕ) (n v : ℕ) → ram_allowed (length ram) ≡ true → length out ≡ 14351 → exported n v file ≡ export_means ram out → file ≡ plate_of ram
unfolding export_rows lowest
plate_file ram out file n v h l e =
    let z : lowest (export_rows ram out) ≡ 0 = simp (h, le-ltb (length out) 14351 (omega arith)) in
    let d : drop 14351 out ≡ [] = drop_of_length-le out {i = 14351} (omega arith) in
    ap (λ x. x.bytes) (e ∙ (export_refuses ram out).does z) ∙ ap (λ t. plate_of ram ++ t) d ∙ append-nil (plate_of ram)
