-- `cartridge::read` meets its contract: it is judged, and then done. Assumes nothing.
use mathlib.Core.Path.{refl, ap, ◌∙◌}
use mathlib.Core.List.{[]}
use Prim.Native.Nat.{ℕ}
use Rattle.cartridge.proofs.Facing.{faced_read}
use Rattle.cartridge.proofs.Refusals.{read_refuses, read_fits}
use Rattle.controller.proofs.Refusals.{by_why, by_fits, fits_none}
use Rattle.controller.specs.Outcome.{outcome}
use Rattle.cartridge.proofs.read.Goals as goal

pub returns-in-Err : goal.returns-in-Err
returns-in-Err c = by_why (read_refuses _ _ _ _) _ c.judge_read.ensures _ c.in-Err.is

pub byte_read-byte-requires : goal.byte_read-byte-requires
byte_read-byte-requires c =
    let f = read_fits _ _ _ _ (fits_none _ _ c.judge_read.ensures c.in_default.is) in
    (f.rom_fits, f.ram_fits)

pub returns : goal.returns
returns c =
    let a = c.args in
    ap (λ (b : ℕ). outcome 0 b a.state a.ram.now []) (c.byte_read-byte.ensures ∙ faced_read a.state _ _ _ refl refl refl)
    ∙ by_fits (read_refuses _ _ _ _) _ c.judge_read.ensures c.in_default.is
