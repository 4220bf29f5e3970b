-- `calls::read` meets its contract: it is judged, and then done. Assumes nothing.
use mathlib.Core.Path.{ap, ◌∙◌}
use mathlib.Core.List.{[]}
use Prim.Native.Nat.{ℕ}
use Rattle.std.proofs.lemmas.Result.{err_from_is_err_and}
use Rattle.controller.specs.Outcome.{outcome}
use Rattle.controller.proofs.Refusals.{by_why, by_fits, fits_none}
use Rattle.cartridge.proofs.Refusals.{read_refuses, read_fits}
use Rattle.layout.specs.Layout.{decoded}
use Rattle.calls.proofs.Bytes.{read_at, put_bytes_lem, same}
use Rattle.calls.proofs.read.Goals as goal

pub returns-in_err-judge_read : goal.returns-in_err-judge_read
returns-in_err-judge_read c =
    let p = err_from_is_err_and c.from_residual.result c.from_residual.ensures.1 in
    rw (p.1, p.2) (put_bytes_lem (same _ (λ i. (c.type_inv.state i).fits) c.requires) (by_why (read_refuses _ _ _ _) _ c.judge_read.ensures _ c.in_err-judge_read.was))

pub byte_read-byte-requires : goal.byte_read-byte-requires
byte_read-byte-requires c =
    let f = read_fits _ _ _ _ (fits_none _ _ c.judge_read.ensures c.in_ok-judge_read.was) in
    (f.rom_fits, f.ram_fits)

pub returns : goal.returns
returns c =
    let a = c.args in
    put_bytes_lem (same _ (λ i. (c.type_inv.state i).fits) c.requires)
    (ap (λ (b : ℕ). outcome 0 b (decoded a.state.now) a.ram.now []) (c.byte_read-byte.ensures ∙ read_at a.state.now _ _ _)
    ∙ by_fits (read_refuses _ _ _ _) _ c.judge_read.ensures c.in_ok-judge_read.was)
