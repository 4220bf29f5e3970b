-- `crc::part` meets its contract: the register's four bytes, each looked up. Assumes nothing.
use mathlib.Core.Path.{ap, ap₂, ◌∙◌}
use mathlib.Core.List.{List}
use Prim.Native.Nat.{ℕ, ◌+◌, ◌*◌, ◌<◌, ◌^◌}
use native.Mathlib.Omega.{arith}
use lib.Bits.{bit_xor, xor_lt}
use lib.ListN.{get_or}
use Rattle.laws.specs.Iter.{iter}
use Rattle.crc.specs.Crc.{bit_step}
use Rattle.crc.proofs.Ahead.{looked}
use Rattle.crc.proofs.Steps.{four_apart, four_on}
use Rattle.crc.proofs.part.Goals as goal

pub returns : goal.returns
returns c =
    let a = c.args in
    let n = c.from_le_bytes.result in
    let x = bit_xor a.c n in
    let small : x < 2 ^ 32 = xor_lt 32 a.c n (omega arith) (omega (arith, c.from_le_bytes.type_inv)) in
    let bytes = c.to_le_bytes.ensures in
    let t = c.requires.0 in
    let b0 = looked t (a.k + 3) _ _ (omega arith) (c.from.ensures ∙ ap (λ (s : List ℕ). get_or s 0 0) bytes) (omega arith) in
    let b1 = looked t (a.k + 2) _ _ (omega arith) (c.from-2.ensures ∙ ap (λ (s : List ℕ). get_or s 1 0) bytes) (omega arith) in
    let b2 = looked t (a.k + 1) _ _ (omega arith) (c.from-3.ensures ∙ ap (λ (s : List ℕ). get_or s 2 0) bytes) (omega arith) in
    let b3 = looked t a.k _ _ (omega arith) (c.from-4.ensures ∙ ap (λ (s : List ℕ). get_or s 3 0) bytes) (omega arith) in
    ap₂ bit_xor (ap₂ bit_xor (ap₂ bit_xor b0 b1) b2) b3
    ∙ four_apart a.k x small
    ∙ ap (λ (m : ℕ). iter bit_step (8 * a.k + 32) (bit_xor a.c m)) c.from_le_bytes.ensures
    ∙ four_on a.k a.c a.s.now c.told-s c.fits-s
