-- `save::parts::put` meets its contract: the invariant, that so many of the bytes are put. Assumes nothing.
use mathlib.Core.Path.{◌≡◌, refl, ap, ◌∙◌}
use mathlib.Core.List.{List, ◌++◌, append_assoc}
use Prim.Native.Nat.{ℕ, ◌+◌}
use native.Mathlib.Numerals.{add-one}
use native.Mathlib.Omega.{arith}
use lib.ListN.{length, get_or, take, drop, set, length-set}
use lib.Seq.{take-length, paste, paste-zero, paste-suc}
use Rattle.save.proofs.parts.put.Goals as goal

pub loop-i-init : goal.loop-i-init
loop-i-init c = (omega arith, refl, paste-zero c.args.to.now c.args.at c.args.from.now)

pub loop-i-preserved : goal.loop-i-preserved
loop-i-preserved c =
    let l = c.loop-i in
    let a = c.args in
    let f = a.from.now in (
      omega arith,
      simp length-set l.invariant.1,
      rw add-one
          (ap (λ (s : List ℕ). set s (a.at + l.i) (get_or f l.i 0)) l.invariant.2
          ∙ paste-suc a.to.now a.at f l.i 0 (omega arith) (omega arith)),
    )

pub returns : goal.returns
returns c =
    let l = c.loop-i in
    let a = c.args in
    let f = a.from.now in
    let s = a.to.now in
    let all : l.i ≡ length f = omega arith in
    l.invariant.2
    ∙ ap (λ (n : ℕ). paste s a.at f n) all
    ∙ ap (λ (x : List ℕ). take a.at s ++ x ++ drop (a.at + length f) s) (take-length f)
    ∙ append_assoc (take a.at s) f (drop (a.at + length f) s)
