-- A tick leads to no state record that can't exist. Assumes nothing.
use mathlib.Core.Path.{◌≡◌, refl}
use mathlib.Core.Bool.{true, false}
use mathlib.Core.List.{List, [], ◌∷◌}
use Prim.Native.Nat.{ℕ, ◌*◌, ◌/◌, ◌%◌, ◌<◌, ◌≤◌}
use native.Mathlib.Omega.{arith}
use lib.ListN.{get_or, set}
use borrow.Author.Tests.{ltb-false, lt-leb, le-ltb, ne_eqb}
use Rattle.controller.specs.declared.Controller.{Controller}
use Rattle.timing.specs.Registers.{zero_to}
use Rattle.timing.specs.Timing.{total_of}
use Rattle.controller.specs.State.{left_over, wrong_capture, cant_exist}
use Rattle.capture.specs.Capture.{moved, ended}
use Rattle.controller.proofs.Exists.{exists_parts, exists_whole, held_parts}

-- a held capture at another number of cycles below its total
pub exists_moved : (c : Controller) (n : ℕ) → cant_exist c ≡ false → c.held ≡ true → n < total_of c.taken → cant_exist (moved c n) ≡ false
unfolding moved left_over wrong_capture
exists_moved c n e h less =
    let p = exists_parts c e in
    let q = held_parts c e h in
    exists_whole (moved c n)
    (record {
      bank = p.bank;
      select = p.select;
      first = p.first;
      holds = p.holds;
      nothing = simp h;
      capture = simp (h, q.odd, q.small, lt-leb (total_of c.taken) n less);
    })

-- the first of the registers once its bit 0 is clear
first_cleared : (regs : List ℕ) → get_or (set regs 0 (get_or regs 0 0 / 2 * 2)) 0 0 ≡ get_or regs 0 0 / 2 * 2
first_cleared [] = refl
first_cleared (r ∷ regs) = refl

-- a capture that is at its end
pub exists_ended : (c : Controller) → cant_exist c ≡ false → cant_exist (ended c) ≡ false
unfolding ended left_over wrong_capture zero_to
exists_ended c e =
    let p = exists_parts c e in
    let f = first_cleared c.registers in
    let r = get_or c.registers 0 0 in
    let small : r ≤ 7 = ltb-false 7 r p.first in
    exists_whole (ended c)
    (record {
      bank = p.bank;
      select = p.select;
      first = rw f (le-ltb 7 (r / 2 * 2) (omega arith));
      holds = rw (f, ne_eqb (r / 2 * 2 % 2) 1 (omega arith));
      nothing = refl;
      capture = refl;
    })
