-- A read and a write: each number exactly when its row holds and no lower one does, and what is so where none is given. Assumes nothing.
use mathlib.Core.Path.{◌≡◌, refl}
use mathlib.Core.Bool.{Bool, true, false, not, ◌&&◌}
use mathlib.Core.List.{List, []}
use Prim.Native.Nat.{ℕ}
use lib.Dec.{eqb}
use lib.ListN.{length}
use Rattle.laws.specs.Pick.{pick}
use Rattle.laws.proofs.Bools.{not_fails}
use Rattle.controller.specs.declared.Controller.{Controller}
use Rattle.timing.specs.Lent.{rom_allowed, ram_allowed, frame_allowed}
use Rattle.controller.specs.State.{cant_exist}
use Rattle.controller.specs.Table.{on_cartridge}
use Rattle.cartridge.specs.Bus.{byte_written}
use Rattle.controller.specs.Table.{lowest}
use Rattle.controller.specs.Outcome.{refusal}
use Rattle.cartridge.specs.Calls.{read_rows, byte_of, read_means, write_rows, wrote, write_means}
use Rattle.controller.proofs.Refusals.{rising_from, Refuses, refuses, first_fails, in_outcome}

module _ (c : Controller) where
  -- a read is refused by the lowest number of its rows, and only then
  pub read_refuses : (rom ram : List ℕ) (a : ℕ) → Refuses (read_rows c rom ram a) in_outcome (refusal c ram []) (read_means c rom ram a) (byte_of c rom ram a)
  unfolding read_rows read_means rising_from
  read_refuses rom ram a = refuses (read_rows c rom ram a) in_outcome (refusal c ram []) (byte_of c rom ram a) (λ n. refl) refl refl

  -- a write
  pub write_refuses : (ram store image : List ℕ) (a v : ℕ) → Refuses (write_rows c ram store image a) in_outcome (refusal c ram store) (write_means c ram store image a v) (wrote (byte_written c ram store image a v))
  unfolding write_rows write_means rising_from
  write_refuses ram store image a v =
      refuses (write_rows c ram store image a) in_outcome (refusal c ram store) (wrote (byte_written c ram store image a v)) (λ n. refl) refl refl

pub record ReadFits (c : Controller) (rom ram : List ℕ) (a : ℕ) : Type 0 where
  pub exists : cant_exist c ≡ false
  pub rom_fits : rom_allowed (length rom) ≡ true
  pub ram_fits : ram_allowed (length ram) ≡ true
  pub on_it : on_cartridge a ≡ true

pub read_fits : (c : Controller) (rom ram : List ℕ) (a : ℕ) → lowest (read_rows c rom ram a) ≡ 0 → ReadFits c rom ram a
unfolding read_rows
read_fits c rom ram a e =
    let s = first_fails _ _ e in
    let r = first_fails _ _ s.1 in
    let m = first_fails _ _ r.1 in
    let p = first_fails _ _ m.1 in
    record { exists = s.0; rom_fits = not_fails _ r.0; ram_fits = not_fails _ m.0; on_it = not_fails _ p.0 }

pub record WriteFits (c : Controller) (ram store image : List ℕ) (a : ℕ) : Type 0 where
  pub exists : cant_exist c ≡ false
  pub ram_fits : ram_allowed (length ram) ≡ true
  pub store_fits : frame_allowed (length store) ≡ true
  pub image_fits : frame_allowed (length image) ≡ true
  pub on_it : on_cartridge a ≡ true

pub write_fits : (c : Controller) (ram store image : List ℕ) (a : ℕ) → lowest (write_rows c ram store image a) ≡ 0 → WriteFits c ram store image a
unfolding write_rows
write_fits c ram store image a e =
    let s = first_fails _ _ e in
    let m = first_fails _ _ s.1 in
    let f = first_fails _ _ m.1 in
    let g = first_fails _ _ f.1 in
    let p = first_fails _ _ g.1 in
    record { exists = s.0; ram_fits = not_fails _ m.0; store_fits = not_fails _ f.0; image_fits = not_fails _ g.0; on_it = not_fails _ p.0 }

-- no number is given to a state that can exist just where the lengths and the address are allowed
pub write_none : (c : Controller) (ram store image : List ℕ) (a : ℕ) → cant_exist c ≡ false → eqb (lowest (write_rows c ram store image a)) 0 ≡ (ram_allowed (length ram) && ((frame_allowed (length store) && frame_allowed (length image)) && on_cartridge a))
unfolding write_rows lowest
write_none c ram store image a e = rw e (by_tests (ram_allowed (length ram)) (frame_allowed (length store)) (frame_allowed (length image)) (on_cartridge a))
  where
    by_tests : (p q r s : Bool) → eqb (pick (not p) 3 (pick (not q) 4 (pick (not r) 4 (pick (not s) 5 0)))) 0 ≡ (p && ((q && r) && s))
    by_tests false q r s = refl
    by_tests true false r s = refl
    by_tests true true false s = refl
    by_tests true true true false = refl
    by_tests true true true true = refl
