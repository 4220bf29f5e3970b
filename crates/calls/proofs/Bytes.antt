-- The bytes of a record: what stands where, and what one byte changed makes of the record. Assumes nothing.
use mathlib.Core.Path.{◌≡◌, refl, sym, ap, ◌∙◌}
use mathlib.Core.Bool.{true, false, not, ◌&&◌}
use mathlib.Core.List.{List, [], ◌∷◌, ◌++◌}
use Prim.Native.Nat.{ℕ, ◌+◌, ◌-◌, ◌%◌, ◌<◌}
use native.Mathlib.Nat.{zero-add, suc-add}
use native.Mathlib.Omega.{arith}
use lib.Dec.{eqb}
use lib.ListN.{length, get_or, set, take, drop, length-drop}
use lib.Seq.{set-append_left, length-take-le, get_or-take, get_or-drop}
use Rattle.tiles.specs.Tiles.{Bytes}
use Rattle.timing.specs.Timing.{total_of}
use Rattle.controller.specs.declared.Controller.{Controller}
use Rattle.controller.specs.State.{started, can_exist}
use Rattle.controller.specs.Outcome.{Outcome, outcome}
use Rattle.controller.specs.Aside.{seen}
use Rattle.controller.proofs.Records.{looks_same}
use Rattle.capture.specs.Capture.{running, moved}
use Rattle.cartridge.specs.Bus.{registers_on, byte_read, ram_written, with_enabled, with_bank, with_select, with_register}
use Rattle.cartridge.specs.Aside.{facing}
use Rattle.cartridge.proofs.Facing.{faced_read, faced_write}
use borrow.Rule.Slice.PartMut.{put_mid}
use Rattle.layout.specs.Layout.{low_first, front, encoded, is_record, four_at, decoded, registers_at}
use Rattle.layout.proofs.Inverse.{record_long, encode_decode}
use Rattle.calls.specs.Aside.{effect, in_bytes}

-- ---- what stands where

pub long : (s : List ℕ) → is_record s ≡ true → length s ≡ 121
long s h = record_long s h

-- the registers taken are all that stands from 67 on
pub part_at : (s : List ℕ) → is_record s ≡ true → take (length s - 67) (drop 67 s) ≡ registers_at s 67
part_at s h = ap (λ (n : ℕ). take (n - 67) (drop 67 s)) (long s h)

pub taken_long : (s : List ℕ) → is_record s ≡ true → length (registers_at s 67) ≡ 54
taken_long s h = length-take-le 54 (drop 67 s) (simp length-drop (omega (arith, long s h)))

pub part_long : (s : List ℕ) → is_record s ≡ true → length (take (length s - 67) (drop 67 s)) ≡ 54
part_long s h = ap length (part_at s h) ∙ taken_long s h

module _ (s : List ℕ) where
  -- register 0
  first_at : get_or (registers_at s 13) 0 0 ≡ get_or s 13 0
  first_at = get_or-take 54 (drop 13 s) 0 0 (omega arith) ∙ get_or-drop 13 s 0 0

  pub held_at : (decoded s).held ≡ eqb (get_or s 4 0) 1
  unfolding decoded
  held_at = refl

  pub elapsed_at : (decoded s).elapsed.0 ≡ four_at s 5
  unfolding decoded
  elapsed_at = refl

  pub taken_at : (decoded s).taken ≡ registers_at s 67
  unfolding decoded
  taken_at = refl

  -- the record can exist, by what is looked at
  pub exists_at : {e : ℕ} {regs : List ℕ} → e ≡ four_at s 5 → regs ≡ registers_at s 67 → can_exist (seen (get_or s 2 0) (get_or s 3 0) (get_or s 13 0) (eqb (get_or s 4 0) 1) (record { 0 = e }) regs) ≡ can_exist (decoded s)
  unfolding decoded
  exists_at p q =
      (λ i. can_exist (seen (get_or s 2 0) (get_or s 3 0) (get_or s 13 0) (eqb (get_or s 4 0) 1) (record { 0 = p i }) (q i)))
      ∙ ap not (looks_same (decoded s) (get_or s 13 0) (sym first_at))

  -- the registers are selected; a capture is running
  pub on_at : registers_on (facing false 0 (get_or s 3 0) 0) ≡ registers_on (decoded s)
  unfolding decoded
  on_at = refl

  pub running_at : (eqb (get_or s 4 0) 1 && started (get_or s 13 0 ∷ [])) ≡ running (decoded s)
  unfolding decoded
  running_at = ap (λ (x : ℕ). eqb (get_or s 4 0) 1 && eqb (x % 2) 1) (sym first_at)

  -- a byte read, and one written to RAM
  pub read_at : (rom ram : List ℕ) (a : ℕ) → byte_read (facing false (get_or s 2 0) (get_or s 3 0) (get_or s 13 0)) rom ram a ≡ byte_read (decoded s) rom ram a
  unfolding decoded
  read_at rom ram a = faced_read (decoded s) rom ram a refl refl (sym first_at)

  pub written_at_lem : (ram : List ℕ) (a v : ℕ) → ram_written (facing (eqb (get_or s 1 0) 1) 0 (get_or s 3 0) (get_or s 13 0)) ram a v ≡ ram_written (decoded s) ram a v
  unfolding decoded
  written_at_lem ram a v = faced_write (decoded s) ram a v refl refl (sym first_at)

  -- elapsed cycles below the total
  pub before_at : (e : ℕ) (regs : List ℕ) → e ≡ four_at s 5 → regs ≡ registers_at s 67 → (decoded s).elapsed.0 < total_of (decoded s).taken → e < total_of regs
  unfolding decoded
  before_at e regs p q h = rw (p, q) h

-- ---- an outcome with its state as bytes

pub put_bytes_lem : {n v : ℕ} {s ram store : List ℕ} {c : Controller} {o : Outcome} → s ≡ encoded c → outcome n v c ram store ≡ o → effect n v s ram store ≡ in_bytes o
put_bytes_lem {n} {v} {s} {ram} {store} p e = (λ i. effect n v (p i) ram store) ∙ ap in_bytes e

-- ---- bytes changed

-- a store past a list's first part
set_past : (xs ys : List ℕ) (i v : ℕ) → set (xs ++ ys) (length xs + i) v ≡ xs ++ set ys i v
set_past [] ys i v = rw zero-add
set_past (x ∷ xs) ys i v = rw suc-add (ap (λ l. x ∷ l) (set_past xs ys i v))

module _ (s : List ℕ) (bytes : Bytes s) (h : is_record s ≡ true) where
  -- a record that is left as it is
  pub same : s ≡ encoded (decoded s)
  same = sym (encode_decode s bytes h)

  -- each byte that a write changes
  pub enabled_set : set s 1 1 ≡ encoded (with_enabled (decoded s) true)
  unfolding encoded with_enabled
  enabled_set = ap (λ l. set l 1 1) same

  pub disabled_set : set s 1 0 ≡ encoded (with_enabled (decoded s) false)
  unfolding encoded with_enabled
  disabled_set = ap (λ l. set l 1 0) same

  pub bank_set : (v : ℕ) → set s 2 v ≡ encoded (with_bank (decoded s) v)
  unfolding encoded with_bank
  bank_set v = ap (λ l. set l 2 v) same

  pub select_set : (v : ℕ) → set s 3 v ≡ encoded (with_select (decoded s) v)
  unfolding encoded with_select
  select_set v = ap (λ l. set l 3 v) same

  registers_long : length (decoded s).registers ≡ 54
  unfolding decoded
  registers_long = length-take-le 54 (drop 13 s) (simp length-drop (omega (arith, long s h)))

  pub register_set : (i v : ℕ) → i < 54 → set s (13 + i) v ≡ encoded (with_register (decoded s) i v)
  unfolding encoded with_register
  register_set i v l =
      let c = decoded s in
      ap (λ l. set l (13 + i) v) same
      ∙ set_past (front c) (c.registers ++ c.taken) i v
      ∙ ap (λ l. front c ++ l) (set-append_left c.registers c.taken i v (omega (arith, registers_long)))

  -- and those of the elapsed cycles
  pub elapsed_put : (e : ℕ) → put_mid 5 4 s (low_first e) ≡ encoded (moved (decoded s) e)
  unfolding encoded moved
  elapsed_put e = ap (λ (l : List ℕ). put_mid 5 4 l (low_first e)) same
