-- Laws of reading a save: what the tests of a file tell, when a reading is refused, and what is so where it is not. Assumes nothing.
use mathlib.Core.Path.{◌≡◌, refl, ap, ◌∙◌}
use mathlib.Core.Bool.{true, false, not, ◌&&◌}
use mathlib.Core.List.{List, ◌++◌}
use Prim.Native.Nat.{ℕ, ◌+◌, ◌-◌, ◌<◌, ◌≤◌}
use native.Mathlib.Omega.{arith}
use lib.Count.{ones, ones_in}
use lib.Dec.{eqb}
use lib.ListN.{length, take, drop, length-drop, get_or-eq_default}
use lib.Seq.{length-take-le}
use borrow.Author.Tests.{eqb-true}
use Rattle.laws.proofs.Bools.{both_left, both_right, not_fails}
use Rattle.timing.specs.Lent.{banks_allowed, ram_allowed}
use Rattle.timing.proofs.Lent.{ram_lent}
use Rattle.std.specs.declared.result.Result.{Result}
use Rattle.controller.specs.declared.Refusal.{Refusal}
use Rattle.std.specs.Prelude.{⊤}
use Rattle.controller.specs.State.{reset_state}
use Rattle.controller.specs.Outcome.{outcome, write_number}
use Rattle.controller.specs.Table.{lowest}
use Rattle.controller.proofs.Only.{only_write}
use Rattle.controller.proofs.Refusals.{Refuses, refuses, rising_from, first_fails}
use Rattle.save.specs.Save.{is_state}
use Rattle.save.proofs.Put.{put_all}
use Rattle.save.specs.Restore.{ram_length_in, state_in, ram_in, store_in, is_sized, has_magic, is_whole, is_save, restore_rows, Restored, restored, restore_means}

-- ---- what the tests tell

-- a file too short to name its banks
pub short : (file : List ℕ) → length file < 7 → is_sized file ≡ false
unfolding is_sized banks_allowed ones ones_in
short file h = rw (get_or-eq_default file 0 {n = 6} (omega arith))

-- of its size
pub record Sized (file : List ℕ) : Type 0 where
  pub banks : ram_allowed (ram_length_in file) ≡ true
  pub long : length file ≡ 16516 + ram_length_in file
  pub least : 8192 ≤ ram_length_in file
  pub most : ram_length_in file ≤ 131072

pub sized : (file : List ℕ) → is_sized file ≡ true → Sized file
unfolding is_sized
sized file e =
    let banks = both_left (ram_allowed (ram_length_in file)) _ e in
    let lent = ram_lent (ram_length_in file) banks in
    record { banks = banks; long = eqb-true _ _ (both_right (ram_allowed (ram_length_in file)) _ e); least = lent.least; most = lent.most }

-- a save
pub record IsSave (file : List ℕ) : Type 0 where
  pub size : Sized file
  pub begins : has_magic file ≡ true
  pub state : is_state (state_in file) ≡ true
  pub whole : is_whole file ≡ true

pub save_parts : (file : List ℕ) → is_save file ≡ true → IsSave file
unfolding is_save
save_parts file e =
    let rest = both_right (is_sized file) _ e in
    let after = both_right (has_magic file) _ rest in
    record {
      size = sized file (both_left (is_sized file) _ e);
      begins = both_left (has_magic file) _ rest;
      state = both_left (is_state (state_in file)) _ after;
      whole = both_right (is_state (state_in file)) _ after;
    }

-- ---- what is read

-- a part of a file
pub part_long : (file : List ℕ) (at n : ℕ) → at + n ≤ length file → length (take n (drop at file)) ≡ n
part_long file at n h = length-take-le n (drop at file) (rw (length-drop at file) (omega arith))

-- put in as many bytes
pub taken : (file o : List ℕ) {o' : List ℕ} (at n m : ℕ) → n ≡ m → at + m ≤ length file → length o ≡ m → o' ≡ take n (drop at file) ++ drop (0 + length (take n (drop at file))) o → o' ≡ take m (drop at file)
taken file o {o'} at n m e h l f =
    put_all o (take n (drop at file)) o' (0 + length (take n (drop at file))) (omega (arith, part_long file at n (omega arith))) f ∙ ap (λ (k : ℕ). take k (drop at file)) e

-- ---- refusals

-- no second outcome fits
pub only_restore : (a b : Result ⊤ Refusal) (s s' ram ram' store store' : List ℕ) → restored (write_number a) s ram store ≡ restored (write_number b) s' ram' store' → (a ≡ b) × (s ≡ s') × (ram ≡ ram') × (store ≡ store')
only_restore a b s s' ram ram' store store' e =
    let w = only_write (record { state = reset_state; answer = a }) (record { state = reset_state; answer = b }) ram ram' store store' (λ i. outcome (e i).number 0 reset_state (e i).ram (e i).store) in
    (λ i. (w.0 i).answer, λ i. (e i).state, w.1, w.2)

abbrev pub in_restored : Restored → ℕ
in_restored r = r.number

-- a reading is refused by the lowest number of its rows, and only then
pub restore_refuses : (file s ram store : List ℕ) → Refuses (restore_rows file s ram store) in_restored (λ n. restored n s ram store) (restore_means file s ram store) (restored 0 (state_in file) (ram_in file) (store_in file))
unfolding restore_rows restore_means rising_from
restore_refuses file s ram store =
    refuses (restore_rows file s ram store) in_restored (λ n. restored n s ram store) (restored 0 (state_in file) (ram_in file) (store_in file)) (λ n. refl) refl refl

-- what is so where it is not
pub record RestoreFits (file s ram store : List ℕ) : Type 0 where
  pub state_fits : length s ≡ 121
  pub ram_fits : length ram ≡ ram_length_in file
  pub store_fits : length store ≡ 16384
  pub file_fits : is_save file ≡ true

pub restore_fits : (file s ram store : List ℕ) → lowest (restore_rows file s ram store) ≡ 0 → RestoreFits file s ram store
unfolding restore_rows
restore_fits file s ram store e =
    let t = first_fails _ _ e in
    let m = first_fails _ _ t.1 in
    let o = first_fails _ _ m.1 in
    let f = first_fails _ _ o.1 in
    let g = first_fails _ _ f.1 in
    let is : is_save file ≡ true = not_fails _ g.0 in
    let other : (is_save file && not (eqb (length ram) (ram_length_in file))) ≡ false = o.0 in
    record {
      state_fits = eqb-true _ _ (not_fails _ t.0);
      ram_fits = eqb-true _ _ (not_fails _ (rw is at other));
      store_fits = eqb-true _ _ (not_fails _ f.0);
      file_fits = is;
    }

-- each part has its place, and is put there
module _ (file s ram store : List ℕ) (fit : RestoreFits file s ram store) where
  abbrev size : Sized file
  size = (save_parts file fit.file_fits).size

  pub state_room : 0 + length (take 121 (drop 7 file)) ≤ length s
  state_room = omega (arith, fit.state_fits, part_long file 7 121 (omega (arith, size.long)))

  pub ram_inside : 128 + length ram ≤ length file
  ram_inside = omega (arith, size.long, fit.ram_fits)

  pub store_inside : 128 + length ram + 16384 ≤ length file
  store_inside = omega (arith, size.long, fit.ram_fits)

  pub store_room : 0 + length (take (128 + length ram + 16384 - (128 + length ram)) (drop (128 + length ram) file)) ≤ length store
  store_room =
      let n = 128 + length ram in
      omega (arith, fit.store_fits, part_long file n (n + 16384 - n) (omega (arith, store_inside)))

  pub restore_done : (s' ram' store' : List ℕ)
      → s' ≡ take 121 (drop 7 file) ++ drop (0 + length (take 121 (drop 7 file))) s
      → ram' ≡ take (128 + length ram - 128) (drop 128 file) ++ drop (0 + length (take (128 + length ram - 128) (drop 128 file))) ram
      → store' ≡ take (128 + length ram + 16384 - (128 + length ram)) (drop (128 + length ram) file) ++ drop (0 + length (take (128 + length ram + 16384 - (128 + length ram)) (drop (128 + length ram) file))) store
      → restored 0 s' ram' store' ≡ restored 0 (state_in file) (ram_in file) (store_in file)
  restore_done s' ram' store' p q r =
      let n = 128 + length ram in
      let long = size.long in
      let a = taken file s 7 121 121 (omega arith) (omega (arith, long)) fit.state_fits p in
      let b = taken file ram 128 (n - 128) (ram_length_in file) (omega (arith, fit.ram_fits)) (omega (arith, long)) fit.ram_fits q in
      let o = taken file store n (n + 16384 - n) 16384 (omega arith) (omega (arith, store_inside)) fit.store_fits r in
      (λ i. restored 0 (a i) (b i) (o i)) ∙ ap (λ (k : ℕ). restored 0 (state_in file) (ram_in file) (take 16384 (drop (128 + k) file))) fit.ram_fits
