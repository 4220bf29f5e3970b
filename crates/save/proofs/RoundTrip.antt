-- A save written and read, read and written, and which files are accepted. Assumes nothing.
use mathlib.Core.Path.{◌≡◌, refl, sym, ap, ap₂, ◌∙◌}
use mathlib.Core.Bool.{true}
use mathlib.Core.Logic.{◌↔◌}
use mathlib.Core.List.{List, [], ◌∷◌, ◌++◌, append_assoc}
use Prim.Native.Nat.{ℕ, zero, suc, ◌+◌, ◌/◌, ◌%◌, ◌<◌, ◌≤◌}
use native.Mathlib.Omega.{arith}
use lib.Count.{ones, ones_in}
use lib.Dec.{eqb}
use lib.ListN.{length, get_or, take, drop, replicate, length-replicate, length-append, take-append-drop, drop_of_length-le}
use lib.Seq.{length-take-le, take_at, drop_at, drop-drop, drop-cons, get_or-append-add, get_or-take, get_or-drop, ext_get_or}
use borrow.Author.Tests.{eqb-true, eq-eqb, le-ltb}
use Rattle.crc.specs.Crc.{crc_of}
use Rattle.crc.proofs.Change.{crc_small}
use Rattle.tiles.specs.Tiles.{Bytes}
use Rattle.timing.specs.Lent.{banks_allowed, ram_allowed}
use Rattle.timing.specs.Registers.{zero_to}
use Rattle.timing.proofs.Lent.{ram_lent}
use Rattle.controller.specs.State.{left_over, wrong_capture, cant_exist, reset_state}
use Rattle.controller.specs.Table.{lowest}
use Rattle.layout.specs.Layout.{low_first, encoded, is_record, four_at, decoded}
use Rattle.layout.proofs.Inverse.{bytes_back, bytes_of, append_bytes}
use Rattle.shades.specs.Shades.{exported}
use Rattle.placing.specs.Placing.{each}
use Rattle.placing.proofs.Each.{each_at}
use Rattle.save.specs.Save.{magic, body_of, save_of, save_length, is_state, save_rows, save_means}
use Rattle.save.specs.Restore.{ram_length_in, state_in, ram_in, store_in, body_in, is_sized, has_magic, is_whole, is_save, restore_rows, restored, restore_means}
use Rattle.save.proofs.Saved.{body_length, state_long, save_refuses}
use Rattle.save.proofs.Restored.{IsSave, save_parts, part_long, restore_refuses, restore_fits}

-- ---- numbers at a place

-- the number that stands behind some bytes
four_behind : (body : List ℕ) (n : ℕ) → n < 4294967296 → four_at (body ++ low_first n) (length body) ≡ n
unfolding four_at
four_behind body n h =
    let at0 : get_or (body ++ low_first n) (length body) 0 ≡ n % 256 = ap (λ (k : ℕ). get_or (body ++ low_first n) k 0) (omega arith) ∙ get_or-append-add body (low_first n) 0 0 in
    let at1 = get_or-append-add body (low_first n) 1 0 in
    let at2 = get_or-append-add body (low_first n) 2 0 in
    let at3 = get_or-append-add body (low_first n) 3 0 in
    rw (at0, at1, at2, at3) (bytes_back n h)

-- the last four bytes are those of the number that they are
pub last_four : (file : List ℕ) (at : ℕ) → Bytes file → length file ≡ at + 4 → drop at file ≡ low_first (four_at file at)
unfolding four_at
last_four file at b e =
    let f0 = drop-cons file at 0 (omega arith) in
    let f1 = drop-cons file (suc at) 0 (omega arith) in
    let f2 = drop-cons file (suc (suc at)) 0 (omega arith) in
    let f3 = drop-cons file (suc (suc (suc at))) 0 (omega arith) in
    let none : drop (suc (suc (suc (suc at)))) file ≡ [] = drop_of_length-le file {i = suc (suc (suc (suc at)))} (omega arith) in
    let p1 : suc at ≡ at + 1 = omega arith in
    let p2 : suc (suc at) ≡ at + 2 = omega arith in
    let p3 : suc (suc (suc at)) ≡ at + 3 = omega arith in
    f0
    ∙ ap (λ (l : List ℕ). get_or file at 0 ∷ l) (f1 ∙ ap (λ (l : List ℕ). get_or file (suc at) 0 ∷ l) (f2 ∙ ap (λ (l : List ℕ). get_or file (suc (suc at)) 0 ∷ l) (f3 ∙ ap (λ (l : List ℕ). get_or file (suc (suc (suc at))) 0 ∷ l) none)))
    ∙ (λ i. get_or file at 0 ∷ get_or file (p1 i) 0 ∷ get_or file (p2 i) 0 ∷ get_or file (p3 i) 0 ∷ [])
    ∙ sym (bytes_of (get_or file at 0) (get_or file (at + 1) 0) (get_or file (at + 2) 0) (get_or file (at + 3) 0) (b at) (b (at + 1)) (b (at + 2)) (b (at + 3)))

-- ---- what was written

-- state bytes, RAM and frame store that are not refused
pub record Allowed (s ram store : List ℕ) : Type 0 where
  pub state_can : is_state s ≡ true
  pub ram_can : ram_allowed (length ram) ≡ true
  pub store_can : length store ≡ 16384

-- the reset state with one bank and a frame store of 0 is such
one_bank : ram_allowed 8192 ≡ true
unfolding banks_allowed ones ones_in
one_bank = refl

reset_can : is_state (encoded reset_state) ≡ true
unfolding is_state is_record decoded encoded four_at reset_state cant_exist left_over wrong_capture zero_to
reset_can = refl

pub worked : Allowed (encoded reset_state) (replicate 8192 0) (replicate 16384 0)
worked = record {
  state_can = reset_can;
  ram_can = ap ram_allowed (length-replicate {A = ℕ} 8192 0) ∙ one_bank;
  store_can = length-replicate {A = ℕ} 16384 0;
}

cons_bytes : (x : ℕ) (l : List ℕ) → x < 256 → Bytes l → Bytes (x ∷ l)
cons_bytes x l h b zero = h
cons_bytes x l h b (suc i) = b i

magic_bytes : Bytes magic
unfolding magic
magic_bytes zero = omega arith
magic_bytes (suc zero) = omega arith
magic_bytes (suc (suc zero)) = omega arith
magic_bytes (suc (suc (suc zero))) = omega arith
magic_bytes (suc (suc (suc (suc zero)))) = omega arith
magic_bytes (suc (suc (suc (suc (suc zero))))) = omega arith
magic_bytes (suc (suc (suc (suc (suc (suc i)))))) = omega arith

module _ (s ram store : List ℕ) (can : Allowed s ram store) where
  state_size : length s ≡ 121
  state_size = state_long s can.state_can

  body_size : length (body_of s ram store) ≡ 16512 + length ram
  body_size = body_length s ram store state_size can.store_can

  pub save_size : length (save_of s ram store) ≡ 16516 + length ram
  unfolding save_of
  save_size = rw (length-append (body_of s ram store) (low_first (crc_of (body_of s ram store))), body_size) (omega arith)

  abbrev file : List ℕ
  file = save_of s ram store

  abbrev sum : List ℕ
  sum = low_first (crc_of (body_of s ram store))

  -- the RAM's length, by its banks
  length_back : ram_length_in file ≡ length ram
  unfolding save_of body_of magic
  length_back = let l = ram_lent (length ram) can.ram_can in omega (arith, l.whole)

  -- from 7 on, from 128 on, and after the RAM
  after_banks : drop 7 file ≡ s ++ (ram ++ (store ++ sum))
  unfolding save_of body_of magic
  after_banks = append_assoc s (ram ++ store) sum ∙ ap (λ (l : List ℕ). s ++ l) (append_assoc ram store sum)

  after_state : drop 128 file ≡ ram ++ (store ++ sum)
  after_state = sym (drop-drop 121 7 file) ∙ ap (drop 121) after_banks ∙ drop_at s (ram ++ (store ++ sum)) 121 state_size

  after_ram : drop (128 + length ram) file ≡ store ++ sum
  after_ram = sym (drop-drop (length ram) 128 file) ∙ ap (drop (length ram)) after_state ∙ drop_at ram (store ++ sum) (length ram) refl

  pub state_back : state_in file ≡ s
  state_back = ap (take 121) after_banks ∙ take_at s (ram ++ (store ++ sum)) 121 state_size

  pub ram_back : ram_in file ≡ ram
  ram_back = ap (λ (n : ℕ). take n (drop 128 file)) length_back ∙ ap (take (length ram)) after_state ∙ take_at ram (store ++ sum) (length ram) refl

  pub store_back : store_in file ≡ store
  store_back =
      ap (λ (n : ℕ). take 16384 (drop (128 + n) file)) length_back ∙ ap (take 16384) after_ram ∙ take_at store sum 16384 can.store_can

  body_back : body_in file ≡ body_of s ram store
  unfolding save_of
  body_back = ap (λ (n : ℕ). take (16512 + n) file) length_back ∙ take_at (body_of s ram store) sum (16512 + length ram) body_size

  module _ (bs : Bytes s) (br : Bytes ram) (bt : Bytes store) where
    body_bytes : Bytes (body_of s ram store)
    unfolding body_of
    body_bytes =
        let few : length ram / 8192 < 256 = let l = ram_lent (length ram) can.ram_can in omega (arith, l.most) in
        append_bytes magic (length ram / 8192 ∷ (s ++ (ram ++ store))) magic_bytes
        (cons_bytes (length ram / 8192) (s ++ (ram ++ store)) few (append_bytes s (ram ++ store) bs (append_bytes ram store br bt)))

    sum_back : is_whole file ≡ true
    unfolding is_whole save_of
    sum_back =
        eq-eqb _ _
        (ap (λ (n : ℕ). four_at file n) (ap (λ (n : ℕ). 16512 + n) length_back ∙ sym body_size)
        ∙ four_behind (body_of s ram store) (crc_of (body_of s ram store)) (crc_small 0 (body_of s ram store) (omega arith) body_bytes)
        ∙ sym (ap crc_of body_back))

    sized_back : is_sized file ≡ true
    unfolding is_sized
    sized_back = rw (length_back, can.ram_can) (eq-eqb (length file) (16516 + length ram) save_size)

    begins_back : has_magic file ≡ true
    unfolding has_magic each save_of body_of magic
    begins_back = refl

    -- what is written is a save
    pub saved_is : is_save file ≡ true
    unfolding is_save
    saved_is = rw (sized_back, begins_back, state_back, can.state_can, sum_back)

-- ---- what was read

module _ (file : List ℕ) (is : is_save file ≡ true) where
  abbrev parts : IsSave file
  parts = save_parts file is

  abbrev n : ℕ
  n = ram_length_in file

  pub long : length file ≡ 16516 + n
  long = parts.size.long

  begins : take 6 file ≡ magic
  unfolding has_magic magic
  begins =
      ext_get_or 0 (take 6 file) magic (length-take-le 6 file (omega (arith, long)))
      (λ i h. let l : i < 6 = omega (arith, length-take-le 6 file (omega (arith, long))) in
      get_or-take 6 file i 0 l ∙ eqb-true _ _ (each_at (λ k. eqb (get_or file k 0) (get_or magic k 0)) 6 parts.begins i l))

  pub state_read : length (state_in file) ≡ 121
  state_read = part_long file 7 121 (omega (arith, long))

  pub ram_read_lem : length (ram_in file) ≡ n
  ram_read_lem = part_long file 128 n (omega (arith, long))

  pub store_read : length (store_in file) ≡ 16384
  store_read = part_long file (128 + n) 16384 (omega (arith, long))

  -- the parts of a save are not refused
  pub parts_can : Allowed (state_in file) (ram_in file) (store_in file)
  parts_can = record { state_can = parts.state; ram_can = rw ram_read_lem parts.size.banks; store_can = store_read }

  -- all before the checksum, part by part
  body_read : body_of (state_in file) (ram_in file) (store_in file) ++ drop (16512 + n) file ≡ file
  unfolding body_of
  body_read =
      let banks : length (ram_in file) / 8192 ≡ get_or file 6 0 = omega (arith, ram_read_lem) in
      let past : 16512 + n ≡ 128 + n + 16384 = omega arith in
      let last : store_in file ++ drop (16512 + n) file ≡ drop (128 + n) file =
      ap (λ (l : List ℕ). store_in file ++ l) (ap (λ (k : ℕ). drop k file) past ∙ sym (drop-drop 16384 (128 + n) file)) ∙ take-append-drop 16384 (drop (128 + n) file) in
      let third : ram_in file ++ (store_in file ++ drop (16512 + n) file) ≡ drop 128 file =
      ap (λ (l : List ℕ). ram_in file ++ l) (last ∙ sym (drop-drop n 128 file)) ∙ take-append-drop n (drop 128 file) in
      let second : state_in file ++ (ram_in file ++ (store_in file ++ drop (16512 + n) file)) ≡ drop 7 file =
      ap (λ (l : List ℕ). state_in file ++ l) (third ∙ sym (drop-drop 121 7 file)) ∙ take-append-drop 121 (drop 7 file) in
      append_assoc magic _ (drop (16512 + n) file)
      ∙ ap₂ (λ (k : ℕ) (l : List ℕ). magic ++ (k ∷ l)) banks
      (append_assoc (state_in file) (ram_in file ++ store_in file) (drop (16512 + n) file)
      ∙ ap (λ (l : List ℕ). state_in file ++ l) (append_assoc (ram_in file) (store_in file) (drop (16512 + n) file))
      ∙ second)
      ∙ ap₂ (λ (p q : List ℕ). p ++ q) (sym begins) (sym (drop-cons file 6 0 (omega (arith, long))))
      ∙ take-append-drop 6 file

  whole_body : body_of (state_in file) (ram_in file) (store_in file) ≡ body_in file
  whole_body =
      sym (take_at (body_of (state_in file) (ram_in file) (store_in file)) (drop (16512 + n) file) (16512 + n) (body_length _ _ _ state_read store_read ∙ ap (λ (k : ℕ). 16512 + k) ram_read_lem))
      ∙ ap (take (16512 + n)) body_read

  -- writing what was read gives the same file
  pub write_read : Bytes file → save_of (state_in file) (ram_in file) (store_in file) ≡ file
  unfolding save_of is_whole
  write_read b =
      let sum : four_at file (16512 + n) ≡ crc_of (body_in file) = eqb-true _ _ parts.whole in
      ap (λ (k : ℕ). body_of (state_in file) (ram_in file) (store_in file) ++ low_first k) (ap crc_of whole_body ∙ sym sum)
      ∙ ap (λ (l : List ℕ). body_of (state_in file) (ram_in file) (store_in file) ++ l) (sym (last_four file (16512 + n) b (omega (arith, long))))
      ∙ body_read

-- ---- which files are accepted

-- some state that can exist, RAM and frame store, written so
pub record WrittenSo (file : List ℕ) : Type 0 where
  pub state : List ℕ
  pub ram : List ℕ
  pub store : List ℕ
  pub can : Allowed state ram store
  pub state_bytes : Bytes state
  pub ram_bytes : Bytes ram
  pub store_bytes : Bytes store
  pub same : save_of state ram store ≡ file

-- a part of bytes
dropped_bytes : (n : ℕ) (l : List ℕ) → Bytes l → Bytes (drop n l)
dropped_bytes n l b i = rw (get_or-drop n l i 0) (b (n + i))

pub taken_bytes : (n : ℕ) (l : List ℕ) → Bytes l → Bytes (take n l)
taken_bytes zero l b i = omega arith
taken_bytes (suc n) [] b i = b i
taken_bytes (suc n) (x ∷ l) b zero = b 0
taken_bytes (suc n) (x ∷ l) b (suc i) = taken_bytes n l (λ j. b (suc j)) i

-- A file is accepted exactly when some state that can exist, RAM and frame store of allowed sizes are written so
pub accepted : (file : List ℕ) → Bytes file → (is_save file ≡ true) ↔ WrittenSo file
accepted file b = (
  λ is. record {
    state = state_in file;
    ram = ram_in file;
    store = store_in file;
    can = parts_can file is;
    state_bytes = taken_bytes 121 (drop 7 file) (dropped_bytes 7 file b);
    ram_bytes = taken_bytes (ram_length_in file) (drop 128 file) (dropped_bytes 128 file b);
    store_bytes = taken_bytes 16384 (drop (128 + ram_length_in file) file) (dropped_bytes (128 + ram_length_in file) file b);
    same = write_read file is b;
  },
  λ w. sym (ap is_save w.same) ∙ saved_is w.state w.ram w.store w.can w.state_bytes w.ram_bytes w.store_bytes,
)

-- Reading what was written gives the same three, whatever stood in what is lent
pub read_written : (s ram store : List ℕ) → Allowed s ram store → Bytes s → Bytes ram → Bytes store
    → (s' ram' store' : List ℕ) → length s' ≡ 121 → length ram' ≡ length ram → length store' ≡ 16384
    → restore_means (save_of s ram store) s' ram' store' ≡ restored 0 s ram store
unfolding restore_rows lowest
read_written s ram store can bs br bt s' ram' store' es er et =
    let is = saved_is s ram store can bs br bt in
    let size = length_back s ram store can in
    (restore_refuses (save_of s ram store) s' ram' store').does
    (simp (eq-eqb (length s') 121 es, ap ram_allowed er ∙ can.ram_can, is, eq-eqb (length ram') (ram_length_in (save_of s ram store)) (er ∙ sym size), eq-eqb (length store') 16384 et))
    ∙ (λ i. restored 0 (state_back s ram store can i) (ram_back s ram store can i) (store_back s ram store can i))

-- Writing what was read gives the same file, in any buffer that has room for it
pub write_restored : (file s ram store out : List ℕ) → Bytes file → (restore_means file s ram store).number ≡ 0 → length file ≤ length out
    → save_means (restore_means file s ram store).state (restore_means file s ram store).ram (restore_means file s ram store).store out ≡ exported 0 (length file) (file ++ drop (length file) out)
unfolding save_rows lowest
write_restored file s ram store out b e room =
    let r = restore_refuses file s ram store in
    let none : lowest (restore_rows file s ram store) ≡ 0 = sym r.numbered ∙ e in
    let is = (restore_fits file s ram store none).file_fits in
    let can = parts_can file is in
    let size : save_length (length (ram_in file)) ≡ length file = omega (arith, ram_read_lem file is, long file is) in
    rw (r.does none)
    ((save_refuses (state_in file) (ram_in file) (store_in file) out).does
    (simp (can.state_can, can.ram_can, eq-eqb (length (store_in file)) 16384 can.store_can, le-ltb (length out) (save_length (length (ram_in file))) (rw size room)))
    ∙ ap₂ (λ (k : ℕ) (l : List ℕ). exported 0 k (l ++ drop k out)) size (write_read file is b))
