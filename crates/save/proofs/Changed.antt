-- A save with one byte changed, or cut off anywhere, is no save. Assumes nothing.
use mathlib.Core.Path.{◌≡◌, sym, ap, ◌∙◌}
use mathlib.Core.Bool.{true, false}
use mathlib.Core.List.{List, [], ◌∷◌}
use Prim.Native.Nat.{ℕ, zero, suc, ◌+◌, ◌-◌, ◌<◌, ◌≤◌}
use native.Mathlib.Omega.{arith}
use lib.ListN.{length, get_or, set, take, drop, length-set}
use lib.Seq.{length-take-le, get_or-take, get_or-drop, get_or-set_same, get_or-set_other, take-set-le, take-set-lt}
use borrow.Author.Tests.{eqb-true, eq-eqb}
use Rattle.laws.proofs.Bools.{either}
use Rattle.laws.proofs.Order.{split}
use Rattle.crc.specs.Crc.{crc_of}
use Rattle.crc.proofs.Change.{crc_changed}
use Rattle.tiles.specs.Tiles.{Bytes}
use Rattle.timing.specs.Lent.{ram_allowed}
use Rattle.controller.specs.Table.{lowest}
use Rattle.layout.specs.Layout.{low_first, four_at}
use Rattle.save.specs.Restore.{ram_length_in, is_whole, is_save, restore_rows, restored, restore_means}
use Rattle.save.proofs.Restored.{save_parts, restore_refuses}
use Rattle.save.proofs.RoundTrip.{last_four, taken_bytes, long}

set_bytes : (l : List ℕ) (i v : ℕ) → Bytes l → v < 256 → Bytes (set l i v)
set_bytes [] i v b h j = b j
set_bytes (x ∷ l) zero v b h zero = h
set_bytes (x ∷ l) zero v b h (suc j) = b (suc j)
set_bytes (x ∷ l) (suc i) v b h zero = b 0
set_bytes (x ∷ l) (suc i) v b h (suc j) = set_bytes l i v (λ k. b (suc k)) h j

-- the number at the end of a save is the checksum of all before it
sum_of : (file : List ℕ) → is_save file ≡ true → four_at file (16512 + ram_length_in file) ≡ crc_of (take (16512 + ram_length_in file) file)
unfolding is_whole
sum_of file is = eqb-true _ _ (save_parts file is).whole

-- two saves that differ in one byte at most
module _ (file : List ℕ) (bytes : Bytes file) (is : is_save file ≡ true) (i v : ℕ) (byte : v < 256) (inside : i < length file) (also : is_save (set file i v) ≡ true) where
  abbrev end : ℕ
  end = 16512 + ram_length_in file

  -- they are as long, so their checksums stand in one place
  same_end : ram_length_in (set file i v) ≡ ram_length_in file
  same_end = omega (arith, long file is, long (set file i v) also, length-set file i v)

  sum_after : four_at (set file i v) end ≡ crc_of (take end (set file i v))
  sum_after = rw same_end at (sum_of (set file i v) also)

  -- a byte before the checksum
  four_stays : i < end → four_at (set file i v) end ≡ four_at file end
  unfolding four_at
  four_stays h =
      let other : (k : ℕ) → get_or (set file i v) (end + k) 0 ≡ get_or file (end + k) 0 = λ k. get_or-set_other file i (end + k) v 0 (λ e. omega arith) in
      let first : get_or (set file i v) end 0 ≡ get_or file end 0 = get_or-set_other file i end v 0 (λ e. omega arith) in
      rw (first, other 1, other 2, other 3)

  in_body : i < end → v ≡ get_or file i 0
  in_body h =
      let size = length-take-le end file (omega (arith, long file is)) in
      crc_changed 0 (take end file) i v (omega arith) (taken_bytes end file bytes) byte (omega (arith, size))
      (sym (ap crc_of (take-set-lt end file i v h)) ∙ sym sum_after ∙ four_stays h ∙ sum_of file is)
      ∙ get_or-take end file i 0 h

  -- a byte of the checksum
  in_sum : end ≤ i → v ≡ get_or file i 0
  in_sum h =
      let size = long file is in
      let at : end + (i - end) ≡ i = omega arith in
      let four : four_at (set file i v) end ≡ four_at file end = sum_after ∙ ap crc_of (take-set-le end file i v h) ∙ sym (sum_of file is) in
      let same : drop end (set file i v) ≡ drop end file =
      last_four (set file i v) end (set_bytes file i v bytes byte) (omega (arith, length-set file i v, size)) ∙ ap low_first four ∙ sym (last_four file end bytes (omega (arith, size))) in
      sym (get_or-set_same file i v 0 inside)
      ∙ ap (λ (k : ℕ). get_or (set file i v) k 0) (sym at)
      ∙ sym (get_or-drop end (set file i v) (i - end) 0)
      ∙ ap (λ (l : List ℕ). get_or l (i - end) 0) same
      ∙ get_or-drop end file (i - end) 0
      ∙ ap (λ (k : ℕ). get_or file k 0) at

  same_byte_lem : v ≡ get_or file i 0
  same_byte_lem = split i end in_body in_sum

-- Changed: with any one byte of a save changed, in one bit or more, it is no save
pub changed : (file : List ℕ) → Bytes file → is_save file ≡ true → (i v : ℕ) → v < 256 → i < length file → (v ≡ get_or file i 0 → ⊥) → is_save (set file i v) ≡ false
changed file b is i v h l ne = either (is_save (set file i v)) (λ also. absurd (ne (same_byte_lem file b is i v h l also))) (λ none. none)

-- Cut: the first bytes of a save, fewer than all, are no save
pub cut : (file : List ℕ) → is_save file ≡ true → (k : ℕ) → k < length file → is_save (take k file) ≡ false
cut file is k h =
    either (is_save (take k file))
    (λ also.
    let size = long (take k file) also in
    let few = length-take-le k file (omega arith) in
    let banks = get_or-take k file 6 0 (omega (arith, size, few)) in
    absurd (omega (arith, size, few, banks, long file is)))
    (λ none. none)

-- what is no save is refused as 8, where what is lent is as long as it is to be, and nothing is changed
pub no_save_refused : (file s ram store : List ℕ) → is_save file ≡ false → length s ≡ 121 → ram_allowed (length ram) ≡ true → length store ≡ 16384 → restore_means file s ram store ≡ restored 8 s ram store
unfolding restore_rows lowest
no_save_refused file s ram store none es er et =
    (restore_refuses file s ram store).kept 7 (simp (eq-eqb (length s) 121 es, er, none, eq-eqb (length store) 16384 et))
