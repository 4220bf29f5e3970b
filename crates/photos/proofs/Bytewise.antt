-- A header read byte by byte: each step's law. Assumes nothing.
use mathlib.Core.Path.{◌≡◌, refl}
use mathlib.Core.Bool.{true, false}
use mathlib.Core.List.{List, ◌∷◌}
use Prim.Native.Nat.{ℕ, zero, suc, ◌+◌, ◌<◌, ◌≤◌}
use native.Mathlib.Numerals.{add-one}
use native.Mathlib.Omega.{arith}
use lib.ListN.{get_or, drop}
use lib.Seq.{drop-cons}
use lib.Dec.{eqb}
use borrow.Author.Tests.{eq-eqb, ne_eqb}
use Rattle.laws.proofs.Order.{split}
use Rattle.photos.specs.Header.{is_white, is_end, parts}
use Rattle.photos.specs.Aside.{Left, at_part, moved, finished, reads, from}

-- the parts from number n on: that one, and those after it
pub part_at : (n : ℕ) → n < 15 → drop n parts ≡ get_or parts n 0 ∷ drop (n + 1) parts
unfolding parts
part_at n h = rw add-one (drop-cons parts n 0 h)

module _ (b n : ℕ) (h : n < 15) where
  pub moved_part : moved b 0 (drop n parts) ≡ at_part b (get_or parts n 0) (drop (n + 1) parts)
  unfolding moved
  moved_part = rw (part_at n h)

  -- in a gap
  pub gap_white : is_white b ≡ true → from 1 n ≡ moved b 1 (drop n parts)
  unfolding moved
  gap_white w = rw (part_at n h) (simp w)

  pub gap_hash : is_white b ≡ false → b ≡ 0x23 → from 2 n ≡ moved b 1 (drop n parts)
  unfolding moved
  gap_hash w e = rw (part_at n h) (simp (w, eq-eqb b 0x23 e))

  pub gap_byte : is_white b ≡ false → (b ≡ 0x23 → ⊥) → b ≡ get_or parts n 0 → from 0 (n + 1) ≡ moved b 1 (drop n parts)
  unfolding moved
  gap_byte w x e = rw (part_at n h) (simp (w, ne_eqb b 0x23 x, eq-eqb b (get_or parts n 0) e))

  pub gap_wrong : is_white b ≡ false → (b ≡ 0x23 → ⊥) → (b ≡ get_or parts n 0 → ⊥) → from 3 n ≡ moved b 1 (drop n parts)
  unfolding moved
  gap_wrong w x e = rw (part_at n h) (simp (w, ne_eqb b 0x23 x, ne_eqb b (get_or parts n 0) e))

  -- in a comment
  pub comment_end_lem : is_end b ≡ true → from 1 n ≡ moved b 2 (drop n parts)
  unfolding moved
  comment_end_lem w = rw (part_at n h) (simp w)

  pub comment_more : is_end b ≡ false → from 2 n ≡ moved b 2 (drop n parts)
  unfolding moved
  comment_more w = rw (part_at n h) (simp w)

-- past all parts
pub moved_past : (b m : ℕ) → from 3 15 ≡ moved b m (drop 15 parts)
unfolding moved parts
moved_past b m = refl

-- a whole text, byte after byte
pub reads_more : (l : Left) (b : ℕ) (s : List ℕ) → reads s (moved b l.mode l.to) ≡ reads (b ∷ s) l
unfolding reads
reads_more l b s = refl

-- it ends where no part is still to come
pub finished_no : (m : ℕ) (ps : List ℕ) → (m ≡ 0 → ⊥) → finished m ps ≡ false
unfolding finished
finished_no zero ps h = absurd (h refl)
finished_no (suc m) ps h = refl

unfinished : (c : ℕ) (ps : List ℕ) → finished 0 (c ∷ ps) ≡ false
unfolding finished
unfinished c ps = refl

all_finished : finished 0 (drop 15 parts) ≡ eqb 15 15
unfolding finished parts
all_finished = refl

pub finished_part : (n : ℕ) → n ≤ 15 → finished 0 (drop n parts) ≡ eqb n 15
finished_part n h =
    split n 15
    (λ l. rw (part_at n l, ne_eqb n 15 (λ e. omega arith)) (unfinished (get_or parts n 0) (drop (n + 1) parts)))
    (λ l. let e : n ≡ 15 = omega arith in rw e all_finished)
