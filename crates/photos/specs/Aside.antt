-- Aside: devices of contracts between functions. Nothing here need be believed: every use of it is tied by a proof to the definitions beside it.
-- Reading a header byte by byte: `Grammar.reads_header` ties it to Header. Assumes nothing.
use Rattle.std.specs.Prelude.{◌≡◌, Bool, true, false, List, [], ◌∷◌, ℕ, zero, suc, ◌+◌, ◌<◌, ◌≤◌, eqb, length, get_or, drop}
use Rattle.laws.specs.Pick.{pick}
use Rattle.photos.specs.Header.{is_white, is_end, parts}

-- where a reading is: before a part (0), in a gap before one (1), in a comment there (2), or past all hope (3); and the parts still to come
pub record Left : Type 0 where
  pub mode : ℕ
  pub to : List ℕ

abbrev pub left : ℕ → List ℕ → Left
left mode to = record { mode = mode; to = to }

-- the first byte of a part
abbrev pub at_part : ℕ → ℕ → List ℕ → Left
at_part b c ps =
    pick (eqb c 0) (pick (is_white b) (left 1 ps) (left 3 ps))
    (pick (eqb c 1) (pick (is_white b) (left 0 ps) (left 3 ps)) (pick (eqb b c) (left 0 ps) (left 3 ps)))

-- a byte in a gap
abbrev pub in_gap : ℕ → ℕ → List ℕ → Left
in_gap b c ps =
    pick (is_white b) (left 1 (c ∷ ps)) (pick (eqb b 0x23) (left 2 (c ∷ ps)) (pick (eqb b c) (left 0 ps) (left 3 (c ∷ ps))))

-- a byte in a comment
abbrev pub in_comment : ℕ → ℕ → List ℕ → Left
in_comment b c ps = pick (is_end b) (left 1 (c ∷ ps)) (left 2 (c ∷ ps))

-- any byte
unfoldable pub moved : ℕ → ℕ → List ℕ → Left
moved b m [] = left 3 []
moved b zero (c ∷ ps) = at_part b c ps
moved b (suc zero) (c ∷ ps) = in_gap b c ps
moved b (suc (suc zero)) (c ∷ ps) = in_comment b c ps
moved b (suc (suc (suc m))) (c ∷ ps) = left (suc (suc (suc m))) (c ∷ ps)

-- nothing is still to come
unfoldable pub finished : ℕ → List ℕ → Bool
finished zero [] = true
finished zero (c ∷ ps) = false
finished (suc m) ps = false

-- a text, from such a place on
unfoldable pub reads : List ℕ → Left → Bool
reads [] l = finished l.mode l.to
reads (b ∷ s) l = reads s (moved b l.mode l.to)

-- before part number n, and so on
abbrev pub from : ℕ → ℕ → Left
from mode n = left mode (drop n parts)

-- the text is a header
unfoldable pub is_header : List ℕ → Bool
is_header s = reads s (from 0 0)

-- what is left of a text at a place, from such a place on
abbrev pub goes : List ℕ → ℕ → ℕ → ℕ → Bool
goes text i mode n = reads (drop i text) (from mode n)

-- from place i the text goes on, in some way, as from place j in a gap; and, where a gap is to come, as from place j in it
abbrev pub Goes : List ℕ → ℕ → ℕ → ℕ → Type 0
Goes text i mode j = (n : ℕ) → n < 15 → goes text i mode n ≡ goes text j 1 n

abbrev pub Enters : List ℕ → ℕ → ℕ → Type 0
Enters text i j = (n : ℕ) → n < 14 → get_or parts n 0 ≡ 0 → goes text i 0 n ≡ goes text j 1 (n + 1)

-- where a gap has ended: at the end of the text, or before a byte that is neither white space nor #
pub record Next (text : List ℕ) (i : ℕ) : Type 0 where
  pub inside : i ≤ length text
  pub plain : i < length text → is_white (get_or text i 0) ≡ false
  pub still : i < length text → get_or text i 0 ≡ 0x23 → ⊥

-- three parts from number n on that are given bytes
pub record Given (n a b c : ℕ) : Type 0 where
  pub room : n + 2 < 15
  pub first : get_or parts n 0 ≡ a
  pub second : get_or parts (n + 1) 0 ≡ b
  pub third : get_or parts (n + 2) 0 ≡ c
  pub bytes : (2 ≤ b) × (2 ≤ c)

-- whether such bytes stand there
pub record Has (text : List ℕ) (i a b c : ℕ) (r : Bool) : Type 0 where
  pub inside : r ≡ true → i + 3 ≤ length text
  pub yes : r ≡ true → (n : ℕ) → Given n a b c → goes text i 1 n ≡ goes text (i + 3) 0 (n + 3)
  pub no : r ≡ false → (n : ℕ) → Given n a b c → goes text i 1 n ≡ false

-- whether the text begins with the first two parts
pub record Begins (text : List ℕ) (r : Bool) : Type 0 where
  pub inside : r ≡ true → 2 ≤ length text
  pub yes : r ≡ true → is_header text ≡ goes text 2 0 2
  pub no : r ≡ false → is_header text ≡ false
