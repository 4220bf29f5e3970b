-- From light to shade, step 4: the edge filters. Assumes nothing.
use Rattle.std.specs.Prelude.{List, [], ℕ, ℤ, pos, negsuc, ◌+ℤ◌, ◌-ℤ◌, ◌*ℤ◌, eqb, get_or}
use Rattle.std.specs.Int.Signed.{lt_z, quot_z}
use Rattle.laws.specs.Pick.{pick}

-- held to low..high
abbrev pub between : ℤ → ℤ → ℤ → ℤ
between low high v = pick (lt_z v low) low (pick (lt_z high v) high v)

-- held to −128..127
unfoldable pub held : ℤ → ℤ
held v = between (negsuc 127) (pos 127) v

-- the nine signed values around a pixel, three rows of three: the one in row i, column j
abbrev pub nine : List (List ℤ) → ℕ → ℕ → ℤ
nine n i j = get_or (get_or n i []) j (pos 0)

-- 2P − W − E
abbrev pub across_of : List (List ℤ) → ℤ
across_of n = pos 2 *ℤ nine n 1 1 -ℤ nine n 1 0 -ℤ nine n 1 2

-- 2P − N − S
abbrev pub upright_of : List (List ℤ) → ℤ
upright_of n = pos 2 *ℤ nine n 1 1 -ℤ nine n 0 1 -ℤ nine n 2 1

-- 4P − N − S − E − W
abbrev pub around_of : List (List ℤ) → ℤ
around_of n = pos 4 *ℤ nine n 1 1 -ℤ nine n 0 1 -ℤ nine n 2 1 -ℤ nine n 1 2 -ℤ nine n 1 0

-- P + dα, and dα: the exact quarter-valued result is cut toward zero
abbrev pub enhanced : ℕ → List (List ℤ) → ℤ → ℤ
enhanced q n d = quot_z (pos 4 *ℤ nine n 1 1 +ℤ pos q *ℤ d) (pos 4)

abbrev pub extracted : ℕ → ℤ → ℤ
extracted q d = quot_z (pos q *ℤ d) (pos 4)

-- the table of modes: 2, 3, C, D, E, F
unfoldable pub mode2 : ℕ → List (List ℤ) → ℤ
mode2 q n = held (enhanced q n (across_of n))

unfoldable pub mode3 : ℕ → List (List ℤ) → ℤ
mode3 q n = held (extracted q (across_of n))

unfoldable pub mode_c : ℕ → List (List ℤ) → ℤ
mode_c q n = held (enhanced q n (upright_of n))

unfoldable pub mode_d : ℕ → List (List ℤ) → ℤ
mode_d q n = held (extracted q (upright_of n))

unfoldable pub mode_e : ℕ → List (List ℤ) → ℤ
mode_e q n = held (enhanced q n (around_of n))

unfoldable pub mode_f : ℕ → List (List ℤ) → ℤ
mode_f q n = held (extracted q (around_of n))

-- the value by the mode: 1 is 0 always; 0 and 4 to B are P
unfoldable pub edge_of : ℕ → ℕ → List (List ℤ) → ℤ
edge_of mode q n =
    pick (eqb mode 0x1) (pos 0)
    (pick (eqb mode 0x2) (mode2 q n)
    (pick (eqb mode 0x3) (mode3 q n)
    (pick (eqb mode 0xC) (mode_c q n)
    (pick (eqb mode 0xD) (mode_d q n)
    (pick (eqb mode 0xE) (mode_e q n)
    (pick (eqb mode 0xF) (mode_f q n)
    (nine n 1 1)))))))
