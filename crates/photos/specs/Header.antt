-- The header of a Netpbm file of kind P6, 128 by 128, largest value 255: which texts are headers. Assumes nothing.
use Rattle.std.specs.Prelude.{◌≡◌, Bool, true, false, ◌&&◌, ◌||◌, List, [], ◌∷◌, ◌++◌, ℕ, ◌≤◌, eqb, leb, length}

-- white space: space, tab, LF, VT, FF, CR
unfoldable pub is_white : ℕ → Bool
is_white b = eqb b 0x20 || (leb 0x09 b && leb b 0x0D)

-- LF or CR
unfoldable pub is_end : ℕ → Bool
is_end b = eqb b 0x0A || eqb b 0x0D

-- a comment goes from # to the next LF or CR: what stands after the #
pub data Comment : List ℕ → Type 0 where
  last : (b : ℕ) → is_end b ≡ true → Comment (b ∷ [])
  more : (b : ℕ) (s : List ℕ) → is_end b ≡ false → Comment s → Comment (b ∷ s)

-- white space and comments, any number of each, in any order
pub data Among : List ℕ → Type 0 where
  nothing : Among []
  space : (b : ℕ) (s : List ℕ) → is_white b ≡ true → Among s → Among (b ∷ s)
  comment : (t s : List ℕ) → Comment t → Among s → Among (0x23 ∷ (t ++ s))

-- white space, one byte or more; comments may stand among it after at least one white space byte
pub data Gap : List ℕ → Type 0 where
  white : (b : ℕ) (s : List ℕ) → is_white b ≡ true → Among s → Gap (b ∷ s)

-- a text of parts, one after the other: a byte that is given, a gap, or one white space byte
pub data Text : List ℕ → List ℕ → Type 0 where
  end : Text [] []
  byte : (c : ℕ) (ps s : List ℕ) → 2 ≤ c → Text ps s → Text (c ∷ ps) (c ∷ s)
  gap : (g ps s : List ℕ) → Gap g → Text ps s → Text (0 ∷ ps) (g ++ s)
  one : (b : ℕ) (ps s : List ℕ) → is_white b ≡ true → Text ps s → Text (1 ∷ ps) (b ∷ s)

-- `P6`; 128, 128 and 255 with no leading zeros; between these four stands a gap (0); one white space byte follows 255 (1)
unfoldable pub parts : List ℕ
parts =
    0x50 ∷ 0x36 ∷ 0 ∷ 0x31 ∷ 0x32 ∷ 0x38 ∷ 0 ∷ 0x31 ∷ 0x32 ∷ 0x38 ∷ 0 ∷ 0x32 ∷ 0x35 ∷ 0x35 ∷ 1 ∷ []

abbrev pub Header : List ℕ → Type 0
Header s = Text parts s

-- a photograph: a header of at most 256 bytes, and exactly 49,152 bytes after it
pub record Photo (file : List ℕ) : Type 0 where
  pub header : List ℕ
  pub pixels : List ℕ
  pub whole : file ≡ header ++ pixels
  pub is : Header header
  pub short : length header ≤ 256
  pub rest : length pixels ≡ 49152
