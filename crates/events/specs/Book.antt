-- The book of an audit: thirteen numbers, all 0 at first. Assumes nothing.
use Rattle.std.specs.Prelude.{List, ℕ, ◌+◌, ltb, get_or, set, replicate}
use Rattle.laws.specs.Pick.{pick}

-- how many bytes the last call has written, and how many are held of a line that has begun
abbrev pub written : ℕ
written = 0

abbrev pub held : ℕ
held = 1

-- the lines so far; the number of the last line that lent a row, 0 if there is none
abbrev pub lines : ℕ
lines = 2

abbrev pub row : ℕ
row = 3

-- the bus writes that landed in the picture area since the start, and the lines of the first and of the last
abbrev pub writes : ℕ
writes = 4

abbrev pub first : ℕ
first = 5

abbrev pub last : ℕ
last = 6

-- malformed lines, refused lines, captures started, those that ended and of these the whole ones, and those that a reset dropped
abbrev pub malformed : ℕ
malformed = 7

abbrev pub refused : ℕ
refused = 8

abbrev pub captures : ℕ
captures = 9

abbrev pub ended : ℕ
ended = 10

abbrev pub whole : ℕ
whole = 11

abbrev pub dropped : ℕ
dropped = 12

-- a new book
abbrev pub new_book : List ℕ
new_book = replicate 13 0

-- one of its numbers
abbrev pub noted : List ℕ → ℕ → ℕ
noted book k = get_or book k 0

-- one more; the largest number of 64 bits stays
unfoldable pub one_more : ℕ → ℕ
one_more n = pick (ltb n 0xFFFFFFFFFFFFFFFF) (n + 1) n

-- one more of these
abbrev pub more : List ℕ → ℕ → List ℕ
more book k = set book k (one_more (noted book k))
