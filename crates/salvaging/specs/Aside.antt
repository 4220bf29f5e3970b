-- Aside: devices of contracts between functions. Nothing here need be believed: every use of it is tied by a proof to the definitions beside it.
-- Places in a script: the lines from a place on. Assumes nothing.
use Rattle.std.specs.Prelude.{List, [], ◌∷◌, ℕ, suc, eqb, drop}
use Rattle.laws.specs.Pick.{pick}
use Rattle.script.specs.Text.{lines_of}
use Rattle.salvaging.specs.Kept.{accepted_of}

-- how many bytes a text has before its first LF
unfoldable pub line_length : List ℕ → ℕ
line_length [] = 0
line_length (b ∷ rest) = pick (eqb b 0x0A) 0 (suc (line_length rest))

-- the lines from a place on, and the accepted ones
abbrev pub lines_at : List ℕ → ℕ → List (List ℕ)
lines_at script at = lines_of (drop at script)

abbrev pub accepted_at : List ℕ → ℕ → List (List ℕ)
accepted_at script at = accepted_of (lines_at script at)
