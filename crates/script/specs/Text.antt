-- Bus script: a whole session, from a text to what is printed. Assumes nothing.
use Rattle.std.specs.Prelude.{List, [], ◌∷◌, ◌++◌, ℕ, eqb}
use Rattle.laws.specs.Pick.{pick}
use Rattle.session.specs.Session.{World, Step, step, step_of}

-- a byte in front of the first line; where there is none, a line of its own
abbrev pub begins : ℕ → List (List ℕ) → List (List ℕ)
begins b [] = (b ∷ []) ∷ []
begins b (line ∷ lines) = (b ∷ line) ∷ lines

-- Lines end in LF; a last line without LF counts if it has at least one byte
unfoldable pub lines_of : List ℕ → List (List ℕ)
lines_of [] = []
lines_of (b ∷ rest) = pick (eqb b 0x0A) ([] ∷ lines_of rest) (begins b (lines_of rest))

-- a step, with what was printed before it
abbrev pub after : List ℕ → Step → Step
after text s = step s.world (text ++ s.text)

-- lines one after the other, each in the world that the one before it left
unfoldable pub played : List ℕ → World → List (List ℕ) → Step
played rom w [] = step w []
played rom w (line ∷ lines) = after (step_of rom w line).text (played rom (step_of rom w line).world lines)

-- a whole session: for each input line, malformed ones too, one line
unfoldable pub session_of : List ℕ → World → List ℕ → Step
session_of rom w text = played rom w (lines_of text)
