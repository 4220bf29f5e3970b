-- Aside: devices of contracts between functions. Nothing here need be believed: every use of it is tied by a proof to the definitions beside it.
-- A session that is read in pieces, byte by byte. Assumes nothing.
use Rattle.std.specs.Prelude.{◌≡◌, Bool, ◌&&◌, List, [], ◌∷◌, ◌++◌, ℕ, ◌+◌, ◌-◌, ◌≤◌, min, eqb, ltb, length, take, drop, replicate}
use Rattle.laws.specs.Pick.{pick}
use Rattle.script.specs.declared.text.Reader.{Reader}
use Rattle.script.specs.declared.text.Fed.{Fed}
use Rattle.lines.specs.Hex.{placed}
use Rattle.session.specs.Session.{World, Step, world, step, step_of}
use Rattle.script.specs.Text.{after}

-- the world, the first bytes of the line that has begun, what was printed, and how many bytes were read
pub record Reading : Type 0 where
  pub world : World
  pub line : List ℕ
  pub text : List ℕ
  pub used : ℕ

abbrev pub reading : World → List ℕ → List ℕ → ℕ → Reading
reading w line text used = record { world = w; line = line; text = text; used = used }

-- LF ends the line that is held
unfoldable pub line_ended : List ℕ → Reading → Reading
line_ended rom m = record {
  world = (step_of rom m.world m.line).world;
  line = [];
  text = m.text ++ (step_of rom m.world m.line).text;
  used = m.used + 1;
}

-- 261 bytes of a line are held, by which one over 260 bytes is known; the others are skipped
unfoldable pub line_kept : List ℕ → ℕ → List ℕ
line_kept line b = pick (ltb (length line) 261) (line ++ (b ∷ [])) line

unfoldable pub byte_kept : Reading → ℕ → Reading
byte_kept m b = record {
  world = m.world;
  line = line_kept m.line b;
  text = m.text;
  used = m.used + 1;
}

-- one byte
unfoldable pub byte_read : List ℕ → Reading → ℕ → Reading
byte_read rom m b = pick (eqb b 0x0A) (line_ended rom m) (byte_kept m b)

-- all the bytes of a piece
unfoldable pub read_all : List ℕ → Reading → List ℕ → Reading
read_all rom m [] = m
read_all rom m (b ∷ rest) = read_all rom (byte_read rom m b) rest

-- a line is not ended where the buffer for the answers has no room for the longest, 11 bytes
abbrev pub no_room : ℕ → Reading → ℕ → Bool
no_room size m b = eqb b 0x0A && ltb size (length m.text + 11)

-- the bytes of a piece, up to an LF for whose answer there is no room
unfoldable pub fed : List ℕ → ℕ → Reading → List ℕ → Reading
fed rom size m [] = m
fed rom size m (b ∷ rest) = pick (no_room size m b) m (fed rom size (byte_read rom m b) rest)

-- the reader that holds these bytes: the others are 0
unfoldable pub reader_of : List ℕ → Reader
reader_of line = record { line = line ++ replicate (261 - length line) 0; held = length line }

-- no line has begun
unfoldable pub new_reader : Reader
new_reader = record { line = replicate 261 0; held = 0 }

-- what a reader holds is the first bytes of its line, and no other
unfoldable pub held_by : Reader → List ℕ
held_by r = take (min r.held 261) r.line

-- where a piece begins: nothing is printed, and no byte is read
unfoldable pub opened : World → Reader → Reading
opened w r = record { world = w; line = held_by r; text = []; used = 0 }

-- what a piece leaves: world, reader, bytes read, bytes written, and the buffer for the answers
pub record Feeding : Type 0 where
  pub world : World
  pub reader : Reader
  pub used : ℕ
  pub written : ℕ
  pub out : List ℕ

abbrev pub feeding : List ℕ → Reading → Feeding
feeding out m = record { world = m.world; reader = reader_of m.line; used = m.used; written = length m.text; out = placed out 0 m.text }

abbrev pub fed_as : Fed → List ℕ → List ℕ → List ℕ → List ℕ → Feeding
fed_as r ram store image out = record { world = world r.state ram store image; reader = r.reader; used = r.used; written = r.written; out = out }

unfoldable pub feed_means : List ℕ → World → Reader → List ℕ → List ℕ → Feeding
feed_means rom w r piece out = feeding out (fed rom (length out) (opened w r) piece)

-- the end of the text: a last line without LF counts if it has at least one byte
unfoldable pub last_line : List ℕ → World → List ℕ → Step
last_line rom w line = pick (eqb (length line) 0) (step w []) (step_of rom w line)

unfoldable pub finish_means : List ℕ → World → Reader → Step
finish_means rom w r = last_line rom w (held_by r)

-- a text in pieces, each read where the one before it left the reader, and then its end
unfoldable pub in_pieces : List ℕ → World → Reader → List (List ℕ) → Step
in_pieces rom w r [] = finish_means rom w r
in_pieces rom w r (piece ∷ pieces) =
    after (read_all rom (opened w r) piece).text
    (in_pieces rom (read_all rom (opened w r) piece).world (reader_of (read_all rom (opened w r) piece).line) pieces)

-- the pieces one after the other
abbrev pub joined : List (List ℕ) → List ℕ
joined [] = []
joined (piece ∷ pieces) = piece ++ joined pieces

-- after i bytes of a piece: what is left from here is the whole from the start, and what is written is what was printed
pub record Going (rom : List ℕ) (start : Reading) (out₀ piece : List ℕ) (w : World) (line out : List ℕ) (at i : ℕ) : Type 0 where
  pub inside : i ≤ length piece
  pub room : at ≤ length out
  pub few : length line ≤ 261
  pub same : length out ≡ length out₀
  pub text : out ≡ placed out₀ 0 (take at out)
  pub rest : fed rom (length out₀) (reading w line (take at out) i) (drop i piece) ≡ fed rom (length out₀) start piece
