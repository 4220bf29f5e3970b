-- A recording that is read in pieces, at most one line to a call, and its end. Assumes nothing.
use Rattle.std.specs.Prelude.{List, [], ◌∷◌, ◌++◌, ℕ, ◌+◌, ◌-◌, min, eqb, ltb, length, take, set}
use Rattle.laws.specs.Pick.{pick}
use Rattle.lines.specs.Hex.{placed}
use Rattle.session.specs.Session.{World}
use Rattle.wording.specs.Events.{held_text}
use Rattle.events.specs.Book.{noted, written, held, lines}
use Rattle.auditing.specs.Line.{Audited, audit_of}

-- where an audit stands: the session, the book, the buffer of a line that has begun, the buffer for the events, and the bytes read
pub record Standing : Type 0 where
  pub world : World
  pub book : List ℕ
  pub line : List ℕ
  pub out : List ℕ
  pub used : ℕ

-- the bytes of a piece before its first LF
unfoldable pub line_in : List ℕ → List ℕ
line_in [] = []
line_in (b ∷ rest) = pick (eqb b 0x0A) [] (b ∷ line_in rest)

-- how many bytes are held of a line: at most 261
abbrev pub held_in : List ℕ → ℕ
held_in b = min (noted b held) 261

-- bytes more of it, as far as 261
abbrev pub more_of : List ℕ → List ℕ → List ℕ
more_of b piece = take (261 - held_in b) (line_in piece)

abbrev pub line_held : List ℕ → List ℕ → List ℕ → List ℕ
line_held b line piece = placed line (held_in b) (more_of b piece)

-- an LF ends the line: it is carried out and its event is put at the start of the buffer
abbrev pub ended : List ℕ → List ℕ → List ℕ → Audited → Standing
ended line out piece a = record {
  world = a.world;
  book = set (set a.book held 0) written (length a.text);
  line = line;
  out = placed out 0 a.text;
  used = length (line_in piece) + 1;
}

-- without one its bytes are held
abbrev pub kept : World → List ℕ → List ℕ → List ℕ → List ℕ → Standing
kept w b line out piece = record {
  world = w;
  book = set (set b held (held_in b + length (more_of b piece))) written 0;
  line = line;
  out = out;
  used = length piece;
}

-- a piece, up to and with its first LF
unfoldable pub piece_audited : List ℕ → World → List ℕ → List ℕ → List ℕ → List ℕ → Standing
piece_audited rom w b line out piece =
    pick (ltb (length (line_in piece)) (length piece))
    (ended (line_held b line piece) out piece (audit_of rom w b (take (held_in b + length (more_of b piece)) (line_held b line piece))))
    (kept w b (line_held b line piece) out piece)

-- the end of the text: a last line without LF counts if it has at least one byte
unfoldable pub last_audited : List ℕ → World → List ℕ → List ℕ → Audited
last_audited rom w b line =
    pick (eqb (held_in b) 0) (record { world = w; book = b; text = [] }) (audit_of rom w b (take (held_in b) line))

-- and where a capture is held then, it is said
unfoldable pub held_said : Audited → List ℕ
held_said a =
    pick a.world.state.held (held_text (noted a.book lines) a.world.state.started a.world.state.elapsed.0) []

unfoldable pub end_audited : List ℕ → World → List ℕ → List ℕ → List ℕ → Standing
end_audited rom w b line out =
    let a = last_audited rom w b line in
    let text = a.text ++ held_said a in
    record {
      world = a.world;
      book = set (set a.book held 0) written (length text);
      line = line;
      out = placed out 0 text;
      used = 0;
    }
