-- What each exported function of an audit answers and leaves. Assumes nothing.
use Rattle.std.specs.Prelude.{Bool, not, ◌&&◌, List, [], ◌∷◌, ℕ, ◌%◌, min, eqb, leb, length, take, set}
use Rattle.controller.specs.declared.Refusal.TheVariants.{State, Ram, Room}
use Rattle.controller.specs.Table.{Row, row, lowest, judged}
use Rattle.timing.specs.Lent.{ram_allowed}
use Rattle.lines.specs.Hex.{placed}
use Rattle.session.specs.Session.{world}
use Rattle.layout.specs.Layout.{is_record, encoded, decoded}
use Rattle.answers.specs.Packed.{packed}
use Rattle.events.specs.Book.{noted, written, lines}
use Rattle.auditing.specs.Summary.{summary_of}
use Rattle.pieces.specs.Pieces.{Standing, piece_audited, end_audited}
use Rattle.changes.specs.Changes.{ends, change_text}

-- an answer, and what is left: the session's state, RAM, frame store and image, the book, and the buffers of a line and of the events
pub record Auditing : Type 0 where
  pub answer : ℕ
  pub state : List ℕ
  pub ram : List ℕ
  pub store : List ℕ
  pub image : List ℕ
  pub book : List ℕ
  pub line : List ℕ
  pub out : List ℕ

abbrev pub auditing : ℕ → List ℕ → List ℕ → List ℕ → List ℕ → List ℕ → List ℕ → List ℕ → Auditing
auditing answer state ram store image book line out = record {
  answer = answer;
  state = state;
  ram = ram;
  store = store;
  image = image;
  book = book;
  line = line;
  out = out;
}

-- what an audit leaves, with a value
abbrev pub as_standing : ℕ → Standing → Auditing
as_standing value a =
    auditing (packed 0 value) (encoded a.world.state) a.world.ram a.world.store a.world.image a.book a.line a.out

-- a book of 13 numbers, 261 bytes for a line, and at least 512 for events
unfoldable pub fits : List ℕ → List ℕ → List ℕ → Bool
fits book line out = eqb (length book) 13 && (eqb (length line) 261 && leb 512 (length out))

-- 1 for bytes that are no record, then 7 for a wrong size
unfoldable pub audit_rows : List ℕ → List ℕ → List ℕ → List ℕ → List Row
audit_rows s book line out = row State (not (is_record s)) ∷ row Room (not (fits book line out)) ∷ []

-- of a piece so many bytes as a value can count
abbrev pub lent : List ℕ → List ℕ
lent piece = take 4294967295 piece

-- a piece of a recording: the value is how many of its bytes were read
unfoldable pub audit_bytes : List ℕ → List ℕ → List ℕ → List ℕ → List ℕ → List ℕ → List ℕ → List ℕ → List ℕ → Auditing
audit_bytes s rom ram store image book line piece out =
    judged (lowest (audit_rows s book line out))
    (λ n. auditing (packed n 0) s ram store image book line out)
    (let a = piece_audited rom (world (decoded s) ram store image) book line out (lent piece) in as_standing a.used a)

-- its end: the value is how many bytes of events were written
unfoldable pub end_bytes : List ℕ → List ℕ → List ℕ → List ℕ → List ℕ → List ℕ → List ℕ → List ℕ → Auditing
end_bytes s rom ram store image book line out =
    judged (lowest (audit_rows s book line out))
    (λ n. auditing (packed n 0) s ram store image book line out)
    (let a = end_audited rom (world (decoded s) ram store image) book line out in as_standing (noted a.book written % 4294967296) a)

-- an answer, and what is left of the book and of the buffer for the events
pub record Noting : Type 0 where
  pub answer : ℕ
  pub book : List ℕ
  pub out : List ℕ

abbrev pub noting : ℕ → List ℕ → List ℕ → Noting
noting answer book out = record { answer = answer; book = book; out = out }

-- a text put at the start of the buffer, and its length in the book
abbrev pub said : ℕ → List ℕ → List ℕ → List ℕ → Noting
said value book out text = noting (packed 0 value) (set book written (length text)) (placed out 0 text)

-- a book of 13 numbers, and at least 512 bytes for an event
unfoldable pub room : List ℕ → List ℕ → Bool
room book out = eqb (length book) 13 && leb 512 (length out)

-- the RAM now and at first: an allowed length, and the same
unfoldable pub same_ram : List ℕ → List ℕ → Bool
same_ram first ram = ram_allowed (length ram) && eqb (length first) (length ram)

-- 3 for the RAM, then 7
unfoldable pub changed_rows : List ℕ → List ℕ → List ℕ → List ℕ → List Row
changed_rows book first ram out = row Ram (not (same_ram first ram)) ∷ row Room (not (room book out)) ∷ []

-- the first stretch from a place on that changed: the value is the place after it
unfoldable pub changed_bytes : List ℕ → List ℕ → List ℕ → ℕ → List ℕ → Noting
changed_bytes book first ram from out =
    judged (lowest (changed_rows book first ram out))
    (λ n. noting (packed n 0) book out)
    (said (ends first ram (min from (length ram)) % 4294967296) book out (change_text (noted book lines) first ram (min from (length ram))))

-- 1 for bytes that are no record, then 7
unfoldable pub summary_rows : List ℕ → List ℕ → List ℕ → List Row
summary_rows book s out = row State (not (is_record s)) ∷ row Room (not (room book out)) ∷ []

-- the summary: the value is its length
unfoldable pub summary_bytes : List ℕ → List ℕ → List ℕ → Noting
summary_bytes book s out =
    judged (lowest (summary_rows book s out))
    (λ n. noting (packed n 0) book out)
    (let text = summary_of book (decoded s).held in said (length text % 4294967296) book out text)
