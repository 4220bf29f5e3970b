-- The events of a recording: what is seen of each line, as a history's calls are seen. Assumes nothing.
use Rattle.std.specs.Prelude.{Bool, not, ◌&&◌, List, ℕ, ◌+◌, eqb}
use Rattle.laws.specs.Pick.{pick}
use Rattle.crc.specs.Crc.{crc_of}
use Rattle.capture.specs.Capture.{running}
use Rattle.cartridge.specs.Bus.{ram_place}
use Rattle.plates.specs.Grey.{plate_of}
use Rattle.history.specs.History.{Call, reset, read, write, tick, inspect, choose, place, leaves, answers, count_in}
use Rattle.history.specs.History.{World as Found}
use Rattle.history.specs.Seen.{is_reset, start_seen, end_seen, lands_seen, byte_in}
use Rattle.lines.specs.declared.line.Frame.{Frame}
use Rattle.lines.specs.declared.line.Frame.TheVariants.{Reset, Read, Write, Tick, Row, Malformed}
use Rattle.session.specs.Session.{World}
use Rattle.events.specs.Book.{noted, row, writes, first, last}

-- what a call finds of a session
abbrev pub found : World → Found
found w = record { state = w.state; ram = w.ram; store = w.store }

-- a frame as a call; an image row and a malformed line leave what a call finds, as an inspection does
unfoldable pub call_of : List ℕ → List ℕ → Frame → Call
call_of rom image Reset = reset
call_of rom image (Read a) = read rom a
call_of rom image (Write a v) = write image a v
call_of rom image (Tick n) = tick n
call_of rom image (Row y) = inspect
call_of rom image Malformed = inspect

-- an event: none; a start, with serial, checksum of the image, line of its last row and registers; stops, resumes, drops and what is held, with serial
-- and cycles; a write that landed, with serial, place and byte; an end of a plate that is whole, with serial, cycles and checksum of the plate; and
-- of one that was touched, by so many writes, the first and the last on these lines
pub data Event : Type 0 where
  none : Event
  start : (serial image row : ℕ) (registers : List ℕ) → Event
  stop : (serial cycles : ℕ) → Event
  resume : (serial cycles : ℕ) → Event
  dropped : (serial cycles : ℕ) → Event
  landed : (serial at byte : ℕ) → Event
  whole : (serial cycles plate : ℕ) → Event
  touched : (serial cycles plate writes first last : ℕ) → Event

-- a stop is seen: a capture is held before and after a call, and runs before, not after
unfoldable pub stop_seen : Found → Call → Bool
stop_seen w c = running w.state && ((leaves w c).state.held && not (running (leaves w c).state))

-- a resume: held before and after, and runs after, not before
unfoldable pub resume_seen : Found → Call → Bool
resume_seen w c = w.state.held && (not (running w.state) && running (leaves w c).state)

-- a drop: a capture is held before a reset
unfoldable pub drop_seen : Found → Call → Bool
drop_seen w c = w.state.held && is_reset c

-- where a bus write goes
unfoldable pub place_of : Found → Call → ℕ
place_of w reset = 0
place_of w (read rom a) = 0
place_of w (write image a v) = ram_place w.state w.ram a
place_of w (tick n) = 0
place_of w inspect = 0
place_of w (choose light level plain exposure) = 0
place_of w (place file) = 0

-- a write: a capture is held, and a bus write landed in the RAM
unfoldable pub write_seen : Found → Call → Bool
write_seen w c = w.state.held && lands_seen w c (place_of w c)

-- the cycles of the capture held, with those of this call
abbrev pub cycles_of : Found → Call → ℕ
cycles_of w c = w.state.elapsed.0 + count_in (answers w c)

-- its end: whole where no bus write landed in the picture area since its start
unfoldable pub end_of : List ℕ → ℕ → ℕ → ℕ → Event
end_of book serial cycles plate =
    pick (eqb (noted book writes) 0) (whole serial cycles plate)
    (touched serial cycles plate (noted book writes) (noted book first) (noted book last))

-- what is seen of a call; no two of these are seen of one
unfoldable pub seen_of : List ℕ → List ℕ → Found → Call → Event
seen_of book image w c =
    pick (start_seen w c) (start (leaves w c).state.started (crc_of image) (noted book row) (leaves w c).state.taken)
    (pick (end_seen w c) (end_of book w.state.started (cycles_of w c) (crc_of (plate_of (leaves w c).ram)))
    (pick (drop_seen w c) (dropped w.state.started (cycles_of w c))
    (pick (write_seen w c) (landed w.state.started (place_of w c) (byte_in c (place_of w c)))
    (pick (stop_seen w c) (stop w.state.started (cycles_of w c))
    (pick (resume_seen w c) (resume w.state.started (cycles_of w c)) none)))))

-- the event of a frame, in a session
abbrev pub event_of : List ℕ → List ℕ → World → Frame → Event
event_of rom book w f = seen_of book w.image (found w) (call_of rom w.image f)
