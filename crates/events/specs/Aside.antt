-- Aside: devices of contracts between functions. Nothing here need be believed: every use of it is tied by a proof to the definitions beside it.
-- What the functions promise of a line: what is seen of a record and asked by a frame, the kind of an event, and its values. Assumes nothing.
use Rattle.std.specs.Prelude.{Bool, true, false, not, ◌&&◌, Option, Some, None, List, ℕ, ◌+◌, ◌*◌, ◌/◌, ◌%◌, eqb, ltb, set}
use Rattle.laws.specs.Pick.{pick}
use Rattle.controller.specs.declared.Controller.{Controller}
use Rattle.capture.specs.Capture.{running}
use Rattle.cartridge.specs.Bus.{registers_on, ram_writable}
use Rattle.crc.specs.Crc.{crc_of}
use Rattle.plates.specs.Grey.{plate_of}
use Rattle.lines.specs.declared.line.Frame.{Frame}
use Rattle.lines.specs.declared.line.Frame.TheVariants as frames
use Rattle.events.specs.declared.sight.Sight.{Sight}
use Rattle.events.specs.declared.event.Kind.{Kind}
use Rattle.events.specs.declared.event.Kind.TheVariants as kinds
use Rattle.events.specs.declared.event.Seen.{Seen}
use Rattle.events.specs.declared.event.Seen.TheVariants as seens
use Rattle.events.specs.declared.event.Facts.{Facts}
use Rattle.events.specs.declared.event.Step.{Step}
use Rattle.events.specs.Book.{noted, more, lines, row}
use Rattle.events.specs.Book as book
use Rattle.events.specs.Event.{Event, none, start, stop, resume, dropped, landed, whole, touched, end_of}

-- bus writes at and above 8000h go to the RAM
abbrev pub takes_writes : Controller → Bool
takes_writes c = not (registers_on c) && ram_writable c

-- what is seen of a state
abbrev pub sight_of : Controller → Sight
sight_of c = record { held = c.held; running = running c; serial = c.started; elapsed = c.elapsed.0; select = c.select; takes = takes_writes c }

-- a line that was carried out, by its frame and two states
abbrev pub step_by : Frame → Controller → Controller → ℕ → ℕ → ℕ → Step
step_by f c d size number value = record { frame = f; before = sight_of c; after = sight_of d; size = size; number = number; value = value }

-- whether it is a reset
abbrev pub is_reset : Frame → Bool
is_reset frames.Reset = true
is_reset (frames.Read a) = false
is_reset (frames.Write a v) = false
is_reset (frames.Tick n) = false
is_reset (frames.Row y) = false
is_reset frames.Malformed = false

-- whether a write landed, by whether writes go to the RAM and the number of a refusal
abbrev pub landed_by : Frame → Bool → ℕ → Bool
landed_by frames.Reset takes number = false
landed_by (frames.Read a) takes number = false
landed_by (frames.Write a v) takes number = (not (ltb a 0x8000) && takes) && eqb number 0
landed_by (frames.Tick n) takes number = false
landed_by (frames.Row y) takes number = false
landed_by frames.Malformed takes number = false

abbrev pub lands_in : Step → Bool
lands_in s = landed_by s.frame s.before.takes s.number

-- the cycles of a tick
abbrev pub ran_by : Frame → ℕ → ℕ
ran_by frames.Reset value = 0
ran_by (frames.Read a) value = 0
ran_by (frames.Write a v) value = 0
ran_by (frames.Tick n) value = value
ran_by (frames.Row y) value = 0
ran_by frames.Malformed value = 0

abbrev pub cycles_in : Step → ℕ
cycles_in s = s.before.elapsed + ran_by s.frame s.value

-- the place of an address in so many bytes of RAM
abbrev pub place_by : ℕ → ℕ → ℕ → ℕ
place_by select size a = select % 16 % (size / 8192) * 8192 + a % 8192

-- where a write goes, and its byte
abbrev pub written_at : Frame → ℕ → ℕ → ℕ
written_at frames.Reset select size = 0
written_at (frames.Read a) select size = 0
written_at (frames.Write a v) select size = place_by select size a
written_at (frames.Tick n) select size = 0
written_at (frames.Row y) select size = 0
written_at frames.Malformed select size = 0

abbrev pub place_in : Step → ℕ
place_in s = written_at s.frame s.before.select s.size

abbrev pub byte_of : Frame → ℕ
byte_of frames.Reset = 0
byte_of (frames.Read a) = 0
byte_of (frames.Write a v) = v
byte_of (frames.Tick n) = 0
byte_of (frames.Row y) = 0
byte_of frames.Malformed = 0

abbrev pub byte_in : Step → ℕ
byte_in s = byte_of s.frame

-- the kind of an event: of those that are seen the first
abbrev pub kind_by : Bool → Bool → Bool → Bool → Bool → Bool → Option Kind
kind_by starts ends drops lands stops resumes =
    pick starts (Some kinds.Start) (pick ends (Some kinds.End) (pick drops (Some kinds.Drop)
    (pick lands (Some kinds.Land) (pick stops (Some kinds.Stop) (pick resumes (Some kinds.Resume) None)))))

abbrev pub kind_of : Bool → Bool → Bool → Bool → Bool → Bool → Option Kind
kind_of held runs still on reset lands =
    kind_by (not held && still) (held && (not reset && not still)) (held && reset) (held && lands) (runs && (still && not on)) (held && (not runs && on))

abbrev pub kind_in : Step → Option Kind
kind_in s = kind_of s.before.held s.before.running s.after.held s.after.running (is_reset s.frame) (lands_in s)

-- what an event may say
abbrev pub facts_of : Step → Facts
facts_of s = record { serial = s.before.serial; next = s.after.serial; cycles = cycles_in s; place = place_in s; byte = byte_in s }

-- an event of a kind
unfoldable pub event_by : List ℕ → List ℕ → List ℕ → List ℕ → Facts → Option Kind → Event
event_by b image ram regs f None = none
event_by b image ram regs f (Some kinds.Start) = start f.next (crc_of image) (noted b row) regs
event_by b image ram regs f (Some kinds.End) = end_of b f.serial f.cycles (crc_of (plate_of ram))
event_by b image ram regs f (Some kinds.Drop) = dropped f.serial f.cycles
event_by b image ram regs f (Some kinds.Land) = landed f.serial f.place f.byte
event_by b image ram regs f (Some kinds.Stop) = stop f.serial f.cycles
event_by b image ram regs f (Some kinds.Resume) = resume f.serial f.cycles

-- an event by its values, and these registers where it is a start
unfoldable pub event_from : Option Seen → List ℕ → Event
event_from None regs = none
event_from (Some (seens.Start serial image row)) regs = start serial image row regs
event_from (Some (seens.Stop serial cycles)) regs = stop serial cycles
event_from (Some (seens.Resume serial cycles)) regs = resume serial cycles
event_from (Some (seens.Dropped serial cycles)) regs = dropped serial cycles
event_from (Some (seens.Landed serial at byte)) regs = landed serial at byte
event_from (Some (seens.Whole serial cycles plate)) regs = whole serial cycles plate
event_from (Some (seens.Touched serial cycles plate writes first last)) regs = touched serial cycles plate writes first last

-- a line is counted, by whether it is malformed and whether it is a row
abbrev pub line_by : List ℕ → Bool → Bool → ℕ → List ℕ
line_by b malformed is_row number =
    pick malformed (more (more b lines) book.malformed)
    (pick (not (eqb number 0)) (more (more b lines) book.refused)
    (pick is_row (set (more b lines) row (noted (more b lines) lines)) (more b lines)))
