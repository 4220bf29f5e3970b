-- What the events of a recording tell. Assumes nothing.
use Rattle.std.specs.Prelude.{◌≡◌, Bool, true, ◌&&◌, List, [], ◌∷◌, ◌++◌, ℕ, ◌+◌, ◌%◌, ◌≤◌, eqb, length, set}
use Rattle.laws.specs.Pick.{pick}
use Rattle.crc.specs.Crc.{crc_of}
use Rattle.timing.specs.Timing.{total_of}
use Rattle.lighting.specs.Taken.{setting_of}
use Rattle.lighting.specs.Light.{lit_of}
use Rattle.tiles.specs.Tiles.{area_of}
use Rattle.plates.specs.Grey.{plate_of, plate_afresh}
use Rattle.history.specs.History.{Call, counted}
use Rattle.history.specs.History.{World as Found}
use Rattle.history.specs.Seen.{in_area, lands_seen, held_through, AreaLeft, afresh}
use Rattle.lines.specs.declared.line.Frame.TheVariants.{Write}
use Rattle.lines.specs.Line.{frame_of}
use Rattle.session.specs.Answer.{number_said}
use Rattle.session.specs.Session.{World, step_of}
use Rattle.events.specs.Event.{start, found, call_of, place_of}
use Rattle.auditing.specs.Line.{is_row}
use Rattle.audited.specs.Sessions.{calls_of, left_by, next_event}

-- lines split at one whose event is a start with this serial, and since which a capture is held after each line
pub record Begun (rom : List ℕ) (w : World) (lines : List (List ℕ)) (serial : ℕ) : Type 0 where
  pub before : List (List ℕ)
  pub line : List ℕ
  pub since : List (List ℕ)
  pub checksum : ℕ
  pub row : ℕ
  pub registers : List ℕ
  pub whole : lines ≡ before ++ (line ∷ since)
  pub begins : next_event rom w before line ≡ start serial checksum row registers
  pub through : held_through (found (left_by rom w (before ++ (line ∷ []))).world) (calls_of rom (left_by rom w (before ++ (line ∷ []))).world since) ≡ true

-- the session before that line, and after it
abbrev pub session_before : {rom : List ℕ} {w : World} {lines : List (List ℕ)} {serial : ℕ} → Begun rom w lines serial → World
session_before {rom} {w} s = (left_by rom w s.before).world

abbrev pub session_after : {rom : List ℕ} {w : World} {lines : List (List ℕ)} {serial : ℕ} → Begun rom w lines serial → World
session_after {rom} {w} s = (left_by rom w (s.before ++ (s.line ∷ []))).world

-- the counts that the ticks returned from that line on, with those of these lines more, added up
abbrev pub counts_since : {rom : List ℕ} {w : World} {lines : List (List ℕ)} {serial : ℕ} → Begun rom w lines serial → List (List ℕ) → ℕ
counts_since {rom} s more = counted (found (session_before s)) (calls_of rom (session_before s) (s.line ∷ (s.since ++ more)))

-- two such starts of the same lines, with whatever serials, are one
pub record OneBegun {rom : List ℕ} {w : World} {lines : List (List ℕ)} {serial n : ℕ} (s : Begun rom w lines serial)
    (other : Begun rom w lines n) : Type 0 where
  pub before : other.before ≡ s.before
  pub line : other.line ≡ s.line
  pub since : other.since ≡ s.since

-- a line is answered with 00
abbrev pub accepted : List ℕ → World → List ℕ → Bool
accepted rom w line = eqb (number_said (step_of rom w line).text) 0

-- the number of the last of these lines that lent a row, where so many went before them, of which this one was the last that did
unfoldable pub last_row : List ℕ → World → ℕ → ℕ → List (List ℕ) → ℕ
last_row rom w n r [] = r
last_row rom w n r (line ∷ rest) =
    last_row rom (step_of rom w line).world (n + 1) (pick (is_row (frame_of line) && accepted rom w line) (n + 1) r) rest

-- what an event with this serial and these cycles tells, after lines and with these more: it has such a start, and one; the image whose checksum
-- the start said is the one lent then, and the row that it said, of lines that 64 bits can number, the last line that lent one; the registers that it
-- said are those in force then, with the new register 0; and the cycles are the counts
-- since, added up
pub record Started (rom : List ℕ) (w : World) (lines more : List (List ℕ)) (serial cycles : ℕ) : Type 0 where
  pub begun : Begun rom w lines serial
  pub one : (n : ℕ) (other : Begun rom w lines n) → OneBegun begun other
  pub address : ℕ
  pub byte : ℕ
  pub write : frame_of begun.line ≡ Write address byte
  pub checksum : begun.checksum ≡ crc_of (session_before begun).image
  pub row : length begun.before ≤ 0xFFFFFFFFFFFFFFFF → begun.row ≡ last_row rom w 0 0 begun.before
  pub registers : begun.registers ≡ set (session_before begun).state.registers 0 (byte % 8)
  pub counts : cycles ≡ counts_since begun more

-- what `whole` tells: no line since the start landed in the picture area; the cycles are the total of the start's registers; and after the line
-- the area is the picture afresh, and the checksum is of its plate, from the image lent at the start and the registers that the start said
pub record WholeTold (rom : List ℕ) (w : World) (lines : List (List ℕ)) (line : List ℕ) (serial cycles plate : ℕ) : Type 0 where
  pub from : Started rom w lines (line ∷ []) serial cycles
  pub alone : AreaLeft (found (session_after from.begun)) (calls_of rom (session_after from.begun) from.begun.since)
  pub total : cycles ≡ total_of from.begun.registers
  pub picture : area_of (left_by rom w (lines ++ (line ∷ []))).world.ram ≡ afresh (session_before from.begun).image from.begun.registers
  pub of_area : plate ≡ crc_of (plate_of (left_by rom w (lines ++ (line ∷ []))).world.ram)
  pub of_picture : plate ≡ crc_of (plate_afresh (lit_of (session_before from.begun).image (setting_of from.begun.registers)) from.begun.registers)

-- what a write that landed tells: its capture has such a start, and one; and the line writes this byte, which landed in this place of the RAM
pub record LandedTold (rom : List ℕ) (w : World) (lines : List (List ℕ)) (line : List ℕ) (serial place byte : ℕ) : Type 0 where
  pub begun : Begun rom w lines serial
  pub one : (n : ℕ) (other : Begun rom w lines n) → OneBegun begun other
  pub address : ℕ
  pub write : frame_of line ≡ Write address byte
  pub lands : lands_seen (found (left_by rom w lines).world) (call_of rom (left_by rom w lines).world.image (frame_of line)) place ≡ true

-- a line among those since the start that landed in the picture area, and where
pub record Landing (rom : List ℕ) (w : World) (lines : List (List ℕ)) (serial : ℕ) (s : Begun rom w lines serial) : Type 0 where
  pub earlier : List (List ℕ)
  pub line : List ℕ
  pub later : List (List ℕ)
  pub among : s.since ≡ earlier ++ (line ∷ later)
  pub place : ℕ
  pub inside : in_area place ≡ true
  pub lands : lands_seen (found (left_by rom w (s.before ++ (s.line ∷ earlier))).world)
      (call_of rom (left_by rom w (s.before ++ (s.line ∷ earlier))).world.image (frame_of line)) place ≡ true

-- its line's number, as an audit numbers lines
abbrev pub number_of : {rom : List ℕ} {w : World} {lines : List (List ℕ)} {serial : ℕ} {s : Begun rom w lines serial} → Landing rom w lines serial s → ℕ
number_of {s = s} l = length (s.before ++ (s.line ∷ (l.earlier ++ (l.line ∷ []))))

-- the first of them: no line since the start landed in the area before it
pub record FirstLanding (rom : List ℕ) (w : World) (lines : List (List ℕ)) (serial : ℕ) (s : Begun rom w lines serial) (n : ℕ) : Type 0 where
  pub landing : Landing rom w lines serial s
  pub left : AreaLeft (found (session_after s)) (calls_of rom (session_after s) landing.earlier)
  pub number : number_of landing ≡ n

-- the last: none after it
pub record LastLanding (rom : List ℕ) (w : World) (lines : List (List ℕ)) (serial : ℕ) (s : Begun rom w lines serial) (n : ℕ) : Type 0 where
  pub landing : Landing rom w lines serial s
  pub left : AreaLeft (found (left_by rom w (s.before ++ (s.line ∷ (landing.earlier ++ (landing.line ∷ []))))).world)
      (calls_of rom (left_by rom w (s.before ++ (s.line ∷ (landing.earlier ++ (landing.line ∷ []))))).world landing.later)
  pub number : number_of landing ≡ n

-- a call lands in the picture area
unfoldable pub lands_in_area : Found → Call → Bool
lands_in_area w c = lands_seen w c (place_of w c) && in_area (place_of w c)

-- how many of these lines landed in the picture area
unfoldable pub landings : List ℕ → World → List (List ℕ) → ℕ
landings rom w [] = 0
landings rom w (line ∷ rest) =
    pick (lands_in_area (found w) (call_of rom w.image (frame_of line))) 1 0 + landings rom (step_of rom w line).world rest

-- what `touched` tells: a line since the start landed in the picture area; of lines that 64 bits can number, so many did, and the first and the last
-- that did have these numbers; the cycles are the total of the start's registers, and the checksum is of the plate after the line
pub record TouchedTold (rom : List ℕ) (w : World) (lines : List (List ℕ)) (line : List ℕ) (serial cycles plate writes first last : ℕ) : Type 0 where
  pub from : Started rom w lines (line ∷ []) serial cycles
  pub landing : Landing rom w lines serial from.begun
  pub count : length lines ≤ 0xFFFFFFFFFFFFFFFF → writes ≡ landings rom (session_after from.begun) from.begun.since
  pub firstly : length lines ≤ 0xFFFFFFFFFFFFFFFF → FirstLanding rom w lines serial from.begun first
  pub lastly : length lines ≤ 0xFFFFFFFFFFFFFFFF → LastLanding rom w lines serial from.begun last
  pub total : cycles ≡ total_of from.begun.registers
  pub of_area : plate ≡ crc_of (plate_of (left_by rom w (lines ++ (line ∷ []))).world.ram)
