-- Bus script: calls that were recorded, and what they do. Assumes nothing.
use Rattle.std.specs.Prelude.{List, [], ◌∷◌, ◌++◌, ℕ, ◌*◌, length}
use Rattle.laws.specs.Pick.{pick}
use Rattle.timing.specs.Lent.{frame_allowed}
use Rattle.lines.specs.declared.line.Frame.{Frame}
use Rattle.lines.specs.declared.line.Frame.TheVariants.{Reset, Read, Write, Tick, Row, Malformed}
use Rattle.lines.specs.Hex.{placed}
use Rattle.recording.specs.Record.{line_of, ended}
use Rattle.session.specs.Session.{World, Step, world, step, row_text, frame_step}
use Rattle.script.specs.Text.{after}

-- a call as it is recorded: its frame, and the bytes of an image row
pub record Call : Type 0 where
  pub frame : Frame
  pub bytes : List ℕ

-- the lines of calls, in their order
unfoldable pub call_lines : List Call → List (List ℕ)
call_lines [] = []
call_lines (c ∷ calls) = line_of c.frame c.bytes ∷ call_lines calls

-- the recording: each line with its LF, one after the other
unfoldable pub recording_of : List Call → List ℕ
recording_of [] = []
recording_of (c ∷ calls) = ended (line_of c.frame c.bytes) ++ recording_of calls

-- an image with a row's bytes in their place
abbrev pub row_lent : List ℕ → List ℕ → ℕ → List ℕ
row_lent bytes image y = pick (frame_allowed (length image)) (placed image (128 * y) bytes) image

-- what a call does: its frame, with an image row's bytes as they were lent
unfoldable pub call_step : List ℕ → World → Frame → List ℕ → Step
call_step rom w Reset bytes = frame_step rom [] w Reset
call_step rom w (Read a) bytes = frame_step rom [] w (Read a)
call_step rom w (Write a v) bytes = frame_step rom [] w (Write a v)
call_step rom w (Tick n) bytes = frame_step rom [] w (Tick n)
call_step rom w (Row y) bytes = step (world w.state w.ram w.store (row_lent bytes w.image y)) (row_text w.image)
call_step rom w Malformed bytes = frame_step rom [] w Malformed

-- calls one after the other, each in the world that the one before it left
unfoldable pub calls_made : List ℕ → World → List Call → Step
calls_made rom w [] = step w []
calls_made rom w (c ∷ calls) =
    after (call_step rom w c.frame c.bytes).text (calls_made rom (call_step rom w c.frame c.bytes).world calls)
