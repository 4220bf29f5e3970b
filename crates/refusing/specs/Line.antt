-- The table of a script's line, by its frame; what a refused line prints and leaves, and what any other does. Assumes nothing.
use Rattle.std.specs.Prelude.{true, List, [], ◌∷◌, ℕ, length}
use Rattle.controller.specs.declared.Refusal.TheVariants as refusals
use Rattle.controller.specs.Table.{Row, row, no_frame}
use Rattle.cartridge.specs.Bus.{byte_written}
use Rattle.lighting.specs.Light.{byte_at}
use Rattle.capture.specs.Capture.{ticks, from}
use Rattle.cartridge.specs.Calls.{read_rows, byte_of, write_rows, wrote}
use Rattle.capture.specs.Calls.{tick_rows, ticked}
use Rattle.lines.specs.declared.line.Frame.{Frame}
use Rattle.lines.specs.declared.line.Frame.TheVariants.{Reset, Read, Write, Tick, Row as RowFrame, Malformed}
use Rattle.lines.specs.Line.{number_at}
use Rattle.session.specs.Answer.{answer_text}
use Rattle.session.specs.Session.{World, world, Step, step, reset_step, after_read, after_write, after_tick, row_taken}

-- the number that is printed: the first two digits
abbrev pub in_step : Step → ℕ
in_step s = number_at s.text 0 2

-- refused by n, a line prints its number alone and leaves the state, the RAM, the frame store and the image
abbrev pub leaves_world : World → ℕ → Step
leaves_world w n = step w (answer_text n 0 0)

-- a reset has no row, an image row is lent the image, and 6 is given for what is no frame; the others have the rows of their calls
unfoldable pub line_table : List ℕ → World → Frame → List Row
line_table rom w Reset = []
line_table rom w (Read a) = read_rows w.state rom w.ram a
line_table rom w (Write a v) = write_rows w.state w.ram w.store w.image a
line_table rom w (Tick n) = tick_rows w.state w.ram w.store
line_table rom w (RowFrame y) = no_frame (length w.image) ∷ []
line_table rom w Malformed = row refusals.Line true ∷ []

-- what a line does where no row holds; that is never so of what is no frame
unfoldable pub line_done : List ℕ → List ℕ → World → Frame → Step
line_done rom line w Reset = reset_step w
line_done rom line w (Read a) = after_read w (byte_of w.state rom w.ram a)
line_done rom line w (Write a v) = after_write w (wrote (byte_written w.state w.ram w.store w.image a v))
line_done rom line w (Tick n) = after_tick w (ticked w.store (ticks (byte_at w.store) n (from w.state w.ram)))
line_done rom line w (RowFrame y) =
    step (world w.state w.ram w.store (row_taken line y 128 w.image)) (answer_text 0 0 0)
line_done rom line w Malformed = step w (answer_text 0 0 0)
