-- Bus script: one step of a session. Assumes nothing.
use Rattle.std.specs.Prelude.{List, ℕ, zero, suc, ◌+◌, ◌*◌, length, set}
use Rattle.laws.specs.Pick.{pick}
use Rattle.controller.specs.declared.Controller.{Controller}
use Rattle.controller.specs.declared.Refusal.{Refusal}
use Rattle.controller.specs.declared.Refusal.TheVariants as refusals
use Rattle.timing.specs.Lent.{frame_allowed}
use Rattle.controller.specs.State.{reset_state}
use Rattle.controller.specs.Outcome.{Outcome, number_of}
use Rattle.cartridge.specs.Calls.{read_means, write_means}
use Rattle.capture.specs.Calls.{tick_means}
use Rattle.lines.specs.declared.line.Frame.{Frame}
use Rattle.lines.specs.declared.line.Frame.TheVariants.{Reset, Read, Write, Tick, Row, Malformed}
use Rattle.lines.specs.Line.{number_at, frame_of}
use Rattle.session.specs.Answer.{answer_text}

-- what a session changes: the state, the RAM, the frame store and the image
pub record World : Type 0 where
  pub state : Controller
  pub ram : List ℕ
  pub store : List ℕ
  pub image : List ℕ

abbrev pub world : Controller → List ℕ → List ℕ → List ℕ → World
world c ram store image = record { state = c; ram = ram; store = store; image = image }

-- a step: the world after it, and the line that it prints
pub record Step : Type 0 where
  pub world : World
  pub text : List ℕ

abbrev pub step : World → List ℕ → Step
step w text = record { world = w; text = text }

-- a refusal changes nothing and prints its number alone
abbrev pub refused : World → Refusal → Step
refused w n = step w (answer_text (number_of n) 0 0)

-- reset: RAM and frame store are not touched
abbrev pub reset_step : World → Step
reset_step w = step (world reset_state w.ram w.store w.image) (answer_text 0 0 0)

-- after `01` the byte, two digits
abbrev pub after_read : World → Outcome → Step
after_read w o = step (world o.state o.ram w.store w.image) (answer_text o.number 2 o.value)

abbrev pub after_write : World → Outcome → Step
after_write w o = step (world o.state o.ram o.store w.image) (answer_text o.number 0 o.value)

-- after `03` eight digits of running cycles
abbrev pub after_tick : World → Outcome → Step
after_tick w o = step (world o.state o.ram o.store w.image) (answer_text o.number 8 o.value)

-- an image with n bytes of a row taken from a line, two digits each, which begin after the row's number
unfoldable pub row_taken : List ℕ → ℕ → ℕ → List ℕ → List ℕ
row_taken line y zero image = image
row_taken line y (suc n) image = set (row_taken line y n image) (128 * y + n) (number_at line (4 + 2 * n) 2)

-- a row is lent the image: 4 is given when it is not 16,384 bytes
unfoldable pub row_image : List ℕ → List ℕ → ℕ → List ℕ
row_image line image y = pick (frame_allowed (length image)) (row_taken line y 128 image) image

unfoldable pub row_text : List ℕ → List ℕ
row_text image = pick (frame_allowed (length image)) (answer_text 0 0 0) (answer_text (number_of refusals.Frame) 0 0)

abbrev pub row_step : List ℕ → World → ℕ → Step
row_step line w y = step (world w.state w.ram w.store (row_image line w.image y)) (row_text w.image)

-- what a frame does
unfoldable pub frame_step : List ℕ → List ℕ → World → Frame → Step
frame_step rom line w Reset = reset_step w
frame_step rom line w (Read a) = after_read w (read_means w.state rom w.ram a)
frame_step rom line w (Write a v) = after_write w (write_means w.state w.ram w.store w.image a v)
frame_step rom line w (Tick n) = after_tick w (tick_means w.state w.ram w.store n)
frame_step rom line w (Row y) = row_step line w y
frame_step rom line w Malformed = refused w refusals.Line

-- what a line does
unfoldable pub step_of : List ℕ → World → List ℕ → Step
step_of rom w line = frame_step rom line w (frame_of line)
