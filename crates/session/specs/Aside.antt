-- Aside: devices of contracts between functions. Nothing here need be believed: every use of it is tied by a proof to the definitions beside it.
-- What the functions promise of a step, in terms of its meaning. Assumes nothing.
use Rattle.std.specs.Prelude.{◌≡◌, true, List, ◌++◌, ℕ, ◌+◌, ◌-◌, ◌≤◌, ◌<◌, length, replicate}
use Rattle.controller.specs.Outcome.{Outcome}
use Rattle.capture.specs.Calls.{tick_means}
use Rattle.layout.specs.Layout.{is_record, decoded}
use Rattle.lines.specs.declared.line.Frame.{Frame}
use Rattle.lines.specs.declared.line.Frame.TheVariants.{Reset, Read, Write, Tick, Row, Malformed}
use Rattle.session.specs.declared.answer.Answer.{Answer}
use Rattle.session.specs.declared.session.Stepped.{Stepped}
use Rattle.lines.specs.Hex.{placed}
use Rattle.session.specs.Answer.{answer_text, text_of}
use Rattle.session.specs.Session.{World, Step, world, step, step_of}

-- an answer that has at most eight digits, and a number of two
pub record Short (a : Answer) : Type 0 where
  pub few : a.digits ≤ 8
  pub small : a.number < 256

-- a call's outcome, with its state as a record's bytes and its value in so many digits
pub record Obeys (digits : ℕ) (o : Outcome) (s : List ℕ) (a : Answer) (ram' store' : List ℕ) : Type 0 where
  pub is : is_record s ≡ true
  pub state : decoded s ≡ o.state
  pub ram : ram' ≡ o.ram
  pub store : store' ≡ o.store
  pub text : text_of a ≡ answer_text o.number digits o.value
  pub short : Short a

-- the running cycles in the value of an answer: a tick's
unfoldable pub ran_in : Frame → ℕ → ℕ
ran_in Reset v = 0
ran_in (Read a) v = 0
ran_in (Write a b) v = 0
ran_in (Tick n) v = v
ran_in (Row y) v = 0
ran_in Malformed v = 0

-- and those of a frame
unfoldable pub ran_of : World → Frame → ℕ
ran_of w Reset = 0
ran_of w (Read a) = 0
ran_of w (Write a b) = 0
ran_of w (Tick n) = (tick_means w.state w.ram w.store n).value
ran_of w (Row y) = 0
ran_of w Malformed = 0

-- a line's frame carried out: the step that it makes with its answer's text, and the running cycles
pub record Carried (rom line : List ℕ) (w : World) (f : Frame) (a : Answer) (w' : World) : Type 0 where
  pub step : step w' (text_of a) ≡ step_of rom w line
  pub ran : ran_in f a.value ≡ ran_of w f
  pub short : Short a

-- a step's world, and its text put into a buffer
pub record Printed (s : Step) (w : World) (out : List ℕ) (at : ℕ) (out' : List ℕ) (at' : ℕ) : Type 0 where
  pub world : w ≡ s.world
  pub text : out' ≡ placed out at s.text
  pub end : at' ≡ at + length s.text
  pub most : at' ≤ at + 11

-- a step with its text in eleven bytes, and how many of them it takes
pub record Saying : Type 0 where
  pub world : World
  pub text : List ℕ
  pub length : ℕ

abbrev pub saying : Step → Saying
saying s = record { world = s.world; text = s.text ++ replicate (11 - length s.text) 0; length = length s.text }

abbrev pub said : Stepped → List ℕ → List ℕ → List ℕ → Saying
said r ram store image = record { world = world r.state ram store image; text = r.text; length = r.length }
