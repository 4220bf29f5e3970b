-- A session that plays a cleaned script answers no 6. Assumes nothing.
use mathlib.Core.Path.{◌≡◌, refl, ap, ◌∙◌}
use mathlib.Core.Bool.{true, false, false≢true}
use mathlib.Core.List.{List, [], ◌∷◌}
use Prim.Native.Nat.{ℕ}
use native.Mathlib.Omega.{arith}
use lib.Dec.{lit<}
use Rattle.lines.specs.declared.line.Frame.{Frame}
use Rattle.lines.specs.declared.line.Frame.TheVariants.{Reset, Read, Write, Tick, Row, Malformed}
use Rattle.lines.specs.Line.{frame_of}
use Rattle.lines.specs.Kinds.{is_malformed}
use Rattle.session.specs.Answer.{answer_text, number_said}
use Rattle.session.specs.Session.{World, step_of}
use Rattle.script.specs.Text.{lines_of}
use Rattle.session.proofs.Six.{number_said_lem, frame_lower}
use Rattle.salvaging.specs.Kept.{is_frame, accepted}
use Rattle.salvaging.specs.Salvage.{cleaned}
use Rattle.salvaging.proofs.Cleaned.{Good, nothing, also, good_kept, cleaned_lines}

-- an accepted line says a frame
says_frame : (f : Frame) → is_frame f ≡ true → is_malformed f ≡ false
says_frame Reset t = refl
says_frame (Read a) t = refl
says_frame (Write a v) t = refl
says_frame (Tick n) t = refl
says_frame (Row y) t = refl
says_frame Malformed t = absurd (false≢true t)

-- it does not answer what a malformed line answers
no_six : (rom : List ℕ) (w : World) (line : List ℕ) → accepted line ≡ true → (step_of rom w line).text ≡ answer_text 6 0 0 → ⊥
unfolding step_of accepted
no_six rom w line t e =
    let low = frame_lower rom line w (frame_of line) (says_frame (frame_of line) t) in
    omega (arith, ap number_said e ∙ number_said_lem 6 0 0 (lit< tt))

-- ---- a session

-- lines one after the other, each in the world that the one before it left: none answers 06
pub data NoSix (rom : List ℕ) : World → List (List ℕ) → Type 0 where
  none : {w : World} → NoSix rom w []
  more : {w : World} (line : List ℕ) {lines : List (List ℕ)} → ((step_of rom w line).text ≡ answer_text 6 0 0 → ⊥) → NoSix rom (step_of rom w line).world lines → NoSix rom w (line ∷ lines)

good_answers : (rom : List ℕ) (w : World) {lines : List (List ℕ)} → Good lines → NoSix rom w lines
good_answers rom w nothing = none
good_answers rom w (also line t g) = more line (no_six rom w line t) (good_answers rom (step_of rom w line).world g)

-- a session that plays the result answers no 6
pub answers_no_six : (rom : List ℕ) (w : World) (script : List ℕ) → NoSix rom w (lines_of (cleaned script))
answers_no_six rom w script = rw (cleaned_lines script) (good_answers rom w (good_kept (lines_of script)))
