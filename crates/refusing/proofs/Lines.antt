-- A script's line: its number is printed exactly when that row of its frame's table holds and no lower one does, and then nothing is
-- changed. Assumes nothing.
use mathlib.Core.Path.{◌≡◌, refl, ap, ◌∙◌}
use mathlib.Core.Bool.{Bool, true, false, not}
use mathlib.Core.List.{List, [], ◌∷◌}
use Prim.Native.Nat.{ℕ, suc, ◌<◌}
use native.Mathlib.Omega.{arith}
use lib.ListN.{length}
use borrow.Author.Tests.{ne_eqb}
use Rattle.laws.specs.Pick.{pick}
use Rattle.laws.proofs.Pick.{pick_ind}
use Rattle.timing.specs.Lent.{frame_allowed}
use Rattle.controller.specs.declared.Refusal.{Refusal}
use Rattle.controller.specs.declared.Refusal.TheVariants as refusals
use Rattle.controller.specs.State.{reset_state}
use Rattle.controller.specs.Outcome.{outcome, number_of}
use Rattle.controller.specs.Table.{Row, row, lowest, judged}
use Rattle.controller.specs.Outcome.{refusal}
use Rattle.controller.specs.Picture.{afresh}
use Rattle.controller.proofs.Refusals.{Refuses, refuses, rising_from, in_outcome, in_afresh}
use Rattle.cartridge.proofs.Refusals.{read_refuses, write_refuses}
use Rattle.capture.proofs.Refusals.{tick_refuses}
use Rattle.lines.specs.declared.line.Frame.{Frame}
use Rattle.lines.specs.declared.line.Frame.TheVariants.{Reset, Read, Write, Tick, Row as RowFrame, Malformed}
use Rattle.lines.specs.Hex.{printed}
use Rattle.lines.specs.Line.{number_at, frame_of}
use Rattle.lines.proofs.Spelt.{text_number}
use Rattle.session.specs.Answer.{answer_text}
use Rattle.session.specs.Session.{World, world, step, row_taken, row_image, row_text, frame_step, step_of}
use Rattle.refusing.specs.Line.{in_step, leaves_world, line_table, line_done}
use Rattle.refusing.proofs.Refused.{carried}

-- ---- the number of a line's answer

number_small : (why : Refusal) → number_of why < 256
number_small refusals.State = omega arith
number_small refusals.Rom = omega arith
number_small refusals.Ram = omega arith
number_small refusals.Frame = omega arith
number_small refusals.Address = omega arith
number_small refusals.Line = omega arith
number_small refusals.Room = omega arith
number_small refusals.File = omega arith
number_small refusals.Choice = omega arith
number_small refusals.Held = omega arith
number_small refusals.NotHeld = omega arith
number_small refusals.Script = omega arith

lowest_small : (rows : List Row) → lowest rows < 256
unfolding lowest
lowest_small [] = omega arith
lowest_small (r ∷ rows) = pick_ind (λ n. n < 256) r.holds (λ t. number_small r.why) (λ f. lowest_small rows)

printed_number : (n digits value : ℕ) → n < 256 → number_at (answer_text n digits value) 0 2 ≡ n
unfolding answer_text printed
printed_number n digits value h = text_number [] _ 2 n h

-- a refusal has no value
number_alone : (k digits : ℕ) → answer_text (suc k) digits 0 ≡ answer_text (suc k) 0 0
unfolding answer_text
number_alone k digits = rw (ne_eqb (suc k) 0 (λ q. omega arith)) refl

-- ---- a call's refusals, as a line prints them

module _ (w : World) where
  printing : {O : Type 0} {rows : List Row} {number : O → ℕ} {refused : ℕ → O} {o done : O} → Refuses rows number refused o done
      → (after : O → World) (digits : ℕ) (value : O → ℕ) → ((k : ℕ) → step (after (refused (suc k))) (answer_text (number (refused (suc k))) digits (value (refused (suc k)))) ≡ step w (answer_text (suc k) digits 0))
      → Refuses rows in_step (leaves_world w) (step (after o) (answer_text (number o) digits (value o))) (step (after done) (answer_text (number done) digits (value done)))
  printing {O} {rows} {number} {refused} {o} {done} r after digits value same =
      carried r (λ x. step (after x) (answer_text (number x) digits (value x))) in_step (leaves_world w) (λ k. same k ∙ ap (step w) (number_alone k digits)) (printed_number (number o) digits (value o) (rw r.numbered (lowest_small rows)))

  -- what may write the image and nothing else, with one row
  imaged : (why : Refusal) (x : Bool) (image : List ℕ) → rising_from 0 (row why x ∷ []) ≡ true
      → let o = judged (lowest (row why x ∷ [])) (λ n. afresh n w.image) (afresh 0 image) in
      Refuses (row why x ∷ []) in_step (leaves_world w) (step (world w.state w.ram w.store o.bytes) (answer_text o.number 0 0)) (step (world w.state w.ram w.store image) (answer_text 0 0 0))
  imaged why x image up =
      printing (refuses (row why x ∷ []) in_afresh (λ n. afresh n w.image) (afresh 0 image) (λ n. refl) refl up) (λ a. world w.state w.ram w.store a.bytes) 0 (λ a. 0) (λ k. refl)

  -- an image row, by whether the image is of its size
  row_refused : (line : List ℕ) (y : ℕ) (x : Bool)
      → Refuses (row refusals.Frame (not x) ∷ []) in_step (leaves_world w)
      (step (world w.state w.ram w.store (pick x (row_taken line y 128 w.image) w.image)) (pick x (answer_text 0 0 0) (answer_text (number_of refusals.Frame) 0 0)))
      (step (world w.state w.ram w.store (row_taken line y 128 w.image)) (answer_text 0 0 0))
  unfolding lowest rising_from
  row_refused line y true = imaged refusals.Frame false (row_taken line y 128 w.image) refl
  row_refused line y false = imaged refusals.Frame true (row_taken line y 128 w.image) refl

  -- each frame
  frame_refused : (rom line : List ℕ) (f : Frame) → Refuses (line_table rom w f) in_step (leaves_world w) (frame_step rom line w f) (line_done rom line w f)
  unfolding line_table frame_step line_done row_image row_text lowest rising_from
  frame_refused rom line Reset =
      printing (refuses [] in_outcome (refusal w.state w.ram w.store) (outcome 0 0 reset_state w.ram w.store) (λ n. refl) refl refl) (λ o. world o.state o.ram o.store w.image) 0 (λ o. o.value) (λ k. refl)
  frame_refused rom line (Read a) = printing (read_refuses w.state rom w.ram a) (λ o. world o.state o.ram w.store w.image) 2 (λ o. o.value) (λ k. refl)
  frame_refused rom line (Write a v) =
      printing (write_refuses w.state w.ram w.store w.image a v) (λ o. world o.state o.ram o.store w.image) 0 (λ o. o.value) (λ k. refl)
  frame_refused rom line (Tick n) = printing (tick_refuses w.state w.ram w.store n) (λ o. world o.state o.ram o.store w.image) 8 (λ o. o.value) (λ k. refl)
  frame_refused rom line (RowFrame y) = row_refused line y (frame_allowed (length w.image))
  frame_refused rom line Malformed = imaged refusals.Line true w.image refl

-- a line
pub line_refused : (rom : List ℕ) (w : World) (line : List ℕ)
    → Refuses (line_table rom w (frame_of line)) in_step (leaves_world w) (step_of rom w line) (line_done rom line w (frame_of line))
unfolding step_of
line_refused rom w line = frame_refused w rom line (frame_of line)
