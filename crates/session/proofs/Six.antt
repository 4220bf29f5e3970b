-- A step answers 6 exactly when its line is malformed. Assumes nothing.
use mathlib.Core.Path.{◌≡◌, refl, ◌∙◌}
use mathlib.Core.Bool.{Bool, true, false, not, ◌&&◌}
use mathlib.Core.List.{List, [], ◌∷◌, ◌++◌}
use Prim.Native.Nat.{ℕ, ◌<◌}
use native.Mathlib.Omega.{arith}
use lib.Dec.{eqb, ltb, lit<}
use lib.ListN.{length}
use borrow.Author.Tests.{ltb-true, eq-eqb, ne_eqb}
use Rattle.laws.specs.Pick.{pick}
use Rattle.laws.proofs.Bools.{not_both, both_left, both_right}
use Rattle.laws.proofs.Pick.{pick_ind}
use Rattle.timing.specs.Lent.{frame_allowed}
use Rattle.controller.specs.Outcome.{Outcome, number_of}
use Rattle.controller.specs.Table.{Row, lowest}
use Rattle.cartridge.specs.Calls.{read_rows, write_rows, write_means}
use Rattle.capture.specs.Calls.{tick_rows}
use Rattle.controller.proofs.Refusals.{Refuses, in_outcome}
use Rattle.cartridge.proofs.Refusals.{read_refuses, write_refuses}
use Rattle.capture.proofs.Refusals.{tick_refuses}
use Rattle.lines.specs.declared.line.Frame.{Frame}
use Rattle.lines.specs.declared.line.Frame.TheVariants.{Reset, Read, Write, Tick, Row as RowFrame, Malformed}
use Rattle.lines.specs.Hex.{hex_text, printed}
use Rattle.lines.specs.Line.{frame_of}
use Rattle.lines.specs.Kinds.{is_kind, is_malformed}
use Rattle.lines.proofs.Spelt.{text_number}
use Rattle.lines.proofs.Malformed.{only}
use Rattle.session.specs.declared.answer.Answer.{Answer}
use Rattle.session.specs.Answer.{answer_text, text_of, number_said}
use Rattle.session.specs.Session.{World, row_text, frame_step, step_of}
use Rattle.session.specs.Aside.{Short}

-- an answer begins with its number
pub number_said_lem : (n digits value : ℕ) → n < 256 → number_said (answer_text n digits value) ≡ n
unfolding answer_text printed
number_said_lem n digits value h = text_number [] (hex_text (pick (eqb n 0) digits 0) value ++ (0x0A ∷ [])) 2 n h

pub said_number : (a : Answer) → Short a → number_said (text_of a) ≡ a.number
unfolding printed
said_number a s = text_number [] (hex_text a.digits a.value ++ (0x0A ∷ [])) 2 a.number s.small

lower : (n digits value : ℕ) → n < 6 → number_said (answer_text n digits value) < 6
lower n digits value h = rw (number_said_lem n digits value (omega arith)) h

-- rows whose numbers are below 6 give one below 6
below_six : List Row → Bool
below_six [] = true
below_six (r ∷ rows) = ltb (number_of r.why) 6 && below_six rows

lowest_below : (rows : List Row) → below_six rows ≡ true → lowest rows < 6
unfolding below_six lowest
lowest_below [] h = lit< tt
lowest_below (r ∷ rows) h =
    pick_ind (λ n. n < 6) r.holds (λ t. ltb-true (number_of r.why) 6 (both_left _ (below_six rows) h)) (λ f. lowest_below rows (both_right (ltb (number_of r.why) 6) _ h))

call_lower : {rows : List Row} {refused : ℕ → Outcome} {o done : Outcome} → Refuses rows in_outcome refused o done → below_six rows ≡ true
    → (digits : ℕ) → number_said (answer_text o.number digits o.value) < 6
call_lower {rows} {refused} {o} r h digits = lower o.number digits o.value (rw r.numbered (lowest_below rows h))

-- what a line that says a frame answers
pub frame_lower : (rom line : List ℕ) (w : World) (f : Frame) → is_malformed f ≡ false → number_said (frame_step rom line w f).text < 6
unfolding frame_step below_six read_rows write_rows tick_rows row_text
frame_lower rom line w Reset t = lower 0 0 0 (lit< tt)
frame_lower rom line w (Read a) t = call_lower (read_refuses w.state rom w.ram a) refl 2
frame_lower rom line w (Write a v) t = call_lower (write_refuses w.state w.ram w.store w.image a v) refl 0
frame_lower rom line w (Tick n) t = call_lower (tick_refuses w.state w.ram w.store n) refl 8
frame_lower rom line w (RowFrame y) t = pick_ind (λ s. number_said s < 6) (frame_allowed (length w.image)) (λ h. lower 0 0 0 (lit< tt)) (λ h. lower 4 0 0 (lit< tt))
frame_lower rom line w Malformed t = not_both refl t

-- a write answers its refusal number
pub write_said : (rom line : List ℕ) (w : World) (a v : ℕ) → number_said (frame_step rom line w (Write a v)).text ≡ (write_means w.state w.ram w.store w.image a v).number
unfolding frame_step below_six write_rows
write_said rom line w a v =
    let o = write_means w.state w.ram w.store w.image a v in
    let r = write_refuses w.state w.ram w.store w.image a v in
    let l : o.number < 6 = rw r.numbered (lowest_below (write_rows w.state w.ram w.store w.image a) refl) in
    number_said_lem o.number 0 o.value (omega arith)

other : (rom line : List ℕ) (w : World) (f : Frame) → is_malformed f ≡ false → eqb (number_said (frame_step rom line w f).text) 6 ≡ false
other rom line w f t = ne_eqb (number_said (frame_step rom line w f).text) 6 (λ e. omega (arith, frame_lower rom line w f t))

six_said : (rom line : List ℕ) (w : World) → number_said (frame_step rom line w Malformed).text ≡ 6
unfolding frame_step
six_said rom line w = number_said_lem 6 0 0 (lit< tt)

frame_six : (rom line : List ℕ) (w : World) (f : Frame) → eqb (number_said (frame_step rom line w f).text) 6 ≡ is_malformed f
frame_six rom line w Malformed = eq-eqb (number_said (frame_step rom line w Malformed).text) 6 (six_said rom line w)
frame_six rom line w Reset = other rom line w Reset refl
frame_six rom line w (Read a) = other rom line w (Read a) refl
frame_six rom line w (Write a v) = other rom line w (Write a v) refl
frame_six rom line w (Tick n) = other rom line w (Tick n) refl
frame_six rom line w (RowFrame y) = other rom line w (RowFrame y) refl

-- a step answers 6 exactly when its line is of none of the five kinds
pub six : (rom : List ℕ) (w : World) (line : List ℕ) → eqb (number_said (step_of rom w line).text) 6 ≡ not (is_kind line)
unfolding step_of
six rom w line = frame_six rom line w (frame_of line) ∙ only line
