-- A text that is read in pieces, cut anywhere, prints what the whole text prints. Assumes nothing.
use mathlib.Core.Path.{◌≡◌, refl, sym, ap, ◌∙◌}
use mathlib.Core.Bool.{true, false, and-false}
use mathlib.Core.List.{List, [], ◌∷◌, ◌++◌, append_assoc, append-nil}
use Prim.Native.Nat.{ℕ, suc, ◌+◌, ◌-◌, ◌<◌, ◌≤◌, min}
use native.Mathlib.Nat.{add-zero, add_assoc}
use native.Mathlib.Omega.{arith}
use lib.Dec.{eqb}
use lib.ListN.{length, take, replicate, length-take}
use lib.Seq.{take-nil, take_all, take_at, length-take-le}
use borrow.Author.Tests.{eq-eqb, ne_eqb, le-ltb}
use Rattle.laws.specs.Pick.{pick}
use Rattle.laws.proofs.Bools.{either}
use Rattle.laws.proofs.Order.{split}
use Rattle.controller.specs.declared.Refusal.TheVariants as refusals
use Rattle.controller.specs.Outcome.{number_of}
use Rattle.script.specs.declared.text.Reader.{Reader}
use Rattle.lines.specs.declared.line.Frame.TheVariants.{Malformed}
use Rattle.lines.specs.Line.{frame_of}
use Rattle.session.specs.Answer.{answer_text}
use Rattle.session.specs.Session.{World, Step, step, refused, frame_step, step_of}
use Rattle.script.specs.Text.{begins, lines_of, after, played, session_of}
use Rattle.script.specs.Pieces.{Reading, reading, line_ended, line_kept, byte_kept, byte_read, read_all, no_room, fed, reader_of, new_reader, held_by, opened, last_line, finish_means, in_pieces, joined}
use Rattle.lines.proofs.Frames.{too_long_lem}
use Rattle.script.proofs.Feeds.{kept_more, few_kept}

-- ---- bad lines

-- a malformed line answers 06 and changes nothing
pub bad_line : (rom : List ℕ) (w : World) (line : List ℕ) → frame_of line ≡ Malformed → step_of rom w line ≡ refused w refusals.Line
unfolding step_of frame_step
bad_line rom w line e = ap (frame_step rom line w) e

-- and the next line is read as usual
pub next_line : (rom : List ℕ) (w : World) (line : List ℕ) (lines : List (List ℕ)) → frame_of line ≡ Malformed
    → played rom w (line ∷ lines) ≡ after (answer_text (number_of refusals.Line) 0 0) (played rom w lines)
unfolding played
next_line rom w line lines e = ap (λ s. after s.text (played rom s.world lines)) (bad_line rom w line e)

-- 261 bytes of a line are enough to know what it does
pub enough : (rom : List ℕ) (w : World) (line : List ℕ) → step_of rom w (take 261 line) ≡ step_of rom w line
enough rom w line =
    split 261 (length line)
    (λ h. bad_line rom w (take 261 line) (too_long_lem (take 261 line) (rw (length-take-le 261 line (omega arith)) (omega arith))) ∙ sym (bad_line rom w line (too_long_lem line (omega arith))))
    (λ h. ap (step_of rom w) (take_all 261 line h))

-- so a line of which nothing is held may be read where it stands
pub as_it_stands : (rom : List ℕ) (w : World) (line rest : List ℕ) (held : ℕ) → held ≡ 0 → step_of rom w rest ≡ step_of rom w (take 261 (take held line ++ rest))
as_it_stands rom w line rest held e = sym (ap (λ h. step_of rom w (take 261 (take h line ++ rest))) e ∙ enough rom w rest)

-- ---- lines, with the bytes of the first already read

last_of : List ℕ → List (List ℕ)
last_of [] = []
last_of (b ∷ p) = (b ∷ p) ∷ []

lines_from : List ℕ → List ℕ → List (List ℕ)
lines_from p [] = last_of p
lines_from p (b ∷ rest) = pick (eqb b 0x0A) (p ∷ lines_from [] rest) (lines_from (p ++ (b ∷ [])) rest)

prefixed : List ℕ → List (List ℕ) → List (List ℕ)
prefixed p [] = last_of p
prefixed p (line ∷ lines) = (p ++ line) ∷ lines

prefixed_none : (lines : List (List ℕ)) → prefixed [] lines ≡ lines
unfolding prefixed last_of
prefixed_none [] = refl
prefixed_none (line ∷ lines) = refl

last_more : (p : List ℕ) (b : ℕ) → last_of (p ++ (b ∷ [])) ≡ (p ++ (b ∷ [])) ∷ []
unfolding last_of
last_more [] b = refl
last_more (a ∷ p) b = refl

prefixed_begins : (p : List ℕ) (b : ℕ) (lines : List (List ℕ)) → prefixed (p ++ (b ∷ [])) lines ≡ prefixed p (begins b lines)
unfolding prefixed
prefixed_begins p b [] = last_more p b
prefixed_begins p b (line ∷ lines) = ap (λ l. l ∷ lines) (append_assoc p (b ∷ []) line)

lines_from_lem : (p text : List ℕ) → lines_from p text ≡ prefixed p (lines_of text)
unfolding lines_from lines_of prefixed
lines_from_lem p [] = refl
lines_from_lem p (b ∷ rest) =
    either (eqb b 0x0A)
    (λ e. simp e (ap (λ ls. p ∷ ls) (lines_from_lem [] rest ∙ prefixed_none (lines_of rest)) ∙ ap (λ l. l ∷ lines_of rest) (sym (append-nil p))))
    (λ e. simp e (lines_from_lem (p ++ (b ∷ [])) rest ∙ prefixed_begins p b (lines_of rest)))

-- ---- what the reader holds of a line

abbrev Holds : Reading → List ℕ → Type 0
Holds m p = m.line ≡ take 261 p

holds_none : (rom : List ℕ) (m : Reading) → Holds (line_ended rom m) []
unfolding line_ended
holds_none rom m = refl

holds_more : (m : Reading) (p : List ℕ) (b : ℕ) → Holds m p → Holds (byte_kept m b) (p ++ (b ∷ []))
unfolding byte_kept
holds_more m p b h = ap (λ x. line_kept x b) h ∙ kept_more p b

-- ---- reading all of a text, and its end

pub closing : List ℕ → Reading → Step
closing rom m = after m.text (last_line rom m.world m.line)

byte_line : (rom : List ℕ) (m : Reading) (b : ℕ) → eqb b 0x0A ≡ true → byte_read rom m b ≡ line_ended rom m
unfolding byte_read
byte_line rom m b e = simp e

byte_kept_lem : (rom : List ℕ) (m : Reading) (b : ℕ) → eqb b 0x0A ≡ false → byte_read rom m b ≡ byte_kept m b
unfolding byte_read
byte_kept_lem rom m b e = simp e

pub last_none : (rom : List ℕ) (w : World) (line : List ℕ) → length line ≡ 0 → last_line rom w line ≡ step w []
unfolding last_line
last_none rom w line e = simp (eq-eqb (length line) 0 e)

pub last_some : (rom : List ℕ) (w : World) (line : List ℕ) → (length line ≡ 0 → ⊥) → last_line rom w line ≡ step_of rom w line
unfolding last_line
last_some rom w line e = simp (ne_eqb (length line) 0 e)

-- the last line
last_is : (rom : List ℕ) (m : Reading) (p : List ℕ) → Holds m p → last_line rom m.world m.line ≡ played rom m.world (last_of p)
unfolding last_of played
last_is rom m [] h = last_none rom m.world m.line (ap length h)
last_is rom m (b ∷ p) h =
    last_some rom m.world m.line (λ e. omega (arith, ap length h))
    ∙ ap (step_of rom m.world) h
    ∙ enough rom m.world (b ∷ p)
    ∙ ap (λ t. step (step_of rom m.world (b ∷ p)).world t) (sym (append-nil (step_of rom m.world (b ∷ p)).text))

-- the line that an LF ends, and a byte of a line
ended : (rom : List ℕ) (m : Reading) (p : List ℕ) (lines : List (List ℕ)) → Holds m p
    → after (line_ended rom m).text (played rom (line_ended rom m).world lines) ≡ after m.text (played rom m.world (p ∷ lines))
unfolding line_ended played
ended rom m p lines h =
    ap (λ s. after (m.text ++ s.text) (played rom s.world lines)) (ap (step_of rom m.world) h ∙ enough rom m.world p)
    ∙ ap (λ t. step (played rom (step_of rom m.world p).world lines).world t) (append_assoc m.text (step_of rom m.world p).text (played rom (step_of rom m.world p).world lines).text)

kept : (rom : List ℕ) (m : Reading) (b : ℕ) (lines : List (List ℕ))
    → after (byte_kept m b).text (played rom (byte_kept m b).world lines) ≡ after m.text (played rom m.world lines)
unfolding byte_kept
kept rom m b lines = refl

-- what is read from here on prints what the lines from here on print
reads : (rom text : List ℕ) (m : Reading) (p : List ℕ) → Holds m p → closing rom (read_all rom m text) ≡ after m.text (played rom m.world (lines_from p text))
unfolding closing read_all lines_from
reads rom [] m p h = ap (after m.text) (last_is rom m p h)
reads rom (b ∷ rest) m p h =
    either (eqb b 0x0A)
    (λ e.
    simp e
    (ap (λ x. closing rom (read_all rom x rest)) (byte_line rom m b e)
    ∙ reads rom rest (line_ended rom m) [] (holds_none rom m)
    ∙ ended rom m p (lines_from [] rest) h))
    (λ e. simp e (ap (λ x. closing rom (read_all rom x rest)) (byte_kept_lem rom m b e) ∙ reads rom rest (byte_kept m b) (p ++ (b ∷ [])) (holds_more m p b h) ∙ kept rom m b (lines_from (p ++ (b ∷ [])) rest)))

-- ---- pieces

read_joined : (rom : List ℕ) (m : Reading) (p q : List ℕ) → read_all rom m (p ++ q) ≡ read_all rom (read_all rom m p) q
unfolding read_all
read_joined rom m [] q = refl
read_joined rom m (b ∷ p) q = read_joined rom (byte_read rom m b) p q

-- with a text printed and bytes read before
shifted : List ℕ → ℕ → Reading → Reading
shifted t u m = reading m.world m.line (t ++ m.text) (u + m.used)

shifted_byte : (rom t : List ℕ) (u : ℕ) (m : Reading) (b : ℕ) → byte_read rom (shifted t u m) b ≡ shifted t u (byte_read rom m b)
unfolding shifted byte_read line_ended byte_kept
shifted_byte rom t u m b =
    either (eqb b 0x0A)
    (λ e. simp e
    (ap (λ x. reading (step_of rom m.world m.line).world [] x (u + m.used + 1)) (append_assoc t m.text (step_of rom m.world m.line).text)
    ∙ ap (λ n. reading (step_of rom m.world m.line).world [] (t ++ (m.text ++ (step_of rom m.world m.line).text)) n) (add_assoc u m.used 1)))
    (λ e. simp e (ap (λ n. reading m.world (line_kept m.line b) (t ++ m.text) n) (add_assoc u m.used 1)))

shifted_all : (rom t : List ℕ) (u : ℕ) (m : Reading) (p : List ℕ) → read_all rom (shifted t u m) p ≡ shifted t u (read_all rom m p)
unfolding read_all
shifted_all rom t u m [] = refl
shifted_all rom t u m (b ∷ p) = ap (λ x. read_all rom x p) (shifted_byte rom t u m b) ∙ shifted_all rom t u (byte_read rom m b) p

closing_shifted : (rom t : List ℕ) (u : ℕ) (m : Reading) → closing rom (shifted t u m) ≡ after t (closing rom m)
unfolding closing shifted
closing_shifted rom t u m =
    ap (λ x. step (last_line rom m.world m.line).world x) (append_assoc t m.text (last_line rom m.world m.line).text)

-- no more than 261 bytes are held
few_byte : (rom : List ℕ) (m : Reading) (b : ℕ) → length m.line ≤ 261 → length (byte_read rom m b).line ≤ 261
unfolding byte_read line_ended byte_kept
few_byte rom m b h = either (eqb b 0x0A) (λ e. simp e (omega arith)) (λ e. simp e (few_kept m.line b h))

few_all : (rom : List ℕ) (m : Reading) (p : List ℕ) → length m.line ≤ 261 → length (read_all rom m p).line ≤ 261
unfolding read_all
few_all rom m [] h = h
few_all rom m (b ∷ p) h = few_all rom (byte_read rom m b) p (few_byte rom m b h)

few_opened : (w : World) (r : Reader) → length (opened w r).line ≤ 261
unfolding opened held_by
few_opened w r = omega (arith, length-take (min r.held 261) r.line)

-- a reader holds what it was made to hold
held_back : (line : List ℕ) → length line ≤ 261 → held_by (reader_of line) ≡ line
unfolding held_by reader_of
held_back line h =
    let n : min (length line) 261 ≡ length line = omega arith in
    ap (λ k. take k (line ++ replicate (261 - length line) 0)) n ∙ take_at line (replicate (261 - length line) 0) (length line) refl

-- a piece ends where the next begins
reopened : (m : Reading) → length m.line ≤ 261 → shifted m.text m.used (opened m.world (reader_of m.line)) ≡ m
unfolding shifted opened
reopened m h =
    ap (λ l. reading m.world l (m.text ++ []) (m.used + 0)) (held_back m.line h)
    ∙ ap (λ t. reading m.world m.line t (m.used + 0)) (append-nil m.text)
    ∙ ap (λ u. reading m.world m.line m.text u) (add-zero m.used)

-- what is read in pieces is read at one go
pub pieces_read : (rom : List ℕ) (w : World) (r : Reader) (pieces : List (List ℕ)) → in_pieces rom w r pieces ≡ closing rom (read_all rom (opened w r) (joined pieces))
unfolding in_pieces finish_means closing read_all opened
pieces_read rom w r [] = refl
pieces_read rom w r (p ∷ pieces) =
    ap (after m.text) (pieces_read rom m.world (reader_of m.line) pieces)
    ∙ sym (closing_shifted rom m.text m.used (read_all rom (opened m.world (reader_of m.line)) (joined pieces)))
    ∙ ap (closing rom) (sym (shifted_all rom m.text m.used (opened m.world (reader_of m.line)) (joined pieces)))
    ∙ ap (λ x. closing rom (read_all rom x (joined pieces))) (reopened m (few_all rom (opened w r) p (few_opened w r)))
    ∙ ap (closing rom) (sym (read_joined rom (opened w r) p (joined pieces)))
  where
    m : Reading
    m = read_all rom (opened w r) p

-- a text in pieces, cut anywhere, is the whole text
pub whole : (rom : List ℕ) (w : World) (pieces : List (List ℕ)) → in_pieces rom w new_reader pieces ≡ session_of rom w (joined pieces)
unfolding session_of opened held_by new_reader
whole rom w pieces =
    pieces_read rom w new_reader pieces
    ∙ reads rom (joined pieces) (opened w new_reader) [] refl
    ∙ ap (played rom w) (lines_from_lem [] (joined pieces) ∙ prefixed_none (lines_of (joined pieces)))

-- ---- a buffer for the answers that fills

used_byte : (rom : List ℕ) (m : Reading) (b : ℕ) → (byte_read rom m b).used ≡ m.used + 1
unfolding byte_read line_ended byte_kept
used_byte rom m b = either (eqb b 0x0A) (λ e. simp e) (λ e. simp e)

fed_on : (rom : List ℕ) (size : ℕ) (m : Reading) (b : ℕ) (rest : List ℕ) → no_room size m b ≡ false → fed rom size m (b ∷ rest) ≡ fed rom size (byte_read rom m b) rest
unfolding fed
fed_on rom size m b rest e = simp e

fed_off : (rom : List ℕ) (size : ℕ) (m : Reading) (b : ℕ) (rest : List ℕ) → no_room size m b ≡ true → fed rom size m (b ∷ rest) ≡ m
unfolding fed
fed_off rom size m b rest e = simp e

used_grows : (rom : List ℕ) (size : ℕ) (m : Reading) (p : List ℕ) → m.used ≤ (fed rom size m p).used
unfolding fed
used_grows rom size m [] = omega arith
used_grows rom size m (b ∷ rest) =
    either (no_room size m b)
    (λ e. rw (fed_off rom size m b rest e) (omega arith))
    (λ e. rw (fed_on rom size m b rest e) (omega (arith, used_grows rom size (byte_read rom m b) rest, used_byte rom m b)))

-- what is read of a piece is its front: as many bytes as are used
pub fed_is : (rom : List ℕ) (size : ℕ) (m : Reading) (p : List ℕ) → fed rom size m p ≡ read_all rom m (take ((fed rom size m p).used - m.used) p)
unfolding fed read_all
fed_is rom size m [] = ap (read_all rom m) (sym (take-nil {A = ℕ} (m.used - m.used)))
fed_is rom size m (b ∷ rest) =
    either (no_room size m b)
    (λ e.
    let f = fed_off rom size m b rest e in
    let n : (fed rom size m (b ∷ rest)).used - m.used ≡ 0 = omega (arith, ap (λ x. x.used) f) in
    f ∙ ap (λ k. read_all rom m (take k (b ∷ rest))) (sym n))
    (λ e.
    let f = fed_on rom size m b rest e in
    let g = fed rom size (byte_read rom m b) rest in
    let n : (fed rom size m (b ∷ rest)).used - m.used ≡ suc (g.used - (byte_read rom m b).used) = omega (arith, ap (λ x. x.used) f, used_grows rom size (byte_read rom m b) rest, used_byte rom m b) in
    f ∙ fed_is rom size (byte_read rom m b) rest ∙ ap (λ k. read_all rom m (take k (b ∷ rest))) (sym n))

-- a buffer of 11 bytes and more has each call read at least one byte
pub fed_moves : (rom : List ℕ) (size : ℕ) (w : World) (r : Reader) (b : ℕ) (rest : List ℕ) → 11 ≤ size → 0 < (fed rom size (opened w r) (b ∷ rest)).used
unfolding opened
fed_moves rom size w r b rest h =
    let e : no_room size (opened w r) b ≡ false = simp (le-ltb size 11 h) (and-false (eqb b 0x0A)) in
    rw (fed_on rom size (opened w r) b rest e) (omega (arith, used_grows rom size (byte_read rom (opened w r) b) rest, used_byte rom (opened w r) b))
