-- A recording of any calls, played by a session, makes the same calls. Assumes nothing.
use mathlib.Core.Path.{◌≡◌, refl, sym, ap, ◌∙◌}
use mathlib.Core.Bool.{true}
use mathlib.Core.List.{List, [], ◌∷◌, ◌++◌, append_assoc}
use Prim.Native.Nat.{ℕ, zero, suc, ◌+◌, ◌*◌, ◌≤◌}
use native.Mathlib.Omega.{arith}
use lib.ListN.{length, get_or, take, set}
use lib.Seq.{take-suc, take_all, length-take-le}
use Rattle.laws.proofs.Bools.{either}
use Rattle.laws.proofs.Pick.{pick_same}
use Rattle.tiles.specs.Tiles.{Bytes}
use Rattle.timing.specs.Lent.{frame_allowed}
use Rattle.timing.proofs.Lent.{frame_lent}
use Rattle.lines.specs.declared.line.Frame.{Frame}
use Rattle.lines.specs.declared.line.Frame.TheVariants.{Reset, Read, Write, Tick, Row, Malformed}
use Rattle.lines.specs.Hex.{placed}
use Rattle.lines.specs.Line.{hex_part}
use Rattle.recording.specs.Record.{line_of, ended}
use Rattle.lines.proofs.Frames.{bad}
use Rattle.lines.proofs.Placed.{placed_none, placed_one, placed_next, length_placed}
use Rattle.recording.proofs.Recorded.{Sayable, reset, read, write, tick, row, written_read, written_byte}
use Rattle.session.specs.Session.{World, world, step, row_taken, row_image, row_text, frame_step, step_of}
use Rattle.short.proofs.Standing.{Endless, endless}
use Rattle.script.specs.Text.{begins, lines_of, after, played, session_of}
use Rattle.script.specs.Recording.{Call, call_lines, recording_of, row_lent, call_step, calls_made}

-- ---- the lines of a recording

-- a line without LF in it ends at the first
pub line_ends : (line rest : List ℕ) → Endless line → lines_of (ended line ++ rest) ≡ line ∷ lines_of rest
unfolding lines_of
line_ends [] rest h = refl
line_ends (b ∷ line) rest h = simp (h 0 (omega arith)) (ap (begins b) (line_ends line rest (λ i l. h (suc i) (omega arith))))

-- what is said is digits
said_hex : {f : Frame} {bytes : List ℕ} → Sayable f bytes → hex_part (line_of f bytes) 0 (length (line_of f bytes)) ≡ true
said_hex {f} {bytes} s =
    either (hex_part (line_of f bytes) 0 (length (line_of f bytes))) (λ t. t)
    (λ z. absurd (some f s (sym (written_read s) ∙ bad (line_of f bytes) z)))
  where
    some : (g : Frame) → Sayable g bytes → g ≡ Malformed → ⊥
    some Reset s e = let n : ◌≡◌ {A = ℕ} 0 1 = cc in omega arith
    some (Read a) s e = let n : ◌≡◌ {A = ℕ} 0 1 = cc in omega arith
    some (Write a v) s e = let n : ◌≡◌ {A = ℕ} 0 1 = cc in omega arith
    some (Tick k) s e = let n : ◌≡◌ {A = ℕ} 0 1 = cc in omega arith
    some (Row y) s e = let n : ◌≡◌ {A = ℕ} 0 1 = cc in omega arith
    some Malformed s e = elim s [ ]

-- calls that can be recorded
pub data AllSayable : List Call → Type 0 where
  none : AllSayable []
  more : {c : Call} {calls : List Call} → Sayable c.frame c.bytes → AllSayable calls → AllSayable (c ∷ calls)

-- the text made of the lines, each with its LF, has exactly these lines
pub recording_lines : {calls : List Call} → AllSayable calls → lines_of (recording_of calls) ≡ call_lines calls
unfolding recording_of call_lines lines_of
recording_lines none = refl
recording_lines (more {c} {calls} s all) =
    line_ends (line_of c.frame c.bytes) (recording_of calls) (endless _ (said_hex s))
    ∙ ap (λ lines. line_of c.frame c.bytes ∷ lines) (recording_lines all)

-- ---- each line does what its call did

module _ (y : ℕ) (bytes image : List ℕ) (small : y ≤ 0x7F) (long : length bytes ≡ 128) (b : Bytes bytes) (fits : length image ≡ 16384) where
  row_part : (n : ℕ) → n ≤ 128 → row_taken (line_of (Row y) bytes) y n image ≡ placed image (128 * y) (take n bytes)
  unfolding row_taken
  row_part zero h = sym (placed_none image (128 * y))
  row_part (suc n) h =
      let at = 128 * y in
      let t = take n bytes in
      let m = placed image at t in
      let lt : length t ≡ n = length-take-le n bytes (omega arith) in
      let lm : length m ≡ length image = length_placed image at t (omega arith) (omega arith) in
      let e : at + n ≡ at + length t = ap (λ k. at + k) (sym lt) in
      (λ i. set (row_part n (omega arith) i) (at + n) (written_byte y bytes long b n (omega arith) i))
      ∙ placed_one m (at + n) (get_or bytes n 0) (omega arith)
      ∙ placed_next image at t (omega arith) (get_or bytes n 0 ∷ []) (at + n) e
      ∙ ap (placed image at) (sym (take-suc bytes n 0 (omega arith)))

  -- the image gets the row's bytes as they were lent
  pub row_lent_lem : row_taken (line_of (Row y) bytes) y 128 image ≡ placed image (128 * y) bytes
  row_lent_lem = row_part 128 (omega arith) ∙ ap (placed image (128 * y)) (take_all 128 bytes (omega arith))

row_image_lem : (y : ℕ) (bytes image : List ℕ) → y ≤ 0x7F → length bytes ≡ 128 → Bytes bytes → row_image (line_of (Row y) bytes) image y ≡ row_lent bytes image y
unfolding row_image
row_image_lem y bytes image small long b = pick_same (frame_allowed (length image)) (λ t. row_lent_lem y bytes image small long b (frame_lent _ t)) (λ f. refl)

same_frame : (rom : List ℕ) (w : World) {f : Frame} {bytes : List ℕ} → Sayable f bytes → frame_step rom (line_of f bytes) w f ≡ call_step rom w f bytes
unfolding frame_step call_step
same_frame rom w reset = refl
same_frame rom w (read h) = refl
same_frame rom w (write h i) = refl
same_frame rom w (tick h) = refl
same_frame rom w (row {y} {bytes} h l b) = ap (λ m. step (world w.state w.ram w.store m) (row_text w.image)) (row_image_lem y bytes w.image h l b)

-- each step is the frame's
pub same_call : (rom : List ℕ) (w : World) {f : Frame} {bytes : List ℕ} → Sayable f bytes → step_of rom w (line_of f bytes) ≡ call_step rom w f bytes
unfolding step_of
same_call rom w {f} {bytes} s = ap (frame_step rom (line_of f bytes) w) (written_read s) ∙ same_frame rom w s

-- ---- a whole recording

lines_played : (rom : List ℕ) (w : World) {calls : List Call} → AllSayable calls → played rom w (call_lines calls) ≡ calls_made rom w calls
unfolding played call_lines calls_made
lines_played rom w none = refl
lines_played rom w (more {c} {calls} s all) =
    ap (λ x. after x.text (played rom x.world (call_lines calls))) (same_call rom w s)
    ∙ ap (after (call_step rom w c.frame c.bytes).text) (lines_played rom (call_step rom w c.frame c.bytes).world all)

-- a recording of any calls, played by a session, makes the same calls
pub replayed : (rom : List ℕ) (w : World) {calls : List Call} → AllSayable calls → session_of rom w (recording_of calls) ≡ calls_made rom w calls
unfolding session_of
replayed rom w all = ap (played rom w) (recording_lines all) ∙ lines_played rom w all

-- recordings put one after the other are the recording of all their calls
pub recordings_joined : (first second : List Call) → recording_of (first ++ second) ≡ recording_of first ++ recording_of second
unfolding recording_of
recordings_joined [] second = refl
recordings_joined (c ∷ first) second =
    ap (λ t. ended (line_of c.frame c.bytes) ++ t) (recordings_joined first second)
    ∙ sym (append_assoc (ended (line_of c.frame c.bytes)) (recording_of first) (recording_of second))

-- and make all of them: the second part in the world that the first left
pub calls_joined : (rom : List ℕ) (w : World) (first second : List Call)
    → calls_made rom w (first ++ second) ≡ after (calls_made rom w first).text (calls_made rom (calls_made rom w first).world second)
unfolding calls_made
calls_joined rom w [] second = refl
calls_joined rom w (c ∷ first) second =
    let s = call_step rom w c.frame c.bytes in
    ap (after s.text) (calls_joined rom s.world first second)
    ∙ ap (λ t. step (calls_made rom (calls_made rom s.world first).world second).world t)
    (sym (append_assoc s.text (calls_made rom s.world first).text (calls_made rom (calls_made rom s.world first).world second).text))
