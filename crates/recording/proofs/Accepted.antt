-- For each frame its line: each of the five kinds is accepted. Assumes nothing.
use mathlib.Core.Path.{◌≡◌, refl, sym, ap, ◌∙◌}
use mathlib.Core.Bool.{true}
use mathlib.Core.List.{List, [], ◌∷◌, ◌++◌, append_assoc, append-nil}
use Prim.Native.Nat.{ℕ, suc, ◌+◌, ◌*◌, ◌<◌, ◌≤◌}
use native.Mathlib.Omega.{arith}
use lib.Dec.{lit<}
use lib.ListN.{length, length-append}
use borrow.Author.Tests.{eq-eqb, le-leb}
use Rattle.lines.specs.declared.line.Frame.TheVariants.{Reset, Read, Write, Tick, Row}
use Rattle.lines.specs.Line.{hex_part, number_at, spelled, frame_of}
use Rattle.lines.specs.Hex.{digit_byte, hex_text}
use Rattle.recording.specs.Record.{read_line, write_line, tick_line, row_hex, row_line}
use Rattle.lines.proofs.Digits.{hex_joined}
use Rattle.lines.proofs.Placed.{length_hex}
use Rattle.lines.proofs.Frames.{good}
use Rattle.lines.proofs.Spelt.{text_hex, spells}
use Rattle.recording.proofs.Written.{length_row}

-- `00` reset
pub accepts_reset : frame_of (hex_text 2 0) ≡ Reset
unfolding frame_of spelled hex_part number_at hex_text digit_byte
accepts_reset = refl

-- `01` four-digit address
pub accepts_read : (a : ℕ) → a < 65536 → frame_of (read_line a) ≡ Read a
unfolding spelled
accepts_read a h =
    let line = read_line a in
    let n : length line ≡ 6 = omega (arith, length-append (hex_text 2 1) (hex_text 4 a), length_hex 2 1, length_hex 4 a) in
    let k = spells line [] (hex_text 4 a) 0 2 1 refl refl (lit< tt) in
    let s = spells line (hex_text 2 1) [] 2 4 a (ap (λ r. hex_text 2 1 ++ r) (sym (append-nil (hex_text 4 a)))) (sym (length_hex 2 1)) h in
    good line (rw n (hex_joined line 0 2 4 k.hex s.hex)) ∙ simp (← k.is, eq-eqb _ _ n, ← s.is)

-- `02` four-digit address, byte
pub accepts_write : (a v : ℕ) → a < 65536 → v < 256 → frame_of (write_line a v) ≡ Write a v
unfolding spelled
accepts_write a v h i =
    let line = write_line a v in
    let n : length line ≡ 8 = omega (arith, length-append (hex_text 2 2) (hex_text 4 a ++ hex_text 2 v), length-append (hex_text 4 a) (hex_text 2 v), length_hex 2 2, length_hex 4 a, length_hex 2 v) in
    let k = spells line [] (hex_text 4 a ++ hex_text 2 v) 0 2 2 refl refl (lit< tt) in
    let s = spells line (hex_text 2 2) (hex_text 2 v) 2 4 a refl (sym (length_hex 2 2)) h in
    let e : line ≡ (hex_text 2 2 ++ hex_text 4 a) ++ (hex_text 2 v ++ []) = sym (append_assoc (hex_text 2 2) (hex_text 4 a) (hex_text 2 v ++ []) ∙ ap (λ r. hex_text 2 2 ++ (hex_text 4 a ++ r)) (append-nil (hex_text 2 v))) in
    let p : 6 ≡ length (hex_text 2 2 ++ hex_text 4 a) = omega (arith, length-append (hex_text 2 2) (hex_text 4 a), length_hex 2 2, length_hex 4 a) in
    let t = spells line (hex_text 2 2 ++ hex_text 4 a) [] 6 2 v e p i in
    good line (rw n (hex_joined line 0 6 2 (hex_joined line 0 2 4 k.hex s.hex) t.hex)) ∙ simp (← k.is, eq-eqb _ _ n, ← s.is, ← t.is)

-- `03` eight-digit tick
pub accepts_tick : (n : ℕ) → n < 4294967296 → frame_of (tick_line n) ≡ Tick n
unfolding spelled
accepts_tick n h =
    let line = tick_line n in
    let e : length line ≡ 10 = omega (arith, length-append (hex_text 2 3) (hex_text 8 n), length_hex 2 3, length_hex 8 n) in
    let k = spells line [] (hex_text 8 n) 0 2 3 refl refl (lit< tt) in
    let s = spells line (hex_text 2 3) [] 2 8 n (ap (λ r. hex_text 2 3 ++ r) (sym (append-nil (hex_text 8 n)))) (sym (length_hex 2 3)) h in
    good line (rw e (hex_joined line 0 2 8 k.hex s.hex)) ∙ simp (← k.is, eq-eqb _ _ e, ← s.is)

row_hex_lem : (pre bytes : List ℕ) → hex_part (pre ++ row_hex bytes) (length pre) (2 * length bytes) ≡ true
unfolding row_hex hex_part
row_hex_lem pre [] = refl
row_hex_lem pre (b ∷ bytes) =
    let line = pre ++ (hex_text 2 b ++ row_hex bytes) in
    let e : 2 * suc (length bytes) ≡ 2 + 2 * length bytes = omega arith in
    let p : length (pre ++ hex_text 2 b) ≡ length pre + 2 = length-append pre (hex_text 2 b) ∙ ap (λ k. length pre + k) (length_hex 2 b) in
    let back : hex_part line (length pre + 2) (2 * length bytes) ≡ true = rw (← p, ← append_assoc pre (hex_text 2 b) (row_hex bytes)) (row_hex_lem (pre ++ hex_text 2 b) bytes) in
    rw e (hex_joined line (length pre) 2 (2 * length bytes) (text_hex pre (row_hex bytes) 2 b) back)

-- `04` row (00 to 7F) and 128 bytes of the image
pub accepts_row : (y : ℕ) (bytes : List ℕ) → y ≤ 0x7F → length bytes ≡ 128 → frame_of (row_line y bytes) ≡ Row y
unfolding spelled row_line
accepts_row y bytes h l =
    let line = row_line y bytes in
    let n : length line ≡ 260 = omega (arith, length-append (hex_text 2 4) (hex_text 2 y ++ row_hex bytes), length-append (hex_text 2 y) (row_hex bytes), length_hex 2 4, length_hex 2 y, length_row bytes) in
    let k = spells line [] (hex_text 2 y ++ row_hex bytes) 0 2 4 refl refl (lit< tt) in
    let s = spells line (hex_text 2 4) (row_hex bytes) 2 2 y refl (sym (length_hex 2 4)) (omega arith) in
    let pre = hex_text 2 4 ++ hex_text 2 y in
    let p : length pre ≡ 4 = omega (arith, length-append (hex_text 2 4) (hex_text 2 y), length_hex 2 4, length_hex 2 y) in
    let m : 2 * length bytes ≡ 256 = omega arith in
    let back : hex_part line 4 256 ≡ true =
    ap (λ x. hex_part x 4 256) (sym (append_assoc (hex_text 2 4) (hex_text 2 y) (row_hex bytes)))
    ∙ ap (λ k. hex_part (pre ++ row_hex bytes) k 256) (sym p)
    ∙ ap (λ k. hex_part (pre ++ row_hex bytes) (length pre) k) (sym m)
    ∙ row_hex_lem pre bytes in
    good line (rw n (hex_joined line 0 4 256 (hex_joined line 0 2 2 k.hex s.hex) back)) ∙ simp (← k.is, eq-eqb _ _ n, ← s.is, le-leb y 0x7F h)
