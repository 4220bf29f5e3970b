-- Writing and reading are inverse to each other: every frame written is read back, and every accepted line is written back.
-- Besides: when a line is refused, what the buffer then holds, and that no second outcome fits. Assumes nothing.
use mathlib.Core.Path.{◌≡◌, refl, sym, ap, ◌∙◌}
use mathlib.Core.Bool.{true, false, ◌&&◌, false≢true}
use mathlib.Core.List.{List, [], ◌∷◌, ◌++◌, append_assoc}
use Prim.Native.Nat.{ℕ, zero, suc, ◌+◌, ◌*◌, ◌/◌, ◌%◌, ◌<◌, ◌≤◌}
use native.Mathlib.Nat.{zero-add}
use native.Mathlib.Omega.{arith}
use lib.Dec.{eqb, leb}
use lib.ListN.{length, get_or, take, drop, length-append, length-drop}
use lib.Seq.{take-suc, take_all, take-add, drop-drop, get_or-drop}
use borrow.Author.Tests.{eqb-true}
use Rattle.laws.proofs.Pick.{pick_ind}
use Rattle.laws.proofs.Bools.{not_fails, both_left, both_right}
use Rattle.tiles.specs.Tiles.{Bytes}
use Rattle.controller.specs.Table.{lowest}
use Rattle.controller.proofs.Only.{some_number, only_number}
use Rattle.controller.proofs.Refusals.{Refuses}
use Rattle.lines.specs.declared.line.Frame.{Frame}
use Rattle.lines.specs.declared.line.Frame.TheVariants.{Reset, Read, Write, Tick, Row, Malformed}
use Rattle.std.specs.declared.result.Result.{Result}
use Rattle.controller.specs.declared.Refusal.{Refusal}
use Rattle.std.specs.Prelude.{Ok, Err}
use Rattle.lines.specs.Hex.{digit_byte, hex_text, placed}
use Rattle.lines.specs.Line.{is_line, worth, hex_part, number_at, spelled, frame_of}
use Rattle.recording.specs.Record.{row_hex, row_line, line_of, cant_say, ended, record_rows, Recording, unrecorded, filled, record_means, recorded, bytes_at}
use Rattle.lines.proofs.Digits.{worth_small, digit_back, hex_parts, hex_within}
use Rattle.lines.proofs.Placed.{length_hex, take_placed, drop_placed}
use Rattle.recording.proofs.Written.{in_recording, line_refuses, line_fits, length_digits, row_long, length_row_line}
use Rattle.lines.proofs.Spelt.{text_number}
use Rattle.recording.proofs.Accepted.{accepts_reset, accepts_read, accepts_write, accepts_tick, accepts_row}

-- ---- written, and read back

-- a frame of a call, and a row's bytes: numbers that fit their types, and a row that is not refused
pub data Sayable : Frame → List ℕ → Type 0 where
  reset : {bytes : List ℕ} → Sayable Reset bytes
  read : {a : ℕ} {bytes : List ℕ} → a < 65536 → Sayable (Read a) bytes
  write : {a v : ℕ} {bytes : List ℕ} → a < 65536 → v < 256 → Sayable (Write a v) bytes
  tick : {n : ℕ} {bytes : List ℕ} → n < 4294967296 → Sayable (Tick n) bytes
  row : {y : ℕ} {bytes : List ℕ} → y ≤ 0x7F → length bytes ≡ 128 → Bytes bytes → Sayable (Row y) bytes

-- every frame written is read back as the same frame
pub written_read : {f : Frame} {bytes : List ℕ} → Sayable f bytes → frame_of (line_of f bytes) ≡ f
unfolding line_of
written_read reset = accepts_reset
written_read (read h) = accepts_read _ h
written_read (write h i) = accepts_write _ _ h i
written_read (tick h) = accepts_tick _ h
written_read (row h l b) = accepts_row _ _ h l

-- the bytes after what stands before them
bytes_after_lem : (pre bytes : List ℕ) → Bytes bytes → bytes_at (pre ++ row_hex bytes) (length pre) (length bytes) ≡ bytes
unfolding row_hex bytes_at
bytes_after_lem pre [] h = refl
bytes_after_lem pre (b ∷ bytes) h =
    let p : length (pre ++ hex_text 2 b) ≡ length pre + 2 = length-append pre (hex_text 2 b) ∙ ap (λ k. length pre + k) (length_hex 2 b) in
    let first = text_number pre (row_hex bytes) 2 b (h 0) in
    let others : bytes_at (pre ++ (hex_text 2 b ++ row_hex bytes)) (length pre + 2) (length bytes) ≡ bytes = rw (← p, ← append_assoc pre (hex_text 2 b) (row_hex bytes)) (bytes_after_lem (pre ++ hex_text 2 b) bytes (λ i. h (suc i))) in
    (λ i. first i ∷ others i)

-- and of a row its 128 bytes too
pub written_bytes : (y : ℕ) (bytes : List ℕ) → length bytes ≡ 128 → Bytes bytes → bytes_at (line_of (Row y) bytes) 4 128 ≡ bytes
unfolding line_of row_line
written_bytes y bytes l b =
    let pre = hex_text 2 4 ++ hex_text 2 y in
    let p : length pre ≡ 4 = omega (arith, length-append (hex_text 2 4) (hex_text 2 y), length_hex 2 4, length_hex 2 y) in
    ap (λ x. bytes_at x 4 128) (sym (append_assoc (hex_text 2 4) (hex_text 2 y) (row_hex bytes)))
    ∙ (λ i. bytes_at (pre ++ row_hex bytes) (sym p i) (sym l i))
    ∙ bytes_after_lem pre bytes b

-- the bytes one by one
bytes_at_lem : (line : List ℕ) (at n i : ℕ) → i < n → get_or (bytes_at line at n) i 0 ≡ number_at line (at + 2 * i) 2
unfolding bytes_at
bytes_at_lem line at zero i h = absurd (omega arith)
bytes_at_lem line at (suc n) zero h = let e : at ≡ at + 2 * 0 = omega arith in ap (λ k. number_at line k 2) e
bytes_at_lem line at (suc n) (suc i) h =
    let e : at + 2 + 2 * i ≡ at + 2 * suc i = omega arith in
    bytes_at_lem line (at + 2) n i (omega arith) ∙ ap (λ k. number_at line k 2) e

pub written_byte : (y : ℕ) (bytes : List ℕ) → length bytes ≡ 128 → Bytes bytes → (i : ℕ) → i < 128 → number_at (line_of (Row y) bytes) (4 + 2 * i) 2 ≡ get_or bytes i 0
written_byte y bytes l b i h = sym (bytes_at_lem (line_of (Row y) bytes) 4 128 i h) ∙ ap (λ s. get_or s i 0) (written_bytes y bytes l b)

-- ---- read, and written back

-- the number that digits spell has these digits
text_back : (line : List ℕ) (at n : ℕ) → at + n ≤ length line → hex_part line at n ≡ true → hex_text n (number_at line at n) ≡ take n (drop at line)
unfolding hex_part number_at hex_text
text_back line at zero fits h = refl
text_back line at (suc n) fits h =
    let d = get_or line (at + n) 0 in
    let m = number_at line at n in
    let front : hex_part line at n ≡ true = both_left _ _ h in
    let w : worth d < 16 = worth_small d (both_right (hex_part line at n) _ h) in
    let p : (m * 16 + worth d) / 16 ≡ m = omega arith in
    let q : (m * 16 + worth d) % 16 ≡ worth d = omega arith in
    let long : n < length (drop at line) = simp length-drop (omega arith) in
    (λ i. hex_text n (p i) ++ (digit_byte (q i) ∷ []))
    ∙ (λ i. text_back line at n (omega arith) front i ++ ((digit_back d (both_right (hex_part line at n) _ h) ∙ sym (get_or-drop at line n 0)) i ∷ []))
    ∙ sym (take-suc (drop at line) n 0 long)

row_back : (line : List ℕ) (at n : ℕ) → at + 2 * n ≤ length line → hex_part line at (2 * n) ≡ true → row_hex (bytes_at line at n) ≡ take (2 * n) (drop at line)
unfolding row_hex bytes_at
row_back line at zero fits h = refl
row_back line at (suc n) fits h =
    let e : 2 * suc n ≡ 2 + 2 * n = omega arith in
    let both = sym (hex_parts line at 2 (2 * n)) ∙ ap (hex_part line at) (sym e) ∙ h in
    (λ i. text_back line at 2 (omega arith) (both_left _ _ both) i ++ row_back line (at + 2) n (omega arith) (both_right (hex_part line at 2) _ both) i)
    ∙ ap (λ r. take 2 (drop at line) ++ take (2 * n) r) (sym (drop-drop 2 at line))
    ∙ sym (take-add 2 (2 * n) (drop at line))
    ∙ ap (λ k. take k (drop at line)) (sym e)

module _ (line : List ℕ) where
  -- a frame that was read, unless the line is malformed, is written as this line
  abbrev Back : Frame → Type 0
  Back f = (f ≡ Malformed → ⊥) → line_of f (bytes_at line 4 128) ≡ line

  -- two parts are the line
  two_parts : (n m : ℕ) → length line ≡ n + m → take n line ++ take m (drop n line) ≡ line
  two_parts n m l = sym (take-add n m line) ∙ take_all (n + m) line (omega arith)

  three_parts : (n m k : ℕ) → length line ≡ n + (m + k) → take n line ++ (take m (drop n line) ++ take k (drop (n + m) line)) ≡ line
  three_parts n m k l =
      ap (λ r. take n line ++ (take m (drop n line) ++ take k r)) (sym (drop-drop m n line))
      ∙ ap (λ r. take n line ++ r) (sym (take-add m k (drop n line)))
      ∙ two_parts n (m + k) l

  module _ (hex : hex_part line 0 (length line) ≡ true) where
    digits : (at n : ℕ) → at + n ≤ length line → hex_text n (number_at line at n) ≡ take n (drop at line)
    digits at n fits = text_back line at n fits (hex_within line (length line) at n hex fits)

    long : (k n : ℕ) → is_line line k n ≡ true → length line ≡ n
    long k n t = eqb-true (length line) n (both_right (eqb (number_at line 0 2) k) (eqb (length line) n) t)

    kind : (k n : ℕ) → is_line line k n ≡ true → 2 ≤ n → hex_text 2 k ≡ take 2 line
    kind k n t h =
        let l = long k n t in
        ap (hex_text 2) (sym (eqb-true (number_at line 0 2) k (both_left (eqb (number_at line 0 2) k) (eqb (length line) n) t))) ∙ digits 0 2 (omega arith)

    spelled_back : Back (spelled line)
    unfolding spelled line_of row_line
    spelled_back =
        pick_ind Back (is_line line 0 2)
        (λ t ok. kind 0 2 t (omega arith) ∙ take_all 2 line (omega (arith, long 0 2 t)))
        (λ z. pick_ind Back (is_line line 1 6)
        (λ t ok. (λ i. kind 1 6 t (omega arith) i ++ digits 2 4 (omega (arith, long 1 6 t)) i) ∙ two_parts 2 4 (long 1 6 t))
        (λ z. pick_ind Back (is_line line 2 8)
        (λ t ok. (λ i. kind 2 8 t (omega arith) i ++ (digits 2 4 (omega (arith, long 2 8 t)) i ++ digits 6 2 (omega (arith, long 2 8 t)) i)) ∙ three_parts 2 4 2 (long 2 8 t))
        (λ z. pick_ind Back (is_line line 3 10)
        (λ t ok. (λ i. kind 3 10 t (omega arith) i ++ digits 2 8 (omega (arith, long 3 10 t)) i) ∙ two_parts 2 8 (long 3 10 t))
        (λ z. pick_ind Back (is_line line 4 260 && leb (number_at line 2 2) 0x7F)
        (λ t ok.
        let s = both_left (is_line line 4 260) (leb (number_at line 2 2) 0x7F) t in
        let l = long 4 260 s in
        (λ i. kind 4 260 s (omega arith) i ++ (digits 2 2 (omega arith) i ++ row_back line 4 128 (omega arith) (hex_within line (length line) 4 256 hex (omega arith)) i))
        ∙ three_parts 2 2 256 l)
        (λ z ok. absurd (ok refl))))))

  -- every accepted line, read and written again, gives the same digits
  pub read_written : (frame_of line ≡ Malformed → ⊥) → line_of (frame_of line) (bytes_at line 4 128) ≡ line
  unfolding frame_of
  read_written = pick_ind Back (hex_part line 0 (length line)) spelled_back (λ z ok. absurd (ok refl))

-- ---- refusals, and the buffer

-- a line has at most 260 bytes and its LF
line_most : (f : Frame) (bytes : List ℕ) → cant_say f bytes ≡ false → length (ended (line_of f bytes)) ≤ 261
unfolding cant_say line_of
line_most Reset bytes h = omega (arith, length-append (hex_text 2 0) (0x0A ∷ []), length_hex 2 0)
line_most (Read a) bytes h = omega (arith, length_digits 1 4 a)
line_most (Write a v) bytes h =
    omega (arith, length-append (hex_text 2 2 ++ (hex_text 4 a ++ hex_text 2 v)) (0x0A ∷ []), length-append (hex_text 2 2) (hex_text 4 a ++ hex_text 2 v), length-append (hex_text 4 a) (hex_text 2 v), length_hex 2 2, length_hex 4 a, length_hex 2 v)
line_most (Tick n) bytes h = omega (arith, length_digits 3 8 n)
line_most (Row y) bytes h = omega (arith, length_row_line y bytes (row_long y bytes (not_fails _ h)))
line_most Malformed bytes h = absurd (false≢true (sym h))

module _ (f : Frame) (bytes out : List ℕ) where
  -- a frame is refused by the lowest number of its rows, and only then
  pub record_refuses : Refuses (record_rows (cant_say f bytes) (line_of f bytes) out) in_recording (unrecorded out) (record_means f bytes out) (filled (line_of f bytes) out)
  unfolding record_means
  record_refuses = line_refuses (cant_say f bytes) (line_of f bytes) out

  -- where it is not refused, the line with its LF stands in front
  pub record_front : (record_means f bytes out).number ≡ 0 → take (record_means f bytes out).length (record_means f bytes out).out ≡ ended (line_of f bytes)
  record_front e =
      let r = record_refuses.does (sym record_refuses.numbered ∙ e) in
      let t = ended (line_of f bytes) in
      ap (λ (m : Recording). take m.length m.out) r
      ∙ ap (λ n. take n (placed out 0 t)) (sym (zero-add (length t)))
      ∙ take_placed out 0 t (omega arith)

  -- later bytes are kept
  pub record_later : drop (record_means f bytes out).length (record_means f bytes out).out ≡ drop (record_means f bytes out).length out
  record_later = by_number (lowest (record_rows (cant_say f bytes) (line_of f bytes) out)) refl
    where
      by_number : (n : ℕ) → lowest (record_rows (cant_say f bytes) (line_of f bytes) out) ≡ n → drop (record_means f bytes out).length (record_means f bytes out).out ≡ drop (record_means f bytes out).length out
      by_number zero e =
          let t = ended (line_of f bytes) in
          let n : length t ≡ 0 + length t + 0 = omega arith in
          rw (record_refuses.does e)
          (ap (λ k. drop k (placed out 0 t)) n ∙ drop_placed out 0 t (omega arith) 0 ∙ ap (λ k. drop k out) (sym n))
      by_number (suc k) e = rw (record_refuses.kept k e) refl

  pub record_most : (record_means f bytes out).length ≤ 261
  record_most = by_number (lowest (record_rows (cant_say f bytes) (line_of f bytes) out)) refl
    where
      by_number : (n : ℕ) → lowest (record_rows (cant_say f bytes) (line_of f bytes) out) ≡ n → (record_means f bytes out).length ≤ 261
      by_number zero e = rw (record_refuses.does e) (line_most f bytes (line_fits _ _ _ e).said)
      by_number (suc k) e = rw (record_refuses.kept k e) (omega arith)

-- ---- no second outcome fits: one answer, and one list of bytes

only_answer : (r s : Result ℕ Refusal) (out out' : List ℕ) → recorded r out ≡ recorded s out' → r ≡ s
only_answer (Ok n) (Ok m) out out' e = ap Ok (λ i. (e i).length)
only_answer (Ok n) (Err s) out out' e = absurd (some_number s (λ i. (e i).number))
only_answer (Err r) (Ok m) out out' e = absurd (some_number r (sym (λ i. (e i).number)))
only_answer (Err r) (Err s) out out' e = ap Err (only_number r s (λ i. (e i).number))

left : (r : Result ℕ Refusal) (out : List ℕ) → (recorded r out).out ≡ out
left (Ok n) out = refl
left (Err r) out = refl

pub only_recorded : (r s : Result ℕ Refusal) (out out' : List ℕ) → recorded r out ≡ recorded s out' → (r ≡ s) × (out ≡ out')
only_recorded r s out out' e = (only_answer r s out out' e, sym (left r out) ∙ ap (λ (m : Recording). m.out) e ∙ left s out')
