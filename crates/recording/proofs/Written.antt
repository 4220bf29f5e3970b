-- Frames written as lines, as the code writes them: laws of `row_hex`, `record_rows` and `line_means`. Assumes nothing.
use mathlib.Core.Path.{◌≡◌, refl, sym, ap, ◌∙◌}
use mathlib.Core.Bool.{Bool, true, false, not}
use mathlib.Core.List.{List, [], ◌∷◌, ◌++◌, append_assoc}
use Prim.Native.Nat.{ℕ, suc, ◌+◌, ◌*◌, ◌/◌, ◌%◌, ◌<◌, ◌≤◌}
use native.Mathlib.Numerals.{add-one}
use native.Mathlib.Omega.{arith}
use lib.Dec.{eqb, leb}
use lib.ListN.{length, take, get_or, set, length-append, length-set}
use lib.Seq.{take-suc, length-take-le}
use borrow.Author.Tests.{eqb-true, ltb-false}
use Rattle.laws.proofs.Bools.{either, both_right}
use Rattle.controller.specs.Table.{before, lowest}
use Rattle.controller.proofs.Refusals.{Refuses, refuses, rising_from, first_fails}
use Rattle.lines.specs.Hex.{digit_byte, hex_text, printed, placed}
use Rattle.recording.specs.Record.{row_hex, row_line, row_allowed, ended, no_line, too_short, record_rows, Recording, unrecorded, filled, line_means}
use Rattle.lines.proofs.Placed.{length_hex, length_printed, length_placed, placed_next, placed_one}

-- the last two digits apart
last_two : (n x : ℕ) → hex_text (suc (suc n)) x ≡ hex_text n (x / 16 / 16) ++ (digit_byte (x / 16 % 16) ∷ digit_byte (x % 16) ∷ [])
unfolding hex_text
last_two n x = append_assoc (hex_text n (x / 16 / 16)) (digit_byte (x / 16 % 16) ∷ []) (digit_byte (x % 16) ∷ [])

two : (x : ℕ) → hex_text 2 x ≡ digit_byte (x / 16 % 16) ∷ digit_byte (x % 16) ∷ []
unfolding hex_text
two x = refl

-- an address and a byte are six digits of one number
pub write_digits : (a v : ℕ) → v < 256 → hex_text 6 (a * 256 + v) ≡ hex_text 4 a ++ hex_text 2 v
write_digits a v h =
    let x = a * 256 + v in
    let p : x / 16 / 16 ≡ a = omega arith in
    let q : x / 16 % 16 ≡ v / 16 % 16 = omega arith in
    let r : x % 16 ≡ v % 16 = omega arith in
    last_two 4 x
    ∙ (λ i. hex_text 4 (p i) ++ (digit_byte (q i) ∷ digit_byte (r i) ∷ []))
    ∙ ap (λ t. hex_text 4 a ++ t) (sym (two v))

-- a byte is two digits
two_digits : (b : ℕ) → b < 256 → hex_text 2 b ≡ digit_byte (b / 16) ∷ digit_byte (b % 16) ∷ []
two_digits b h =
    let q : b / 16 % 16 ≡ b / 16 = omega arith in
    two b ∙ ap (λ d. digit_byte d ∷ digit_byte (b % 16) ∷ []) q

-- two digits for each byte
pub length_row : (bytes : List ℕ) → length (row_hex bytes) ≡ 2 * length bytes
unfolding row_hex
length_row [] = refl
length_row (b ∷ bytes) = omega (arith, length-append (hex_text 2 b) (row_hex bytes), length_hex 2 b, length_row bytes)

row_joined : (front back : List ℕ) → row_hex (front ++ back) ≡ row_hex front ++ row_hex back
unfolding row_hex
row_joined [] back = refl
row_joined (b ∷ front) back = ap (λ t. hex_text 2 b ++ t) (row_joined front back) ∙ sym (append_assoc (hex_text 2 b) (row_hex front) (row_hex back))

-- one byte more of a row
row_next : (bytes : List ℕ) (i : ℕ) → i < length bytes → get_or bytes i 0 < 256
    → row_hex (take (i + 1) bytes) ≡ row_hex (take i bytes) ++ (digit_byte (get_or bytes i 0 / 16) ∷ digit_byte (get_or bytes i 0 % 16) ∷ [])
unfolding row_hex
row_next bytes i h small =
    ap (λ n. row_hex (take n bytes)) (add-one i)
    ∙ ap row_hex (take-suc bytes i 0 h)
    ∙ row_joined (take i bytes) (get_or bytes i 0 ∷ [])
    ∙ ap (λ t. row_hex (take i bytes) ++ (t ++ [])) (two_digits (get_or bytes i 0) small)

-- its two digits stored, one after the other
pub row_stored : (out : List ℕ) (at : ℕ) (bytes : List ℕ) (i : ℕ) → i < length bytes → get_or bytes i 0 < 256 → at + 2 * length bytes ≤ length out
    → set (set (placed out at (row_hex (take i bytes))) (at + 2 * i) (digit_byte (get_or bytes i 0 / 16))) (at + 2 * i + 1) (digit_byte (get_or bytes i 0 % 16))
    ≡ placed out at (row_hex (take (i + 1) bytes))
row_stored out at bytes i h small fits =
    let t = row_hex (take i bytes) in
    let m = placed out at t in
    let k = at + 2 * i in
    let x = digit_byte (get_or bytes i 0 / 16) in
    let y = digit_byte (get_or bytes i 0 % 16) in
    let lt : length t ≡ 2 * i = length_row (take i bytes) ∙ ap (λ n. 2 * n) (length-take-le i bytes (omega arith)) in
    let lm : length m ≡ length out = length_placed out at t (omega arith) (omega arith) in
    let e : k ≡ at + length t = ap (λ n. at + n) (sym lt) in
    placed_one (set m k x) (k + 1) y (simp length-set (omega arith))
    ∙ ap (λ o. placed o (k + 1) (y ∷ [])) (placed_one m k x (omega arith))
    ∙ placed_next m k (x ∷ []) (omega arith) (y ∷ []) (k + 1) refl
    ∙ placed_next out at t (omega arith) (x ∷ y ∷ []) k e
    ∙ ap (placed out at) (sym (row_next bytes i h small))

-- ---- the judging

-- the number in an outcome
abbrev pub in_recording : Recording → ℕ
in_recording r = r.number

-- a line is refused by the lowest number of its rows, and only then
pub line_refuses : (cant : Bool) (line out : List ℕ) → Refuses (record_rows cant line out) in_recording (unrecorded out) (line_means cant line out) (filled line out)
unfolding record_rows line_means rising_from
line_refuses cant line out = refuses (record_rows cant line out) in_recording (unrecorded out) (filled line out) (λ n. refl) refl refl

-- what is so where it is not refused
pub record LineFits (cant : Bool) (line out : List ℕ) : Type 0 where
  pub said : cant ≡ false
  pub room : length (ended line) ≤ length out

pub line_fits : (cant : Bool) (line out : List ℕ) → lowest (record_rows cant line out) ≡ 0 → LineFits cant line out
unfolding record_rows
line_fits cant line out e =
    let s = first_fails _ _ e in
    let r = first_fails _ _ s.1 in
    record { said = s.0; room = ltb-false (length out) (length (ended line)) r.0 }

-- ---- a kind and so many digits

module _ (kind digits value : ℕ) where
  abbrev pub numbers : List ℕ
  numbers = hex_text 2 kind ++ hex_text digits value

  pub ended_printed : ended numbers ≡ printed kind digits value
  unfolding printed
  ended_printed = append_assoc (hex_text 2 kind) (hex_text digits value) (0x0A ∷ [])

  pub length_digits : length (ended numbers) ≡ 3 + digits
  length_digits = ap length ended_printed ∙ length_printed kind digits value

  pub digits_judged : (out : List ℕ) {n : ℕ} → n ≡ before (too_short (length out) (3 + digits)) 0 → n ≡ lowest (record_rows false numbers out)
  unfolding record_rows lowest
  digits_judged out e = e ∙ ap (λ k. before (too_short (length out) k) 0) (sym length_digits)

-- ---- an image row

module _ (y : ℕ) (bytes : List ℕ) where
  pub length_row_line : length bytes ≡ 128 → length (ended (row_line y bytes)) ≡ 261
  unfolding row_line
  length_row_line l =
      omega (arith, length-append (row_line y bytes) (0x0A ∷ []), length-append (hex_text 2 4) (hex_text 2 y ++ row_hex bytes), length-append (hex_text 2 y) (row_hex bytes), length_hex 2 4, length_hex 2 y, length_row bytes)

  pub row_long : row_allowed y (length bytes) ≡ true → length bytes ≡ 128
  unfolding row_allowed
  row_long h = eqb-true (length bytes) 128 (both_right (leb y 0x7F) (eqb (length bytes) 128) h)

  -- a row that has a line is judged by the room that this asks
  pub room_judged : (out : List ℕ) {n : ℕ} → 0 ≡ before (no_line (not (row_allowed y (length bytes)))) 0 → n ≡ before (too_short (length out) 261) 0
      → n ≡ lowest (record_rows (not (row_allowed y (length bytes))) (row_line y bytes) out)
  unfolding record_rows lowest
  room_judged out h e =
      either (row_allowed y (length bytes))
      (λ t. simp t (e ∙ ap (λ k. before (too_short (length out) k) 0) (sym (length_row_line (row_long t)))))
      (λ f. let z : 0 ≡ 6 = simp f at h in absurd (omega arith))

  -- kind, row, bytes and LF, one after another
  pub row_put : (out : List ℕ) → length bytes ≡ 128 → 261 ≤ length out
      → set (placed (placed (placed out 0 (hex_text 2 4)) 2 (hex_text 2 y)) 4 (row_hex bytes)) 260 0x0A ≡ placed out 0 (ended (row_line y bytes))
  unfolding row_line
  row_put out l room =
      let a = hex_text 2 4 in
      let b = hex_text 2 y in
      let r = row_hex bytes in
      let o1 = placed out 0 a in
      let o2 = placed o1 2 b in
      let o3 = placed o2 4 r in
      let lr : length r ≡ 256 = length_row bytes ∙ ap (λ n. 2 * n) l in
      let l1 : length o1 ≡ length out = length_placed out 0 a (omega arith) (omega (arith, length_hex 2 4)) in
      let l2 : length o2 ≡ length o1 = length_placed o1 2 b (omega arith) (omega (arith, length_hex 2 y)) in
      let l3 : length o3 ≡ length o2 = length_placed o2 4 r (omega arith) (omega arith) in
      let e : ended (a ++ (b ++ r)) ≡ a ++ (b ++ (r ++ (0x0A ∷ []))) = append_assoc a (b ++ r) (0x0A ∷ []) ∙ ap (λ t. a ++ t) (append_assoc b r (0x0A ∷ [])) in
      placed_one o3 260 0x0A (omega arith)
      ∙ placed_next o2 4 r (omega arith) (0x0A ∷ []) 260 (omega arith)
      ∙ placed_next o1 2 b (omega arith) (r ++ (0x0A ∷ [])) 4 (omega (arith, length_hex 2 y))
      ∙ placed_next out 0 a (omega arith) (b ++ (r ++ (0x0A ∷ []))) 2 (omega (arith, length_hex 2 4))
      ∙ ap (placed out 0) (sym e)
