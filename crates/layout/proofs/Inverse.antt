-- The state record as bytes: `encoded` and `decoded` are inverse to each other. Assumes nothing.
use mathlib.Core.Path.{◌≡◌, refl, sym, ap, ◌∙◌}
use mathlib.Core.Bool.{Bool, true, false, ◌&&◌, and-false}
use mathlib.Core.List.{List, [], ◌∷◌, ◌++◌}
use Prim.Native.Nat.{ℕ, zero, suc, ◌+◌, ◌*◌, ◌/◌, ◌%◌, ◌<◌, ◌≤◌}
use native.Mathlib.Omega.{arith}
use lib.Dec.{eqb, leb}
use lib.ListN.{length, get_or, take, drop, length-append, length-drop, take-append-drop}
use lib.Seq.{take_at, drop_at, take_all, drop-drop, drop-cons}
use borrow.Author.Tests.{eqb-true, leb-true, eq-eqb, ne_eqb}
use Rattle.std.proofs.lemmas.Nat.{from_le_bytes-to_le_bytes_4, le_bytes_4}
use Rattle.controller.specs.declared.Controller.{Controller}
use Rattle.tiles.specs.Tiles.{Bytes}
use Rattle.laws.proofs.Bools.{both_left, both_right}
use Rattle.layout.specs.Layout.{layout_number, flag, low_first, two_low_first, encoded, is_record, four_at, registers_at, decoded}

-- ---- a flag

flag_back : (b : Bool) → eqb (flag b) 1 ≡ b
flag_back true = refl
flag_back false = refl

flag_small : (b : Bool) → leb (flag b) 1 ≡ true
flag_small true = refl
flag_small false = refl

flag_of : (x : ℕ) → x ≤ 1 → flag (eqb x 1) ≡ x
flag_of zero h = refl
flag_of (suc zero) h = refl
flag_of (suc (suc x)) h = absurd (omega arith)

-- ---- a number of 32 bits

-- its bytes make it up again
pub bytes_back : (n : ℕ) → n < 4294967296 → n % 256 + 256 * (n / 256 % 256) + 65536 * (n / 65536 % 256) + 16777216 * (n / 16777216 % 256) ≡ n
bytes_back n h =
    let e : n % 256 + n / 256 % 256 * 256 + n / 65536 % 256 * 65536 + n / 16777216 % 256 * 16777216 ≡ n = from_le_bytes-to_le_bytes_4 n h in
    omega arith

-- the bytes of what four bytes make up
pub bytes_of : (a b c d : ℕ) → a < 256 → b < 256 → c < 256 → d < 256 → low_first (a + 256 * b + 65536 * c + 16777216 * d) ≡ a ∷ b ∷ c ∷ d ∷ []
bytes_of a b c d ha hb hc hd = le_bytes_4 (a ∷ b ∷ c ∷ d ∷ []) _ refl small (omega arith)
  where
    small : (i : ℕ) → get_or (a ∷ b ∷ c ∷ d ∷ []) i 0 < 256
    small zero = ha
    small (suc zero) = hb
    small (suc (suc zero)) = hc
    small (suc (suc (suc zero))) = hd
    small (suc (suc (suc (suc i)))) = omega arith

-- ---- a number of 16 bits

two_back : (n : ℕ) → n < 65536 → n % 256 + 256 * (n / 256 % 256) ≡ n
two_back n h = omega arith

two_of : (a b : ℕ) → a < 256 → b < 256 → two_low_first (a + 256 * b) ≡ a ∷ b ∷ []
two_of a b ha hb =
    let p : (a + 256 * b) % 256 ≡ a = omega arith in
    let q : (a + 256 * b) / 256 % 256 ≡ b = omega arith in
    λ i. p i ∷ q i ∷ []

-- ---- a record written and read back

-- a record of the machine: 54 registers and 54 taken, elapsed cycles of 32 bits, and two counts of 16
pub record Whole (c : Controller) : Type 0 where
  pub registers : length c.registers ≡ 54
  pub taken : length c.taken ≡ 54
  pub elapsed : c.elapsed.0 < 4294967296
  pub started : c.started < 65536
  pub ended : c.ended < 65536

pub encoded_length : (c : Controller) → Whole c → length (encoded c) ≡ 121
unfolding encoded
encoded_length c w = omega (arith, length-append c.registers c.taken)

-- a machine's record is 121 bytes
flag_byte : (b : Bool) → flag b < 256
flag_byte true = omega arith
flag_byte false = omega arith

pub append_bytes : (xs ys : List ℕ) → Bytes xs → Bytes ys → Bytes (xs ++ ys)
append_bytes [] ys p q i = q i
append_bytes (x ∷ xs) ys p q zero = p 0
append_bytes (x ∷ xs) ys p q (suc i) = append_bytes xs ys (λ j. p (suc j)) q i

two_more : (a b : ℕ) (l : List ℕ) → a < 256 → b < 256 → Bytes l → Bytes (a ∷ b ∷ l)
two_more a b l p q r zero = p
two_more a b l p q r (suc zero) = q
two_more a b l p q r (suc (suc i)) = r i

two_bytes : (n : ℕ) (l : List ℕ) → Bytes l → Bytes (two_low_first n ++ l)
two_bytes n l = two_more (n % 256) (n / 256 % 256) l (omega arith) (omega arith)

four_bytes : (n : ℕ) (l : List ℕ) → Bytes l → Bytes (low_first n ++ l)
four_bytes n l r =
    two_more (n % 256) (n / 256 % 256) (n / 65536 % 256 ∷ n / 16777216 % 256 ∷ l) (omega arith) (omega arith)
    (two_more (n / 65536 % 256) (n / 16777216 % 256) l (omega arith) (omega arith) r)

pub encoded_bytes : (c : Controller) → c.bank < 256 → c.select < 256 → Bytes c.registers → Bytes c.taken → Bytes (encoded c)
unfolding encoded
encoded_bytes c b s r t zero = omega arith
encoded_bytes c b s r t (suc zero) = flag_byte c.enabled
encoded_bytes c b s r t (suc (suc zero)) = b
encoded_bytes c b s r t (suc (suc (suc zero))) = s
encoded_bytes c b s r t (suc (suc (suc (suc zero)))) = flag_byte c.held
encoded_bytes c b s r t (suc (suc (suc (suc (suc i))))) =
    let l = c.registers ++ c.taken in
    let m = two_low_first c.ended ++ l in
    four_bytes c.elapsed.0 (two_low_first c.started ++ m)
    (two_bytes c.started m (two_bytes c.ended l (append_bytes c.registers c.taken r t))) i

pub encoded_record : (c : Controller) → Whole c → is_record (encoded c) ≡ true
unfolding is_record encoded
encoded_record c w = simp (eq-eqb (length (encoded c)) 121 (encoded_length c w), flag_small)

pub decode_encode : (c : Controller) → Whole c → decoded (encoded c) ≡ c
unfolding decoded encoded four_at
decode_encode c w = λ i. record {
  enabled = flag_back c.enabled i;
  bank = c.bank;
  select = c.select;
  registers = take_at c.registers c.taken 54 w.registers i;
  held = flag_back c.held i;
  taken = (ap (take 54) (drop_at c.registers c.taken 54 w.registers) ∙ take_all 54 c.taken (omega arith)) i;
  elapsed = record { 0 = bytes_back c.elapsed.0 w.elapsed i };
  started = two_back c.started w.started i;
  ended = two_back c.ended w.ended i;
}

-- ---- bytes read and written back

-- what the test of a record says
pub record IsRecord (s : List ℕ) : Type 0 where
  pub long : length s ≡ 121
  pub layout : get_or s 0 0 ≡ layout_number
  pub enabled : get_or s 1 0 ≤ 1
  pub held : get_or s 4 0 ≤ 1

pub record_parts : (s : List ℕ) → is_record s ≡ true → IsRecord s
unfolding is_record
record_parts s h =
    let n = eqb (get_or s 0 0) layout_number in
    let e = leb (get_or s 1 0) 1 in
    let d = leb (get_or s 4 0) 1 in
    let all : (n && (e && d)) ≡ true = both_right (eqb (length s) 121) (n && (e && d)) h in
    let rest : (e && d) ≡ true = both_right n (e && d) all in
    record {
      long = eqb-true _ _ (both_left (eqb (length s) 121) (n && (e && d)) h);
      layout = eqb-true _ _ (both_left n (e && d) all);
      enabled = leb-true _ _ (both_left e d rest);
      held = leb-true _ _ (both_right e d rest);
    }

pub record_long : (s : List ℕ) → is_record s ≡ true → length s ≡ 121
record_long s h = (record_parts s h).long

-- Other layout: bytes that begin with another number than the layout's are no record, however many they are
pub other_layout : (s : List ℕ) → (get_or s 0 0 ≡ layout_number → ⊥) → is_record s ≡ false
unfolding is_record
other_layout s h = simp (ne_eqb (get_or s 0 0) layout_number h, and-false)

module _ (s : List ℕ) (long : length s ≡ 121) where
  -- the record's first 13 bytes, one by one
  in_front : s ≡ get_or s 0 0 ∷ get_or s 1 0 ∷ get_or s 2 0 ∷ get_or s 3 0 ∷ get_or s 4 0 ∷ get_or s 5 0 ∷ get_or s 6 0 ∷ get_or s 7 0 ∷ get_or s 8 0 ∷ get_or s 9 0 ∷ get_or s 10 0 ∷ get_or s 11 0 ∷ get_or s 12 0 ∷ drop 13 s
  in_front = byte 0 (omega arith) (byte 1 (omega arith) (byte 2 (omega arith) (byte 3 (omega arith) (byte 4 (omega arith) (byte 5 (omega arith) (byte 6 (omega arith) (byte 7 (omega arith) (byte 8 (omega arith) (byte 9 (omega arith) (byte 10 (omega arith) (byte 11 (omega arith) (byte 12 (omega arith) refl))))))))))))
    where
      byte : (j : ℕ) {l : List ℕ} → j < length s → drop (suc j) s ≡ l → drop j s ≡ get_or s j 0 ∷ l
      byte j h e = drop-cons s j 0 h ∙ ap (λ l. get_or s j 0 ∷ l) e

  -- and the two times 54 after them
  behind : registers_at s 13 ++ registers_at s 67 ≡ drop 13 s
  behind =
      ap (λ l. take 54 (drop 13 s) ++ l) (take_all 54 (drop 67 s) (simp length-drop (omega arith)) ∙ sym (drop-drop 54 13 s))
      ∙ take-append-drop 54 (drop 13 s)

pub encode_decode : (s : List ℕ) → Bytes s → is_record s ≡ true → encoded (decoded s) ≡ s
unfolding decoded encoded four_at
encode_decode s bytes h =
    let p = record_parts s h in
    let f = bytes_of (get_or s 5 0) (get_or s 6 0) (get_or s 7 0) (get_or s 8 0) (bytes 5) (bytes 6) (bytes 7) (bytes 8) in
    let m = two_of (get_or s 9 0) (get_or s 10 0) (bytes 9) (bytes 10) in
    let n = two_of (get_or s 11 0) (get_or s 12 0) (bytes 11) (bytes 12) in
    let e = flag_of (get_or s 1 0) p.enabled in
    let d = flag_of (get_or s 4 0) p.held in
    let b = behind s p.long in
    (λ i. sym p.layout i ∷ e i ∷ get_or s 2 0 ∷ get_or s 3 0 ∷ d i ∷ ((f i ++ (m i ++ n i)) ++ b i)) ∙ sym (in_front s p.long)
