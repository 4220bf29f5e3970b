-- Laws of writing a save: its parts one after the other, when it is refused, and what is so where it is not. Assumes nothing.
use mathlib.Core.Path.{◌≡◌, refl, ap, ap₂, ◌∙◌}
use mathlib.Core.Bool.{true}
use mathlib.Core.List.{List, [], ◌∷◌, ◌++◌, append_assoc}
use Prim.Native.Nat.{ℕ, ◌+◌, ◌/◌, ◌≤◌}
use native.Mathlib.Omega.{arith}
use lib.ListN.{length, take, drop, length-append}
use lib.Seq.{take_at, drop-drop}
use borrow.Author.Tests.{ltb-false, eqb-true}
use Rattle.crc.specs.Crc.{crc_of}
use Rattle.laws.proofs.Bools.{both_left, not_fails}
use Rattle.timing.specs.Lent.{ram_allowed, frame_allowed}
use Rattle.timing.proofs.Lent.{ram_lent}
use Rattle.controller.specs.Table.{lowest}
use Rattle.controller.proofs.Refusals.{Refuses, refuses, rising_from, first_fails}
use Rattle.layout.specs.Layout.{low_first, is_record}
use Rattle.layout.proofs.Inverse.{record_parts}
use Rattle.shades.specs.Shades.{exported}
use Rattle.shades.proofs.Outputs.{in_exported}
use Rattle.save.specs.Save.{magic, body_of, save_of, save_length, is_state, save_rows, save_means}
use Rattle.save.proofs.Put.{Put, put_next}

-- ---- the parts

-- put one after the other they are all before the checksum
pub body_joined : (s ram store : List ℕ) → (((magic ++ (length ram / 8192 ∷ [])) ++ s) ++ ram) ++ store ≡ body_of s ram store
unfolding magic body_of
body_joined s ram store = ap (λ (l : List ℕ). magic ++ (length ram / 8192 ∷ l)) (append_assoc s ram store)

pub body_length : (s ram store : List ℕ) → length s ≡ 121 → length store ≡ 16384 → length (body_of s ram store) ≡ 16512 + length ram
unfolding magic body_of
body_length s ram store e f = simp length-append (omega arith)

-- and the checksum of them after them
pub sealed : (body o₀ o₁ : List ℕ) {o₂ four : List ℕ} {crc : ℕ} (end to n m : ℕ) → length body ≡ end → end + 4 ≡ to
    → o₁ ≡ body ++ drop end o₀ → crc ≡ crc_of (take n o₁) → four ≡ low_first crc → o₂ ≡ take end o₁ ++ (four ++ drop m (drop end o₁)) → n ≡ end → m ≡ 4
    → o₂ ≡ (body ++ low_first (crc_of body)) ++ drop to o₀
sealed body o₀ o₁ {o₂} {four} {crc} end to n m long past e c f g all some =
    let r : Put o₀ body end o₁ = record { long = long; same = e } in
    (put_next r (low_first (crc_of body)) to past
    (g ∙ ap₂ (λ (x y : List ℕ). take end o₁ ++ (x ++ y)) (f ∙ ap low_first sum) (ap (λ (k : ℕ). drop k (drop end o₁)) some ∙ drop-drop 4 end o₁))).same
  where
    sum : crc ≡ crc_of body
    sum = c ∙ ap crc_of (ap (λ (k : ℕ). take k o₁) all ∙ ap (take end) e ∙ take_at body (drop end o₀) end long)

-- ---- refusals

-- a save is refused by the lowest number of its rows, and only then
pub save_refuses : (s ram store out : List ℕ) → Refuses (save_rows s ram store out) in_exported (λ n. exported n 0 out) (save_means s ram store out) (exported 0 (save_length (length ram)) (save_of s ram store ++ drop (save_length (length ram)) out))
unfolding save_rows save_means rising_from
save_refuses s ram store out =
    refuses (save_rows s ram store out) in_exported (λ n. exported n 0 out)
    (exported 0 (save_length (length ram)) (save_of s ram store ++ drop (save_length (length ram)) out)) (λ n. refl) refl refl

-- what is so where it is not
pub record SaveFits (s ram store out : List ℕ) : Type 0 where
  pub state_fits : is_state s ≡ true
  pub ram_fits : ram_allowed (length ram) ≡ true
  pub store_fits : frame_allowed (length store) ≡ true
  pub room : save_length (length ram) ≤ length out

pub save_fits : (s ram store out : List ℕ) → lowest (save_rows s ram store out) ≡ 0 → SaveFits s ram store out
unfolding save_rows
save_fits s ram store out e =
    let t = first_fails _ _ e in
    let m = first_fails _ _ t.1 in
    let f = first_fails _ _ m.1 in
    let r = first_fails _ _ f.1 in
    record {
      state_fits = not_fails _ t.0;
      ram_fits = not_fails _ m.0;
      store_fits = not_fails _ f.0;
      room = ltb-false (length out) (save_length (length ram)) r.0;
    }

-- state bytes are 121
pub state_record : (s : List ℕ) → is_state s ≡ true → is_record s ≡ true
unfolding is_state
state_record s e = both_left (is_record s) _ e

pub state_long : (s : List ℕ) → is_state s ≡ true → length s ≡ 121
state_long s e = (record_parts s (state_record s e)).long

-- and what was lent has these lengths
pub record Lengths (s ram store out : List ℕ) : Type 0 where
  pub state : length s ≡ 121
  pub frame : length store ≡ 16384
  pub most : length ram ≤ 131072
  pub room : 16516 + length ram ≤ length out

pub fit_lengths : {s ram store out : List ℕ} → SaveFits s ram store out → Lengths s ram store out
fit_lengths {s} {ram} {store} {out} f = record {
  state = state_long s f.state_fits;
  frame = eqb-true (length store) 16384 f.store_fits;
  most = (ram_lent (length ram) f.ram_fits).most;
  room = f.room;
}
