-- A refused call leaves every byte that it was lent. Assumes nothing.
use mathlib.Core.Path.{◌≡◌, refl, sym, ap, ◌∙◌}
use mathlib.Core.Bool.{true, false}
use mathlib.Core.List.{List}
use Prim.Native.Nat.{ℕ, zero, suc, ◌/◌}
use Rattle.controller.specs.declared.Controller.{Controller}
use Rattle.controller.specs.declared.Refusal.{Refusal}
use Rattle.tiles.specs.Tiles.{Bytes}
use Rattle.controller.specs.Outcome.{Outcome, outcome, number_of, refusal}
use Rattle.controller.specs.Table.{Row}
use Rattle.controller.proofs.Only.{some_number}
use Rattle.controller.proofs.Refusals.{Refuses, in_outcome}
use Rattle.std.specs.declared.result.Result.{Result}
use Rattle.shades.specs.Shades.{Exported, exported, output_number, output_value}
use Rattle.layout.specs.Layout.{encoded, is_record, decoded}
use Rattle.answers.specs.Packed.{packed}
use Rattle.layout.proofs.Inverse.{encode_decode}
use Rattle.shades.proofs.Outputs.{in_exported}
use Rattle.laws.proofs.Bools.{either}
use Rattle.answers.specs.Called.{Called, called, as_bytes, unread, filled, as_written}
use Rattle.answers.proofs.Only.{Says}

-- what comes to a number is that refusal: for an outcome, the state given and every byte lent
pub kept : {O : Type 0} {rows : List Row} {number : O → ℕ} {refused : ℕ → O} {o done : O} → Refuses rows number refused o done
    → (n : ℕ) → (0 ≡ n → ⊥) → number o ≡ n → o ≡ refused n
kept r zero some e = absurd (some refl)
kept r (suc k) some e = r.kept k (sym r.numbered ∙ e)

-- so do its bytes: what a call left that was refused is what it was lent
module _ (s ram store : List ℕ) (bytes : Bytes s) (h : is_record s ≡ true) {rows : List Row} {o done : Outcome} (r : Refuses rows in_outcome (refusal (decoded s) ram store) o done) where
  pub unchanged : (why : Refusal) (c : Controller) (ram' store' : List ℕ) → outcome (number_of why) 0 c ram' store' ≡ o → called (packed (number_of why) 0) s ram' store' ≡ as_bytes o
  unchanged why c ram' store' e =
      let k : o ≡ outcome (number_of why) 0 (decoded s) ram store = kept r (number_of why) (some_number why) (sym (λ i. (e i).number)) in
      let f : outcome (number_of why) 0 c ram' store' ≡ outcome (number_of why) 0 (decoded s) ram store = e ∙ k in
      (λ i. called (packed (number_of why) 0) s (f i).ram (f i).store)
      ∙ sym (ap as_bytes k ∙ ap (λ t. called (packed (number_of why) 0) t ram store) (encode_decode s bytes h))

-- bytes written into a lent buffer
pub written : (m : Exported) (r : Result ℕ Refusal) (left : List ℕ) → exported (output_number r) (output_value r) left ≡ m → (p : ℕ) → p ≡ packed (output_number r) (output_value r) → filled p left ≡ as_written m
written m r left means p q = (λ i. filled (q i) left) ∙ ap as_written means

pub record Keeps (c : Called) (s m f : List ℕ) : Type 0 where
  pub state : c.state ≡ s
  pub ram : c.ram ≡ m
  pub store : c.store ≡ f

module _ (s ram store : List ℕ) (bytes : Bytes s) where
  keeps : is_record s ≡ true → {rows : List Row} {o done : Outcome} → Refuses rows in_outcome (refusal (decoded s) ram store) o done → (0 ≡ o.number → ⊥) → Keeps (as_bytes o) s ram store
  keeps h {rows} {o} {done} r some =
      let k = kept r o.number some refl in
      record {
        state = (λ i. encoded (k i).state) ∙ encode_decode s bytes h;
        ram = λ i. (k i).ram;
        store = λ i. (k i).store;
      }

  -- an answer that is not below 2^32 is a refusal
  pub called_kept : {b : Called} {rows : List Row} {o done : Outcome} → (is_record s ≡ false → b ≡ unread s ram store) → (is_record s ≡ true → b ≡ as_bytes o) → Refuses rows in_outcome (refusal (decoded s) ram store) o done
      → (is_record s ≡ true → Says b.answer o.number o.value) → (0 ≡ b.answer / 4294967296 → ⊥) → Keeps b s ram store
  called_kept un does r says some =
      either (is_record s)
      (λ h. rw (does h) (keeps h r (λ z. some (z ∙ sym (says h).number))))
      (λ h. rw (un h) (record { state = refl; ram = refl; store = refl }))

-- a buffer that would have been written
pub written_kept : {rows : List Row} {out : List ℕ} {m done : Exported} → Refuses rows in_exported (λ n. exported n 0 out) m done → (0 ≡ m.number → ⊥) → m.bytes ≡ out
written_kept {rows} {out} {m} {done} r some = λ i. (kept r m.number some refl i).bytes
