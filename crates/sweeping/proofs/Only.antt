-- No second outcome fits: how many lines are played, and what they leave, is known from what is promised. Assumes nothing.
use mathlib.Core.Path.{◌≡◌, sym, ap, ◌∙◌}
use mathlib.Core.Bool.{true}
use mathlib.Core.List.{List}
use Prim.Native.Nat.{ℕ, zero, suc, ◌<◌}
use native.Mathlib.Omega.{arith}
use lib.Dec.{eqb}
use lib.ListN.{length, get_or, take}
use borrow.Author.Tests.{eqb-true, eqb-false}
use Rattle.laws.proofs.Bools.{either, not_both}
use Rattle.laws.proofs.Order.{split}
use Rattle.tiles.specs.Tiles.{Bytes}
use Rattle.layout.specs.Layout.{is_record, decoded, encoded}
use Rattle.layout.proofs.Inverse.{encode_decode}
use Rattle.lines.specs.Hex.{placed}
use Rattle.session.specs.Session.{World, world}
use Rattle.sweeping.specs.Aside.{swept_by, Sweeps, Stops, Settled}

module _ (rom : List ℕ) (w : World) (state book piece out : List ℕ) where
  -- an outcome that stops earlier than another had room, and a line that ends
  none_fewer : {w₁ w₂ : World} {b₁ b₂ o₁ o₂ : List ℕ} {u₁ n₁ n₂ : ℕ} (u₂ : ℕ) → Sweeps rom w book piece out w₁ b₁ o₁ u₁ n₁ → Stops piece out u₁ n₁
      → Sweeps rom w book piece out w₂ b₂ o₂ u₂ n₂ → u₁ < u₂ → ⊥
  none_fewer zero s t s' l = omega arith
  none_fewer {u₁ = u₁} (suc k) s t s' l =
      let full = t k (omega arith) (omega (arith, s'.inside)) (eqb-true (get_or piece k 0) 0x0A s'.whole) in
      let room = s'.roomy u₁ l s.whole in
      omega (arith, full, room, s.end)

  -- over a record and thirteen numbers, or not
  by_case : {X : Type 0} → (is_record state ≡ true → length book ≡ 13 → X) → ((is_record state ≡ true → length book ≡ 13 → ⊥) → X) → X
  by_case f g =
      either (is_record state)
      (λ rec. either (eqb (length book) 13) (λ t. f rec (eqb-true (length book) 13 t)) (λ o. g (λ _ e. eqb-false (length book) 13 o e)))
      (λ none. g (λ r _. not_both r none))

  module _ {s₁ r₁ f₁ i₁ b₁ o₁ s₂ r₂ f₂ i₂ b₂ o₂ : List ℕ} {u₁ n₁ u₂ n₂ : ℕ}
      (x : Sweeps rom w book piece out (world (decoded s₁) r₁ f₁ i₁) b₁ o₁ u₁ n₁) (p : Settled state book piece out s₁ u₁ n₁)
      (y : Sweeps rom w book piece out (world (decoded s₂) r₂ f₂ i₂) b₂ o₂ u₂ n₂) (q : Settled state book piece out s₂ u₂ n₂) where
    -- as many lines
    pub only_used : u₁ ≡ u₂
    only_used =
        by_case
        (λ rec e. split u₁ u₂
        (λ l. absurd (none_fewer u₂ x (p.played rec e).0 y l))
        (λ l. split u₂ u₁ (λ m. absurd (none_fewer u₁ y (q.played rec e).0 x m)) (λ m. omega arith)))
        (λ no. (p.left no).0 ∙ sym (q.left no).0)

    -- the same events, and what they leave
    pub only_world : world (decoded s₁) r₁ f₁ i₁ ≡ world (decoded s₂) r₂ f₂ i₂
    only_world = x.world ∙ ap (λ (k : ℕ). (swept_by rom w book (take k piece)).world) only_used ∙ sym y.world

    pub only_book : b₁ ≡ b₂
    only_book = x.book ∙ ap (λ (k : ℕ). (swept_by rom w book (take k piece)).book) only_used ∙ sym y.book

    pub only_written : n₁ ≡ n₂
    only_written = x.end ∙ ap (λ (k : ℕ). length (swept_by rom w book (take k piece)).text) only_used ∙ sym y.end

    pub only_out : o₁ ≡ o₂
    only_out = x.text ∙ ap (λ (k : ℕ). placed out 0 (swept_by rom w book (take k piece)).text) only_used ∙ sym y.text

    -- and the same bytes of the record
    pub only_state : Bytes s₁ → Bytes s₂ → s₁ ≡ s₂
    only_state c d =
        by_case
        (λ rec e. sym (encode_decode s₁ c (p.played rec e).1) ∙ ap (λ (v : World). encoded v.state) only_world ∙ encode_decode s₂ d (q.played rec e).1)
        (λ no. (p.left no).1 ∙ sym (q.left no).1)
