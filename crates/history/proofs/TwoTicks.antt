-- A tick of a cycles and then one of b leave the same as one of a + b, and the counts add up. Assumes nothing.
use mathlib.Core.Path.{◌≡◌, sym, ap}
use mathlib.Core.List.{List, ◌∷◌}
use Prim.Native.Nat.{ℕ, ◌+◌}
use native.Mathlib.Nat.{add_assoc}
use Rattle.controller.specs.Outcome.{Outcome}
use Rattle.capture.proofs.TickSum.{tick_sum}
use Rattle.history.specs.History.{Call, tick, World, left_by, leaves, answers, count_in, refusal_in, after, counted}

module _ (w : World) (a b : ℕ) where
  one_left : leaves w (tick (a + b)) ≡ leaves (leaves w (tick a)) (tick b)
  unfolding leaves
  one_left = ap left_by (tick_sum w.state w.ram w.store a b)

  one_count : count_in (answers w (tick (a + b))) ≡ count_in (answers w (tick a)) + count_in (answers (leaves w (tick a)) (tick b))
  unfolding leaves answers
  one_count = ap (λ (o : Outcome). o.value) (tick_sum w.state w.ram w.store a b)

  -- Two ticks: in any world, a tick of a, one of b and any calls leave the same state, RAM and frame store as one tick of a + b and those calls
  pub two_ticks : (cs : List Call) → after w (tick a ∷ tick b ∷ cs) ≡ after w (tick (a + b) ∷ cs)
  unfolding after
  two_ticks cs = ap (λ (u : World). after u cs) (sym one_left)

  -- and their counts add up to the same
  pub two_counts : (cs : List Call) → counted w (tick a ∷ tick b ∷ cs) ≡ counted w (tick (a + b) ∷ cs)
  unfolding counted
  two_counts cs = rw (one_left, one_count) (sym (add_assoc _ _ _))

  -- and the one is refused as the second is
  pub two_refusals : refusal_in (answers w (tick (a + b))) ≡ refusal_in (answers (leaves w (tick a)) (tick b))
  unfolding leaves answers
  two_refusals = ap (λ (o : Outcome). o.number) (tick_sum w.state w.ram w.store a b)
