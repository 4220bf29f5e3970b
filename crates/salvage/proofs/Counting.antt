-- A report counted: `counted` is what std counts. Assumes nothing.
use Rattle.std.proofs.Common.{◌≡◌, ℕ, List, eqb, count_by, refl, arith}
use Rattle.std.proofs.lemmas.List.Recursion.{is_count_by}
use Rattle.laws.proofs.Bools.{either}
use Rattle.salvage.specs.Counted.{counted}

pub counted_by : (m : ℕ) (s : List ℕ) → counted m s ≡ count_by (λ b. eqb b m) s
unfolding counted
counted_by m s = is_count_by (counted m) (λ b. eqb b m) refl (λ b rest. either (eqb b m) (λ t. simp t (omega arith)) (λ f. simp f)) s
