-- Rows of the table judged one after the other, each with a `?`. Assumes nothing.
use Rattle.std.proofs.Common.{◌≡◌, ℕ, List, [], ◌∷◌, sym}
use Rattle.std.specs.Prelude.{⊤}
use Rattle.std.specs.Result.{IsErrAnd}
use Rattle.std.specs.declared.result.Result.{Result}
use Rattle.std.proofs.lemmas.Result.{err_from_is_err_and}
use Rattle.laws.proofs.Bools.{either}
use Rattle.controller.specs.declared.Refusal.{Refusal}
use Rattle.controller.specs.Outcome.{number_of, verdict_number}
use Rattle.controller.specs.Table.{Row, before, lowest}
use Rattle.controller.proofs.Only.{some_number}

-- a row that holds refuses, and the rows after it are not asked
pub refused : (r : Row) (rows : List Row) (why : Refusal) → number_of why ≡ before r 0 → number_of why ≡ lowest (r ∷ rows)
unfolding lowest
refused r rows why n = either r.holds (λ t. simp t (simp t at n)) (λ f. absurd (some_number why (sym (simp f at n))))

-- one that does not hold leaves it to the rows after it
pub passed : (r : Row) (rows : List Row) (n : ℕ) → 0 ≡ before r 0 → n ≡ lowest rows → n ≡ lowest (r ∷ rows)
unfolding lowest
passed r rows n e h = either r.holds (λ t. absurd (some_number r.why (simp t at e))) (λ f. simp f h)

-- the last row
pub last : (r : Row) (n : ℕ) → n ≡ before r 0 → n ≡ lowest (r ∷ [])
unfolding lowest
last r n e = e

-- what a `?` hands on
pub exit : (w : Result ⊤ Refusal) (why : Refusal) (n : ℕ) → IsErrAnd w (λ d. d ≡ why) → number_of why ≡ n → verdict_number w ≡ n
exit w why n e h = let p = err_from_is_err_and w e in rw (p.1, p.2) h

-- for a function of some rows
pub ruleset rows = (refused, passed, last, exit)
