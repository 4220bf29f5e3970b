-- How many lines a report says are kept, malformed, or repeated. Assumes nothing.
use Rattle.std.specs.Prelude.{List, [], ◌∷◌, ℕ, suc, eqb}
use Rattle.laws.specs.Pick.{pick}

-- how many bytes of a report are m
unfoldable pub counted : ℕ → List ℕ → ℕ
counted m [] = 0
counted m (b ∷ rest) = pick (eqb b m) (suc (counted m rest)) (counted m rest)
