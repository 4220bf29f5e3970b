-- The law of a row of shades that is turned: the bits of a shade are bits. Assumes nothing.
use Rattle.std.specs.Prelude.{List, ℕ, Bool, true, false, ◌+◌, ◌/◌, ◌%◌, ◌<◌, get_or, ltb}
use Rattle.std.proofs.Common.{arith}
use lib.Dec.{lit<}
use Rattle.laws.specs.Pick.{pick}
use Rattle.strips.specs.Aside.{turned_shade}

-- a high bit is a bit
high_two : (a b c : Bool) → pick {X = ℕ} a 3 (pick b 2 (pick c 1 0)) / 2 < 2
high_two true b c = lit< tt
high_two false true c = lit< tt
high_two false false true = lit< tt
high_two false false false = lit< tt

pub shade_bits : (values matrix : List ℕ) (at p : ℕ) → (turned_shade values matrix at p % 2 < 2) × (turned_shade values matrix at p / 2 < 2)
unfolding turned_shade
shade_bits values matrix at p =
    let v = get_or values p 0 in
    (omega arith, high_two (ltb v (get_or matrix (at + p) 0)) (ltb v (get_or matrix (at + p + 512) 0)) (ltb v (get_or matrix (at + p + 1024) 0)))
