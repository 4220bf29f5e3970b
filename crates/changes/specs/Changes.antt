-- What outside the picture area changed: stretches of RAM bytes that differ from what they were at first. Assumes nothing.
use Rattle.std.specs.Prelude.{Bool, not, ◌&&◌, List, [], ℕ, zero, suc, ◌+◌, ◌-◌, ◌%◌, eqb, ltb, length, get_or}
use Rattle.laws.specs.Pick.{pick}
use Rattle.history.specs.Seen.{in_area}
use Rattle.wording.specs.Events.{changed_text, unchanged_text}

-- a byte outside the picture area that is not what it was
unfoldable pub differs : List ℕ → List ℕ → ℕ → Bool
differs first ram p = not (in_area p) && not (eqb (get_or first p 0) (get_or ram p 0))

-- the first of n places from p on that differs, or the one after them
unfoldable pub seek : List ℕ → List ℕ → ℕ → ℕ → ℕ
seek first ram zero p = p
seek first ram (suc n) p = pick (differs first ram p) p (seek first ram n (p + 1))

-- the place after the stretch that begins at p, of n places at most: it ends before a byte that does not differ, and with its bank
unfoldable pub reach : List ℕ → List ℕ → ℕ → ℕ → ℕ
reach first ram zero p = p
reach first ram (suc n) p =
    pick (differs first ram p) (pick (eqb ((p + 1) % 8192) 0) (p + 1) (reach first ram n (p + 1))) p

-- the first stretch from a place on begins here, at the RAM's end where there is none; and ends before this place
abbrev pub begins : List ℕ → List ℕ → ℕ → ℕ
begins first ram from = seek first ram (length ram - from) from

abbrev pub ends : List ℕ → List ℕ → ℕ → ℕ
ends first ram from = reach first ram (length ram - begins first ram from) (begins first ram from)

-- the event of a stretch that begins and ends so; where there is none from the first place on, that nothing changed
abbrev pub stretch_text : ℕ → ℕ → ℕ → ℕ → ℕ → List ℕ
stretch_text n size from begin end = pick (ltb begin size) (changed_text n begin (end - 1)) (pick (eqb from 0) (unchanged_text n) [])

-- the event of the first stretch from a place on
unfoldable pub change_text : ℕ → List ℕ → List ℕ → ℕ → List ℕ
change_text n first ram from = stretch_text n (length ram) from (begins first ram from) (ends first ram from)
