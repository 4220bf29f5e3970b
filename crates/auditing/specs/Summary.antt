-- The summary of a recording. Assumes nothing.
use Rattle.std.specs.Prelude.{Bool, List, ℕ, ◌-◌}
use Rattle.laws.specs.Pick.{pick}
use Rattle.wording.specs.Events.{summary_text}
use Rattle.events.specs.Book.{noted, lines}
use Rattle.events.specs.Book as book

-- the summary: what the book has counted; what ended and is not whole was touched
abbrev pub summary_of : List ℕ → Bool → List ℕ
summary_of b is_held =
    summary_text (noted b lines) (noted b book.malformed) (noted b book.refused) (noted b book.captures)
    (noted b book.ended) (noted b book.whole) (noted b book.ended - noted b book.whole) (noted b book.dropped) (pick is_held 1 0)
