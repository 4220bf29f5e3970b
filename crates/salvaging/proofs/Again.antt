-- A cleaned script salvaged once more: the whole outcome. Assumes nothing.
use mathlib.Core.Path.{◌≡◌, ◌∙◌}
use mathlib.Core.List.{List}
use Prim.Native.Nat.{ℕ, ◌≤◌}
use lib.ListN.{length, replicate}
use borrow.Author.Tests.{le-ltb}
use Rattle.controller.specs.Table.{lowest}
use Rattle.lines.specs.Hex.{placed}
use Rattle.script.specs.Text.{lines_of}
use Rattle.salvaging.specs.Kept.{salvaged}
use Rattle.salvaging.specs.Salvage.{cleaned, salvaging, salvage_done, salvage_means}
use Rattle.salvaging.proofs.Outcomes.{room_rows, salvage_short}
use Rattle.salvaging.proofs.Cleaned.{cleaned_lines, cleaned_again, report_again}

-- buffers with room for the text and for the report are not refused
room : (script text report : List ℕ) → length (cleaned script) ≤ length text → length (lines_of script) ≤ length report → lowest (room_rows script text report) ≡ 0
unfolding room_rows lowest
room script text report h k = simp (le-ltb (length text) (length (cleaned script)) h, le-ltb (length report) (length (lines_of script)) k)

-- salvaging the result changes nothing and reports all 0: a result over the size is one that gained an LF
pub salvage_again : (script text report : List ℕ) → length (cleaned script) ≤ 32768 → length (cleaned script) ≤ length text → length (salvaged (lines_of script)) ≤ length report
    → salvage_means (cleaned script) text report
    ≡ salvaging 0 (length (cleaned script)) (length (salvaged (lines_of script))) (placed text 0 (cleaned script)) (placed report 0 (replicate (length (salvaged (lines_of script))) 0))
unfolding salvage_done
salvage_again script text report h k l =
    (salvage_short (cleaned script) text report h).does (room (cleaned script) text report (rw (cleaned_again script) k) (rw (cleaned_lines script) l))
    ∙ (λ i. salvaging 0 (length (cleaned_again script i)) (length (cleaned_lines script i)) (placed text 0 (cleaned_again script i)) (placed report 0 (report_again script i)))
