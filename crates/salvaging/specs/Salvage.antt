-- A lent script salvaged into lent buffers: refusals and the outcome. Assumes nothing.
use Rattle.std.specs.Prelude.{List, [], ◌∷◌, ℕ, ltb, length}
use Rattle.controller.specs.declared.Refusal.TheVariants as refusals
use Rattle.controller.specs.Outcome.{number_of}
use Rattle.controller.specs.Table.{Row, row, no_room, lowest, judged}
use Rattle.lines.specs.Hex.{placed}
use Rattle.script.specs.Text.{lines_of}
use Rattle.std.specs.declared.result.Result.{Result}
use Rattle.controller.specs.declared.Refusal.{Refusal}
use Rattle.salvaging.specs.declared.Salvaged.{Salvaged}
use Rattle.std.specs.Prelude.{Ok, Err}
use Rattle.salvaging.specs.Kept.{salvaged, text_of, report_of}

-- the cleaned text of a script
unfoldable pub cleaned : List ℕ → List ℕ
cleaned script = text_of (salvaged (lines_of script))

-- 12: a script over 32,768 bytes
abbrev pub too_long : List ℕ → Row
too_long script = row refusals.Script (ltb 32768 (length script))

-- 7: the text buffer is shorter than the cleaned text
abbrev pub text_short : List ℕ → List ℕ → Row
text_short script text = no_room (length (cleaned script)) (length text)

-- or the report shorter than the number of lines
abbrev pub report_short : List ℕ → List ℕ → Row
report_short script report = no_room (length (lines_of script)) (length report)

-- Refusals: 12 for a script over the size, then 7
unfoldable pub salvage_rows : List ℕ → List ℕ → List ℕ → List Row
salvage_rows script text report = too_long script ∷ text_short script text ∷ report_short script report ∷ []

-- the outcome: refusal number (0: none), the text's length, the number of lines, and both buffers afterwards
pub record Salvaging : Type 0 where
  pub number : ℕ
  pub length : ℕ
  pub lines : ℕ
  pub text : List ℕ
  pub report : List ℕ

abbrev pub salvaging : ℕ → ℕ → ℕ → List ℕ → List ℕ → Salvaging
salvaging number length lines text report = record { number = number; length = length; lines = lines; text = text; report = report }

-- both return two zeros and write nothing
abbrev pub unsalvaged : List ℕ → List ℕ → ℕ → Salvaging
unsalvaged text report number = salvaging number 0 0 text report

-- It returns the text's length and the number of lines, and bytes of both buffers beyond these stay
unfoldable pub salvage_done : List ℕ → List ℕ → List ℕ → Salvaging
salvage_done script text report =
    salvaging 0 (length (cleaned script)) (length (lines_of script)) (placed text 0 (cleaned script)) (placed report 0 (report_of (lines_of script)))

unfoldable pub salvage_means : List ℕ → List ℕ → List ℕ → Salvaging
salvage_means script text report =
    judged (lowest (salvage_rows script text report)) (unsalvaged text report) (salvage_done script text report)

-- the number and the two values of each case of an answer
abbrev pub salvaged_as : Result Salvaged Refusal → List ℕ → List ℕ → Salvaging
salvaged_as (Ok c) text report = salvaging 0 c.length c.lines text report
salvaged_as (Err why) text report = salvaging (number_of why) 0 0 text report
