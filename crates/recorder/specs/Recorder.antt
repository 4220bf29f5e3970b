-- What each exported function of script lines and scripts answers and leaves. Assumes nothing.
use Rattle.std.specs.Prelude.{List, ℕ, ◌+◌, ◌*◌}
use Rattle.lines.specs.declared.line.Frame.{Frame}
use Rattle.recording.specs.Record.{Recording, record_means}
use Rattle.salvaging.specs.Salvage.{Salvaging, salvage_means}
use Rattle.answers.specs.Packed.{packed}
use Rattle.answers.specs.Called.{Filled, filled}

-- a line that is recorded: the value is its length with the LF
abbrev pub as_line : Recording → Filled
as_line r = filled (packed r.number r.length) r.out

-- a frame written as a line, with an image row's bytes, into a lent buffer
unfoldable pub record_bytes : Frame → List ℕ → List ℕ → Filled
record_bytes f bytes out = as_line (record_means f bytes out)

-- an answer, and the bytes left of the two buffers that a salvage fills
pub record Reported : Type 0 where
  pub answer : ℕ
  pub text : List ℕ
  pub report : List ℕ

abbrev pub reported : ℕ → List ℕ → List ℕ → Reported
reported answer text report = record { answer = answer; text = text; report = report }

-- a script salvaged as a value: lines × 65,536 + the text's length
abbrev pub counts_of : Salvaging → ℕ
counts_of s = s.lines * 65536 + s.length

abbrev pub as_reported : Salvaging → Reported
as_reported s = reported (packed s.number (counts_of s)) s.text s.report

-- a script salvaged into lent buffers
unfoldable pub salvage_bytes : List ℕ → List ℕ → List ℕ → Reported
salvage_bytes script text report = as_reported (salvage_means script text report)
