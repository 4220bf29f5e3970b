-- No second answer fits: the answers of script lines and scripts. Assumes nothing.
use mathlib.Core.Path.{◌≡◌}
use mathlib.Core.List.{List}
use Prim.Native.Nat.{ℕ, ◌/◌, ◌%◌}
use native.Mathlib.Omega.{arith}
use Rattle.lines.specs.declared.line.Frame.{Frame}
use Rattle.recording.specs.Record.{record_means}
use Rattle.recording.proofs.Recorded.{record_most}
use Rattle.salvaging.specs.Salvage.{salvage_means}
use Rattle.recorder.specs.Recorder.{record_bytes, salvage_bytes, counts_of}
use Rattle.recorder.proofs.Cases.{salvage_most}
use Rattle.answers.proofs.Only.{Says, packed_says}

-- a frame written as a line: the number and the length
pub record_says : (f : Frame) (bytes out : List ℕ) → Says (record_bytes f bytes out).answer (record_means f bytes out).number (record_means f bytes out).length
unfolding record_bytes
record_says f bytes out = packed_says _ _ (omega (arith, record_most f bytes out))

-- a salvage's answer: at most 32,768 lines and 32,769 bytes are a value below 2^32
pub salvage_says : (script text report : List ℕ) → Says (salvage_bytes script text report).answer (salvage_means script text report).number (counts_of (salvage_means script text report))
unfolding salvage_bytes
salvage_says script text report =
    let most = salvage_most script text report in
    packed_says _ _ (omega (arith, most.lines, most.length))

-- and the value gives back the number of lines and the text's length
pub salvage_counts : (script text report : List ℕ)
    → (counts_of (salvage_means script text report) / 65536 ≡ (salvage_means script text report).lines)
    × (counts_of (salvage_means script text report) % 65536 ≡ (salvage_means script text report).length)
salvage_counts script text report =
    let most = salvage_most script text report in
    (omega (arith, most.length), omega (arith, most.length))
