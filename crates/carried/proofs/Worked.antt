-- The worked history as exported calls: refused ones are among them, and all premises of `end_shown_lem` are met. Assumes nothing.
use mathlib.Core.Path.{◌≡◌, refl, sym, ◌∙◌}
use mathlib.Core.Bool.{true}
use mathlib.Core.List.{List, [], ◌∷◌, ◌++◌}
use Rattle.tiles.specs.Tiles.{area_of}
use Rattle.history.specs.Seen.{afresh}
use Rattle.worked.proofs.Worked.{ram, store, image, other, file, premises, ram_bytes}
use Rattle.worked.proofs.Worked as history
use Rattle.history.proofs.Observed.{goes_seen, landed_seen_lem}
use Rattle.worked.proofs.WorkedSeen.{worked_seen}
use Rattle.carried.specs.Exported.{Export, read, write, tick, inspect, place, call_of, at_reset, hands, hands_on, fits, all_fit}
use Rattle.carried.specs.Shown.{start_shown, end_shown, held_on, AreaKept, Begun, bytes_after, registers_in, Finished}
use Rattle.carried.proofs.Carried.{starts_shown, ends_shown, held_since, landed_since, end_shown_lem, one_kept}

abbrev pub before : List Export
before = place file ∷ write image 0x4000 0x10 ∷ write image 0xA003 0x10 ∷ []

abbrev pub start : Export
start = write image 0xA000 0x03

-- the second placing and the write to 8000h are refused
abbrev pub between : List Export
between =
    tick 3000
    ∷ write other 0xA000 0x02
    ∷ tick 500
    ∷ place file
    ∷ write other 0xA003 0xFF
    ∷ write other 0x4000 0x05
    ∷ write other 0x0000 0x0A
    ∷ write other 0xB000 0x5A
    ∷ read [] 0xA100
    ∷ inspect
    ∷ write other 0x8000 0xFF
    ∷ write other 0x4000 0x10
    ∷ write other 0xA000 0x03
    ∷ []

abbrev pub last : Export
last = tick 40000

abbrev pub so_far : List Export
so_far = before ++ (start ∷ between)

-- the widths fit
so_far_fits : all_fit so_far ≡ true
unfolding all_fit fits
so_far_fits = refl

before_fits : all_fit before ≡ true
unfolding all_fit fits
before_fits = refl

all_fits : all_fit (so_far ++ (last ∷ [])) ≡ true
unfolding all_fit fits
all_fits = refl

-- Worked end: byte 4 of the state is 1 before the last call and 0 after it
pub worked_shown : end_shown (hands_on (at_reset ram store) so_far) last ≡ true
unfolding call_of
worked_shown = ends_shown ram store so_far so_far_fits last (unfold fits in refl) ∙ worked_seen

pub worked_finished : Finished ram store so_far last
worked_finished = end_shown_lem ram store so_far last all_fits worked_shown

-- its start, since which no bus write landed in the area
worked_begins : start_shown (hands_on (at_reset ram store) before) start ≡ true
unfolding call_of
worked_begins = starts_shown ram store before before_fits start (unfold fits in refl) ∙ premises.whole.held.begins

worked_through : held_on (hands (hands_on (at_reset ram store) before) start) between ≡ true
unfolding call_of
worked_through = held_since ram store before start between so_far_fits ∙ goes_seen ram store history.before history.start history.between premises.whole.held

abbrev worked_begun : Begun ram store so_far
worked_begun = record { before = before; image = image; address = 0xA000; byte = 0x03; since = between; whole = refl; begins = worked_begins; through = worked_through }

worked_kept : AreaKept (bytes_after worked_begun) between
unfolding call_of
worked_kept p here =
    landed_since ram store before start between so_far_fits p
    ∙ sym (landed_seen_lem ram store history.before history.start history.between p)
    ∙ premises.untouched p here

-- Worked plate: so the area is the picture afresh
pub worked_plate : area_of (hands_on (at_reset ram store) (so_far ++ (last ∷ []))).ram ≡ afresh worked_finished.start.image (registers_in worked_finished.start)
worked_plate = worked_finished.picture ram_bytes (one_kept (worked_finished.one worked_begun) worked_kept)
