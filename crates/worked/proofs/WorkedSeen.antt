-- The end of the worked history is seen, and all premises of `end_seen_lem` are met. Assumes nothing.
use mathlib.Core.Path.{◌≡◌, refl, sym, ◌∙◌}
use mathlib.Core.Bool.{true}
use mathlib.Core.List.{List, [], ◌∷◌, ◌++◌}
use Rattle.tiles.specs.Tiles.{area_of}
use Rattle.history.specs.History.{Call, fresh, after}
use Rattle.history.specs.Seen.{end_seen, AreaLeft, Start, world_after, afresh_of, Ended}
use Rattle.history.proofs.Track.{follow}
use Rattle.worked.proofs.Worked.{ram, store, image, before, start, between, last, premises, ram_bytes}
use Rattle.history.proofs.Observed.{starts_seen_lem, ends_seen_lem, goes_seen, landed_seen_lem, end_seen_lem, one_left}

-- the calls up to the last
abbrev pub so_far : List Call
so_far = before ++ (start ∷ between)

-- Worked end: a capture is held before the last call, and after it none is held
pub worked_seen : end_seen (after (fresh ram store) so_far) last ≡ true
unfolding follow
worked_seen = sym (ends_seen_lem ram store so_far last) ∙ premises.whole.over

pub worked_end : Ended ram store so_far last
worked_end = end_seen_lem ram store so_far last worked_seen

-- its start, since which no bus write landed in the area
abbrev pub worked_start : Start ram store so_far
worked_start = record {
  before = before;
  image = image;
  address = 0xA000;
  byte = 0x03;
  since = between;
  whole = refl;
  begins = sym (starts_seen_lem ram store before start) ∙ premises.whole.held.begins;
  through = goes_seen ram store before start between premises.whole.held;
}

worked_left : AreaLeft (world_after worked_start) between
worked_left p here = sym (landed_seen_lem ram store before start between p) ∙ premises.untouched p here

-- Worked plate: so the area is the picture afresh
pub worked_plate : area_of (after (fresh ram store) (so_far ++ (last ∷ []))).ram ≡ afresh_of worked_end.start
worked_plate = worked_end.picture ram_bytes premises.bytes (one_left (worked_end.one worked_start) worked_left)
