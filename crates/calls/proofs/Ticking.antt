-- A tick that is judged: refused, of no running capture, or run. Assumes nothing.
use mathlib.Core.Path.{◌≡◌, sym, ap, ◌∙◌}
use mathlib.Core.Bool.{true, false}
use mathlib.Core.List.{List}
use Prim.Native.Nat.{ℕ, ◌<◌, ◌≤◌}
use lib.ListN.{length}
use Rattle.laws.proofs.Bools.{both_left}
use Rattle.lighting.specs.Light.{byte_at}
use Rattle.tiles.specs.Tiles.{Bytes}
use Rattle.timing.specs.Timing.{total_of}
use Rattle.timing.proofs.Lent.{ram_lent, frame_lent}
use Rattle.controller.specs.declared.Refusal.{Refusal}
use Rattle.std.specs.declared.result.Result.{Result}
use Rattle.std.specs.Prelude.{⊤, Ok, Err}
use Rattle.controller.specs.Outcome.{verdict_number, number_of}
use Rattle.controller.specs.Table.{lowest}
use Rattle.controller.proofs.Exists.{before_total}
use Rattle.controller.proofs.Refusals.{by_why, by_fits, fits_none}
use Rattle.capture.specs.Capture.{running, ticks, from}
use Rattle.capture.specs.Calls.{tick_rows, ticked, tick_means}
use Rattle.capture.proofs.Refusals.{tick_refuses, tick_fits}
use Rattle.capture.proofs.Ticks.{idle}
use Rattle.layout.specs.Layout.{is_record, decoded}
use Rattle.calls.specs.Aside.{effect, in_bytes}
use Rattle.calls.proofs.Bytes.{put_bytes_lem, same}

module _ (s ram store : List ℕ) (n : ℕ) (is : is_record s ≡ true) (v : Result ⊤ Refusal) (judged : verdict_number v ≡ lowest (tick_rows (decoded s) ram store)) where
  pub tick_refused : Bytes s → (why : Refusal) → v ≡ Err why → effect (number_of why) 0 s ram store ≡ in_bytes (tick_means (decoded s) ram store n)
  tick_refused bytes why e = put_bytes_lem (same s bytes is) (by_why (tick_refuses _ _ _ n) _ judged _ e)

  pub tick_idle : Bytes s → v ≡ (Ok _) → running (decoded s) ≡ false → effect 0 0 s ram store ≡ in_bytes (tick_means (decoded s) ram store n)
  tick_idle bytes e rests =
      put_bytes_lem (same s bytes is) (ap (ticked store) (sym (idle (byte_at store) _ n rests)) ∙ by_fits (tick_refuses _ _ _ n) _ judged e)

  -- what a run asks, and what it comes to
  pub tick_runs : v ≡ (Ok _) → running (decoded s) ≡ true
      → (is_record s ≡ true) × (running (decoded s) ≡ true) × ((decoded s).elapsed.0 < total_of (decoded s).taken) × (8192 ≤ length ram) × (length store ≡ 16384)
  tick_runs e runs =
      let f = tick_fits _ _ _ (fits_none _ _ judged e) in
      (is, runs, before_total (decoded s) f.exists (both_left (decoded s).held _ runs), (ram_lent _ f.ram_fits).least, frame_lent _ f.store_fits)

  pub tick_ran : v ≡ (Ok _) → in_bytes (ticked store (ticks (byte_at store) n (from (decoded s) ram))) ≡ in_bytes (tick_means (decoded s) ram store n)
  tick_ran e = ap in_bytes (by_fits (tick_refuses _ _ _ n) _ judged e)
