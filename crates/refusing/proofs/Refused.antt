-- Each exported function's refusals: a number is answered exactly when its row of the table holds and no lower one does, and then nothing is
-- changed. Assumes nothing.
use mathlib.Core.Path.{◌≡◌, refl, sym, ap, ◌∙◌}
use mathlib.Core.Logic.{◌↔◌}
use mathlib.Core.Bool.{Bool, true, false, not, ◌&&◌}
use mathlib.Core.List.{List, [], ◌∷◌, ◌++◌}
use Prim.Native.Nat.{ℕ, suc, ◌%◌, ◌<◌, min}
use native.Mathlib.Omega.{arith}
use lib.Dec.{eqb, ltb}
use lib.ListN.{length, drop}
use Rattle.laws.specs.Pick.{pick}
use Rattle.laws.proofs.Bools.{either}
use Rattle.tiles.specs.Tiles.{Bytes}
use Rattle.lighting.specs.Taken.{setting_of}
use Rattle.lighting.specs.Light.{byte_at, lit_of}
use Rattle.tiles.specs.Picture.{picture_of}
use Rattle.matrix.specs.Matrix.{first_in}
use Rattle.controller.specs.declared.Refusal.TheVariants.{State}
use Rattle.controller.specs.State.{reset_state}
use Rattle.controller.specs.Outcome.{Outcome, refusal}
use Rattle.controller.specs.Table.{Row, row, no_state, lowest}
use Rattle.cartridge.specs.Bus.{byte_written}
use Rattle.capture.specs.Capture.{ticks, from}
use Rattle.cartridge.specs.Calls.{read_rows, byte_of, write_rows, wrote}
use Rattle.capture.specs.Calls.{tick_rows, ticked}
use Rattle.controller.specs.Inspect.{named, inspect_rows}
use Rattle.controller.specs.Picture.{picture_rows}
use Rattle.controller.proofs.Refusals.{Refuses, Given, refuses, in_outcome, rising_from, given, gives, inspect_refuses, picture_refuses}
use Rattle.cartridge.proofs.Refusals.{read_refuses, write_refuses}
use Rattle.capture.proofs.Refusals.{tick_refuses}
use Rattle.lines.specs.declared.line.Frame.{Frame}
use Rattle.recording.specs.Record.{line_of, cant_say, record_rows, filled as line-filled}
use Rattle.recording.proofs.Recorded.{record_refuses}
use Rattle.plates.specs.Grey.{plate_of, export_rows}
use Rattle.shades.specs.Shades.{shades_of, shades_rows}
use Rattle.placing.specs.Placing.{place_rows, placed}
use Rattle.plates.proofs.Exports.{export_refuses}
use Rattle.shades.proofs.Outputs.{shades_refuses}
use Rattle.placing.proofs.Placed.{place_refuses}
use Rattle.judging.specs.Judging.{afresh_of, judged_by, judge_rows}
use Rattle.judging.proofs.Outcomes.{judge_refuses}
use Rattle.readings.specs.Readings.{readings_of, reading_rows}
use Rattle.readings.proofs.Values.{readings_refuse}
use Rattle.photos.specs.Photo.{image_of, import_rows}
use Rattle.photos.proofs.Imports.{import_refuses}
use Rattle.desk.specs.Choice.{choose_rows, chosen}
use Rattle.desk.proofs.Choices.{choose_refuses}
use Rattle.session.specs.Session.{World, world}
use Rattle.script.specs.Text.{lines_of}
use Rattle.salvaging.specs.Salvage.{cleaned, salvage_rows, unsalvaged, salvage_done, salvage_means}
use Rattle.salvaging.proofs.Outcomes.{in_salvaging}
use Rattle.layout.specs.Layout.{encoded, is_record, decoded}
use Rattle.layout.proofs.Inverse.{encode_decode}
use Rattle.answers.specs.Packed.{packed, number_in}
use Rattle.answers.specs.Called.{Called, called, as_bytes, unread, filled, as_written}
use Rattle.embed.specs.Exports.{reset_bytes, read_bytes, write_bytes, tick_bytes, plain_in, exposure_in, choose_bytes, inspected, inspect_bytes}
use Rattle.images.specs.Images.{as_drawn, picture_bytes, export_bytes, shades_bytes, place_bytes, readings_bytes, as_read, import_bytes}
use Rattle.images.specs.Judges.{as_judged, judge_bytes}
use Rattle.recorder.specs.Recorder.{as_line, record_bytes, as_reported, salvage_bytes}
use Rattle.events.specs.Book.{noted, written, lines}
use Rattle.auditing.specs.Summary.{summary_of}
use Rattle.pieces.specs.Pieces.{piece_audited, end_audited}
use Rattle.changes.specs.Changes.{ends, change_text}
use Rattle.ledger.specs.Audits.{as_standing, audit_rows, lent, audit_bytes, end_bytes, said, changed_rows, changed_bytes, summary_rows, summary_bytes}
use Rattle.embed.proofs.Cases.{read_unread, read_done, write_unread, write_done, tick_unread, tick_done, choose_unread, choose_done, inspect_unread, inspect_done}
use Rattle.images.proofs.Cases.{place_unread, place_done, readings_unread, readings_done}
use Rattle.answers.proofs.Only.{Says, packed_says}
use Rattle.embed.proofs.Only.{read_says, write_says, tick_says, choose_says, inspect_says}
use Rattle.recorder.proofs.Only.{record_says, salvage_says}
use Rattle.images.proofs.Judges.{judge_says}
use Rattle.ledger.proofs.Audits.{audit_refuses, end_refuses, changed_refuses, summary_refuses}
use Rattle.images.proofs.Only.{export_says, shades_says, place_says, readings_says}
use Rattle.refusing.specs.Tables.{in_called, in_filled, in_reported, in_auditing, in_noting, leaves, leaves_buffer, leaves_both, leaves_audit, leaves_noted, bad_state, reset_table, read_table, write_table, tick_table, inspect_table, choose_table, place_table, readings_table, over, salvage_table}

-- a call's refusals in the table's own words: a number is answered exactly when its row holds and no lower one does, and then the outcome is
-- that refusal
pub exactly : {O : Type 0} {rows : List Row} {number : O → ℕ} {refused : ℕ → O} {o done : O} → Refuses rows number refused o done
    → (k : ℕ) → ((number o ≡ suc k) ↔ Given rows (suc k)) × (Given rows (suc k) → o ≡ refused (suc k))
exactly r k = (r.exact k, λ g. r.kept k (sym r.numbered ∙ (r.exact k).1 g))

-- ---- a call's refusals, carried to what its caller is handed

pub carried : {O B : Type 0} {rows : List Row} {number : O → ℕ} {refused : ℕ → O} {o done : O} → Refuses rows number refused o done
    → (handed : O → B) (answered : B → ℕ) (left : ℕ → B) → ((k : ℕ) → handed (refused (suc k)) ≡ left (suc k)) → answered (handed o) ≡ number o
    → Refuses rows answered left (handed o) (handed done)
carried r handed answered left same says = record {
  numbered = says ∙ r.numbered;
  kept = λ k h. ap handed (r.kept k h) ∙ same k;
  does = λ h. ap handed (r.does h);
  exact = λ k. (λ e. (r.exact k).0 (sym says ∙ e), λ g. says ∙ (r.exact k).1 g);
}

-- bytes that are no record: refused by 1
no_record_lem : {B : Type 0} (rest : List Row) (answered : B → ℕ) (left : ℕ → B) (b done : B) → b ≡ left 1 → answered b ≡ 1 → rising_from 1 rest ≡ true
    → Refuses (row State true ∷ rest) answered left b done
unfolding lowest rising_from
no_record_lem rest answered left b done e one up =
    let rows : List Row = row State true ∷ rest in
    record {
      numbered = one;
      kept = λ k h. e ∙ ap left h;
      does = λ h. absurd (omega (arith, h));
      exact = λ k. (λ h. given 0 rows up k (sym one ∙ h), λ g. one ∙ gives rows up (suc k) g);
    }

-- the number in the answer of a refusal
packed_number : (n : ℕ) → number_in (packed n 0) ≡ n
packed_number n = (packed_says n 0 (omega arith)).number

module _ (s : List ℕ) where
  -- over the bytes of a state the same, with 1 where they are no record
  pub over_record : {O B : Type 0} {rest : List Row} {number : O → ℕ} {refused : ℕ → O} {o done : O} → Refuses (no_state (decoded s) ∷ rest) number refused o done
      → (handed : O → B) (answered : B → ℕ) (left : ℕ → B) {b : B} → (is_record s ≡ false → b ≡ left 1) → (is_record s ≡ true → b ≡ handed o)
      → (is_record s ≡ true → (n : ℕ) → handed (refused n) ≡ left n) → answered (left 1) ≡ 1 → (is_record s ≡ true → answered b ≡ number o) → rising_from 1 rest ≡ true
      → Refuses (bad_state s ∷ rest) answered left b (handed done)
  over_record {O} {B} {rest} {number} {refused} {o} {done} r handed answered left {b} un read same one says up =
      either (is_record s)
      (λ h. rw (h, read h) (carried r handed answered left (λ k. same h (suc k)) (ap answered (sym (read h)) ∙ says h)))
      (λ h. rw h (no_record_lem rest answered left b (handed done) (un h) (ap answered (un h) ∙ one) up))

  -- for those that hand back state bytes, RAM and frame store
  called_refused : (ram store : List ℕ) → Bytes s → {rest : List Row} {o done : Outcome} {b : Called} → Refuses (no_state (decoded s) ∷ rest) in_outcome (refusal (decoded s) ram store) o done
      → (is_record s ≡ false → b ≡ unread s ram store) → (is_record s ≡ true → b ≡ as_bytes o) → (is_record s ≡ true → Says b.answer o.number o.value) → rising_from 1 rest ≡ true
      → Refuses (bad_state s ∷ rest) in_called (leaves s ram store) b (as_bytes done)
  called_refused ram store bytes r un read says =
      over_record r as_bytes in_called (leaves s ram store) un read
      (λ h n. ap (λ t. called (packed n 0) t ram store) (encode_decode s bytes h)) (packed_number 1) (λ h. (says h).number)

-- ---- each function

pub reset_refused : (s : List ℕ) → Refuses (reset_table s) in_called (leaves s [] []) (reset_bytes s) (called (packed 0 0) (encoded reset_state) [] [])
unfolding reset_table reset_bytes lowest rising_from
reset_refused s = by_length (eqb (length s) 121)
  where
    by_length : (x : Bool) → Refuses (row State (not x) ∷ []) in_called (leaves s [] []) (pick x (called (packed 0 0) (encoded reset_state) [] []) (unread s [] [])) (called (packed 0 0) (encoded reset_state) [] [])
    by_length true = refuses (row State false ∷ []) in_called (leaves s [] []) _ packed_number (packed_number 0) refl
    by_length false = refuses (row State true ∷ []) in_called (leaves s [] []) _ packed_number (packed_number 0) refl

pub read_refused : (s rom ram : List ℕ) (a : ℕ) → Bytes s → Bytes rom → Bytes ram
    → Refuses (read_table s rom ram a) in_called (leaves s ram []) (read_bytes s rom ram a) (as_bytes (byte_of (decoded s) rom ram a))
unfolding read_table read_rows rising_from
read_refused s rom ram a bytes hr hm =
    called_refused s ram [] bytes (read_refuses (decoded s) rom ram a) (read_unread s rom ram a) (read_done s rom ram a) (read_says s rom ram a hr hm) refl

pub write_refused : (s ram store image : List ℕ) (a v : ℕ) → Bytes s
    → Refuses (write_table s ram store image a) in_called (leaves s ram store) (write_bytes s ram store image a v) (as_bytes (wrote (byte_written (decoded s) ram store image a v)))
unfolding write_table write_rows rising_from
write_refused s ram store image a v bytes =
    called_refused s ram store bytes (write_refuses (decoded s) ram store image a v) (write_unread s ram store image a v) (write_done s ram store image a v) (write_says s ram store image a v) refl

pub tick_refused : (s ram store : List ℕ) (n : ℕ) → Bytes s → n < 4294967296
    → Refuses (tick_table s ram store) in_called (leaves s ram store) (tick_bytes s ram store n) (as_bytes (ticked store (ticks (byte_at store) n (from (decoded s) ram))))
unfolding tick_table tick_rows rising_from
tick_refused s ram store n bytes l =
    called_refused s ram store bytes (tick_refuses (decoded s) ram store n) (tick_unread s ram store n) (tick_done s ram store n) (tick_says s ram store n l) refl

pub choose_refused : (s : List ℕ) (light level plain exposure : ℕ) → Bytes s
    → Refuses (choose_table s light level) in_called (leaves s [] []) (choose_bytes s light level plain exposure) (as_bytes (chosen (decoded s) light level (plain_in plain) (exposure_in exposure)))
unfolding choose_table choose_rows rising_from
choose_refused s light level plain exposure bytes =
    called_refused s [] [] bytes (choose_refuses (decoded s) light level (plain_in plain) (exposure_in exposure)) (choose_unread s light level plain exposure) (choose_done s light level plain exposure) (choose_says s light level plain exposure) refl

pub place_refused : (s ram file : List ℕ) → Bytes s
    → Refuses (place_table s ram file) in_called (leaves s ram []) (place_bytes s ram file) (as_bytes (placed (decoded s) ram file))
unfolding place_table place_rows rising_from
place_refused s ram file bytes =
    called_refused s ram [] bytes (place_refuses (decoded s) ram file) (place_unread s ram file) (place_done s ram file) (place_says s ram file) refl

pub inspect_refused : (s : List ℕ) → Refuses (inspect_table s) number_in (λ n. packed n 0) (inspect_bytes s) (inspected (named (first_in (decoded s).registers 0 16)))
unfolding inspect_table inspect_rows rising_from
inspect_refused s =
    over_record s (inspect_refuses (decoded s)) inspected number_in (λ n. packed n 0) (inspect_unread s) (inspect_done s) (λ h n. refl) (packed_number 1) (λ h. (inspect_says s h).number) refl

pub readings_refused : (s store out : List ℕ)
    → Refuses (readings_table s store out) in_filled (leaves_buffer out) (readings_bytes s store out) (filled (packed 0 14351) (readings_of (byte_at store) (decoded s).taken ++ drop 14351 out))
unfolding readings_table reading_rows rising_from
readings_refused s store out =
    over_record s (readings_refuse (decoded s) store out) as_written in_filled (leaves_buffer out) (readings_unread s store out) (readings_done s store out) (λ h n. refl) (packed_number 1) (λ h. (readings_says s store out h).number) refl

pub picture_refused : (frame registers picture : List ℕ)
    → Refuses (picture_rows frame) in_filled (leaves_buffer picture) (picture_bytes frame registers picture) (filled (packed 0 0) (picture_of (lit_of frame (setting_of registers)) registers))
unfolding picture_bytes
picture_refused frame registers picture =
    carried (picture_refuses frame registers picture) as_drawn in_filled (leaves_buffer picture) (λ k. refl) (packed_number _)

pub export_refused : (ram out : List ℕ) → Refuses (export_rows ram out) in_filled (leaves_buffer out) (export_bytes ram out) (filled (packed 0 14351) (plate_of ram ++ drop 14351 out))
unfolding export_bytes
export_refused ram out = carried (export_refuses ram out) as_written in_filled (leaves_buffer out) (λ k. refl) (export_says ram out).number

pub shades_refused : (ram out : List ℕ) → Refuses (shades_rows ram out) in_filled (leaves_buffer out) (shades_bytes ram out) (filled (packed 0 14336) (shades_of ram ++ drop 14336 out))
unfolding shades_bytes
shades_refused ram out = carried (shades_refuses ram out) as_written in_filled (leaves_buffer out) (λ k. refl) (shades_says ram out).number

pub judge_refused : (plate frame registers rows : List ℕ)
    → Refuses (judge_rows frame rows) in_filled (leaves_buffer rows) (judge_bytes plate frame registers rows) (as_judged (judged_by plate (afresh_of frame registers) rows))
unfolding judge_bytes
judge_refused plate frame registers rows =
    carried (judge_refuses plate frame registers rows) as_judged in_filled (leaves_buffer rows) (λ k. refl) (judge_says plate frame registers rows).number

pub import_refused : (file image : List ℕ) → Refuses (import_rows file image) in_filled (leaves_buffer image) (import_bytes file image) (filled (packed 0 0) (image_of file))
unfolding import_bytes
import_refused file image = carried (import_refuses file image) as_read in_filled (leaves_buffer image) (λ k. refl) (packed_number _)

-- each of the five that record, by its frame
pub record_refused : (f : Frame) (bytes out : List ℕ)
    → Refuses (record_rows (cant_say f bytes) (line_of f bytes) out) in_filled (leaves_buffer out) (record_bytes f bytes out) (as_line (line-filled (line_of f bytes) out))
unfolding record_bytes
record_refused f bytes out = carried (record_refuses f bytes out) as_line in_filled (leaves_buffer out) (λ k. refl) (record_says f bytes out).number

-- ---- a salvage: 12 goes before 7, so by their numbers 7 is given where the script is not over the size

module _ (script text report : List ℕ) where
  same_lowest : lowest (salvage_rows script text report) ≡ lowest (salvage_table script text report)
  unfolding salvage_rows salvage_table lowest
  same_lowest = by_tests (over script) (ltb (length text) (length (cleaned script))) (ltb (length report) (length (lines_of script)))
    where
      by_tests : (x y z : Bool) → ◌≡◌ {A = ℕ} (pick x 12 (pick y 7 (pick z 7 0))) (pick (not x && y) 7 (pick (not x && z) 7 (pick x 12 0)))
      by_tests true y z = refl
      by_tests false true z = refl
      by_tests false false true = refl
      by_tests false false false = refl

  -- of the library
  pub salvage_refuses : Refuses (salvage_table script text report) in_salvaging (unsalvaged text report) (salvage_means script text report) (salvage_done script text report)
  unfolding salvage_means salvage_done salvage_table rising_from
  salvage_refuses =
      rw same_lowest (refuses (salvage_table script text report) in_salvaging (unsalvaged text report) (salvage_done script text report) (λ n. refl) refl refl)

  -- and of the exported function
  pub salvage_refused : Refuses (salvage_table script text report) in_reported (leaves_both text report) (salvage_bytes script text report) (as_reported (salvage_done script text report))
  unfolding salvage_bytes
  salvage_refused = carried salvage_refuses as_reported in_reported (leaves_both text report) (λ k. refl) (salvage_says script text report).number

-- ---- an audit: what its tables say of the sizes, and what is done where no row holds

module _ (s rom ram store image book line out : List ℕ) where
  abbrev session : World
  session = world (decoded s) ram store image

  pub audit_refused : (piece : List ℕ)
      → Refuses (audit_rows s book line out) in_auditing (leaves_audit s ram store image book line out) (audit_bytes s rom ram store image book line piece out)
      (let a = piece_audited rom session book line out (lent piece) in as_standing a.used a)
  audit_refused piece = audit_refuses s rom ram store image book line out piece

  pub audit_end_refused : Refuses (audit_rows s book line out) in_auditing (leaves_audit s ram store image book line out) (end_bytes s rom ram store image book line out)
      (let a = end_audited rom session book line out in as_standing (noted a.book written % 4294967296) a)
  audit_end_refused = end_refuses s rom ram store image book line out

pub audit_changed_refused : (book first ram : List ℕ) (from : ℕ) (out : List ℕ)
    → Refuses (changed_rows book first ram out) in_noting (leaves_noted book out) (changed_bytes book first ram from out)
    (said (ends first ram (min from (length ram)) % 4294967296) book out (change_text (noted book lines) first ram (min from (length ram))))
audit_changed_refused book first ram from out = changed_refuses book first ram from out

pub audit_summary_refused : (book s out : List ℕ)
    → Refuses (summary_rows book s out) in_noting (leaves_noted book out) (summary_bytes book s out)
    (let text = summary_of book (decoded s).held in said (length text % 4294967296) book out text)
audit_summary_refused book s out = summary_refuses book s out
