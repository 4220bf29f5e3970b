-- Each exported function's meaning, case by case: bytes that are no record, a refusal, and what is done. Assumes nothing.
use mathlib.Core.Path.{◌≡◌, sym, ap, ◌∙◌}
use mathlib.Core.Bool.{true, false}
use mathlib.Core.List.{List, []}
use Prim.Native.Nat.{ℕ}
use lib.Dec.{eqb}
use lib.ListN.{length}
use Rattle.controller.specs.declared.Controller.{Controller}
use Rattle.controller.specs.declared.Refusal.{Refusal}
use Rattle.std.specs.declared.result.Result.{Result}
use Rattle.std.specs.declared.option.Option.{Option}
use Rattle.std.specs.Prelude.{⊤, Ok, Err}
use Rattle.controller.specs.declared.Element.{Element}
use Rattle.controller.specs.declared.Done.{Done}
use Rattle.controller.specs.State.{reset_state}
use Rattle.tiles.specs.Tiles.{Bytes}
use Rattle.controller.specs.Outcome.{Outcome, outcome, number_of, write_number, write_outcome, inspection}
use Rattle.cartridge.specs.Calls.{read_means, write_means}
use Rattle.capture.specs.Calls.{tick_means}
use Rattle.controller.specs.Inspect.{inspect_means}
use Rattle.desk.specs.Choice.{choose_means}
use Rattle.desk.proofs.Choices.{choose_refuses}
use Rattle.layout.specs.Layout.{encoded, is_record, decoded}
use Rattle.calls.specs.Aside.{Effect, effect}
use Rattle.answers.specs.Packed.{packed}
use Rattle.answers.specs.Called.{Called, called, as_bytes, no_record, unread}
use Rattle.embed.specs.Exports.{reset_bytes, read_bytes, write_bytes, tick_bytes, inspected, inspect_bytes, plain_in, exposure_in, choose_bytes}
use Rattle.answers.proofs.Kept.{unchanged}

-- an effect of a call over bytes, with its number and value packed
abbrev packed_in : Effect → Called
packed_in x = called (packed x.number x.value) x.state x.ram x.store

pub as_called : {n v p : ℕ} {t ram store : List ℕ} {x : Effect} {b : Called} → effect n v t ram store ≡ x → p ≡ packed n v → b ≡ packed_in x → called p t ram store ≡ b
as_called {n} {v} {p} {t} {ram} {store} e q d = (λ i. called (q i) t ram store) ∙ ap packed_in e ∙ sym d

-- ---- reset

pub reset_short : (s : List ℕ) → eqb (length s) 121 ≡ false → reset_bytes s ≡ unread s [] []
unfolding reset_bytes
reset_short s h = simp h

pub reset_done : (s : List ℕ) → eqb (length s) 121 ≡ true → reset_bytes s ≡ called (packed 0 0) (encoded reset_state) [] []
unfolding reset_bytes
reset_done s h = simp h

-- ---- read

module _ (s rom ram : List ℕ) (a : ℕ) where
  pub read_unread : is_record s ≡ false → read_bytes s rom ram a ≡ unread s ram []
  unfolding read_bytes
  read_unread h = simp h

  pub read_done : is_record s ≡ true → read_bytes s rom ram a ≡ as_bytes (read_means (decoded s) rom ram a)
  unfolding read_bytes
  read_done h = simp h

-- ---- write

module _ (s ram store image : List ℕ) (a v : ℕ) where
  pub write_unread : is_record s ≡ false → write_bytes s ram store image a v ≡ unread s ram store
  unfolding write_bytes
  write_unread h = simp h

  pub write_done : is_record s ≡ true → write_bytes s ram store image a v ≡ as_bytes (write_means (decoded s) ram store image a v)
  unfolding write_bytes
  write_done h = simp h

-- ---- tick

module _ (s ram store : List ℕ) (n : ℕ) where
  pub tick_unread : is_record s ≡ false → tick_bytes s ram store n ≡ unread s ram store
  unfolding tick_bytes
  tick_unread h = simp h

  pub tick_done : is_record s ≡ true → tick_bytes s ram store n ≡ as_bytes (tick_means (decoded s) ram store n)
  unfolding tick_bytes
  tick_done h = simp h

-- ---- choice

module _ (s : List ℕ) (light level plain exposure : ℕ) where
  abbrev choice : Controller → Outcome
  choice c = choose_means c light level (plain_in plain) (exposure_in exposure)

  pub choose_unread : is_record s ≡ false → choose_bytes s light level plain exposure ≡ unread s [] []
  unfolding choose_bytes
  choose_unread h = simp h

  pub choose_done : is_record s ≡ true → choose_bytes s light level plain exposure ≡ as_bytes (choice (decoded s))
  unfolding choose_bytes
  choose_done h = simp h

  module _ (h : is_record s ≡ true) (d : Controller) (x : Option ℕ) (r : Done ⊤) (e : d ≡ decoded s) (named : x ≡ exposure_in exposure) (means : write_outcome r [] [] ≡ choose_means d light level (plain_in plain) x) where
    choose_is : (y : Result ⊤ Refusal) → r.answer ≡ y → outcome (write_number y) 0 r.state [] [] ≡ choice (decoded s)
    choose_is y f =
        ap (λ z. outcome (write_number z) 0 r.state [] []) (sym f) ∙ means ∙ ap (λ z. choose_means d light level (plain_in plain) z) named ∙ ap choice e

    pub choose_chose : {y : ⊤} → r.answer ≡ Ok y → (p : ℕ) (t : List ℕ) → p ≡ packed 0 0 → t ≡ encoded r.state → called p t [] [] ≡ choose_bytes s light level plain exposure
    choose_chose {y} f p t q g = (λ i. called (q i) (g i) [] []) ∙ ap as_bytes (choose_is (Ok y) f) ∙ sym (choose_done h)

    pub choose_refusal : Bytes s → (why : Refusal) → r.answer ≡ Err why → (p : ℕ) → p ≡ packed (number_of why) 0 → called p s [] [] ≡ choose_bytes s light level plain exposure
    choose_refusal bytes why f p q =
        (λ i. called (q i) s [] [])
        ∙ unchanged s [] [] bytes h (choose_refuses (decoded s) light level (plain_in plain) (exposure_in exposure)) why r.state [] [] (choose_is (Err why) f)
        ∙ sym (choose_done h)

-- ---- inspection

module _ (s : List ℕ) where
  pub inspect_unread : is_record s ≡ false → inspect_bytes s ≡ no_record
  unfolding inspect_bytes
  inspect_unread h = simp h

  pub inspect_done : is_record s ≡ true → inspect_bytes s ≡ inspected (inspect_means (decoded s))
  unfolding inspect_bytes
  inspect_done h = simp h

  module _ (h : is_record s ≡ true) (d : Controller) (r : Result (Option Element) Refusal) (e : d ≡ decoded s) (means : inspection r ≡ inspect_means d) where
    -- what the code found, packed, is the meaning's answer
    pub inspect_found : (x : Result (Option Element) Refusal) → r ≡ x → (p : ℕ) → p ≡ inspected (inspection x) → p ≡ inspect_bytes s
    inspect_found x f p q =
        q ∙ ap (λ y. inspected (inspection y)) (sym f) ∙ ap inspected means ∙ ap (λ c. inspected (inspect_means c)) e ∙ sym (inspect_done h)
