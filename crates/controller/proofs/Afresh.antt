-- The picture worked out afresh: no second outcome fits. Assumes nothing.
use Rattle.std.proofs.Common.{◌≡◌, ℕ, List, []}
use Rattle.std.specs.Prelude.{⊤}
use Rattle.std.specs.declared.result.Result.{Result}
use Rattle.controller.specs.declared.Refusal.{Refusal}
use Rattle.controller.specs.declared.Done.{Done}
use Rattle.controller.specs.State.{reset_state}
use Rattle.controller.specs.Outcome.{outcome, write_number}
use Rattle.controller.specs.Picture.{afresh}
use Rattle.controller.proofs.Only.{only_write}

-- one answer, and one list of bytes
pub only_picture : (r s : Result ⊤ Refusal) (bytes bytes' : List ℕ) → afresh (write_number r) bytes ≡ afresh (write_number s) bytes' → (r ≡ s) × (bytes ≡ bytes')
only_picture r s bytes bytes' e =
    let o = only_write (done r) (done s) bytes bytes' [] [] (λ i. outcome (e i).number 0 reset_state (e i).bytes []) in
    (λ i. (o.0 i).answer, o.1)
  where
    done : Result ⊤ Refusal → Done ⊤
    done a = record { state = reset_state; answer = a }
