-- What the exported step of a session answers and leaves. Assumes nothing.
use Rattle.std.specs.Prelude.{not, List, [], ◌∷◌, ◌++◌, ℕ, length, drop}
use Rattle.controller.specs.declared.Refusal.TheVariants.{State}
use Rattle.controller.specs.Table.{Row, row, no_room, lowest, judged}
use Rattle.layout.specs.Layout.{encoded, is_record, decoded}
use Rattle.session.specs.Session.{Step, world, step_of}
use Rattle.answers.specs.Packed.{packed}

-- an answer, and the bytes left: state, RAM, frame store, image, and the buffer
pub record Stepped : Type 0 where
  pub answer : ℕ
  pub state : List ℕ
  pub ram : List ℕ
  pub store : List ℕ
  pub image : List ℕ
  pub out : List ℕ

abbrev pub stepped : ℕ → List ℕ → List ℕ → List ℕ → List ℕ → List ℕ → Stepped
stepped answer s ram store image out =
    record { answer = answer; state = s; ram = ram; store = store; image = image; out = out }

-- a step's answer, with its LF, is put at the start of the buffer, and its length is the value; bytes beyond stay
abbrev pub as_stepped : Step → List ℕ → Stepped
as_stepped s out =
    stepped (packed 0 (length s.text)) (encoded s.world.state) s.world.ram s.world.store s.world.image
    (s.text ++ drop (length s.text) out)

-- 1 for bytes that are no record, then 7 for a buffer of fewer than 11 bytes
unfoldable pub step_rows : List ℕ → List ℕ → List Row
step_rows s out = row State (not (is_record s)) ∷ no_room 11 (length out) ∷ []

-- one line, without its LF; nothing else is refused: a refusal of the line is its answer
unfoldable pub step_bytes : List ℕ → List ℕ → List ℕ → List ℕ → List ℕ → List ℕ → List ℕ → Stepped
step_bytes s rom ram store image line out =
    judged (lowest (step_rows s out))
    (λ n. stepped (packed n 0) s ram store image out)
    (as_stepped (step_of rom (world (decoded s) ram store image) line) out)
