-- No second outcome fits: an answer is known from the paper's number and values, for each call. Assumes nothing.
use Rattle.std.proofs.Common.{◌≡◌, ℕ, zero, suc, Bool, true, false, List, sym, refl, ap, ◌∙◌, arith}
use Rattle.controller.specs.declared.Refusal.{Refusal}
use Rattle.controller.specs.declared.Refusal.TheVariants.{State, Rom, Ram, Frame, Address, Line, Room, File, Choice, Held, NotHeld, Script}
use Rattle.controller.specs.declared.Element.{Element}
use Rattle.std.specs.Prelude.{⊤, Some, None, Ok, Err}
use Rattle.std.specs.declared.option.Option.{Option}
use Rattle.std.specs.declared.result.Result.{Result}
use Rattle.timing.specs.declared.Cycles.{Cycles}
use Rattle.controller.specs.declared.Done.{Done}
use Rattle.controller.specs.Outcome.{number_of, read_number, read_value, read_outcome, write_number, write_outcome, tick_number, tick_value, tick_outcome, inspection}

-- the refusal of a number
refusal_of : ℕ → Refusal
refusal_of zero = Room
refusal_of (suc zero) = State
refusal_of (suc (suc zero)) = Rom
refusal_of (suc (suc (suc zero))) = Ram
refusal_of (suc (suc (suc (suc zero)))) = Frame
refusal_of (suc (suc (suc (suc (suc zero))))) = Address
refusal_of (suc (suc (suc (suc (suc (suc zero)))))) = Line
refusal_of (suc (suc (suc (suc (suc (suc (suc zero))))))) = Room
refusal_of (suc (suc (suc (suc (suc (suc (suc (suc zero)))))))) = File
refusal_of (suc (suc (suc (suc (suc (suc (suc (suc (suc zero))))))))) = Choice
refusal_of (suc (suc (suc (suc (suc (suc (suc (suc (suc (suc zero)))))))))) = Held
refusal_of (suc (suc (suc (suc (suc (suc (suc (suc (suc (suc (suc zero))))))))))) = NotHeld
refusal_of (suc (suc (suc (suc (suc (suc (suc (suc (suc (suc (suc (suc n)))))))))))) = Script

back : (r : Refusal) → refusal_of (number_of r) ≡ r
unfolding refusal_of
back State = refl
back Rom = refl
back Ram = refl
back Frame = refl
back Address = refl
back Line = refl
back Room = refl
back File = refl
back Choice = refl
back Held = refl
back NotHeld = refl
back Script = refl

pub only_number : (r s : Refusal) → number_of r ≡ number_of s → r ≡ s
only_number r s e = sym (back r) ∙ ap refusal_of e ∙ back s

-- no refusal has the number 0
pub some_number : (r : Refusal) → 0 ≡ number_of r → ⊥
some_number State e = omega arith
some_number Rom e = omega arith
some_number Ram e = omega arith
some_number Frame e = omega arith
some_number Address e = omega arith
some_number Line e = omega arith
some_number Room e = omega arith
some_number File e = omega arith
some_number Choice e = omega arith
some_number Held e = omega arith
some_number NotHeld e = omega arith
some_number Script e = omega arith

read_answer : (a b : Result ℕ Refusal) → read_number a ≡ read_number b → read_value a ≡ read_value b → a ≡ b
read_answer (Ok x) (Ok y) n v = ap Ok v
read_answer (Ok x) (Err s) n v = absurd (some_number s n)
read_answer (Err r) (Ok y) n v = absurd (some_number r (sym n))
read_answer (Err r) (Err s) n v = ap Err (only_number r s n)

write_answer_lem : (a b : Result ⊤ Refusal) → write_number a ≡ write_number b → a ≡ b
write_answer_lem (Ok x) (Ok y) n = refl
write_answer_lem (Ok x) (Err s) n = absurd (some_number s n)
write_answer_lem (Err r) (Ok y) n = absurd (some_number r (sym n))
write_answer_lem (Err r) (Err s) n = ap Err (only_number r s n)

tick_answer_lem : (a b : Result Cycles Refusal) → tick_number a ≡ tick_number b → tick_value a ≡ tick_value b → a ≡ b
tick_answer_lem (Ok x) (Ok y) n v = λ i. Ok (record { 0 = v i })
tick_answer_lem (Ok x) (Err s) n v = absurd (some_number s n)
tick_answer_lem (Err r) (Ok y) n v = absurd (some_number r (sym n))
tick_answer_lem (Err r) (Err s) n v = ap Err (only_number r s n)

-- a read: one answer and one state
pub only_read : (r s : Done ℕ) (ram ram' : List ℕ) → read_outcome r ram ≡ read_outcome s ram' → (r ≡ s) × (ram ≡ ram')
only_read r s ram ram' e =
    let a = read_answer r.answer s.answer (λ i. (e i).number) (λ i. (e i).value) in
    (λ i. record { state = (e i).state; answer = a i }, λ i. (e i).ram)

-- a write: one answer, one state, one RAM and one frame store
pub only_write : (r s : Done ⊤) (ram ram' store store' : List ℕ) → write_outcome r ram store ≡ write_outcome s ram' store' → (r ≡ s) × (ram ≡ ram') × (store ≡ store')
only_write r s ram ram' store store' e =
    let a = write_answer_lem r.answer s.answer (λ i. (e i).number) in
    (λ i. record { state = (e i).state; answer = a i }, λ i. (e i).ram, λ i. (e i).store)

-- a tick: one count, one state, one RAM
pub only_tick : (r s : Done Cycles) (ram ram' store store' : List ℕ) → tick_outcome r ram store ≡ tick_outcome s ram' store' → (r ≡ s) × (ram ≡ ram') × (store ≡ store')
only_tick r s ram ram' store store' e =
    let a = tick_answer_lem r.answer s.answer (λ i. (e i).number) (λ i. (e i).value) in
    (λ i. record { state = (e i).state; answer = a i }, λ i. (e i).ram, λ i. (e i).store)

one_zero : true ≡ false → ⊥
one_zero e = let z : ◌≡◌ {A = ℕ} 0 1 = ap (λ b. to_n b) e in omega arith
  where
    to_n : Bool → ℕ
    to_n true = 0
    to_n false = 1

-- an inspection: one element
pub only_inspect : (a b : Result (Option Element) Refusal) → inspection a ≡ inspection b → a ≡ b
only_inspect (Ok (Some x)) (Ok (Some y)) e = λ i. Ok (Some (record { row = (e i).row; column = (e i).column }))
only_inspect (Ok (Some x)) (Ok None) e = absurd (one_zero (λ i. (e i).found))
only_inspect (Ok (Some x)) (Err n) e = absurd (one_zero (λ i. (e i).found))
only_inspect (Ok None) (Ok (Some y)) e = absurd (one_zero (sym (λ i. (e i).found)))
only_inspect (Ok None) (Ok None) e = refl
only_inspect (Ok None) (Err n) e = absurd (some_number n (λ i. (e i).number))
only_inspect (Err n) (Ok (Some y)) e = absurd (one_zero (sym (λ i. (e i).found)))
only_inspect (Err n) (Ok None) e = absurd (some_number n (sym (λ i. (e i).number)))
only_inspect (Err n) (Err m) e = ap Err (only_number n m (λ i. (e i).number))
