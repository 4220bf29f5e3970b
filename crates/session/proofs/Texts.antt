-- What an answer prints: laws of `answer_text`. Assumes nothing.
use mathlib.Core.Path.{◌≡◌, sym}
use Prim.Native.Nat.{ℕ, ◌<◌}
use lib.Dec.{lit<}
use borrow.Author.Tests.{ne_eqb}
use Rattle.controller.specs.declared.Refusal.{Refusal}
use Rattle.controller.specs.declared.Refusal.TheVariants.{State, Rom, Ram, Frame, Address, Line, Room, File, Choice, Held, NotHeld, Script}
use Rattle.controller.specs.Outcome.{number_of}
use Rattle.controller.proofs.Only.{some_number}
use Rattle.lines.specs.Hex.{printed}
use Rattle.session.specs.Answer.{answer_text}

-- a refusal prints its number alone
pub refused_text : (n : Refusal) (digits value : ℕ) → answer_text (number_of n) digits value ≡ printed (number_of n) 0 value
unfolding answer_text
refused_text n digits value = simp (ne_eqb (number_of n) 0 (λ e. some_number n (sym e)))

-- a refusal's number has two digits
pub number_small : (n : Refusal) → number_of n < 256
number_small State = lit< tt
number_small Rom = lit< tt
number_small Ram = lit< tt
number_small Frame = lit< tt
number_small Address = lit< tt
number_small Line = lit< tt
number_small Room = lit< tt
number_small File = lit< tt
number_small Choice = lit< tt
number_small Held = lit< tt
number_small NotHeld = lit< tt
number_small Script = lit< tt
