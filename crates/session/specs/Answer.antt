-- Bus script: the line that is printed for each input line. Assumes nothing.
use Rattle.std.specs.Prelude.{List, ℕ, eqb}
use Rattle.laws.specs.Pick.{pick}
use Rattle.lines.specs.Hex.{printed}
use Rattle.lines.specs.Line.{number_at}
use Rattle.session.specs.declared.answer.Answer.{Answer}

-- refusal number (00: none), and the value's digits; a refusal prints its number alone
unfoldable pub answer_text : ℕ → ℕ → ℕ → List ℕ
answer_text number digits value = printed number (pick (eqb number 0) digits 0) value

-- the bytes of an answer
abbrev pub text_of : Answer → List ℕ
text_of a = printed a.number a.digits a.value

-- the number that an answer begins with
abbrev pub number_said : List ℕ → ℕ
number_said text = number_at text 0 2
