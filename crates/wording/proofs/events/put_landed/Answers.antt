-- `wording::events::put_landed` meets its contract: bank, offset and byte are put after the opening. Assumes nothing.
use mathlib.Core.Path.{ap}
use mathlib.Core.List.{◌++◌}
use Prim.Native.Nat.{◌/◌}
use native.Mathlib.Omega.{arith}
use Rattle.laws.specs.Pick.{pick}
use Rattle.lines.specs.Hex.{hex_text}
use Rattle.wording.specs.Words.{decimal}
use Rattle.wording.specs.Keys.{byte_word, write_word, inside_word, outside_word}
use Rattle.wording.specs.Events.{landed_text, opening}
use Rattle.wording.proofs.Puts.{put_within, put_named, put_then, put_after}
use Rattle.wording.proofs.events.put_landed.Goals as goal

pub returns : goal.returns
unfolding landed_text
returns c =
    let a = c.args in
    put_within
    (put_after (opening a.line) (write_word ++ decimal a.serial) c.put_opening-a.ensures
    (put_after (pick a.inside inside_word outside_word) (hex_text 1 (a.place / 8192)) c.put_bank-b.ensures
    (put_then c.put_code-c.ensures
    (put_then (put_named c.put_code-d.ensures (ap (λ b. byte_word ++ hex_text 2 b) c.from.ensures))
    (λ _. c.put_word.ensures))))
    (omega (arith, c.requires)))
    256
    (omega arith)
