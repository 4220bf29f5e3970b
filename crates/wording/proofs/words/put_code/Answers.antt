-- `wording::words::put_code` meets its contract: the digits are put after the word. Assumes nothing.
use Rattle.wording.proofs.Puts.{put_then}
use Rattle.wording.proofs.words.put_code.Goals as goal

pub returns : goal.returns
returns c =
    put_then c.put_word-next.ensures
    (λ _. c.put_hex.ensures)
    c.requires
