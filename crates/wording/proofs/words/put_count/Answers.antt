-- `wording::words::put_count` meets its contract: the number is put after the word. Assumes nothing.
use Rattle.wording.proofs.Puts.{put_then}
use Rattle.wording.proofs.words.put_count.Goals as goal

pub returns : goal.returns
returns c =
    put_then c.put_word-next.ensures
    (λ _. c.put_number.ensures)
    c.requires
