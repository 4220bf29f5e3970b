-- `wording::words::put_number` meets its contract: as many digits as there are. Assumes nothing.
use Rattle.wording.proofs.Puts.{put_decimal_lem}
use Rattle.wording.proofs.words.put_number.Goals as goal

pub returns : goal.returns
returns c =
    let put = c.put_decimal in
    let many = c.count_digits-digits in
    put_decimal_lem _ _ 20 _ _ many.ensures.0 many.ensures.1 put.ensures
