-- `plates::grey::put_file` meets its contract: the header, and then the pixels. Assumes nothing.
use lib.Seq.{drop-drop}
use Rattle.plates.specs.Grey.{header, plate_of}
use Rattle.plates.proofs.grey.put_file.Goals as goal

pub returns : goal.returns
unfolding header plate_of
returns c =
    rw (c.put_pixels.ensures, c.put_header.ensures, drop-drop 14336 15)
