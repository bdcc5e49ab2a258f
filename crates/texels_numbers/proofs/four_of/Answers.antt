-- `texels_numbers::four_of` meets its contract: a number for each channel. Assumes nothing.
use Rattle.texels_numbers.proofs.four_of.Goals as goal

pub returns : goal.returns
returns c =
    rw (c.number_of.ensures, c.number_of-2.ensures, c.number_of-3.ensures, c.number_of-4.ensures)
