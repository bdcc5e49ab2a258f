-- The choices of the calls that take no options.
-- Assumes nothing.
use Rattle.options.specs.declared.Options.{Options}
use Rattle.options.specs.declared.Reading.TheVariants.{Crate}

-- all is as the original has it
abbrev pub base : Options
base = record { reading = Crate }
