-- What the code's positions mean.
use Rattle.nx_code.specs.declared.printing.Taken.{Taken}
use Rattle.nx_code.specs.declared.printing.Taken.TheVariants.{Char, Idle, Lost}
use Rattle.nx_code.specs.Reading.{Reception, combination, idle, lost}

-- the position that the code has taken
abbrev pub reception_of : Taken → Reception
reception_of (Char comb) = combination comb.number
reception_of Idle = idle
reception_of Lost = lost
