-- The row of a value that the command line gives once, as it is written, and that of a flag which
-- it doesn't give.
use Rattle.std.proofs.Common.{[], ◌∷◌, Some, None, codes}
use Rattle.clap.specs.Words.{Row, Text}
use Rattle.clap.specs.declared.builder.value_parser.Reading.TheVariants.{AsWritten}
use Rattle.clap.specs.declared.parser.matches.ValueSource.TheVariants.{CommandLine, DefaultValue}

-- a value that was given as this text
abbrev pub given : Text → Text → Row
given id text = record {
  id = id;
  values = text ∷ [];
  count = None;
  source = Some CommandLine;
  reading = AsWritten;
}

-- a flag that was not given
abbrev pub off : Text → Row
off name = record {
  id = name;
  values = codes "false" ∷ [];
  count = None;
  source = Some DefaultValue;
  reading = AsWritten;
}
