use Rattle.std.proofs.Common.{refl}
use Rattle.std.specs.Str.Parse.{ExplainsUnsignedError, HasUnsignedDigitsIfOk, ParsesUnsigned}
use Rattle.clap.specs.Words.{found_of, one_text}
use Rattle.nx_program.proofs.lemmas.arguments.ValuesRead.{number-none, number-some}
use Rattle.nx_program.proofs.arguments.number_in.Goals as goal

pub returns : goal.returns
returns c = record {
  some = number-some (λ bs r. ParsesUnsigned 64 10 bs r × ExplainsUnsignedError 10 bs r
      × HasUnsignedDigitsIfOk bs r) (λ u x read. read.0)
      c.args.name.now (found_of c.args.values.now) (one_text
      (found_of c.args.values.now) c.args.name.now) refl c.get_one.result c.get_one.ensures.none
      c.get_one.ensures.value;
  none = number-none (λ bs r. ParsesUnsigned 64 10 bs r × ExplainsUnsignedError 10 bs r
      × HasUnsignedDigitsIfOk bs r) (λ u x read. read.0)
      c.args.name.now (found_of c.args.values.now) (one_text
      (found_of c.args.values.now) c.args.name.now) refl c.get_one.result
      c.get_one.ensures.value;
}
