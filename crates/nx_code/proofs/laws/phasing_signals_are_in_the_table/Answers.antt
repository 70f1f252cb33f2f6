use Rattle.std.proofs.Common.{refl}
use Rattle.nx_code.specs.Word.{elements, elements_from, number_of, weight}
use Rattle.nx_code.specs.Table.{table, words}
use Rattle.nx_code.proofs.laws.phasing_signals_are_in_the_table.Goals as goal

pub returns : goal.returns
unfolding elements elements_from number_of weight table words
returns c = record {
  first_signal = refl;
  second_signal = refl;
  first_elements = refl;
  second_elements = refl;
  first_number = refl;
  second_number = refl;
  weights = (refl, refl);
}
