use Rattle.nx_fec.proofs.lemmas.emissions.EncodingLaws.{bit_lines-IsBitFile}
use Rattle.nx_fec.proofs.laws.reading_of_writing.Goals as goal

pub returns : goal.returns
returns c = bit_lines-IsBitFile
