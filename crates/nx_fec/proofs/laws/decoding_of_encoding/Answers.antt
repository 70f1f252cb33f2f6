use Rattle.nx_fec.proofs.lemmas.emissions.EncodingLaws.{IsDecoded-encoded, IsDecoded-unique}
use Rattle.nx_fec.proofs.laws.decoding_of_encoding.Goals as goal

pub returns-clause-text : goal.returns-clause-text
returns-clause-text c = IsDecoded-encoded

pub returns-clause-only : goal.returns-clause-only
returns-clause-only c = IsDecoded-unique
