use Rattle.nx_envelope.proofs.lemmas.headers.Identities.{same_identity-true}
use Rattle.nx_memory.proofs.lemmas.Tables.{index_within, same_index}
use Rattle.nx_memory.proofs.laws.identities_have_places_of_their_own.Goals as goal

pub returns : goal.returns
returns c = record {
  within = index_within;
  one =
      λ a b places. same_identity-true a b (same_index a b places);
}
