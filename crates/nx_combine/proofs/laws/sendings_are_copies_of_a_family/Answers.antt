use Rattle.nx_combine.proofs.lemmas.Sharing.{alone_sending, counted_by_family, own_sending}
use Rattle.nx_combine.proofs.laws.sendings_are_copies_of_a_family.Goals as goal

pub returns : goal.returns
returns c = record { given = counted_by_family; own = own_sending; alone = alone_sending }
