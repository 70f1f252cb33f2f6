use Rattle.nx_copies.proofs.lemmas.locks.Found.{one_open}
use Rattle.nx_copies.proofs.lemmas.printing.Logged.{end_adds}
use Rattle.nx_copies.specs.copies.FoundCopies.{standing_text}
use Rattle.nx_promises.proofs.the_end_closes_the_open_copy.Goals as goal

pub returns : goal.returns
returns c = record { adds = end_adds; one = λ bits now. one_open (standing_text bits now) }
