use Rattle.std.proofs.Common.{◌≡◌, ◌≢◌, MatchOption, refl, subst, sym}
use Rattle.nx_handle.specs.Status.{number_of}
use Rattle.nx_handle.specs.declared.status.Status.{Status}
use Rattle.nx_handle.proofs.lemmas.Numbers.{all-numbered, all-statuses, status-at}
use Rattle.nx_handle.proofs.status.Status.of_number.Goals as goal

pub returns : goal.returns
returns c =
    subst (λ o. MatchOption o ((one : Status) → number_of one ≢ c.args.number)
    (λ one. number_of one ≡ c.args.number)) (sym c.copied.ensures)
    (status-at all-statuses c.args.number c.get.result all-numbered refl c.get.ensures.lookup)
