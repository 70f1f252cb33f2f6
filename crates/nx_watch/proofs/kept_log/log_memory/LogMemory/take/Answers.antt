use Rattle.std.proofs.Common.{◌∙◌, ◌++◌, ap, append-nil, sym}
use Rattle.nx_code.specs.Lists.{last_of}
use Rattle.nx_memory.specs.Memory.{most_entries}
use Rattle.nx_watch.proofs.lemmas.log.Remembering.{found-none, found-some}
use Rattle.nx_watch.proofs.kept_log.log_memory.LogMemory.take.Goals as goal

pub returns-in-Some : goal.returns-in-Some
returns-in-Some c = λ one logged on all is.
    c.enter.ensures on all is
    ∙ ap (λ l. last_of most_entries (all ++ l))
    (sym (found-some c.in-Some.channel on c.in-Some.entry
    one (sym c.in-Some.is ∙ c.found_in.ensures.found one logged)))

pub returns-in-None : goal.returns-in-None
returns-in-None c = λ one logged on all is.
    is ∙ ap (last_of most_entries) (sym (append-nil all)
    ∙ ap (λ l. all ++ l) (sym (found-none on one
    (sym c.in-None.is ∙ c.found_in.ensures.found one logged))))
