use Rattle.std.proofs.Common.{◌∙◌, ap}
use Rattle.nx_log.specs.Query.{chosen}
use Rattle.nx_watch.specs.Watch.{starts_at}
use Rattle.nx_left_on.proofs.lemmas.reading.Written.{only}
use Rattle.nx_left_on.proofs.writing.the_next_watch_remembers_the_chosen_entries.Goals as goal

pub returns : goal.returns
returns c = λ query entries log file watch written stands puts.
    puts.begins ∙ ap (starts_at watch.moment) (only (chosen query entries) log file written stands)
