use Rattle.std.proofs.Common.{◌++◌, ap, append-nil, ◌∙◌}
use Rattle.nx_left_on.proofs.reading.a_log_reader_gives_no_more_without_a_tail.Goals as goal

pub returns : goal.returns
returns c = λ entries all is.
    is.joined ∙ ap (λ more. entries ++ more) is.among ∙ append-nil entries
