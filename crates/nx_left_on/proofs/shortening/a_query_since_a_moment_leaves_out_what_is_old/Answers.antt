use Rattle.nx_left_on.proofs.lemmas.shortened.Choosing.{leaves-old}
use Rattle.nx_left_on.proofs.shortening.a_query_since_a_moment_leaves_out_what_is_old.Goals as goal

pub returns : goal.returns
returns c = leaves-old
