use Rattle.nx_memory.proofs.lemmas.Content.{content-nil, content_after-IsContent}
use Rattle.nx_memory.proofs.laws.entries_stand_in_turn.Goals as goal

pub returns : goal.returns
returns c = record { none = content-nil; kept = content_after-IsContent }
