-- What the log of a chain of watches stands for.
use Rattle.std.proofs.Common.{List, [], ◌∷◌, ◌++◌, sym, subst, append-nil, append_assoc}
use Rattle.nx_copies.specs.copies.Shares.{MarkedCopy}
use Rattle.nx_left_on.specs.Chain.{IsChain, Watch, all_put}
use Rattle.nx_watch.specs.Watch.{StandsForEntries}

pub last-stands : (log : List MarkedCopy) (watches : List Watch) (last : Watch)
    → IsChain log (watches ++ last ∷ [])
    → StandsForEntries (log ++ all_put (watches ++ last ∷ [])) last.file
last-stands log [] last chain =
    subst (λ put. StandsForEntries (log ++ put) last.file) (sym (append-nil last.put))
    chain.0.puts.stands
last-stands log (watch ∷ watches) last chain =
    subst (λ entries. StandsForEntries entries last.file)
    (append_assoc log watch.put (all_put (watches ++ last ∷ [])))
    (last-stands (log ++ watch.put) watches last chain.1)
