use Rattle.std.proofs.Common.{◌≡◌, ◌∙◌, ℕ, List, None, Some, subst, sym}
use Rattle.nx_copies.specs.Events.{Event, Start}
use Rattle.nx_copies.specs.copies.FoundCopies.{TaggedCopy}
use Rattle.nx_copies.specs.copies.Shares.{saved_of}
use Rattle.nx_memory.specs.Saved.{nothing_saved}
use Rattle.nx_receiver.proofs.lemmas.listening.Listener.{on-all}
use Rattle.nx_handle.specs.Places.{place_on}
use Rattle.nx_handle.proofs.saving.left_by.Goals as goal

pub returns-clause-leaves : goal.returns-clause-leaves
returns-clause-leaves g c =
    let kind = g.P.KeptPlace.kind in
    on-all (λ channel. (place : g.row.P.Denot)
    → place_on c.args.places.now channel ≡ Some place
    → (held : ℕ) (start : Start) (history : List Event) (log : List TaggedCopy)
    → kind.stands held start place history log
    → kind.leaves held start history (saved_of c.of.result channel))
    (λ place at held start history log s. subst (kind.leaves held start history)
    (sym c.of.ensures.on_0) (c.left_on.ensures.leaves place at held start history log s))
    (λ place at held start history log s. subst (kind.leaves held start history)
    (sym c.of.ensures.on_1) (c.left_on-2.ensures.leaves place at held start history log s))
    (λ place at held start history log s. subst (kind.leaves held start history)
    (sym c.of.ensures.on_2) (c.left_on-3.ensures.leaves place at held start history log s))

pub returns-clause-others : goal.returns-clause-others
returns-clause-others g c =
    on-all (λ channel. place_on c.args.places.now channel ≡ None
    → saved_of c.of.result channel ≡ nothing_saved)
    (λ none. c.of.ensures.on_0 ∙ c.left_on.ensures.others none)
    (λ none. c.of.ensures.on_1 ∙ c.left_on-2.ensures.others none)
    (λ none. c.of.ensures.on_2 ∙ c.left_on-3.ensures.others none)
