use Rattle.std.proofs.Common.{◌≡◌, List, [], ◌∷◌, ◌++◌, Bool, refl, sym, ap, ◌∙◌, subst}
use Rattle.std.proofs.lemmas.List.{map-append}
use Rattle.nx_memory.specs.declared.memories.entry.MemoryEntry.{MemoryEntry}
use Rattle.nx_copies.specs.Events.{Event, Start, element, elements}
use Rattle.nx_copies.specs.copies.Log.{HasPrinted}
use Rattle.nx_receiver.specs.Receiver.{Receiving, Stands, events_of_pieces, elements_of_pieces}
use Rattle.nx_copies.specs.copies.FoundCopies.{TaggedCopy}
use Rattle.nx_copies.proofs.lemmas.printing.Logged.{one_printed}
use Rattle.nx_receiver.proofs.lemmas.receiver.Printing.{has_printed}
use Rattle.nx_copies.proofs.lemmas.copy_hearer.Hears.{has_ended}
use Rattle.nx_promises.proofs.cuttings_print_the_same.Goals as goal

events-of_elements : (pieces : List (List Bool))
    → events_of_pieces pieces ≡ elements (elements_of_pieces pieces)
unfolding events_of_pieces elements_of_pieces
events-of_elements [] = refl
events-of_elements (piece ∷ pieces) =
    ap (λ es. elements piece ++ es) (events-of_elements pieces)
    ∙ sym (map-append element piece (elements_of_pieces pieces))

prints : {M : Type 0} (content : M → List MemoryEntry) (start : Start) (events : List Event)
    (receiver : Receiving M) (log : List TaggedCopy) → Stands content start receiver events log
    → HasPrinted start events log
prints content start events receiver log stands =
    let r = stands.hearer.reads in
    has_printed start events stands.copies log
    (has_ended _ receiver.hearer.reader receiver.hearer.tag _ _ stands.copies r) stands.printed

pub returns : goal.returns
returns g c = record {
  printed = λ start events receiver log stands. prints g.M.Recall.content start events receiver log
      stands;
  same = λ start events pieces others one other log same e f h.
      let alike : events_of_pieces pieces ≡ events_of_pieces others =
      events-of_elements pieces ∙ ap elements e ∙ sym (events-of_elements others) in
      one_printed start (events ++ events_of_pieces others) log same
      (subst (λ (es : List Event). HasPrinted start (events ++ es) log) alike
      (prints g.M.Recall.content start (events ++ events_of_pieces pieces) one log f))
      (prints g.M.Recall.content start (events ++ events_of_pieces others) other same h);
}
