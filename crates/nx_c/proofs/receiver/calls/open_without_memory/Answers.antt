use Rattle.std.proofs.Common.{◌≡◌, ◌∙◌, List, subst, sym, true}
use Rattle.nx_handle.specs.Opening.{AnswersOpening, opening_status}
use Rattle.nx_handle.specs.PlainPlaces.{plain_place}
use Rattle.nx_handle.specs.declared.plain_place.PlainPlace.{PlainPlace}
use Rattle.nx_handle.specs.declared.status.Status.TheVariants.{Done}
use Rattle.nx_c.specs.ByKind.{three_closed}
use Rattle.nx_c.proofs.lemmas.Opening.{lacks, status-done}
use Rattle.nx_c.proofs.receiver.calls.open_without_memory.Goals as goal

pub returns : goal.returns
returns c =
    let moment = c.args.moment in
    let told : AnswersOpening plain_place moment three_closed c.open.new.places c.open.result =
    subst (λ (p : List PlainPlace). AnswersOpening plain_place moment p c.open.new.places
    c.open.result) c.closed_places.ensures c.open.ensures in
    lacks (λ P kind old new. AnswersOpening kind moment old new c.without_memory.result)
    (opening_status true moment ≡ Done) c.open.result c.without_memory.result
    c.without_memory.ensures.done c.without_memory.ensures.refused
    (λ done. status-done moment (sym done ∙ told.cause))
    (λ no same. subst (λ n. AnswersOpening plain_place moment three_closed three_closed n)
    (sym same)
    (subst (λ (p : List PlainPlace). AnswersOpening plain_place moment three_closed p
    c.open.result) (told.refused no) told))
