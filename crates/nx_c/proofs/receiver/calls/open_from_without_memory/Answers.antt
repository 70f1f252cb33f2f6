use Rattle.std.proofs.Common.{List, subst, sym}
use Rattle.std.specs.Prelude.{⊤}
use Rattle.nx_receiver.specs.air_file_runs.State.{BeginsWith}
use Rattle.nx_handle.specs.PlainPlaces.{plain_place}
use Rattle.nx_handle.specs.Saving.{AnswersOpeningFrom}
use Rattle.nx_handle.specs.declared.plain_place.PlainPlace.{PlainPlace}
use Rattle.nx_c.specs.ByKind.{three_closed}
use Rattle.nx_c.proofs.lemmas.Opening.{begins-it, lacks, stays-closed}
use Rattle.nx_c.proofs.receiver.calls.open_from_without_memory.Goals as goal

pub returns : goal.returns
returns c =
    let bytes = c.args.state.now in let new = c.open_from.new.places in
    let told : AnswersOpeningFrom plain_place bytes three_closed new c.open_from.result =
    subst (λ (p : List PlainPlace). AnswersOpeningFrom plain_place bytes p new
    c.open_from.result) c.closed_places.ensures c.open_from.ensures in
    lacks (λ P kind old new. AnswersOpeningFrom kind bytes old new c.without_memory.result)
    (BeginsWith bytes (λ states more. ⊤)) c.open_from.result c.without_memory.result
    c.without_memory.ensures.done c.without_memory.ensures.refused
    (λ done. begins-it bytes new
    (subst (λ n. AnswersOpeningFrom plain_place bytes three_closed new n) done told))
    (λ no same. subst (λ n. AnswersOpeningFrom plain_place bytes three_closed three_closed n)
    (sym same)
    (subst (λ (p : List PlainPlace). AnswersOpeningFrom plain_place bytes three_closed p
    c.open_from.result) (stays-closed bytes new c.open_from.result told no) told))
