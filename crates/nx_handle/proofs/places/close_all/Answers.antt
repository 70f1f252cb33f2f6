use Rattle.nx_handle.proofs.lemmas.Places.{shut-next}
use Rattle.nx_handle.proofs.places.close_all.Goals as goal

pub loop-place-preserved : goal.loop-place-preserved
loop-place-preserved g c =
    shut-next g.P.KeptPlace.kind.shut c.args.places.now c.loop-place.places
    c.loop-place.place-index c.place-item.result c.shut.new.self c.loop-place-test.true
    c.loop-place.invariant c.shut.ensures
