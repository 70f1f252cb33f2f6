use Rattle.std.proofs.Common.{◌∙◌, ap}
use Rattle.nx_handle.specs.Places.{all_closed}
use Rattle.nx_handle.proofs.lemmas.Places.{room-kept, shut-closed, shut-same}
use Rattle.nx_handle.proofs.closing.abandon.Goals as goal

pub returns-clause-closed : goal.returns-clause-closed
returns-clause-closed g c =
    let kind = g.P.KeptPlace.kind in
    ap (all_closed kind) c.close_all.ensures
    ∙ shut-closed kind g.met.P.KeptPlace.laws c.args.places.now

pub returns-clause-rooms : goal.returns-clause-rooms
returns-clause-rooms g c =
    let kind = g.P.KeptPlace.kind in
    let laws = g.met.P.KeptPlace.laws in
    room-kept kind laws c.args.places.now c.close_all.new.places
    (shut-same kind laws c.args.places.now c.close_all.new.places c.close_all.ensures)
