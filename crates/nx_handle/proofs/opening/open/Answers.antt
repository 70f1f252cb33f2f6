use Rattle.std.proofs.Common.{◌∙◌, [], ap, sym}
use Rattle.nx_handle.specs.Status.{number_of}
use Rattle.nx_copies.specs.Events.{none_refused}
use Rattle.nx_handle.specs.PlaceKinds.{start_with}
use Rattle.nx_handle.proofs.lemmas.New.{all-begun-hear}
use Rattle.nx_handle.proofs.lemmas.Opening.{opens, opens-not}
use Rattle.nx_handle.proofs.opening.open.Goals as goal

pub returns-in-Ok : goal.returns-in-Ok
returns-in-Ok g c =
    opens g.P.KeptPlace.kind g.met.P.KeptPlace.laws c.args.moment c.args.places.now
    c.begin_new.new.places c.set_moments.new.places
    (sym c.are_closed.ensures ∙ c.if-not-are_closed.false) c.requires.some
    c.begin_new.ensures.begun c.begin_new.ensures.shut c.in-Ok.ensures.taken

pub returns-in-Err : goal.returns-in-Err
returns-in-Err g c =
    opens-not g.P.KeptPlace.kind g.met.P.KeptPlace.laws c.args.moment c.number-in-Err.result
    c.args.places.now c.begin_new.new.places c.set_moments.new.places c.close_all.new.places
    c.in-Err.fault (sym c.are_closed.ensures ∙ c.if-not-are_closed.false)
    c.begin_new.ensures.begun c.begin_new.ensures.shut c.in-Err.ensures.refused
    (c.number-in-Err.ensures ∙ ap number_of c.moment_told.ensures) c.close_all.ensures

pub set_moments-requires : goal.set_moments-requires
set_moments-requires g c =
    all-begun-hear g.P.KeptPlace.kind c.begin_new.new.places (start_with [] 0 none_refused)
    c.begin_new.ensures.begun
