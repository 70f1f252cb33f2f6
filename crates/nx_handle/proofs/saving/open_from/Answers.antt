use Rattle.std.proofs.Common.{◌∙◌, sym}
use Rattle.nx_handle.proofs.lemmas.Saving.{opens-from-it, opens-not}
use Rattle.nx_handle.proofs.saving.open_from.Goals as goal

pub returns-in-Ok : goal.returns-in-Ok
returns-in-Ok g c =
    opens-from-it g.P.KeptPlace.kind g.met.P.KeptPlace.laws c.args.state.now c.args.places.now
    c.begin_all.new.places (sym c.are_closed.ensures ∙ c.if-not-are_closed.false)
    c.in-Ok.ensures.ok c.begin_all.ensures.shut

pub returns-in-Err : goal.returns-in-Err
returns-in-Err g c =
    opens-not g.P.KeptPlace.kind g.met.P.KeptPlace.laws c.args.state.now c.args.places.now
    c.begin_all.new.places c.close_all.new.places c.in-Err.status c.number-in-Err.result
    (sym c.are_closed.ensures ∙ c.if-not-are_closed.false) c.in-Err.ensures.err
    c.number-in-Err.ensures c.begin_all.ensures.shut c.close_all.ensures
