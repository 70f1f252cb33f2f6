use Rattle.std.proofs.Common.{◌∙◌, ap, length, sym}
use Rattle.nx_handle.specs.Status.{number_of}
use Rattle.nx_handle.proofs.lemmas.Moments.{moments-shut}
use Rattle.nx_handle.proofs.lemmas.Opening.{moment-done-in, moment-refused-in}
use Rattle.nx_handle.proofs.lemmas.Places.{room-kept}
use Rattle.nx_handle.proofs.opening.set_moment.Goals as goal

pub returns-in-Ok-clause-answers : goal.returns-in-Ok-clause-answers
returns-in-Ok-clause-answers g c =
    moment-done-in g.P.KeptPlace.kind g.met.P.KeptPlace.laws c.args.moment c.args.places.now
    c.set_moments.new.places c.requires.some c.requires.few
    (sym c.all_hear.ensures ∙ c.if-not-all_hear.false) c.in-Ok.ensures.taken

pub returns-in-Err-clause-answers : goal.returns-in-Err-clause-answers
returns-in-Err-clause-answers g c =
    moment-refused-in g.P.KeptPlace.kind g.met.P.KeptPlace.laws c.args.moment
    c.number-in-Err.result c.args.places.now c.set_moments.new.places c.in-Err.fault
    c.requires.some c.requires.few (sym c.all_hear.ensures ∙ c.if-not-all_hear.false)
    c.in-Err.ensures.refused (c.number-in-Err.ensures ∙ ap number_of c.moment_told.ensures)

pub returns-in-Ok-clause-rooms : goal.returns-in-Ok-clause-rooms
returns-in-Ok-clause-rooms g c =
    let kind = g.P.KeptPlace.kind in
    room-kept kind g.met.P.KeptPlace.laws c.args.places.now c.set_moments.new.places
    (moments-shut kind c.args.moment c.args.places.now c.set_moments.new.places
    (length c.args.places.now) c.in-Ok.ensures.taken)

pub returns-in-Err-clause-rooms : goal.returns-in-Err-clause-rooms
returns-in-Err-clause-rooms g c =
    let kind = g.P.KeptPlace.kind in
    let refused = c.in-Err.ensures.refused in
    room-kept kind g.met.P.KeptPlace.laws c.args.places.now c.set_moments.new.places
    (moments-shut kind c.args.moment c.args.places.now c.set_moments.new.places refused.count
    refused.taken)
