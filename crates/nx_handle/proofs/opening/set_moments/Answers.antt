use Rattle.std.proofs.Common.{◌<◌, arith, get_or, length}
use Rattle.std.proofs.lemmas.Option.{slice_get-get_or}
use Rattle.nx_handle.proofs.lemmas.Moments.{next-hears, none-taken, refuses-next, taken-more}
use Rattle.nx_handle.proofs.opening.set_moments.Goals as goal

pub loop-at-init : goal.loop-at-init
loop-at-init g c =
    record { taken = none-taken g.P.KeptPlace.kind c.args.moment c.args.places.now }

pub set_moment-requires : goal.set_moment-requires
set_moment-requires g c =
    let m = c.loop-at.invariant.taken in
    let places = c.loop-at.places in
    let at = c.loop-at.at in
    next-hears g.P.KeptPlace.kind c.args.moment c.args.places.now places at
    (get_or places at c.index-places-at.result) c.requires
    (slice_get-get_or places at c.index-places-at.result
    (omega (arith, c.loop-at-test.true, m.channels))) m

pub returns-in-Err-clause-refused : goal.returns-in-Err-clause-refused
returns-in-Err-clause-refused g c =
    let m = c.loop-at.invariant.taken in
    let places = c.loop-at.places in
    let at = c.loop-at.at in
    let has : at < length places = omega (arith, c.loop-at-test.true, m.channels) in
    let was = get_or places at c.index-places-at.result in
    let here = slice_get-get_or places at c.index-places-at.result has in
    refuses-next g.P.KeptPlace.kind c.args.moment c.args.places.now places at was
    c.set_moment.new.self c.in-Err.fault has here c.in-Err.ensures.unchanged
    c.in-Err.ensures.refused m

pub loop-at-preserved : goal.loop-at-preserved
loop-at-preserved g c =
    let m = c.loop-at.invariant.taken in
    let places = c.loop-at.places in
    let at = c.loop-at.at in
    let has : at < length places = omega (arith, c.loop-at-test.true, m.channels) in
    let was = get_or places at c.index-places-at.result in
    let here = slice_get-get_or places at c.index-places-at.result has in
    record {
      taken = taken-more g.P.KeptPlace.kind c.args.moment c.args.places.now places at was
          c.set_moment.new.self has here c.in-Ok.ensures.taken m;
    }
