use Rattle.std.proofs.Common.{◌<◌, ◌∙◌, [], arith, get_or, length}
use Rattle.std.proofs.lemmas.Option.{slice_get-get_or}
use Rattle.nx_copies.specs.Events.{none_refused}
use Rattle.nx_handle.specs.PlaceKinds.{start_with}
use Rattle.nx_handle.proofs.lemmas.New.{all-begin, begin-more, has-begun}
use Rattle.nx_handle.proofs.lemmas.Places.{long-kept, set-map}
use Rattle.nx_handle.proofs.opening.begin_new.Goals as goal

pub loop-at-preserved : goal.loop-at-preserved
loop-at-preserved g c =
    let kind = g.P.KeptPlace.kind in
    let places = c.loop-at.places in
    let at = c.loop-at.at in
    let place = c.begin_new.new.self in
    let inv = c.loop-at.invariant in
    let has : at < length places =
    omega (arith, c.loop-at-test.true, long-kept kind c.args.places.now places inv.same) in
    let was = get_or places at c.index-places-at.result in
    let b = c.begin_new.ensures in record {
      same = set-map kind.shut places at place was
          (slice_get-get_or places at c.index-places-at.result has) b.room ∙ inv.same;
      begun = begin-more kind places at place (start_with [] 0 none_refused) has
          (has-begun kind g.met.P.KeptPlace.laws was place (start_with [] 0 none_refused) b)
          inv.begun;
    }

pub returns-clause-begun : goal.returns-clause-begun
returns-clause-begun g c =
    let kind = g.P.KeptPlace.kind in
    all-begin kind c.loop-at.places (start_with [] 0 none_refused) c.loop-at.at
    (omega (
      arith,
      c.loop-at-test.false,
      long-kept kind c.args.places.now c.loop-at.places c.loop-at.invariant.same,
    ))
    c.loop-at.invariant.begun
