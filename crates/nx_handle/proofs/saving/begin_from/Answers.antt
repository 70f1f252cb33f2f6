use Rattle.std.proofs.Common.{◌≡◌, subst, sym}
use Rattle.nx_copies.specs.copies.Shares.{start_on, starts_from}
use Rattle.nx_handle.specs.PlaceKinds.{HasBegun, start_with}
use Rattle.nx_handle.specs.Saving.{HasNoMore}
use Rattle.nx_handle.proofs.lemmas.Saving.{begins-as}
use Rattle.nx_handle.proofs.saving.begin_from.Goals as goal

pub returns-clause-ok : goal.returns-clause-ok
returns-clause-ok g c =
    let kind = g.P.KeptPlace.kind in
    let start = start_with c.load_from.new.memory c.in-Ok.moment c.load_from.new.selection in
    begins-as c.args.state.now
    (λ states more. HasNoMore c.args.count states
    × (start_on (starts_from states) c.args.channel ≡ start))
    (λ states more. HasNoMore c.args.count states
    × HasBegun kind c.args.place.now c.begin.new.self
    (start_on (starts_from states) c.args.channel))
    (λ states more is. (
      is.0,
      subst (HasBegun kind c.args.place.now c.begin.new.self) (sym is.1) c.begin.ensures,
    ))
    c.in-Ok.ensures.ok
