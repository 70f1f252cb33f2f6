use Rattle.std.proofs.Common.{[], ap, length, refl, subst, sym}
use Rattle.nx_combine.specs.CombinedReceiver.{StandsAfterAllHolding, receiver_in}
use Rattle.nx_combine.specs.FamilyPlaces.{held_in}
use Rattle.nx_handle.specs.PlainPlaces.{content}
use Rattle.nx_handle.specs.CombiningPlaces.{CombiningPlaceView, combining_closed}
use Rattle.nx_handle.specs.PlaceKinds.{start_with}
use Rattle.nx_handle.proofs.combining_place.CombiningPlaceKeptPlace.begin.Goals as goal

pub returns : goal.returns
returns g c =
    let places = g.F.FamilyRoom.places in
    let start = start_with c.args.memory.now c.args.moment c.args.selection in
    let lent = places c.self.inside.families in
    let same = ap (λ (v : CombiningPlaceView g.row.F.Denot). v.families) c.self.view_is in
    record {
      stands = (
        ap (λ f. length (places f)) same,
        subst (λ n. StandsAfterAllHolding n content start
            (receiver_in held_in c.beginning.result lent) [] []) (ap (λ f. length (places f)) same)
            (c.beginning.ensures.stands lent start (c.new.ensures.families lent)
            (c.new.ensures.printed lent) (sym c.renewing-entries.ensures) refl refl),
      );
      now = refl;
      room = ap combining_closed same;
    }
