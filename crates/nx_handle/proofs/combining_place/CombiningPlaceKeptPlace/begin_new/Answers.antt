use Rattle.std.proofs.Common.{◌≡◌, [], ap, ap₂, length, refl, subst, sym}
use Rattle.nx_memory.specs.Selection.{Refused}
use Rattle.nx_copies.specs.Events.{none_refused}
use Rattle.nx_combine.specs.CombinedReceiver.{StandsAfterAllHolding, receiver_in}
use Rattle.nx_combine.specs.FamilyPlaces.{held_in}
use Rattle.nx_handle.specs.PlainPlaces.{content}
use Rattle.nx_handle.specs.CombiningPlaces.{CombiningPlaceView, combining_closed}
use Rattle.nx_handle.specs.PlaceKinds.{start_with}
use Rattle.nx_handle.proofs.combining_place.CombiningPlaceKeptPlace.begin_new.Goals as goal

pub returns : goal.returns
returns g c =
    let places = g.F.FamilyRoom.places in
    let start = start_with [] 0 none_refused in
    let selected : c.all.result ≡ none_refused =
    ap₂ {C = Refused} (λ stations subjects. record { stations = stations; subjects = subjects })
    c.all.ensures.stations c.all.ensures.subjects in
    let lent = places c.self.inside.families in
    let same = ap (λ (v : CombiningPlaceView g.row.F.Denot). v.families) c.self.view_is in
    record {
      stands = (
        ap (λ f. length (places f)) same,
        subst (λ n. StandsAfterAllHolding n content start
            (receiver_in held_in c.beginning.result lent) [] []) (ap (λ f. length (places f)) same)
            (c.beginning.ensures.stands lent start (c.new.ensures.families lent)
            (c.new.ensures.printed lent) (sym c.new-2.ensures) refl (sym selected)),
      );
      now = refl;
      room = ap combining_closed same;
    }
