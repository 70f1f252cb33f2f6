use Rattle.std.proofs.Common.{◌≡◌, [], ap₂, refl, sym}
use Rattle.nx_memory.specs.Selection.{Refused}
use Rattle.nx_copies.specs.Events.{none_refused}
use Rattle.nx_handle.specs.PlaceKinds.{start_with}
use Rattle.nx_handle.proofs.plain_place.PlainPlaceKeptPlace.begin_new.Goals as goal

pub returns : goal.returns
returns c =
    let selected : c.all.result ≡ none_refused =
    ap₂ {C = Refused} (λ stations subjects. record { stations = stations; subjects = subjects })
    c.all.ensures.stations c.all.ensures.subjects in
    record {
      stands = (
        refl,
        c.in-Ok.ensures.stands (start_with [] 0 none_refused) (sym c.new.ensures) refl
            (sym selected),
      );
      now = refl;
      room = refl;
    }
