use Rattle.std.proofs.Common.{refl, sym}
use Rattle.nx_handle.specs.PlaceKinds.{start_with}
use Rattle.nx_handle.proofs.plain_place.PlainPlaceKeptPlace.begin.Goals as goal

pub returns : goal.returns
returns c = record {
  stands = (
    refl,
    c.in-Ok.ensures.stands (start_with c.args.memory.now c.args.moment c.args.selection)
        (sym c.replace-entries.ensures.value) refl refl,
  );
  now = refl;
  room = refl;
}
