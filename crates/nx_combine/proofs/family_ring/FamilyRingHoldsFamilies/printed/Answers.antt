use Rattle.std.proofs.Common.{None, ◌∙◌, map, sym}
use Rattle.std.proofs.lemmas.Option.{get_or_from_slice_get}
use Rattle.nx_combine.specs.FamilyPlaces.{LentFamily, newest_first}
use Rattle.nx_combine.proofs.lemmas.Ring.{below_taken, lent_at}
use Rattle.nx_combine.proofs.family_ring.FamilyRingHoldsFamilies.printed.Goals as goal

pub returns : goal.returns
returns c =
    let xs = c.args.places.now in
    let first = c.args.self.now.first in
    let taken = c.args.self.now.taken in
    let index = c.args.index in
    let fits = c.requires.fits in
    let below = below_taken (λ (p : LentFamily). p.family) first taken index xs fits.first
    fits.taken c.requires.there in
    let here = lent_at (λ (p : LentFamily). p.printed) first taken index c.place_of.result xs
    c.index-places-place_of.result fits.first fits.taken below
    c.place_of.ensures.place c.place_of.ensures.within c.index-places-place_of.is in
    c.printed.ensures
    ∙ sym (get_or_from_slice_get (map (λ (p : LentFamily). p.printed) (newest_first first taken xs))
    index c.index-places-place_of.result.printed None here)
