use Rattle.std.proofs.Common.{◌≡◌, ◌∙◌, ap, Some, sym}
use Rattle.nx_combine.specs.FamilyPlaces.{LentFamily}
use Rattle.nx_combine.specs.Families.{Family}
use Rattle.nx_combine.proofs.lemmas.Ring.{below_taken, lent_at}
use Rattle.nx_combine.proofs.family_ring.FamilyRingHoldsFamilies.sendings.Goals as goal

pub returns : goal.returns
returns c = λ family there.
    let xs = c.args.places.now in
    let first = c.args.self.now.first in
    let taken = c.args.self.now.taken in
    let index = c.args.index in
    let fits = c.requires.fits in
    let below = below_taken (λ (p : LentFamily). p.family) first taken index xs fits.first
    fits.taken c.requires.there in
    let here = lent_at (λ (p : LentFamily). p.family) first taken index c.place_of.result xs
    c.index-places-place_of.result fits.first fits.taken below
    c.place_of.ensures.place c.place_of.ensures.within c.index-places-place_of.is in
    let same : c.index-places-place_of.result.family ≡ family =
    let both : Some c.index-places-place_of.result.family ≡ Some family = sym here ∙ there in
    cc in
    c.sendings.ensures ∙ ap (λ (f : Family). f.sendings) same
