use Rattle.std.proofs.Common.{◌∙◌, ap, map, sym}
use Rattle.nx_combine.specs.FamilyPlaces.{LentFamily, newest_first}
use Rattle.nx_combine.specs.Families.{joined_by}
use Rattle.nx_combine.proofs.lemmas.Ring.{below_taken, lent_at, lent_joined, lent_kept, lent_set}
use Rattle.nx_combine.proofs.family_ring.FamilyRingHoldsFamilies.join.Goals as goal

pub returns-clause-joined : goal.returns-clause-joined
returns-clause-joined c = λ heard is.
    let xs = c.args.places.now in
    let first = c.args.self.now.first in
    let taken = c.args.self.now.taken in
    let index = c.args.index in
    let fits = c.requires.fits in
    let below = below_taken (λ (p : LentFamily). p.family) first taken index xs fits.first
    fits.taken c.requires.there in
    let here = lent_at (λ (p : LentFamily). p.family) first taken index c.place_of-at.result xs
    c.index-places-at.result fits.first fits.taken below
    c.place_of-at.ensures.place c.place_of-at.ensures.within c.index-places-at.is in
    lent_set (λ (p : LentFamily). p.family) first taken index c.place_of-at.result xs
    c.join.new.self fits.first fits.taken below c.place_of-at.ensures.place
    ∙ lent_joined (map (λ (p : LentFamily). p.family) (newest_first first taken xs)) heard index
    c.index-places-at.result.family c.join.new.self.family here (c.join.ensures.joined heard is
    ∙ ap (λ (p : LentFamily). joined_by heard p.family) (sym c.index-places-at.is))

pub returns-clause-printed : goal.returns-clause-printed
returns-clause-printed c =
    let xs = c.args.places.now in
    let first = c.args.self.now.first in
    let taken = c.args.self.now.taken in
    let index = c.args.index in
    let fits = c.requires.fits in
    let below = below_taken (λ (p : LentFamily). p.family) first taken index xs fits.first
    fits.taken c.requires.there in
    lent_kept (λ (p : LentFamily). p.printed) first taken index c.place_of-at.result xs
    c.index-places-at.result c.join.new.self fits.first fits.taken below c.place_of-at.ensures.place
    c.place_of-at.ensures.within c.index-places-at.is
    (c.join.ensures.printed ∙ ap (λ (p : LentFamily). p.printed) (sym c.index-places-at.is))
