use Rattle.std.proofs.Common.{◌∙◌, ap, map, sym}
use Rattle.std.proofs.Math.ListN.{set}
use Rattle.nx_combine.specs.FamilyPlaces.{LentFamily, newest_first}
use Rattle.nx_combine.proofs.lemmas.Ring.{below_taken, lent_kept, lent_set}
use Rattle.nx_combine.proofs.family_ring.FamilyRingHoldsFamilies.note.Goals as goal

pub returns-clause-families : goal.returns-clause-families
returns-clause-families c =
    let xs = c.args.places.now in
    let first = c.args.self.now.first in
    let taken = c.args.self.now.taken in
    let index = c.args.index in
    let fits = c.requires.fits in
    let below = below_taken (λ (p : LentFamily). p.family) first taken index xs fits.first
    fits.taken c.requires.there in
    lent_kept (λ (p : LentFamily). p.family) first taken index c.place_of-at.result xs
    c.index-places-at.result c.note.new.self fits.first fits.taken below c.place_of-at.ensures.place
    c.place_of-at.ensures.within c.index-places-at.is
    (c.note.ensures.family ∙ ap (λ (p : LentFamily). p.family) (sym c.index-places-at.is))

pub returns-clause-printed : goal.returns-clause-printed
returns-clause-printed c =
    let xs = c.args.places.now in
    let first = c.args.self.now.first in
    let taken = c.args.self.now.taken in
    let index = c.args.index in
    let fits = c.requires.fits in
    let below = below_taken (λ (p : LentFamily). p.family) first taken index xs fits.first
    fits.taken c.requires.there in
    lent_set (λ (p : LentFamily). p.printed) first taken index c.place_of-at.result xs
    c.note.new.self fits.first fits.taken below c.place_of-at.ensures.place
    ∙ ap (set (map (λ (p : LentFamily). p.printed) (newest_first first taken xs)) index)
    c.note.ensures.printed
