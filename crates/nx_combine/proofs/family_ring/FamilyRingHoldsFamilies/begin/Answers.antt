use Rattle.std.proofs.Common.{None}
use Rattle.nx_combine.specs.FamilyPlaces.{LentFamily}
use Rattle.nx_combine.proofs.lemmas.Ring.{family_is, lent_begun}
use Rattle.nx_combine.proofs.family_ring.FamilyRingHoldsFamilies.begin.Goals as goal

pub returns-clause-begun : goal.returns-clause-begun
returns-clause-begun c = λ text selected.
    let xs = c.args.places.now in
    let first = c.args.self.now.first in
    let taken = c.args.self.now.taken in
    let fits = c.requires.fits in
    let begun = c.begin.ensures in
    let head = c.args.head.now in
    lent_begun (λ (p : LentFamily). p.family) first taken c.place_before-at.result
    c.min-self.result xs c.begin.new.self
    (record {
      identity = head.identity;
      moment = head.moment;
      positions = c.args.positions.now;
      sendings = 1;
    }) fits.first fits.taken c.place_before-at.ensures c.min-self.ensures
    (family_is c.begin.new.self.family head.identity head.moment c.args.positions.now 1
    begun.identity begun.moment begun.positions begun.sendings)

pub returns-clause-printed : goal.returns-clause-printed
returns-clause-printed c =
    let xs = c.args.places.now in
    let first = c.args.self.now.first in
    let taken = c.args.self.now.taken in
    let fits = c.requires.fits in
    lent_begun (λ (p : LentFamily). p.printed) first taken c.place_before-at.result
    c.min-self.result xs c.begin.new.self None fits.first fits.taken c.place_before-at.ensures
    c.min-self.ensures c.begin.ensures.printed
