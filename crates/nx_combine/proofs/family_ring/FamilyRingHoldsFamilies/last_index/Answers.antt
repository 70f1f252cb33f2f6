use Rattle.std.proofs.Common.{◌∙◌, arith, sym}
use Rattle.std.proofs.lemmas.List.{length-map}
use Rattle.std.proofs.lemmas.Option.{slice_get_within}
use Rattle.nx_envelope.specs.Identity.{same_identity}
use Rattle.nx_combine.specs.FamilyPlaces.{LentFamily, held_in, newest_first}
use Rattle.nx_combine.specs.Families.{Family}
use Rattle.nx_combine.proofs.lemmas.Ring.{fails_next, length-newest, lent_at, position_by}
use Rattle.nx_combine.proofs.lemmas.Ring.{position_none}
use Rattle.nx_combine.proofs.family_ring.FamilyRingHoldsFamilies.last_index.Goals as goal

pub loop-index-preserved : goal.loop-index-preserved
loop-index-preserved c =
    let xs = c.args.places.now in
    let first = c.args.self.now.first in
    let taken = c.args.self.now.taken in
    let index = c.loop-index.index in
    let families = (held_in c.args.self.now xs).families in
    let here = lent_at (λ (p : LentFamily). p.family) first taken index c.place_of.result xs
    c.index-places-place_of.result c.requires.first c.requires.taken c.loop-index-test.true
    c.place_of.ensures.place c.place_of.ensures.within c.index-places-place_of.is in
    fails_next (λ (f : Family). same_identity f.identity c.args.identity) families index
    c.index-places-place_of.result.family here (sym c.is_of.ensures ∙ c.if-is_of.false)
    c.loop-index.invariant

pub returns-then-is_of-clause-index : goal.returns-then-is_of-clause-index
returns-then-is_of-clause-index c =
    let xs = c.args.places.now in
    let first = c.args.self.now.first in
    let taken = c.args.self.now.taken in
    let index = c.loop-index.index in
    let families = (held_in c.args.self.now xs).families in
    let here = lent_at (λ (p : LentFamily). p.family) first taken index c.place_of.result xs
    c.index-places-place_of.result c.requires.first c.requires.taken c.loop-index-test.true
    c.place_of.ensures.place c.place_of.ensures.within c.index-places-place_of.is in
    sym (position_by (λ (f : Family). same_identity f.identity c.args.identity) families index
    c.index-places-place_of.result.family here (sym c.is_of.ensures ∙ c.if-is_of.true)
    c.loop-index.invariant)

pub returns-clause-index : goal.returns-clause-index
returns-clause-index c =
    let xs = c.args.places.now in
    let first = c.args.self.now.first in
    let taken = c.args.self.now.taken in
    let index = c.loop-index.index in
    let families = (held_in c.args.self.now xs).families in
    let long = length-map (newest_first first taken xs) (λ (p : LentFamily). p.family) in
    let all = length-newest first taken xs (omega (arith, c.requires.first)) c.requires.taken in
    sym (position_none (λ (f : Family). same_identity f.identity c.args.identity) families
    (λ k family at.
    let within = slice_get_within families k family at in
    c.loop-index.invariant k family (omega (arith, within, long, all, c.loop-index-test.false)) at))
