use Rattle.std.proofs.Common.{◌≡◌, ◌<◌, ◌∙◌, ap, arith, get_or, length, subst, sym}
use Rattle.std.proofs.lemmas.Option.{get_or_from_slice_get, slice_get_within}
use Rattle.nx_fec.specs.air_files.Channels.{channel_number}
use Rattle.nx_handle.specs.CombiningPlaces.{CombiningPlaceView, StandsLent}
use Rattle.nx_handle.proofs.lemmas.Combining.{leaves-in}
use Rattle.nx_handle.proofs.combining_place.CombiningPlaceKeptPlace.left_on.Goals as goal

pub returns-in-Hears-clause-leaves : goal.returns-in-Hears-clause-leaves
returns-in-Hears-clause-leaves g c place at held start history log s =
    let places = c.args.places.now in
    let there = c.in-Some.place.now in
    let i : c.from.result ≡ channel_number c.args.channel = c.from.ensures ∙ c.number.ensures in
    let same : place ≡ there =
    sym (get_or_from_slice_get places (channel_number c.args.channel) place there at)
    ∙ ap (λ n. get_or places n there) (sym i) ∙ sym c.in-Some.ensures.lookup.1 in
    let lent = g.F.FamilyRoom.places there.families in
    leaves-in held start lent there.state c.in-Hears.receiver history log c.saved.result
    (sym (ap (λ (v : CombiningPlaceView g.row.F.Denot). v.state) c.place.view_is) ∙ c.in-Hears.is)
    (subst (λ (p : CombiningPlaceView g.row.F.Denot).
    StandsLent held start (g.F.FamilyRoom.places p.families) p.state history log) same s)
    (λ stands. c.saved.ensures.leaves lent start history log stands)

pub returns-in-None-clause-leaves : goal.returns-in-None-clause-leaves
returns-in-None-clause-leaves g c place at held start history log s =
    let has : channel_number c.args.channel < length c.args.places.now =
    slice_get_within c.args.places.now (channel_number c.args.channel) place at in
    let i : c.from.result ≡ channel_number c.args.channel = c.from.ensures ∙ c.number.ensures in
    absurd (let none = c.in-None.ensures.lookup in omega (arith, has, i, none))
