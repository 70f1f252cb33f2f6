use Rattle.std.proofs.Common.{◌≡◌, ◌∙◌, ap, get_or, sym}
use Rattle.std.proofs.lemmas.Option.{get_or_from_slice_get}
use Rattle.nx_fec.specs.air_files.Channels.{channel_number}
use Rattle.nx_handle.proofs.lemmas.Plain.{stands-in}
use Rattle.nx_handle.proofs.plain_place.PlainPlaceKeptPlace.left_on.Goals as goal

pub returns-in-Some-Hears-clause-leaves : goal.returns-in-Some-Hears-clause-leaves
returns-in-Some-Hears-clause-leaves c place at held start history log s =
    let places = c.args.places.now in
    let there = c.in-Some-Hears.field-0.now in
    let i : c.from.result ≡ channel_number c.args.channel = c.from.ensures ∙ c.number.ensures in
    let same : place ≡ there =
    sym (get_or_from_slice_get places (channel_number c.args.channel) place there at)
    ∙ ap (λ n. get_or places n there) (sym i) ∙ sym c.in-Some-Hears.ensures.lookup.1 in
    c.saved.ensures.leaves start history log
    (stands-in held start place c.in-Some-Hears.receiver history log
    (same ∙ c.in-Some-Hears.field-0-is) s).1
