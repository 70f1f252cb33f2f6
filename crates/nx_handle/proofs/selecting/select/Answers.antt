use Rattle.std.proofs.Common.{◌≡◌, ◌<◌, ◌∙◌, ap, arith, IsTrue, false, get_or, length, slice_set, subst, sym}
use Rattle.nx_fec.specs.air_files.Channels.{channel_number}
use Rattle.nx_copies.specs.Events as events
use Rattle.nx_receiver.specs.Commands.{by_byte, refuses_vital}
use Rattle.nx_handle.specs.PlaceKinds.{TakesEventIn}
use Rattle.nx_handle.specs.Selecting.{AnswersSelecting, command_status}
use Rattle.nx_handle.proofs.lemmas.Places.{read-at}
use Rattle.nx_handle.proofs.lemmas.Selecting.{command-done, selecting-done}
use Rattle.nx_handle.proofs.selecting.select.Goals as goal

pub returns-in-Ok-command : goal.returns-in-Ok-command
returns-in-Ok-command g c =
    let kind = g.P.KeptPlace.kind in
    let old = c.args.places.now in
    let on = c.in-Some.channel in
    let command = by_byte c.args.command in
    let asked = command_status c.args.channel (length old) c.args.command in
    let letter = c.in-Ok.ensures.ok in
    let i : c.from.result ≡ channel_number on = c.from.ensures ∙ c.number-2.ensures in
    let has : c.from.result < length old =
    omega (arith, i, c.in-Some.ensures.0, c.in-Some.ensures.1) in
    let was = get_or old c.from.result c.index-places-from.result in
    let place = c.command.new.self in
    let new = slice_set old c.from.result place in
    subst (λ n. AnswersSelecting kind asked command n old new 0) c.in-Some.ensures.0
    (selecting-done kind g.met.P.KeptPlace.laws asked command on old new was place
    (sym c.all_hear.ensures ∙ c.if-not-all_hear.false)
    (read-at old c.from.result c.index-places-from.result on has i)
    (ap (λ n. slice_set old n place) i)
    (command-done c.args.channel (length old) c.args.command (refuses_vital command)
    c.in-Some.ensures.1 letter.1
    (subst (λ given. IsTrue (refuses_vital given) → IsTrue false) letter.0
    c.in-Ok-command.ensures.vital.1))
    (subst (λ given. TakesEventIn kind was place (events.command given)) letter.0
    c.in-Ok-command.ensures.taken) c.in-Ok-command.ensures.hears c.in-Ok-command.ensures.room)
