use Rattle.std.proofs.Common.{◌≡◌, ◌<◌, ◌∙◌, ap, arith, length, Some, refl, sym, true}
use Rattle.nx_fec.specs.air_files.Channels.{channel_number}
use Rattle.nx_handle.specs.Places.{all_hear}
use Rattle.nx_handle.specs.Sendings.{sendings_status}
use Rattle.nx_handle.specs.Status.{number_of}
use Rattle.nx_handle.proofs.lemmas.Sendings.{done-status, tells}
use Rattle.nx_handle.proofs.lemmas.Places.{read-at}
use Rattle.nx_handle.proofs.counting.sendings.Goals as goal

pub returns : goal.returns
returns g c =
    let kind = g.P.KeptPlace.kind in
    let places = c.args.places.now in
    let on = c.in-Some.channel in
    let hear : all_hear kind places ≡ true = sym c.all_hear.ensures ∙ c.if-not-all_hear.false in
    let i : c.from.result ≡ channel_number on = c.from.ensures ∙ c.number-2.ensures in
    let has : c.from.result < length places =
    omega (arith, i, c.in-Some.ensures.0, c.in-Some.ensures.1) in
    record {
      cause = done-status c.args.channel (length places) c.in-Some.ensures.1
          ∙ sym (ap (λ b. number_of (sendings_status b c.args.channel (length places))) hear);
      done = λ _. tells kind places on c.args.channel c.sendings.result
          c.index-places-from.result c.in-Some.ensures.0 c.in-Some.ensures.1
          (read-at places c.from.result c.index-places-from.result on has i
          ∙ ap (λ p. Some p) (sym c.index-places-from.is))
          (λ held start history log s. c.sendings.ensures held start history log s);
      refused = λ no. absurd (no refl);
    }
