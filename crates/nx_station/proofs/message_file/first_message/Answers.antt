use Rattle.std.proofs.Common.{◌++◌, ◌∷◌, ◌∙◌, ap, map, subst, sym}
use Rattle.std.proofs.lemmas.Result.{err_from_is_err_and}
use Rattle.nx_envelope.specs.Message.{IsMessageFault}
use Rattle.nx_station.specs.private.MessageParts.{ExplainsFirst}
use Rattle.nx_station.proofs.lemmas.message_files.FileReading.{text-explains}
use Rattle.nx_station.proofs.message_file.first_message.Goals as goal

pub returns-in_err-body-clause-fault : goal.returns-in_err-body-clause-fault
returns-in_err-body-clause-fault c =
    let p = err_from_is_err_and c.from_residual.result c.from_residual.ensures.1 in
    let identity = c.in-Some-identity_in.identity in
    let fault = c.in_err-body.ensures.fault identity.b2.byte identity.number record
    { letter = identity.b2.in_range; two_digits = identity.two_digits } in
    let bytes = c.in-Some.ensures.whole
    ∙ ap (λ l. l ++ (10 ∷ c.in-Some.rest.now)) c.in-Some-identity_in.ensures.named in
    rw p.1 (rw p.2 (subst (λ b. ExplainsFirst c.args.before b c.in_err-body.field-0.0) (sym bytes)
    fault))

pub returns-clause-fault : goal.returns-clause-fault
returns-clause-fault c =
    let identity = c.in-Some-identity_in.identity in
    let body = c.in_ok-body.ensures in
    let lines = map (λ line. line.now) c.in_ok-body.body.lines.items in
    let refused = subst (λ l. IsMessageFault (map (λ line. line.now) l) c.in-Err.fault)
    c.deref.ensures.value c.in-Err.ensures.refused in
    rw c.text_fault.ensures
    (text-explains c.args.before c.args.bytes.now c.in-Some.line.now c.in-Some.rest.now
    c.in_ok-body.body.rest.now lines identity.b2.byte identity.number c.in-Err.fault
    c.in-Some.ensures.whole c.in-Some-identity_in.ensures.named body.whole record
    { letter = identity.b2.in_range; two_digits = identity.two_digits } body.inside refused)
