use Rattle.std.proofs.Common.{subst, map, refl}
use Rattle.std.proofs.lemmas.Result.{err_from_is_err_and}
use Rattle.nx_envelope.specs.Message.{IsMessageFault}
use Rattle.nx_station.proofs.lemmas.strict_reading.PrintedText.{lines-fault, lines-read, printed-header, unmade-fault}
use Rattle.nx_station.proofs.printed.first_printed.Goals as goal

pub returns-in_default-identity_of_header-clause-fault :
    goal.returns-in_default-identity_of_header-clause-fault
returns-in_default-identity_of_header-clause-fault c message more sound e =
    let none = rw c.in_default-identity_of_header.is at c.identity_of_header.ensures.none refl in
    none message.identity (printed-header c.args.text.now c.in-Some.line.now c.in-Some.rest.now more
    message c.in-Some.ensures.whole c.in-Some.ensures.one_line e).0

pub returns-in_err-body-clause-fault : goal.returns-in_err-body-clause-fault
returns-in_err-body-clause-fault c =
    let p = err_from_is_err_and c.from_residual.result c.from_residual.ensures.1 in
    rw p.1 (rw p.2 (lines-fault c.args.text.now c.in-Some.line.now c.in-Some.rest.now
    c.in_err-body.field-0.0 c.in-Some.ensures.whole c.in-Some.ensures.one_line
    c.in_err-body.ensures.fault))

pub returns-in_default-past_newline-clause-fault : goal.returns-in_default-past_newline-clause-fault
returns-in_default-past_newline-clause-fault c message more sound e =
    let lines = map (λ line. line.now) c.in_ok-body.body.lines.items in
    let r = lines-read c.args.text.now c.in-Some.line.now c.in-Some.rest.now
    c.in_ok-body.body.rest.now more lines message c.in-Some.ensures.whole
    c.in-Some.ensures.one_line
    c.in_ok-body.ensures.whole c.in_ok-body.ensures.inside sound e in
    rw c.in_default-past_newline.is at c.past_newline.ensures.none refl more r.1

pub returns-in_err-message-clause-fault : goal.returns-in_err-message-clause-fault
returns-in_err-message-clause-fault c =
    let p = err_from_is_err_and c.from_residual-in_err-message.result
    c.from_residual-in_err-message.ensures.1 in
    let lines = map (λ line. line.now) c.in_ok-body.body.lines.items in
    let fault = c.in_err-message.field-0.0 in
    let refused = subst (λ l. IsMessageFault (map (λ line. line.now) l) fault) c.deref.ensures.value
    c.in_err-message.ensures.refused in
    rw p.1 (rw p.2 (unmade-fault lines fault c.args.text.now c.in-Some.line.now c.in-Some.rest.now
    c.in_ok-body.body.rest.now c.in-Some.ensures.whole c.in-Some.ensures.one_line
    c.in_ok-body.ensures.whole c.in_ok-body.ensures.inside refused))
