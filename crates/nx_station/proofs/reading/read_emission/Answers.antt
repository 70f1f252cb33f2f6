use Rattle.std.proofs.Common.{◌∙◌, ap, map, not, subst, sym}
use Rattle.std.proofs.lemmas.Bool.{false≢true, not-false}
use Rattle.std.proofs.lemmas.Result.{err_from_is_err_and}
use Rattle.std.specs.Cmp.{booleans_Decides}
use Rattle.std.specs.Cmp.Lexicographic.{pointwise_decides}
use Rattle.nx_fec.specs.emissions.Emission.{bits_of, emission, sent_position}
use Rattle.nx_station.specs.Broadcast.{IsBroadcast}
use Rattle.nx_station.specs.Sendable.{IsRefusal, IsSendable}
use Rattle.nx_station.proofs.lemmas.strict_reading.EmissionFaults.{differing-fault, refused-fault, unprinted-fault}
use Rattle.nx_station.proofs.reading.read_emission.Goals as goal

pub returns-in_err-messages-clause-fault : goal.returns-in_err-messages-clause-fault
returns-in_err-messages-clause-fault c =
    let p = err_from_is_err_and c.from_residual-in_err-messages.result
    c.from_residual-in_err-messages.ensures.1 in
    let checked = c.in_ok-check_words.ensures in
    rw p.1 (rw p.2 (unprinted-fault c.args.bits.now c.deref.result.now c.in_err-messages.field-0.0
    record { whole = checked.whole; right = checked.right; paired = checked.paired }
    (c.deref.ensures.value ∙ c.in_ok-text.ensures) c.in_err-messages.ensures.fault))

pub returns-in_err-positions-clause-fault : goal.returns-in_err-positions-clause-fault
returns-in_err-positions-clause-fault c =
    let p = err_from_is_err_and c.from_residual-in_err-positions.result
    c.from_residual-in_err-positions.ensures.1 in
    let checked = c.in_ok-check_words.ensures in
    let why = c.in_err-positions.field-0.0 in
    let messages = c.in_ok-messages.messages.items in
    let refused = subst (λ l. IsRefusal l why) c.deref-2.ensures.value
    c.in_err-positions.ensures.refused in
    rw p.1 (rw p.2 (refused-fault c.args.bits.now messages why
    record {
      checked = record { whole = checked.whole; right = checked.right; paired = checked.paired };
      sound = c.in_ok-messages.ensures.sound;
      printed = sym c.in_ok-text.ensures ∙ sym c.deref.ensures.value
          ∙ c.in_ok-messages.ensures.messages;
    } refused))

pub returns-then-ne-clause-fault : goal.returns-then-ne-clause-fault
returns-then-ne-clause-fault c =
    let checked = c.in_ok-check_words.ensures in
    let messages = c.in_ok-messages.messages.items in
    let positions = map sent_position c.in_ok-positions.positions.items in
    differing-fault c.args.bits.now c.in_ok-sent.sent.items messages positions
    record {
      checked = record { whole = checked.whole; right = checked.right; paired = checked.paired };
      sound = c.in_ok-messages.ensures.sound;
      printed = sym c.in_ok-text.ensures ∙ sym c.deref.ensures.value
          ∙ c.in_ok-messages.ensures.messages;
    } (subst (λ l. IsBroadcast l positions) c.deref-2.ensures.value
    c.in_ok-positions.ensures.positions)
    (c.in_ok-sent.ensures ∙ ap (λ l. bits_of (emission (map sent_position l)))
    c.deref-3.ensures.value)
    (λ e. false≢true (sym (c.if-ne.ensures
    ∙ ap not ((pointwise_decides booleans_Decides c.as_slice.result.now c.args.bits.now).1
    (c.as_slice.ensures.value ∙ e)))))

pub returns-clause-messages : goal.returns-clause-messages
returns-clause-messages c =
    let messages = c.in_ok-messages.messages.items in
    let positions = map sent_position c.in_ok-positions.positions.items in
    let own = c.in_ok-sent.ensures
    ∙ ap (λ l. bits_of (emission (map sent_position l))) c.deref-3.ensures.value in
    record {
      sendable = subst IsSendable c.deref-2.ensures.value c.in_ok-positions.ensures.sendable;
      positions = positions;
      broadcast = subst (λ l. IsBroadcast l positions) c.deref-2.ensures.value
          c.in_ok-positions.ensures.positions;
      whole = sym (sym c.as_slice.ensures.value
          ∙ (pointwise_decides booleans_Decides c.as_slice.result.now c.args.bits.now).0
          (not-false _ (sym c.if-ne.ensures))) ∙ own;
    }
