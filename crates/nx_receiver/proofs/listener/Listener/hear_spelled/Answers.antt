use Rattle.std.proofs.Common.{ap, subst, true}
use Rattle.nx_receiver.specs.Listener.{text_by}
use Rattle.nx_receiver.specs.Receiver.{headed_list}
use Rattle.nx_copies.specs.copies.FoundCopies.{headed_copy}
use Rattle.nx_copies.specs.copies.Log.{IsEntry}
use Rattle.nx_copies.specs.copies.Shares.{marked}
use Rattle.nx_receiver.proofs.listener.Listener.hear_spelled.Goals as goal

pub returns-in_default-clause-heard : goal.returns-in_default-clause-heard
returns-in_default-clause-heard g c =
    let call = c.next_printed-count in
    let channel = c.args.channel in
    let text = text_by g.R.ChannelReceiver.kind call.new.self channel in (
      headed_list call.result.1 text,
      ap (λ o. headed_list o text) c.in_default.is,
      λ starts given part copies h. call.ensures.heard starts given part copies h,
    )

pub returns-clause-heard : goal.returns-clause-heard
returns-clause-heard g c =
    let call = c.next_printed-count in
    let channel = c.args.channel in
    let head = c.in-Some.head in
    let text = text_by g.R.ChannelReceiver.kind call.new.self channel in (
      headed_list call.result.1 text,
      (
        headed_copy head text true,
        ap (λ o. headed_list o text) c.in-Some.is,
        subst (λ t. IsEntry (marked channel (headed_copy head t true))
            c.spell_entry.new.bytes.items)
            c.text.ensures.text c.spell_entry.ensures,
      ),
      λ starts given part copies h. call.ensures.heard starts given part copies h,
    )
