use Rattle.std.proofs.Common.{◌∙◌, [], ◌∷◌, ◌++◌, ap, subst, sym, true}
use Rattle.nx_copies.specs.copies.FoundCopies.{headed_copy}
use Rattle.nx_copies.specs.copies.Shares.{marked}
use Rattle.nx_receiver.specs.Receiver.{headed_list}
use Rattle.nx_handle.specs.CallerRoom.{room}
use Rattle.nx_handle.specs.private.Hearing.{CopiesEntryOut}
use Rattle.nx_handle.proofs.lemmas.Closing.{end-prints}
use Rattle.nx_handle.proofs.closing.end_at.Goals as goal

pub returns-clause-printed : goal.returns-clause-printed
returns-clause-printed g c = λ is.
    let kind = g.P.KeptPlace.kind in
    let text = kind.text_of c.end.new.self in
    let copy = headed_copy c.in-Some.head text true in (
      copy,
      subst (λ t. CopiesEntryOut (marked c.args.channel (headed_copy c.in-Some.head t true))
          (room c.args.log.now c.copy_entry_out.new.space c.copy_entry_out.new.written))
          c.text.ensures.text c.copy_entry_out.ensures,
      end-prints kind c.args.place.now (copy ∷ [])
          (sym c.is_hearing.ensures ∙ c.if-not-is_hearing.false)
          (λ held start history log s.
          subst (λ l. (kind.printing held).to_end start history (log ++ l))
          (ap (λ o. headed_list o text) c.in-Some.is)
          (c.end.ensures.stands held start history log s)),
    )
