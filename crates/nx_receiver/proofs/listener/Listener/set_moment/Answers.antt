use Rattle.std.proofs.Common.{◌≤◌, ◌∙◌, true, ap, subst, sym}
use Rattle.std.proofs.lemmas.Result.{err_from_is_err_and}
use Rattle.nx_fec.specs.declared.air_files.channel.Channel.TheVariants.{Zero, One, Two}
use Rattle.nx_copies.specs.Events.{at_moment}
use Rattle.nx_receiver.specs.Moments.{Refuses}
use Rattle.nx_receiver.specs.Listener.{ListeningOver, receiver_on}
use Rattle.nx_receiver.specs.ChannelReceiver.{TakesEventBy}
use Rattle.nx_receiver.proofs.lemmas.listening.Listener.{same-receivers, set-all}
use Rattle.nx_receiver.proofs.listener.Listener.set_moment.Goals as goal

pub returns-clause-heard : goal.returns-clause-heard
returns-clause-heard g c = λ starts given copies h.
    let n = c.args.moment in
    let e = c.self.view_is in
    let made = c.in_ok-set_moments.ensures in
    let new : ListeningOver g.row.R.Denot = record {
      on_0 = c.self.inside.on_0;
      on_1 = c.self.inside.on_1;
      on_2 = c.self.inside.on_2;
      has_moment = true;
      elements = c.self.inside.elements;
      entries = c.self.inside.entries;
    } in (
      subst (λ m. m ≤ n) (h.moments Zero) made.taken.0,
      made.taken.1,
      set-all g.met.R.ChannelReceiver.laws starts c.args.self.now new given copies n h
          (ap (λ (l : ListeningOver g.row.R.Denot). l.elements) e ∙ c.set_moments.ensures.elements)
          (ap (λ (l : ListeningOver g.row.R.Denot). l.entries) e ∙ c.set_moments.ensures.entries)
          (λ channel. subst (λ r. TakesEventBy g.R.ChannelReceiver.kind
          (receiver_on c.args.self.now channel) r
          (at_moment n))
          (same-receivers c.set_moments.new.self new
          (sym (ap (λ (l : ListeningOver g.row.R.Denot). l.on_0) e))
          (sym (ap (λ (l : ListeningOver g.row.R.Denot). l.on_1) e))
          (sym (ap (λ (l : ListeningOver g.row.R.Denot). l.on_2) e)) channel)
          (made.stands channel)),
    )

pub returns-in_err-set_moments-clause-heard : goal.returns-in_err-set_moments-clause-heard
returns-in_err-set_moments-clause-heard g c = λ starts given copies h.
    let now = h.moments in
    let p = err_from_is_err_and c.from_residual.result c.from_residual.ensures.1 in
    let refused = c.in_err-set_moments.ensures.refused (now One ∙ sym (now Zero))
    (now Two ∙ sym (now Zero)) in
    rw p.1 (rw p.2 (
      subst (λ m. Refuses m c.args.moment c.in_err-set_moments.field-0.0) (now Zero) refused.0,
      refused.1,
    ))
