use Rattle.std.proofs.Common.{◌≡◌, ◌∷◌, ◌++◌, ◌∙◌, [], true, sym, take, subst, arith}
use Rattle.std.proofs.Common.{rules}
use Rattle.std.proofs.lemmas.List.{take_all}
use Rattle.std.proofs.lemmas.Result.{err_from_is_err_and}
use Rattle.nx_fec.specs.air_files.AirFile.{elements}
use Rattle.nx_fec.specs.air_files.LineRuns.{HasGiven}
use Rattle.nx_receiver.specs.air_file_runs.Listen.{given_by, has_moment}
use Rattle.nx_receiver.specs.Listener.{starts_by}
use Rattle.nx_receiver.specs.private.Listener.{HeardSomeBy, HearsLogBy, IsHearingBy}
use Rattle.nx_receiver.specs.Listener.{then_elements}
use Rattle.nx_receiver.proofs.lemmas.listening.Listener.{begins-line, elements-next, elements-rest}
use Rattle.nx_receiver.proofs.lemmas.listening.Listener.{heard-line, none-heard}
use Rattle.nx_receiver.proofs.lemmas.listening.Moments.{logged-some}
use Rattle.nx_receiver.proofs.air_file_runs.listening.take_elements.Goals as goal

pub loop-at-preserved : goal.loop-at-preserved
loop-at-preserved g c =
    let bits = c.args.packed.now in
    record {
      none = c.in_ok-at.ensures.counts.none;
      within = omega (arith, c.in_ok-at.ensures.within.1);
      moment = c.hear_next.ensures.moment ∙ c.loop-at.invariant.moment;
      heard = λ starts old given h.
          subst (λ bs. IsHearingBy g.C.ChannelReceiver.kind starts c.hear_next.new.listener
          (then_elements given c.of-channel.result bs)
          (HasGiven old (g.W.Write.contents c.hear_next.new.writer.inner) c.hear_next.new.batch))
          (elements-next bits c.loop-at.at c.in_ok-at.field-0)
          (c.in_ok-at.ensures.heard starts old given (take c.loop-at.at bits)
          (c.loop-at.invariant.heard starts old given h));
    }

pub returns-clause-taken : goal.returns-clause-taken
returns-clause-taken g c = λ first old lines h.
    let kind = g.C.ChannelReceiver.kind in
    let bits = c.args.packed.now in
    let all : take c.loop-at.at bits ≡ bits = take_all c.loop-at.at bits (search rules) in
    let some : has_moment lines ≡ true = sym h.stood.moment ∙ c.requires.moment in
    let heard = c.loop-at.invariant.heard (starts_by kind first) old (given_by lines) (record {
      bytes = h.given;
      hears = none-heard g.met.C.ChannelReceiver.laws (starts_by kind first) c.args.listener.now
          (given_by lines) c.of-channel.result h.given
          h.stood.hears;
      here = h.here;
    }) in
    record {
      given = heard.bytes;
      stood = heard-line (starts_by kind first) c.args.listener.now c.loop-at.listener lines
          c.args.mark c.of-channel.result c.args.packed.now h.given heard.bytes
          c.of-channel.ensures h.stood some c.loop-at.invariant.moment
          (subst (λ bs. HearsLogBy kind (starts_by kind first) c.loop-at.listener
          (then_elements (given_by lines) c.of-channel.result bs) heard.bytes) all heard.hears);
      here = heard.here;
    }

pub returns-in_err-at-clause-taken : goal.returns-in_err-at-clause-taken
returns-in_err-at-clause-taken g c = λ first old lines h.
    let kind = g.C.ChannelReceiver.kind in
    let bits = c.args.packed.now in
    let some : has_moment lines ≡ true = sym h.stood.moment ∙ c.requires.moment in
    let heard = subst
    (λ bs. HeardSomeBy kind.printing (starts_by kind first)
    (then_elements (given_by lines) c.of-channel.result bs) old
    (g.W.Write.contents c.hear_next.new.writer.inner) c.in_err-at.field-0.0.written)
    (elements-rest bits c.loop-at.at) (c.in_err-at.ensures.heard (starts_by kind first) old
    (given_by lines) (take c.loop-at.at bits) (c.loop-at.invariant.heard (starts_by kind first) old
    (given_by lines) (record {
      bytes = h.given;
      hears = none-heard g.met.C.ChannelReceiver.laws (starts_by kind first) c.args.listener.now
          (given_by lines) c.of-channel.result h.given
          h.stood.hears;
      here = h.here;
    }))) in
    let p = err_from_is_err_and c.from_residual.result c.from_residual.ensures.1 in
    rw p.1 (rw p.2 (logged-some g.met.C.ChannelReceiver.laws.printing (starts_by kind first) old
    (g.W.Write.contents c.hear_next.new.writer.inner) c.in_err-at.field-0.0.written
    (lines ++ elements c.args.mark c.args.packed.now ∷ []) heard.bytes
    (begins-line kind.printing (starts_by kind first) lines c.args.mark c.of-channel.result
    c.args.packed.now heard.bytes c.of-channel.ensures h.stood.taken some heard.begun) heard.some))
