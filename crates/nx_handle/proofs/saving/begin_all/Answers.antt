use Rattle.std.proofs.Common.{◌<◌, ◌+◌, ◌∙◌, arith, get_or, length, ℕ, slice_set, subst}
use Rattle.std.proofs.lemmas.Option.{slice_get-get_or}
use Rattle.nx_fec.specs.air_files.Channels.{channel_number}
use Rattle.nx_fec.specs.declared.air_files.channel.Channel.{Channel}
use Rattle.nx_handle.proofs.lemmas.Begun.{BeginsAt, all-begun, begun-more}
use Rattle.nx_handle.proofs.lemmas.Places.{long-kept, set-map}
use Rattle.nx_handle.proofs.saving.begin_all.Goals as goal

pub loop-at-preserved : goal.loop-at-preserved
loop-at-preserved g c =
    let kind = g.P.KeptPlace.kind in
    let inv = c.loop-at.invariant in
    let places = c.loop-at.places in
    let at = c.loop-at.at in
    let on = c.channel_at.result in
    let place = c.begin_from.new.place in
    let bytes = c.args.state.now in
    let count = length c.args.places.now in
    let was = get_or places at c.index-places-at.result in
    let long = long-kept kind c.args.places.now places inv.same in
    let has : at < length places = omega (arith, c.loop-at-test.true, long) in
    record {
      same = set-map kind.shut places at place was
          (slice_get-get_or places at c.index-places-at.result has) c.begin_from.ensures.room
          ∙ inv.same;
      begun = subst (λ (n : ℕ). (channel : Channel) → channel_number channel < n + 1
          → BeginsAt kind bytes count (slice_set places n place) channel)
          c.channel_at.ensures
          (begun-more kind g.met.P.KeptPlace.laws bytes count places on was place
          (omega (arith, c.channel_at.ensures, has))
          (λ channel lt. inv.begun channel (omega (arith, lt, c.channel_at.ensures)))
          c.in_ok-begin_from.ensures.ok);
    }

pub returns-clause-ok : goal.returns-clause-ok
returns-clause-ok g c =
    let kind = g.P.KeptPlace.kind in
    all-begun kind g.met.P.KeptPlace.laws c.args.state.now (length c.args.places.now)
    c.args.places.now c.loop-at.places c.requires.some c.requires.few
    (long-kept kind c.args.places.now c.loop-at.places c.loop-at.invariant.same)
    c.loop-at.invariant.same
    (λ channel lt. c.loop-at.invariant.begun channel (omega (arith, lt, c.loop-at-test.false)))
