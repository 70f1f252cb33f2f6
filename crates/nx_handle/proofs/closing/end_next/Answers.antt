use Rattle.std.proofs.Common.{◌≡◌, ◌<◌, ◌∙◌, [], ◌∷◌, ap, arith, get_or, length, slice_set, subst, sym}
use Rattle.std.proofs.lemmas.Option.{slice_get-get_or}
use Rattle.nx_fec.specs.air_files.Channels.{channel_number}
use Rattle.nx_copies.specs.copies.Shares.{marked}
use Rattle.nx_handle.specs.CallerRoom.{room}
use Rattle.nx_handle.specs.private.Hearing.{CopiesEntryOut}
use Rattle.nx_handle.specs.Life.{EndsWith}
use Rattle.nx_handle.proofs.lemmas.Closing.{all-gone, ended-more, printed-first, silent-first}
use Rattle.nx_handle.proofs.lemmas.Places.{not-all, read-at, room-set, rooms-then, set-here, set-long}
use Rattle.nx_handle.proofs.closing.end_next.Goals as goal

pub returns-then-end_at-clause-printed : goal.returns-then-end_at-clause-printed
returns-then-end_at-clause-printed g c = λ is.
    let kind = g.P.KeptPlace.kind in
    let places = c.loop-at.places in
    let at = c.loop-at.at in
    let on = c.channel_at.result in
    let was = get_or places at c.index-places-at.result in
    let place = c.end_at.new.place in
    let has : at < length places =
    omega (arith, c.loop-at-test.true, c.loop-at.invariant.channels) in
    let out = c.end_at.ensures.printed c.if-end_at.true in
    let new : slice_set places at place ≡ slice_set places (channel_number on) place =
    ap (λ n. slice_set places n place) (sym c.channel_at.ensures) in (
      marked on out.0,
      subst (λ l. CopiesEntryOut (marked on out.0)
          (room l c.end_at.new.log c.end_at.new.written)) c.loop-at.invariant.same_log out.1,
      λ left h. c.loop-at.invariant.behind (marked on out.0 ∷ left)
          (printed-first kind places on was place out.0 c.end_at.ensures.ended.0
          (read-at places at c.index-places-at.result on has (sym c.channel_at.ensures)) out.2
          (λ k one lt e. c.loop-at.invariant.ended k one
          (omega (arith, lt, c.channel_at.ensures)) e) left
          (subst (λ p. EndsWith kind p left) new h)),
    )

pub returns-then-end_at-clause-ended : goal.returns-then-end_at-clause-ended
returns-then-end_at-clause-ended g c = λ is.
    let kind = g.P.KeptPlace.kind in
    let places = c.loop-at.places in
    let at = c.loop-at.at in
    let place = c.end_at.new.place in
    let new = slice_set places at place in
    let here = set-here places at place
    (omega (arith, c.loop-at-test.true, c.loop-at.invariant.channels)) in (
      not-all kind.is_hearing new at place here c.end_at.ensures.ended.0,
      not-all kind.is_closed new at place here c.end_at.ensures.ended.1,
    )

pub returns-then-end_at-clause-rooms : goal.returns-then-end_at-clause-rooms
returns-then-end_at-clause-rooms g c =
    let kind = g.P.KeptPlace.kind in
    let places = c.loop-at.places in
    let at = c.loop-at.at in
    let has : at < length places =
    omega (arith, c.loop-at-test.true, c.loop-at.invariant.channels) in
    rooms-then kind c.loop-at.invariant.rooms
    (room-set kind places at c.end_at.new.place (get_or places at c.index-places-at.result)
    (slice_get-get_or places at c.index-places-at.result has) c.end_at.ensures.room)

pub loop-at-preserved : goal.loop-at-preserved
loop-at-preserved g c =
    let kind = g.P.KeptPlace.kind in
    let places = c.loop-at.places in
    let at = c.loop-at.at in
    let on = c.channel_at.result in
    let was = get_or places at c.index-places-at.result in
    let place = c.end_at.new.place in
    let inv = c.loop-at.invariant in
    let has : at < length places = omega (arith, c.loop-at-test.true, inv.channels) in
    let silent = c.end_at.ensures.silent c.if-end_at.false in
    let new : slice_set places at place ≡ slice_set places (channel_number on) place =
    ap (λ n. slice_set places n place) (sym c.channel_at.ensures) in
    record {
      channels = set-long places at place ∙ inv.channels;
      rooms = rooms-then kind inv.rooms
          (room-set kind places at place was
          (slice_get-get_or places at c.index-places-at.result has) c.end_at.ensures.room);
      same_log = silent.1 ∙ inv.same_log;
      ended = ended-more kind places at place has
          (record { silent = c.end_at.ensures.ended.0; still = c.end_at.ensures.ended.1 })
          inv.ended;
      behind = λ left h. inv.behind left
          (silent-first kind places on was place c.end_at.ensures.ended.0
          (read-at places at c.index-places-at.result on has (sym c.channel_at.ensures)) silent.0
          left (subst (λ p. EndsWith kind p left) new h));
    }

pub returns-clause-silent : goal.returns-clause-silent
returns-clause-silent g c = λ is. (
  c.loop-at.invariant.behind []
      (all-gone g.P.KeptPlace.kind c.loop-at.places c.loop-at.at
      (omega (arith, c.loop-at-test.false, c.loop-at.invariant.channels))
      c.loop-at.invariant.ended),
  c.loop-at.invariant.same_log,
)
