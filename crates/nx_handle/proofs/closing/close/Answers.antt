use Rattle.std.proofs.Common.{◌∙◌, sym}
use Rattle.nx_handle.specs.CallerRoom.{room}
use Rattle.nx_handle.proofs.lemmas.Closing.{closes-one}
use Rattle.nx_handle.proofs.closing.close.Goals as goal

pub returns-then-end_next : goal.returns-then-end_next
returns-then-end_next g c =
    let out = c.end_next.ensures.printed c.if-end_next.true in
    let ended = c.end_next.ensures.ended c.if-end_next.true in
    closes-one g.P.KeptPlace.kind c.args.places.now c.end_next.new.places
    (room c.args.log.now c.end_next.new.log c.end_next.new.written) out.0 out.1.bytes
    (sym c.are_closed.ensures ∙ c.if-are_closed.false) c.if-log-lt-MAX_ENTRY.false out.1.copied
    out.1.short out.1.spelled ended.0 ended.1 out.2 c.end_next.ensures.channels
    c.end_next.ensures.rooms
