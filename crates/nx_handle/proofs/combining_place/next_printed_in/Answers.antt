use Rattle.std.proofs.Common.{◌∙◌, drop, length}
use Rattle.nx_combine.specs.CombinedReceiver.{text_over}
use Rattle.nx_receiver.proofs.lemmas.receiver.Given.{no_head}
use Rattle.nx_handle.proofs.lemmas.Combining.{fed-finished, fed-more, finished-in, heard-printed, heard-quietly}
use Rattle.nx_handle.proofs.combining_place.next_printed_in.Goals as goal

-- nothing is over
pub returns-in_default-clause-hears : goal.returns-in_default-clause-hears
returns-in_default-clause-hears g c =
    let places = g.F.FamilyRoom.places in
    let old = places c.args.families.now in
    let lent = places c.loop-heard.families in
    let inv = c.loop-heard.invariant in
    let call = c.hear-count in
    let n = call.result.0 in
    let fed = fed-more (length old) old lent c.args.receiver.now c.loop-heard.receiver
    call.new.self c.args.packed.now c.args.from c.loop-heard.heard n call.result.1 inv.room
    inv.fed call.ensures.within
    (λ room start history log s. call.ensures.stands room start history log s)
    (λ room start history log s k lt. call.ensures.first room start history log s k lt) in
    heard-quietly old lent c.args.receiver.now c.loop-heard.receiver call.new.self
    (drop c.args.from c.args.packed.now) c.loop-heard.heard n call.result.1 fed c.in_default.is

-- an entry is printed
pub returns-then-is_some-clause-hears : goal.returns-then-is_some-clause-hears
returns-then-is_some-clause-hears g c =
    let places = g.F.FamilyRoom.places in
    let old = places c.args.families.now in
    let lent = places c.loop-heard.families in
    let inv = c.loop-heard.invariant in
    let call = c.hear-count in
    let n = call.result.0 in
    let new = places c.finish-head.new.self in
    let last = c.finish-head.new.receiver in
    let fed = fed-more (length old) old lent c.args.receiver.now c.loop-heard.receiver
    call.new.self c.args.packed.now c.args.from c.loop-heard.heard n call.result.1 inv.room
    inv.fed call.ensures.within
    (λ room start history log s. call.ensures.stands room start history log s)
    (λ room start history log s k lt. call.ensures.first room start history log s k lt) in
    heard-printed old lent new c.args.receiver.now c.loop-heard.receiver call.new.self last
    (drop c.args.from c.args.packed.now) c.loop-heard.heard n call.result.1 c.in-Some.over
    c.finish-head.result fed c.in-Some.is
    (finished-in (length old) lent new call.new.self last c.in-Some.over c.finish-head.result
    inv.room
    (λ start history log a. c.finish-head.ensures.finishes.stands start history log a))

-- none is
pub loop-heard-preserved : goal.loop-heard-preserved
loop-heard-preserved g c =
    let places = g.F.FamilyRoom.places in
    let old = places c.args.families.now in
    let lent = places c.loop-heard.families in
    let inv = c.loop-heard.invariant in
    let call = c.hear-count in
    let n = call.result.0 in
    let new = places c.finish-head.new.self in
    let last = c.finish-head.new.receiver in
    let fed = fed-more (length old) old lent c.args.receiver.now c.loop-heard.receiver
    call.new.self c.args.packed.now c.args.from c.loop-heard.heard n call.result.1 inv.room
    inv.fed call.ensures.within
    (λ room start history log s. call.ensures.stands room start history log s)
    (λ room start history log s k lt. call.ensures.first room start history log s k lt) in
    record {
      fits = c.finish-head.ensures.finishes.fits;
      room = c.finish-head.ensures.finishes.room ∙ inv.room;
      stays = c.finish-head.ensures.stays ∙ inv.stays;
      fed = fed-finished (length old) old lent new c.args.receiver.now c.loop-heard.receiver
          call.new.self last (drop c.args.from c.args.packed.now) c.loop-heard.heard n
          call.result.1 c.in-Some.over c.finish-head.result fed c.in-Some.is
          (finished-in (length old) lent new call.new.self last c.in-Some.over
          c.finish-head.result inv.room
          (λ start history log a. c.finish-head.ensures.finishes.stands start history log a))
          (no_head c.finish-head.result (text_over last) c.is_some.result c.is_some.ensures
          c.if-is_some.false);
    }
