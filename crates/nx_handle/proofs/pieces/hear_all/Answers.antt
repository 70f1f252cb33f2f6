use Rattle.std.proofs.Common.{◌≤◌, ◌<◌, ◌-◌, [], arith, length, take, drop, subst}
use Rattle.std.proofs.lemmas.List.{length-take-le}
use Rattle.nx_copies.specs.copies.FoundCopies.{headed_copy}
use Rattle.nx_copies.specs.copies.Log.{IsEntry}
use Rattle.nx_copies.specs.copies.Shares.{marked}
use Rattle.nx_receiver.specs.Receiver.{headed_list}
use Rattle.nx_handle.specs.CallerRoom.{IsCopiedOut, room}
use Rattle.nx_handle.specs.Hearing.{elements_of}
use Rattle.nx_handle.proofs.lemmas.Hearing.{has-bytes, hears-silent, hears-spelled, next-piece, none-before-piece, piece-within, silent-more}
use Rattle.nx_handle.proofs.pieces.hear_all.Goals as goal
use Rattle.std.proofs.Common.{ap, is_some, true}

pub returns-in-Some : goal.returns-in-Some
returns-in-Some g c =
    let kind = g.P.KeptPlace.kind in
    let packed = c.pack-packed.result in let call = c.next_printed-count in
    let n = call.result.0 in let xs = c.args.elements.now in let h = c.loop-heard.heard in
    let few : n ≤ length packed = omega (arith, call.ensures.within) in
    let m = c.min-end.result - h in
    let head = c.in-Some.head in
    let text = kind.text_of call.new.self in
    let out = c.copy_entry_out.ensures in
    let some : 0 < length (take n (drop 0 packed)) =
    omega (arith, length-take-le n packed few, call.ensures.some (ap is_some c.in-Some.is)) in
    record {
      text = out.bytes;
      copied = subst (λ l. IsCopiedOut out.bytes
          (room l c.copy_entry_out.new.space c.copy_entry_out.new.written))
          c.loop-heard.invariant.same_log out.copied;
      short = out.short;
      within = piece-within xs h n m packed c.pack-packed.ensures few c.loop-heard.invariant.within;
      hears = hears-spelled kind c.args.channel c.args.place.now c.loop-heard.place call.new.self
          (elements_of (take h xs)) (take n (drop 0 packed)) _ call.result.1 head text
          out.bytes (next-piece xs h n m packed c.pack-packed.ensures few) some
          c.in-Some.is c.loop-heard.invariant.silent
          (subst (λ t. IsEntry (marked c.args.channel (headed_copy head t true)) out.bytes)
          c.text.ensures.text out.spelled)
          (λ held start history log s. call.ensures.stands held start history log s)
          (none-before-piece kind c.loop-heard.place packed n few
          (λ held start history log s k lt. call.ensures.first held start history log s k lt))
          call.ensures.now call.ensures.room;
      all = λ none. absurd (has-bytes
          (marked c.args.channel (headed_copy head c.text.result.now true)) out.bytes out.spelled
          none);
    }

pub loop-heard-preserved : goal.loop-heard-preserved
loop-heard-preserved g c =
    let kind = g.P.KeptPlace.kind in
    let packed = c.pack-packed.result in let call = c.next_printed-count in
    let n = call.result.0 in let xs = c.args.elements.now in let h = c.loop-heard.heard in
    let few : n ≤ length packed = omega (arith, call.ensures.within) in
    let m = c.min-end.result - h in
    let text = kind.text_of call.new.self in record {
      within = piece-within xs h n m packed c.pack-packed.ensures few c.loop-heard.invariant.within;
      same_log = c.loop-heard.invariant.same_log;
      silent = silent-more kind c.args.place.now c.loop-heard.place call.new.self
          (elements_of (take h xs)) (take n (drop 0 packed)) _ (headed_list call.result.1 text)
          (next-piece xs h n m packed c.pack-packed.ensures few)
          (ap (λ o. headed_list o text) c.in_default.is) c.loop-heard.invariant.silent
          (λ held start history log s. call.ensures.stands held start history log s)
          (none-before-piece kind c.loop-heard.place packed n few
          (λ held start history log s k lt. call.ensures.first held start history log s k lt))
          call.ensures.now call.ensures.room;
    }

pub returns : goal.returns
returns g c = record {
  text = [];
  copied = subst (λ l. IsCopiedOut [] (room l c.copy_out.new.space c.copy_out.new.written))
      c.loop-heard.invariant.same_log c.copy_out.ensures;
  short = omega arith;
  within = c.loop-heard.invariant.within;
  hears = hears-silent g.P.KeptPlace.kind c.args.channel c.args.place.now c.loop-heard.place _
      c.loop-heard.invariant.silent;
  all = λ _. omega (arith, c.loop-heard-test.false, c.loop-heard.invariant.within);
}
