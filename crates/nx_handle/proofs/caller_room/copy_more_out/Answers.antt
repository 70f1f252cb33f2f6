use Rattle.std.proofs.Common.{◌≡◌, ◌+◌, ◌-◌, ◌++◌, ◌∙◌, ap, ap₂, arith, drop, length, min, sym, take}
use Rattle.std.proofs.lemmas.List.{drop-drop, length-append}
use Rattle.nx_handle.proofs.lemmas.Room.{copied-more}
use Rattle.nx_handle.proofs.caller_room.copy_more_out.Goals as goal

pub returns-clause-copied : goal.returns-clause-copied
returns-clause-copied c old text h =
    let piece = c.args.piece.now in
    let now = c.args.space.now in
    let from = c.min-from.result in
    let count = c.min-count.result in
    let same : from + count - from ≡ count = omega arith in
    record {
      copied = copied-more old text piece now _ from count h.copied
          (c.min-from.ensures ∙ ap (λ n. min n (length now)) h.counted) c.min-count.ensures
          (ap₂ (λ a b. take from now ++ (a ++ b)) c.copy_from_slice.ensures.after
          (ap (λ k. drop k (drop from now)) same ∙ drop-drop count from now));
      counted = ap (λ n. n + length piece) h.counted ∙ sym (length-append text piece);
    }
