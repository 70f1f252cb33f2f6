use Rattle.std.proofs.Common.{map, subst, sym}
use Rattle.std.proofs.lemmas.Result.{err_from_is_err_and}
use Rattle.nx_copies.specs.copies.FoundCopies.{copy_of}
use Rattle.nx_copies.specs.copies.Log.{IsEntry, IsLog}
use Rattle.nx_receiver.specs.Receiver.{entry_list}
use Rattle.nx_copies.specs.copies.Shares.{marked}
use Rattle.nx_copies.proofs.lemmas.printing.Log.{one-log}
use Rattle.nx_receiver.proofs.air_file_runs.listening.Ending.with.Goals as goal

pub returns-in_err-written-clause-bytes : goal.returns-in_err-written-clause-bytes
returns-in_err-written-clause-bytes g c =
    let channel = c.args.channel in
    let bytes = c.deref.result.now in
    let is = subst (IsEntry (marked channel (copy_of c.in-Some.entry))) (sym c.deref.ensures.0)
    c.entry_bytes.ensures in
    let p = err_from_is_err_and c.from_residual.result c.from_residual.ensures.1 in (
      bytes,
      subst (λ o. IsLog (map (marked channel) (entry_list o)) bytes) (sym c.in-Some.is)
          (one-log (marked channel (copy_of c.in-Some.entry)) bytes is),
      λ old before w. rw p.1 (rw p.2 (c.in_err-written.ensures.bytes old before w)),
    )

pub returns-clause-bytes : goal.returns-clause-bytes
returns-clause-bytes g c =
    let channel = c.args.channel in
    let bytes = c.deref.result.now in
    let is = subst (IsEntry (marked channel (copy_of c.in-Some.entry))) (sym c.deref.ensures.0)
    c.entry_bytes.ensures in (
      bytes,
      subst (λ o. IsLog (map (marked channel) (entry_list o)) bytes) (sym c.in-Some.is)
          (one-log (marked channel (copy_of c.in-Some.entry)) bytes is),
      λ old before w. c.in_ok-written.ensures.bytes old before w,
    )
