use Rattle.std.proofs.Common.{Result, Ok, Err, OnOk, IfErr, MatchResult, subst, sym}
use Rattle.nx_copies.specs.copies.Log.{IsEntry}
use Rattle.nx_copies.specs.copies.FoundCopies.{copy_of}
use Rattle.nx_copies.specs.copies.Shares.{marked}
use Rattle.nx_copies.proofs.writing.entry_text_on.Goals as goal

both_ways : {A E : Type 0} (r : Result A E) (P : Type 0) (Q : E → Type 0) → OnOk r P → IfErr r Q
    → MatchResult r (λ _. P) Q
both_ways (Ok a) P Q p q = p
both_ways (Err e) P Q p q = q

pub returns-clause-written : goal.returns-clause-written
returns-clause-written g c =
    let is = subst (IsEntry (marked c.args.channel (copy_of c.args.entry.now)))
    (sym c.deref.ensures.0)
    c.entry_bytes.ensures in (
      c.deref.result.now,
      is,
      both_ways c.write_out.result _ _ c.write_out.ensures.ok
          c.write_out.ensures.err,
    )
