use Rattle.std.proofs.Common.{[], refl, sym, subst}
use Rattle.nx_program.specs.Report.{IsFaultText, WritesOne}
use Rattle.nx_program.specs.WatchCommand.{watch_fault_line}
use Rattle.nx_program.specs.declared.fault.Fault.{Fault}
use Rattle.nx_program.specs.declared.fault.Fault.TheVariants as fault
use Rattle.nx_program.proofs.lemmas.outcomes.WatchLines.{told-one, untold}
use Rattle.nx_program.proofs.fault.Fault.tell.Goals as goal

pub returns-in-Watch : goal.returns-in-Watch
returns-in-Watch g c =
    subst (λ (f : Fault). WritesOne (IsFaultText f) g.E.Write.contents c.args.faults.now
    c.tell.new.faults) (sym c.in-Watch.is)
    (told-one (IsFaultText (fault.Watch c.in-Watch.log c.in-Watch.why)) g.E.Write.contents
    c.args.faults.now c.tell.new.faults (watch_fault_line c.in-Watch.log c.in-Watch.why) refl
    (c.tell.ensures (g.E.Write.contents c.args.faults.now.inner) []
    (untold g.E.Write.contents c.args.faults.now c.requires)))
