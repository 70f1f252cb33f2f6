use Rattle.std.proofs.Common.{◌++◌, sym, subst}
use Rattle.nx_watch.specs.LineRun.{HasTold}
use Rattle.nx_program.specs.WatchCommand.{watch_fault_line}
use Rattle.nx_program.specs.declared.watch_command.WatchFailure.TheVariants.{Unopened}
use Rattle.nx_program.proofs.watch_command.tell_of_file.Goals as goal

pub returns-in-Open : goal.returns-in-Open
returns-in-Open g c = λ old text told.
    subst (λ w. HasTold old (g.E.Write.contents c.tell_unopened.new.faults.inner)
    c.tell_unopened.new.faults.failures (text ++ watch_fault_line c.args.log.now (Unopened w)))
    (sym c.in-Open.is) (c.tell_unopened.ensures old text told)

pub returns-in-Busy : goal.returns-in-Busy
returns-in-Busy g c = λ old text told.
    subst (λ w. HasTold old (g.E.Write.contents c.tell_of_log.new.faults.inner)
    c.tell_of_log.new.faults.failures
    (text ++ watch_fault_line c.args.log.now (Unopened w)))
    (sym c.in-Busy.is) (c.tell_of_log.ensures old text told)

pub returns-in-Memory : goal.returns-in-Memory
returns-in-Memory g c = λ old text told.
    subst (λ w. HasTold old (g.E.Write.contents c.write_more.new.writer.inner)
    c.write_more.new.writer.failures (text ++ watch_fault_line c.args.log.now (Unopened w)))
    (sym c.in-Memory.is) (c.write_more.ensures.written old text told)
