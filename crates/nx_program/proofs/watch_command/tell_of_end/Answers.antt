use Rattle.std.proofs.Common.{◌++◌, ◌∙◌, Bool, List, [], ℕ, ap, sym, subst}
use Rattle.std.specs.Prelude.{codes, decimal}
use Rattle.nx_watch.specs.LineRun.{HasTold}
use Rattle.nx_program.specs.WatchCommand.{damage_end, watch_fault_line}
use Rattle.nx_program.specs.declared.watch_command.WatchFailure.TheVariants.{Ended}
use Rattle.nx_program.proofs.lemmas.outcomes.WatchLines.{twice-told}
use Rattle.nx_program.proofs.watch_command.tell_of_end.Goals as goal

pub returns-in-Open : goal.returns-in-Open
returns-in-Open g c = λ old text told.
    subst (λ w. HasTold old (g.E.Write.contents c.tell_of_log.new.faults.inner)
    c.tell_of_log.new.faults.failures (text ++ watch_fault_line c.args.log.now (Ended w)))
    (sym c.in-Open.is) (c.tell_of_log.ensures old text told)

pub returns-in-Disk : goal.returns-in-Disk
returns-in-Disk g c = λ old text told.
    subst (λ w. HasTold old (g.E.Write.contents c.tell_of_log-in-Disk.new.faults.inner)
    c.tell_of_log-in-Disk.new.faults.failures (text ++ watch_fault_line c.args.log.now (Ended w)))
    (sym c.in-Disk.is) (c.tell_of_log-in-Disk.ensures old text told)

pub returns-in-Memory : goal.returns-in-Memory
returns-in-Memory g c = λ old text told.
    subst (λ w. HasTold old (g.E.Write.contents c.write_more.new.writer.inner)
    c.write_more.new.writer.failures (text ++ watch_fault_line c.args.log.now (Ended w)))
    (sym c.in-Memory.is) (c.write_more.ensures.written old text told)

pub returns-in-Read : goal.returns-in-Read
returns-in-Read g c = λ old text told.
    subst (λ w. HasTold old (g.E.Write.contents c.write_more-in-Read.new.writer.inner)
    c.write_more-in-Read.new.writer.failures (text ++ watch_fault_line c.args.log.now (Ended w)))
    (sym c.in-Read.is) (c.write_more-in-Read.ensures.written old text told)

pub returns-in-Damaged : goal.returns-in-Damaged
returns-in-Damaged g c = λ old text told.
    let wrote = c.write_more-in-Damaged in
    subst (λ w. HasTold old (g.E.Write.contents wrote.new.writer.inner) wrote.new.writer.failures
    (text ++ watch_fault_line c.args.log.now (Ended w)))
    (sym c.in-Damaged.is)
    (subst (λ (end : List ℕ). HasTold old (g.E.Write.contents wrote.new.writer.inner)
    wrote.new.writer.failures (text ++ (codes "navtex: the log " ++ (c.args.log.now
    ++ (codes " is damaged at line " ++ (decimal c.in-Damaged.line ++ end))))))
    (c.damage_end.ensures ∙ ap (λ (b : Bool). damage_end b) c.begins_with_entry.ensures)
    (twice-told old (g.E.Write.contents wrote.new.writer.inner) wrote.new.writer.failures text
    (codes "navtex: the log ") c.args.log.now (codes " is damaged at line ")
    (decimal c.in-Damaged.line) [] c.damage_end.result.now
    (wrote.ensures.written old _ (c.tell.ensures old _
    (c.tell_of_log-in-Damaged.ensures old text told)))))

pub returns-in-Back : goal.returns-in-Back
returns-in-Back g c = λ old text told.
    subst (λ w. HasTold old (g.E.Write.contents c.tell-in-Back-3.new.notices.inner)
    c.tell-in-Back-3.new.notices.failures (text ++ watch_fault_line c.args.log.now (Ended w)))
    (sym c.in-Back.is)
    (twice-told old (g.E.Write.contents c.tell-in-Back-3.new.notices.inner)
    c.tell-in-Back-3.new.notices.failures text
    (codes "navtex: line ") (decimal c.in-Back.line) (codes ": moment ")
    (decimal c.in-Back.given) (codes " is before ") (decimal c.in-Back.last ++ codes "\n")
    (c.tell-in-Back-3.ensures old _ (c.tell-in-Back-2.ensures old _
    (c.tell-in-Back.ensures old text told))))
