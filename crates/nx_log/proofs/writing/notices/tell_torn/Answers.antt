use Rattle.std.proofs.Common.{subst, sym}
use Rattle.nx_log.specs.Notices.{HaveTold, torn_at, notice_texts, notices_of}
use Rattle.nx_log.proofs.lemmas.runs.Telling.{texts_more}
use Rattle.nx_log.proofs.writing.notices.tell_torn.Goals as goal

pub returns : goal.returns
returns g c = λ old before h.
    subst (HaveTold (notices_of old (g.N.Write.contents c.tell_line.new.notices.inner)
    c.tell_line.new.notices.failures)) (sym (texts_more before (torn_at c.args.line)))
    (c.tell_line.ensures old (notice_texts before) h)
