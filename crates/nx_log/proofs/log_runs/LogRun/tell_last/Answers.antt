use Rattle.std.proofs.Common.{◌++◌, ◌∷◌, [], subst, sym}
use Rattle.nx_log.specs.Notices.{HaveToldAll, notices_of, torn_at}
use Rattle.nx_log.specs.Salvage.{bytes_in, told_of}
use Rattle.nx_log.proofs.lemmas.runs.LogRuns.{exact-line, last-bound}
use Rattle.nx_log.proofs.lemmas.runs.Stretches.{told_more}
use Rattle.nx_log.proofs.log_runs.LogRun.tell_last.Goals as goal

pub returns-in-Some : goal.returns-in-Some
returns-in-Some g c = λ told stretches rest last torn within ended at h.
    let t = c.in-Some.ensures rest last torn at in
    let n = notices_of told (g.N.Write.contents c.tell_torn.new.notices.inner)
    c.tell_torn.new.notices.failures in
    let line = exact-line (bytes_in stretches) rest c.args.self.now.ended t.0 _
    c.saturating_add.result within ended (last-bound rest last torn t.0 t.2) t.1
    c.saturating_add.ensures in
    record {
      torn = torn ++ t.0 ∷ [];
      hold = t.2;
      told = subst (HaveToldAll n) (sym (told_more stretches torn t.0))
          (subst (λ k. HaveToldAll n (told_of stretches torn ++ torn_at k ∷ [])) line
          (c.tell_torn.ensures told (told_of stretches torn) h));
    }
