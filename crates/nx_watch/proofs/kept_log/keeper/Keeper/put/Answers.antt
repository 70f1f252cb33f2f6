use Rattle.std.proofs.Common.{◌++◌, ◌∷◌, [], drop, refl, subst, sym}
use Rattle.nx_watch.specs.private.Keeping.{HasKeptSo}
use Rattle.nx_watch.proofs.lemmas.log.Keeping.{kept-behind, kept-more, put-failed, put-kept}
use Rattle.nx_watch.proofs.kept_log.keeper.Keeper.put.Goals as goal

pub returns-then-self-clause-kept : goal.returns-then-self-clause-kept
returns-then-self-clause-kept g c = λ start texts given is h.
    let disk = g.D.DiskFile in
    let old = c.args.self.now in
    let since = drop start.put texts in
    kept-behind disk start old texts c.args.entry.now (given ++ c.args.entry.now) h.before
    (subst (λ b. HasKeptSo disk b start old (since ++ c.args.entry.now ∷ [])
    (given ++ c.args.entry.now))
    (sym c.if-self.true)
    (kept-more disk start old since c.args.entry.now given
    (subst (λ b. HasKeptSo disk b start old since given) c.if-self.true h.since)))

pub returns-in-Ok-clause-kept : goal.returns-in-Ok-clause-kept
returns-in-Ok-clause-kept g c = λ start texts given is h.
    let disk = g.D.DiskFile in
    let old = c.args.self.now in
    let since = drop start.put texts in
    kept-behind disk start _ texts c.args.entry.now (given ++ []) h.before
    (put-kept disk start old _ since c.args.entry.now given c.if-self.false
    c.saturating_add-self.ensures c.in-Ok.ensures.faults.ok c.put.ensures.explained
    (λ content records k. c.in-Ok.ensures.acknowledged content records is k)
    (λ content records k. c.put.ensures.any_moment content records is k)
    (subst (λ b. HasKeptSo disk b start old since given) c.if-self.false h.since))

pub returns-in-Err-clause-kept : goal.returns-in-Err-clause-kept
returns-in-Err-clause-kept g c = λ start texts given is h.
    let disk = g.D.DiskFile in
    let old = c.args.self.now in
    let since = drop start.put texts in
    kept-behind disk start _ texts c.args.entry.now (given ++ c.args.entry.now) h.before
    (put-failed disk start old _ since c.args.entry.now given refl
    c.in-Err.ensures.faults.err
    (λ content records k. c.in-Err.ensures.within content k.front k.at_rest)
    c.put.ensures.explained
    (λ content t file le left. g.met.D.DiskFile.counts_now content _ t file le left)
    (λ content records k. c.put.ensures.any_moment content records is k)
    (subst (λ b. HasKeptSo disk b start old since given) c.if-self.false h.since))
