use Rattle.std.proofs.Common.{refl}
use Rattle.nx_fec.proofs.lemmas.lines.Feed.{NoFeed-all, NoFeed-before, feed-found}
use Rattle.nx_watch.proofs.lemmas.lines.AnyLine.{reason-ended}
use Rattle.nx_watch.proofs.lemmas.lines.Scanning.{over-all, over-ended}
use Rattle.nx_watch.proofs.lines.any_scanner.AnyScanner.pass.Goals as goal

pub returns-in-Some-clause-scans : goal.returns-in-Some-clause-scans
returns-in-Some-clause-scans c = λ before lines part are unended over.
    over-ended _ c.args.piece.now c.in-Some.at before lines part c.new.ensures.fresh
    c.new.ensures.starts
    c.in-Some.ensures.0.high (feed-found c.args.piece.now c.in-Some.at c.in-Some.ensures.1)
    (NoFeed-before c.args.piece.now c.in-Some.at c.in-Some.ensures.0.before) are unended
    c.args.why over

pub returns-in-Some-clause-reason : goal.returns-in-Some-clause-reason
returns-in-Some-clause-reason c = λ before lines part are unended over.
    reason-ended c.args.why before part lines c.args.piece.now c.in-Some.at
    c.in-Some.ensures.0.high (feed-found c.args.piece.now c.in-Some.at c.in-Some.ensures.1)
    (NoFeed-before c.args.piece.now c.in-Some.at c.in-Some.ensures.0.before) are unended over

pub returns-in-None-clause-scans : goal.returns-in-None-clause-scans
returns-in-None-clause-scans c = λ before lines part are unended over.
    over-all _ c.args.piece.now before lines part c.new.ensures.fresh refl
    (NoFeed-all c.args.piece.now c.in-None.ensures) are unended c.args.why over
