use Rattle.nx_station.proofs.lemmas.damage.Named.{digits-at}
use Rattle.nx_station.proofs.damaging.Named.invert_at.Goals as goal

pub returns : goal.returns
returns c = λ damage place next bits walk same are e. digits-at damage place c.args.self bits
    c.args.at next c.args.digits.now c.requires.stride are walk c.requires.before c.requires.end
    same e
