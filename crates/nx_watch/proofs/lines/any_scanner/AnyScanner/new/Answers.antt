use Rattle.std.proofs.Common.{[], refl}
use Rattle.nx_watch.proofs.lemmas.lines.AnyLine.{AreLines-part}
use Rattle.nx_watch.proofs.lemmas.lines.Scanning.{fresh-stands}
use Rattle.nx_watch.proofs.lines.any_scanner.AnyScanner.new.Goals as goal

pub returns-clause-stands : goal.returns-clause-stands
returns-clause-stands c = fresh-stands _ c.new.ensures.stands refl [] [] (AreLines-part [] tt)
