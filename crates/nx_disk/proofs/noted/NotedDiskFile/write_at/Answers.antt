use Rattle.std.proofs.Common.{List, true, false, subst}
use Rattle.nx_disk.specs.Events.{DiskEvent, MayLeave}
use Rattle.nx_disk.proofs.lemmas.Left.{write_follows}
use Rattle.nx_disk.proofs.noted.NotedDiskFile.write_at.Goals as goal

pub returns-in-Ok-clause-crash : goal.returns-in-Ok-clause-crash
returns-in-Ok-clause-crash g c = λ start within left is.
    write_follows start c.args.self.now.left.files c.args.self.now.history.events c.args.at true
    c.args.bytes.now within left
    (subst (λ (e : List DiskEvent). MayLeave start c.args.self.now.left.files e left)
    c.note.ensures is)

pub returns-in-Err-clause-crash : goal.returns-in-Err-clause-crash
returns-in-Err-clause-crash g c = λ start within left is.
    write_follows start c.args.self.now.left.files c.args.self.now.history.events c.args.at false
    c.args.bytes.now within left
    (subst (λ (e : List DiskEvent). MayLeave start c.args.self.now.left.files e left)
    c.note-in-Err.ensures is)
