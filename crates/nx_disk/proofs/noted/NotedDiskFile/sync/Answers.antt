use Rattle.std.proofs.Common.{List, subst}
use Rattle.nx_disk.specs.Events.{DiskEvent, MayLeave}
use Rattle.nx_disk.proofs.lemmas.Left.{sync_follows}
use Rattle.nx_disk.proofs.noted.NotedDiskFile.sync.Goals as goal

pub returns-in-Ok-clause-crash : goal.returns-in-Ok-clause-crash
returns-in-Ok-clause-crash g c = λ start left is.
    sync_follows start c.args.self.now.left.files c.args.self.now.history.events left
    (subst (λ (e : List DiskEvent). MayLeave start c.args.self.now.left.files e left)
    c.note.ensures is)
