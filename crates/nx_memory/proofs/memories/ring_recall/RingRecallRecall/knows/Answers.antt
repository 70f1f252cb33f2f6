use Rattle.nx_memory.proofs.lemmas.Tables.{known_by_last}
use Rattle.nx_memory.proofs.memories.ring_recall.RingRecallRecall.knows.Goals as goal

pub returns-in-Some : goal.returns-in-Some
returns-in-Some c =
    let known = known_by_last c.args.identity.now c.args.moment c.self.inside.entries.items
    c.self.invariant.content.in_turn in
    rw (
      ← c.self.view_is,
      known,
      ← c.self.invariant.table_of.last c.args.identity.now,
      ←
          c.in-Some.ensures,
      c.is_recent.ensures,
    )

pub returns-in-None : goal.returns-in-None
returns-in-None c =
    let known = known_by_last c.args.identity.now c.args.moment c.self.inside.entries.items
    c.self.invariant.content.in_turn in
    rw (
      ← c.self.view_is,
      known,
      ← c.self.invariant.table_of.last c.args.identity.now,
      ←
          c.in-None.ensures,
    )
