-- The plain receiver meets the laws of a receiver of a channel.
use Rattle.std.specs.Prelude.{List}
use Rattle.nx_memory.specs.declared.memories.entry.MemoryEntry.{MemoryEntry}
use Rattle.nx_copies.proofs.lemmas.printing.Laws.{plain-laws}
use Rattle.nx_receiver.specs.ChannelReceiver.{IsReceiver, NothingAwaited}
use Rattle.nx_receiver.specs.Receiver.{plain_kind}
use Rattle.nx_receiver.specs.private.Awaiting.{Awaits}
use Rattle.nx_receiver.specs.private.ListenerBegins.{printed-so_far}

pub plain-receiver : {M : Type 0} (content : M → List MemoryEntry)
    → IsReceiver (plain_kind content)
plain-receiver content = record {
  printing = plain-laws;
  prints = printed-so_far content;
  in_force = λ start receiver events log s. s.force;
}

pub none-awaited : {M : Type 0} (content : M → List MemoryEntry)
    → NothingAwaited (plain_kind content) (Awaits content)
none-awaited content start receiver events log a = record {
  copies = a.copies;
  hearer = a.hearer;
  force = a.force;
  printed = a.printed;
  memory = a.memory;
}
