-- What a listener gave for lines is the log of the first copies of them: of all of them.
use Rattle.std.specs.Prelude.{◌≡◌, ℕ, List, [], refl}
use Rattle.std.proofs.Common.{◌∙◌, ap, sym, subst, append-nil}
use Rattle.nx_fec.specs.air_files.AirFile.{Line}
use Rattle.nx_memory.specs.declared.memories.entry.MemoryEntry.{MemoryEntry}
use Rattle.nx_copies.specs.Events.{Event, Setting, Start, first_setting, settings}
use Rattle.nx_copies.specs.copies.FoundCopies.{FoundCopy, TaggedCopy, tagged_copies}
use Rattle.nx_copies.specs.copies.InTurn.{PrintsInTurnBy}
use Rattle.nx_receiver.specs.air_file_runs.Listen.{given_by}
use Rattle.nx_copies.specs.copies.Log.{HasPrinted}
use Rattle.nx_copies.specs.copies.Printing.{printed_copies}
use Rattle.nx_receiver.specs.Receiver.{Receiving, Stands}
use Rattle.nx_copies.specs.copies.Shares.{Given, Starts}
use Rattle.nx_receiver.specs.ChannelReceiver.{ReceiverKind}
use Rattle.nx_receiver.specs.private.Listener.{BeginsListeningBy, BeginsLogBy, HearsLogBy}
use Rattle.nx_receiver.specs.private.Listener.{IsListeningBy}
use Rattle.nx_receiver.specs.Listener.{ListeningOver}
use Rattle.nx_copies.specs.hearing.CopyHearer.{copies_by}

-- what is in force at each element is what is in force at the events that are elements
pub tagged-by : (first : Setting) (events : List Event) (copies : List FoundCopy)
    → copies_by first (settings first events) copies ≡ tagged_copies first events copies
unfolding copies_by tagged_copies
tagged-by first events copies = refl

-- what a receiver handed out is what is printed so far
pub printed-so_far : {M : Type 0} (content : M → List MemoryEntry) (start : Start)
    (receiver : Receiving M) (events : List Event) (log : List TaggedCopy)
    → Stands content start receiver events log → HasPrinted start events log
printed-so_far content start receiver events log s =
    let r = s.hearer.reads in
    record {
      locks = r.locks;
      now = r.now;
      stands = r.stands;
      printed =
          s.printed
          ∙ ap (printed_copies start.entries) (r.ended ∙ tagged-by (first_setting start) events _);
    }

-- the log so far is that of the first copies, which are all
pub begins-log : {R : Type 0} {kind : ReceiverKind R} (starts : Starts)
    (listener : ListeningOver R) (given : List Given) (bytes : List ℕ)
    → HearsLogBy kind starts listener given bytes
    → BeginsLogBy kind.printing starts given bytes
begins-log {R} {kind} starts listener given bytes h = record {
  first = h.log;
  rest = [];
  printed = subst (PrintsInTurnBy kind.printing starts given) (sym (append-nil h.log))
      h.hears.in_turn;
  spelled = h.spelled;
}

pub begins-listening : {R : Type 0} {kind : ReceiverKind R} (starts : Starts)
    (now : ListeningOver R) (lines : List Line) (bytes : List ℕ)
    → IsListeningBy kind starts now lines bytes
    → BeginsListeningBy kind.printing starts lines bytes
begins-listening starts now lines bytes h =
    record { taken = h.taken; begun = begins-log starts now (given_by lines) bytes h.hears }
