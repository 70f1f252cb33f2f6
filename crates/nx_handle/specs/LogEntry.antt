-- What reading an entry of a log answers (this profile).
use Rattle.std.specs.Prelude.{◌≡◌, ◌≢◌, ◌⊎◌, ℕ, List, [], ◌++◌, length}
use Rattle.nx_envelope.specs.declared.found.How.{How}
use Rattle.nx_envelope.specs.declared.found.How.TheVariants.{Full, Cut, Long}
use Rattle.nx_fec.specs.air_files.Channels.{channel_number}
use Rattle.nx_log.specs.Logged.{IsLoggedAs}
use Rattle.nx_log.specs.View.{IsViewOf}
use Rattle.nx_log.specs.declared.entries.entry.EntryView.{EntryView}
use Rattle.nx_copies.specs.copies.Shares.{MarkedCopy}
use Rattle.nx_handle.specs.Status.{number_of}
use Rattle.nx_handle.specs.CallerRoom.{IsCopiedOut, Room, after_copying_out}
use Rattle.nx_handle.specs.declared.entries.LogEntry.{LogEntry}
use Rattle.nx_handle.specs.declared.status.Status.TheVariants as status

-- the number of how a copy ended
abbrev pub how_number : How → ℕ
how_number Full = 0
how_number Cut = 1
how_number Long = 2

-- the entry that is seen, as C has it
abbrev pub entry_seen : EntryView → LogEntry
entry_seen view = record {
  moment = view.head.moment;
  length = view.len;
  errors = view.head.errors;
  channel = channel_number view.head.channel;
  station = view.head.identity.b1.byte;
  subject = view.head.identity.b2.byte;
  number = view.head.identity.number;
  how = how_number view.head.how;
}

-- the bytes begin with an entry of a log, this is what it says, and this its text
pub record ReadsEntry (bytes : List ℕ) (entry : LogEntry) (text : List ℕ) : Type 0 where
  pub view : EntryView
  pub is : IsViewOf bytes view
  pub said : entry ≡ entry_seen view
  pub text_is : text ≡ view.text.now

-- the bytes begin with no entry of a log
abbrev pub BeginsWithNone : List ℕ → Type 0
BeginsWithNone bytes =
    (one : MarkedCopy) (entry more : List ℕ) → IsLoggedAs one entry → bytes ≢ entry ++ more

-- Reading an entry: it is told, its text is copied into the room, and the status says whether the
-- room held it; or there is none, what was told before stays, and nothing is copied.
pub record AnswersEntry (bytes : List ℕ) (old new : LogEntry) (room : Room) (answer : ℕ)
    : Type 0 where
  pub text : List ℕ
  pub copied : IsCopiedOut text room
  pub reads : (ReadsEntry bytes new text
      × (answer ≡ number_of (after_copying_out (length text) (length room.old) status.Done)))
      ⊎ (BeginsWithNone bytes × (answer ≡ number_of status.NoEntry) × (new ≡ old) × (text ≡ []))
