-- How the taker of lines behind a run that listens stands after lines (this profile).
use Rattle.std.specs.Prelude.{◌≡◌, ℕ, ◌+◌, ◌≤◌, Bool, false, List, ◌++◌, length, take, Option}
use Rattle.std.specs.Prelude.{IsTrue}
use Rattle.std.specs.Io.KnownBytes.{Appends}
use Rattle.nx_envelope.specs.declared.letter.Letter.{Letter}
use Rattle.nx_fec.specs.air_files.AirFile.{Line, moment, elements, refuse_subject}
use Rattle.nx_fec.specs.Transfers.{WroteSome, count_of}
use Rattle.nx_fec.specs.declared.air_files.channel.Channel.{Channel}
use Rattle.nx_memory.specs.Selection.{is_vital}
use Rattle.nx_copies.specs.Events as events
use Rattle.nx_copies.specs.Events.{Event, Start, elements_among}
use Rattle.nx_receiver.specs.Moments.{Refuses}
use Rattle.nx_copies.specs.copies.InTurn.{PrintAllToEndBy, PrintsInTurnBy}
use Rattle.nx_receiver.specs.air_file_runs.Listen.{AreTaken, given_by, has_moment, moment_after}
use Rattle.nx_copies.specs.copies.Log.{IsLog, Printing, plain}
use Rattle.nx_receiver.specs.Listener.{HearsBy, ListeningOver}
use Rattle.nx_receiver.specs.Listener.{elements_given, receiver_on, starts_by}
use Rattle.nx_receiver.specs.Receiver.{plain_kind}
use Rattle.nx_receiver.specs.ChannelReceiver.{HandsOutNoneBeforeBy, ReceiverKind}
use Rattle.nx_copies.specs.copies.Shares.{Given, MarkedCopy, Starts}
use Rattle.nx_copies.specs.copies.FoundCopies.{TaggedCopy}
use Rattle.nx_receiver.specs.declared.fault.MomentFault.{MomentFault}
use Rattle.nx_receiver.specs.declared.air_file_runs.listening.Report.{Report}
use Rattle.nx_receiver.specs.declared.air_file_runs.listen_fault.LineRefusal.{LineRefusal}
use Rattle.nx_receiver.specs.declared.air_file_runs.listen_fault.LineRefusal.TheVariants.{NoMoment}
use Rattle.nx_receiver.specs.declared.air_file_runs.listen_fault.LineRefusal.TheVariants.{Moment}
use Rattle.nx_receiver.specs.declared.air_file_runs.listen_fault.LineRefusal.TheVariants.{Vital}
use Rattle.nx_memory.specs.Ring.{RingMemory}
use Rattle.nx_memory.specs.declared.memories.entry.MemoryEntry.{MemoryEntry}
use Rattle.nx_receiver.specs.Receiver.{Receiving, text_of}
use Rattle.nx_receiver.specs.Listener.{HearsOver}

-- the listener of the program, whose receivers judge each copy alone, and whose memories are rings
-- with a table
abbrev pub Listening : Type 0
Listening = ListeningOver (Receiving RingMemory)

-- the entries of such a memory
abbrev pub content : RingMemory → List MemoryEntry
content memory = memory.content

-- the text that the receiver of a channel has, where each copy is judged alone: that of the copy
-- that stands open there, or that ended last
abbrev pub text_on : {M : Type 0} → ListeningOver (Receiving M) → Channel → List ℕ
text_on listener channel = text_of (receiver_on listener channel)

-- with what a listener starts that judges each copy alone, where this tells the entries of a
-- memory; and with what that of the program does
abbrev pub starts_over : {M : Type 0} → (M → List MemoryEntry) → ListeningOver (Receiving M)
    → Starts
starts_over entries_of listener = starts_by (plain_kind entries_of) listener

abbrev pub starts_of : Listening → Starts
starts_of = starts_over content

-- the listener of the program stands after what was given, and has printed these copies
abbrev pub HearsGiven : Starts → Listening → List Given → List MarkedCopy → Type 0
HearsGiven = HearsOver content

-- The receiver of a channel, whatever it was given before, hears so many of these elements, and
-- hands out these copies with the last of them, and none before.
pub record HearsTo {R : Type 0} (kind : ReceiverKind R) (channel : Channel)
    (old new : ListeningOver R) (bits : List Bool) (count : ℕ) (copies : List TaggedCopy)
    : Type 0 where
  pub stands : (start : Start) (history : List Event) (log : List TaggedCopy)
      → kind.stands start (receiver_on old channel) history log
      → kind.stands start (receiver_on new channel)
      (history ++ events.elements (take count bits)) (log ++ copies)
  pub first : HandsOutNoneBeforeBy kind (receiver_on old channel) bits count

-- After it was given this, a listener printed copies, of which these bytes are the log.
pub record HearsLogBy {R : Type 0} (kind : ReceiverKind R) (starts : Starts)
    (listener : ListeningOver R) (given : List Given) (bytes : List ℕ)
    : Type 0 where
  pub log : List MarkedCopy
  pub hears : HearsBy kind starts listener given log
  pub spelled : IsLog log bytes

-- and this holds of these bytes
pub record IsHearingBy {R : Type 0} (kind : ReceiverKind R) (starts : Starts)
    (listener : ListeningOver R) (given : List Given) (holds : List ℕ → Type 0)
    : Type 0 where
  pub bytes : List ℕ
  pub hears : HearsLogBy kind starts listener given bytes
  pub here : holds bytes

-- the bytes are the log of the first copies of those that are printed of what is given
pub record BeginsLogBy (printing : Printing) (starts : Starts) (given : List Given)
    (bytes : List ℕ) : Type 0 where
  pub first : List MarkedCopy
  pub rest : List MarkedCopy
  pub printed : PrintsInTurnBy printing starts given (first ++ rest)
  pub spelled : IsLog first bytes

-- such bytes were written in part
pub record HeardSomeBy (printing : Printing) (starts : Starts) (given : List Given)
    (old new : Option (List ℕ)) (written : ℕ)
    : Type 0 where
  pub bytes : List ℕ
  pub begun : BeginsLogBy printing starts given bytes
  pub some : WroteSome old new bytes written

-- The listener stands so after these lines, with what it started, each taken after those before it;
-- these bytes are their log.
pub record IsListeningBy {R : Type 0} (kind : ReceiverKind R) (starts : Starts)
    (listener : ListeningOver R) (lines : List Line) (bytes : List ℕ)
    : Type 0 where
  pub taken : AreTaken starts lines
  pub moment : listener.has_moment ≡ has_moment lines
  pub hears : HearsLogBy kind starts listener (given_by lines) bytes

-- the lines are taken, and the bytes are the log of the first copies of what they give
pub record BeginsListeningBy (printing : Printing) (starts : Starts) (lines : List Line)
    (bytes : List ℕ) : Type 0 where
  pub taken : AreTaken starts lines
  pub begun : BeginsLogBy printing starts (given_by lines) bytes

-- why elements are not taken after these lines: there was no moment yet
abbrev pub LacksMoment : List Line → Line → Type 0
LacksMoment lines (elements mark bits) = has_moment lines ≡ false
LacksMoment lines _ = ⊥

-- why a moment is not taken after these lines
abbrev pub RefusesMoment : Starts → MomentFault → List Line → Line → Type 0
RefusesMoment starts why lines (moment n) = Refuses (moment_after starts.moment lines) n why
RefusesMoment starts why lines _ = ⊥

-- why the refusal of this subject is not taken: it is vital
abbrev pub RefusesVital : Letter → List Line → Line → Type 0
RefusesVital subject lines (refuse_subject mark letter) =
    IsTrue (is_vital letter) × (subject.byte ≡ letter)
RefusesVital subject lines _ = ⊥

-- why a line is not taken after these
abbrev pub RefusesLine : Starts → List Line → Line → LineRefusal → Type 0
RefusesLine starts lines line NoMoment = LacksMoment lines line
RefusesLine starts lines line (Moment why) = RefusesMoment starts why lines line
RefusesLine starts lines line (Vital subject) = RefusesVital subject lines line

-- the same for a taker of lines that stood so at first, which is its start
abbrev pub StandsFromBy : {R : Type 0} → ReceiverKind R → ListeningOver R → ListeningOver R
    → List Line → List ℕ → Type 0
StandsFromBy kind first now lines bytes =
    IsListeningBy kind (starts_by kind first) now lines bytes

-- The file ended after it was given this: the log of all copies was written, with those that the
-- end closes, and the report counts the elements and the copies.
pub record HasClosedBy (printing : Printing) (starts : Starts) (old new : Option (List ℕ))
    (given : List Given) (report : Report)
    : Type 0 where
  pub copies : List MarkedCopy
  pub log : List ℕ
  pub printed : PrintAllToEndBy printing starts given copies
  pub spelled : IsLog copies log
  pub written : Appends old new log
  pub bits_counted : report.bits ≡ count_of (length (elements_given given))
  pub printed_counted : report.printed ≡ count_of (length copies)
  pub few : length copies ≤ length (elements_given given) + 3

-- the file ended so, and this log was written in part
pub record HasClosedSomeBy (printing : Printing) (starts : Starts) (old new : Option (List ℕ))
    (given : List Given) (written : ℕ)
    : Type 0 where
  pub copies : List MarkedCopy
  pub log : List ℕ
  pub printed : PrintAllToEndBy printing starts given copies
  pub spelled : IsLog copies log
  pub some : WroteSome old new log written

-- the same of the listener of the program
abbrev pub HearsLog : Starts → Listening → List Given → List ℕ → Type 0
HearsLog starts listener given bytes =
    HearsLogBy (plain_kind content) starts listener given bytes

abbrev pub IsListening : Starts → Listening → List Line → List ℕ → Type 0
IsListening starts listener lines bytes =
    IsListeningBy (plain_kind content) starts listener lines bytes

abbrev pub HasClosed : Starts → Option (List ℕ) → Option (List ℕ) → List Given → Report → Type 0
HasClosed starts old new given report = HasClosedBy plain starts old new given report
