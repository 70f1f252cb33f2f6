-- What three receivers that listen make of an air file, with whatever they start: the log of its
-- lines, and its first fault (this profile).
use Rattle.std.specs.Prelude.{◌≡◌, ◌⊎◌, ◌↔◌, ℕ, ◌+◌, ◌≤◌, Bool, true, false, List, [], ◌∷◌, ◌++◌}
use Rattle.std.specs.Prelude.{length, map, Option, None, Result, Ok, Err, IfSome, IsErrOf, IsTrue, ⊤}
use Rattle.std.specs.List.{flat_map, list_any}
use Rattle.std.specs.Io.KnownBytes.{Appends, Consumes}
use Rattle.nx_envelope.specs.Moment.{last_moment}
use Rattle.nx_fec.specs.air_files.AirFile.{Line, moment, elements, refuse_station, accept_station}
use Rattle.nx_fec.specs.air_files.AirFile.{refuse_subject, accept_subject}
use Rattle.nx_fec.specs.air_files.Channels.{channel_of}
use Rattle.nx_fec.specs.declared.air_files.channel.Channel.{Channel}
use Rattle.nx_fec.specs.Transfers.{Contents, Devices, Extent, WroteSome, as_read, contents_of}
use Rattle.nx_fec.specs.Transfers.{whole_input}
use Rattle.nx_fec.specs.air_files.LineRuns.{HasFaultAfter, HasReadFault}
use Rattle.nx_fec.specs.air_files.Lines.{StopsAt, air_limit, IsAirFile, IsLineRefused, elements_of}
use Rattle.nx_fec.specs.declared.fault.AirFault.{AirFault}
use Rattle.nx_fec.specs.declared.fault.AirFault.TheVariants as air
use Rattle.nx_fec.specs.declared.fault.LineFault.{LineFault}
use Rattle.nx_fec.specs.declared.fault.LineFault.TheVariants as file
use Rattle.nx_memory.specs.Selection.{is_vital}
use Rattle.nx_copies.specs.Events as events
use Rattle.nx_copies.specs.Events.{Command, Event, element, command}
use Rattle.nx_receiver.specs.Moments.{Refuses}
use Rattle.nx_copies.specs.copies.InTurn.{PrintAllToEndBy, PrintsInTurnBy}
use Rattle.nx_copies.specs.copies.Log.{IsLog, Printing, plain}
use Rattle.nx_copies.specs.copies.Shares.{Given, MarkedCopy, Starts, share, to_all, to_one}
use Rattle.nx_receiver.specs.declared.air_file_runs.listen_fault.ListenFault.{ListenFault}
use Rattle.nx_receiver.specs.declared.air_file_runs.listen_fault.ListenFault.TheVariants.{Memory, Read, Write}
use Rattle.nx_receiver.specs.declared.air_file_runs.listen_fault.ListenFault.TheVariants.{AirTooLong, LineLong}
use Rattle.nx_receiver.specs.declared.air_file_runs.listen_fault.ListenFault.TheVariants.{LineCut, BadLine}
use Rattle.nx_receiver.specs.declared.air_file_runs.listen_fault.ListenFault.TheVariants.{NoMoment, Moment, Vital}
use Rattle.nx_receiver.specs.declared.air_file_runs.listen_fault.LineRefusal.{LineRefusal}
use Rattle.nx_receiver.specs.declared.air_file_runs.listen_fault.LineRefusal.TheVariants as refusal
use Rattle.nx_receiver.specs.declared.air_file_runs.listening.Report.{Report}

-- a command, for the channel that its line names
abbrev pub commanded : Option Channel → Command → Given
commanded mark c = to_one (channel_of mark) (command c ∷ [])

-- what a line gives
abbrev pub given_of : Line → Given
given_of (moment n) = to_all n
given_of (elements mark bits) = to_one (channel_of mark) (map element bits)
given_of (refuse_station mark letter) = commanded mark (events.refuse_station letter)
given_of (accept_station mark letter) = commanded mark (events.accept_station letter)
given_of (refuse_subject mark letter) = commanded mark (events.refuse_subject letter)
given_of (accept_subject mark letter) = commanded mark (events.accept_subject letter)

-- what lines give, in order
abbrev pub given_by : List Line → List Given
given_by lines = map given_of lines

-- Share of a channel, of lines: what they give to its receiver
abbrev pub events_on : Channel → List Line → List Event
events_on channel lines = share channel (given_by lines)

-- the moment in force after these lines, which is one for all channels: that of the last line that
-- says one, or else the first moment
abbrev pub moment_after : ℕ → List Line → ℕ
moment_after first [] = first
moment_after first (moment n ∷ lines) = moment_after n lines
moment_after first (line ∷ lines) = moment_after first lines

abbrev pub is_moment_line : Line → Bool
is_moment_line (moment n) = true
is_moment_line _ = false

-- one of these lines is a moment
abbrev pub has_moment : List Line → Bool
has_moment lines = list_any is_moment_line lines

-- Why a line is refused after these lines, as a fault says it. It has elements, and no moment came
-- before it; or it is a moment out of range, or before the last one; or it refuses a vital subject
-- (ITU-R M.540). Lines count from 1.
abbrev pub RefusesAfter : Starts → ListenFault → List Line → Line → Type 0
RefusesAfter starts (NoMoment number) lines (elements mark bits) =
    (number ≡ length lines + 1) × (has_moment lines ≡ false)
RefusesAfter starts (Moment number why) lines (moment n) =
    (number ≡ length lines + 1) × Refuses (moment_after starts.moment lines) n why
RefusesAfter starts (Vital number subject) lines (refuse_subject mark letter) =
    (number ≡ length lines + 1) × IsTrue (is_vital letter) × (subject.byte ≡ letter)
RefusesAfter starts _ lines _ = ⊥

-- Lines are taken where none of them is refused after those before it; and the first moment is in
-- range too.
pub record AreTaken (starts : Starts) (lines : List Line) : Type 0 where
  pub in_range : starts.moment ≤ last_moment
  pub each : (before after : List Line) (line : Line) (fault : ListenFault)
      → lines ≡ before ++ line ∷ after → ¬ RefusesAfter starts fault before line

-- The log of an air file that is read to its end. Its lines, each taken after those before it,
-- print these copies, where the end closes the copies that stand open; and these are the bytes of
-- their entries. What is printed of a channel is a parameter.
pub record IsLogOfFileBy (printing : Printing) (starts : Starts) (bytes : List ℕ)
    (lines : List Line) (copies : List MarkedCopy) (log : List ℕ) : Type 0 where
  pub file : IsAirFile air_limit bytes lines
  pub taken : AreTaken starts lines
  pub printed : PrintAllToEndBy printing starts (given_by lines) copies
  pub spelled : IsLog copies log

-- the air file of these bytes has this log
abbrev pub IsLogOfBy : Printing → Starts → List ℕ → List ℕ → Type 0
IsLogOfBy printing starts bytes log =
    (lines : List Line) × (copies : List MarkedCopy)
    × IsLogOfFileBy printing starts bytes lines copies log

-- the log of these lines, of which each is taken after those before it, where nothing is closed:
-- only copies that have ended count
pub record IsLogOfLinesBy (printing : Printing) (starts : Starts) (lines : List Line)
    (log : List ℕ) : Type 0 where
  pub taken : AreTaken starts lines
  pub copies : List MarkedCopy
  pub printed : PrintsInTurnBy printing starts (given_by lines) copies
  pub spelled : IsLog copies log

-- the log of the whole file was written, and the report counts its lines, its elements and its
-- entries
pub record HasListenedBy (printing : Printing) (starts : Starts) (contents : Contents)
    (bytes : List ℕ) (report : Report) : Type 0 where
  pub lines : List Line
  pub copies : List MarkedCopy
  pub log : List ℕ
  pub heard : IsLogOfFileBy printing starts bytes lines copies log
  pub written : Appends contents.before contents.after log
  pub lines_counted : report.lines ≡ length lines
  pub bits_counted : report.bits ≡ length (flat_map elements_of lines)
  pub printed_counted : report.printed ≡ length copies

-- the log of these lines was written
abbrev pub HasLoggedBy : Printing → Starts → Contents → List Line → Type 0
HasLoggedBy printing starts contents lines =
    (log : List ℕ) × IsLogOfLinesBy printing starts lines log
    × Appends contents.before contents.after log

-- the same where each copy is judged alone; `IsLogOf` is the first half of the headline
abbrev pub IsLogOfFile : Starts → List ℕ → List Line → List MarkedCopy → List ℕ → Type 0
IsLogOfFile starts bytes lines copies log = IsLogOfFileBy plain starts bytes lines copies log

abbrev pub IsLogOf : Starts → List ℕ → List ℕ → Type 0
IsLogOf starts bytes log = IsLogOfBy plain starts bytes log

abbrev pub IsLogOfLines : Starts → List Line → List ℕ → Type 0
IsLogOfLines starts lines log = IsLogOfLinesBy plain starts lines log

abbrev pub HasListened : Starts → Contents → List ℕ → Report → Type 0
HasListened starts contents bytes report = HasListenedBy plain starts contents bytes report

abbrev pub HasLogged : Starts → Contents → List Line → Type 0
HasLogged starts contents lines = HasLoggedBy plain starts contents lines

-- a write of a log, of which this holds, failed: some first bytes of the log were written, but not
-- all, and `written` counts them
abbrev pub HasLoggedSome : (List ℕ → Type 0) → Contents → ℕ → Type 0
HasLoggedSome IsLogged contents written =
    (log : List ℕ) × IsLogged log × WroteSome contents.before contents.after log written

-- the fault of a run that stands for the fault of its file
abbrev pub file_fault : LineFault → ListenFault
file_fault file.TooLong = AirTooLong
file_fault (file.LineLong line) = LineLong line
file_fault (file.LineCut line) = LineCut line
file_fault (file.BadLine line) = BadLine line

-- the fault of a run that stands for what ended the reading of its lines
abbrev pub air_fault : AirFault → ListenFault
air_fault air.Read = Read
air_fault (air.Line why) = file_fault why

-- the fault of a run that stands for a line that is refused
abbrev pub refusal_fault : ℕ → LineRefusal → ListenFault
refusal_fault number refusal.NoMoment = NoMoment number
refusal_fault number (refusal.Moment why) = Moment number why
refusal_fault number (refusal.Vital subject) = Vital number subject

-- The first fault of an air file, by its bytes alone: a fault of the file, or the next line is
-- refused. And `holds` holds of the whole lines before it. A failed read, a failed write or want of
-- memory is never such a fault.
abbrev pub HasListenFault : Starts → (List Line → Type 0) → List ℕ → ListenFault → Type 0
HasListenFault starts holds bytes AirTooLong = HasFaultAfter holds bytes file.TooLong
HasListenFault starts holds bytes (LineLong line) = HasFaultAfter holds bytes (file.LineLong line)
HasListenFault starts holds bytes (LineCut line) = HasFaultAfter holds bytes (file.LineCut line)
HasListenFault starts holds bytes (BadLine line) = HasFaultAfter holds bytes (file.BadLine line)
HasListenFault starts holds bytes fault = StopsAt bytes (λ lines rest more.
    IsLineRefused (RefusesAfter starts fault) air_limit lines rest more (length lines + 1)
    × holds lines)

-- What a run that listens answers of bytes of this extent: a report, where they are all and the log
-- of their file was written; or a fault. Want of memory says nothing. After a failed write the
-- first bytes of a log are written: of some of the whole lines, from the first on, or of the whole
-- file, if it had ended. Before each other fault the log of the whole lines before it was written,
-- and no copy that stands open is closed. A failed read comes behind those lines and the beginning
-- of one more, and leaves what follows. Any further fault is the first of the file; `LineCut` comes
-- only where the bytes are all.
abbrev pub AnswersListeningBy : Printing → Starts → Extent → Contents
    → Result Report ListenFault → List ℕ → Type 0
AnswersListeningBy printing starts extent contents (Ok report) bytes =
    extent.at_end × HasListenedBy printing starts contents bytes report
AnswersListeningBy printing starts extent contents (Err (Memory error)) bytes = ⊤
AnswersListeningBy printing starts extent contents (Err Read) bytes =
    HasReadFault extent (HasLoggedBy printing starts contents) bytes
AnswersListeningBy printing starts extent contents (Err (Write written)) bytes =
    StopsAt bytes (λ lines rest more.
    HasLoggedSome (IsLogOfLinesBy printing starts lines) contents written)
    ⊎ (extent.at_end × HasLoggedSome (IsLogOfBy printing starts bytes) contents written)
AnswersListeningBy printing starts extent contents (Err (LineCut line)) bytes =
    extent.at_end
    × HasListenFault starts (HasLoggedBy printing starts contents) bytes (LineCut line)
AnswersListeningBy printing starts extent contents (Err fault) bytes =
    HasListenFault starts (HasLoggedBy printing starts contents) bytes fault

-- the same where each copy is judged alone
abbrev pub AnswersListening : Starts → Extent → Contents → Result Report ListenFault → List ℕ
    → Type 0
AnswersListening starts extent contents outcome bytes =
    AnswersListeningBy plain starts extent contents outcome bytes

-- nothing is known of what a writer held and holds
abbrev pub unknown_contents : Contents
unknown_contents = record { before = None; after = None }

-- What such a run answers whose log isn't written: no write fails, and nothing is known of the log
-- but that there is one.
abbrev pub AnswersUnlogged : Starts → Extent → Result Report ListenFault → List ℕ → Type 0
AnswersUnlogged starts extent (Err (Write written)) bytes = ⊥
AnswersUnlogged starts extent outcome bytes =
    AnswersListening starts extent unknown_contents outcome bytes

-- A run that listens, with this start. It answers so to the bytes that it read, and to the whole
-- file, however it came. Where a read fails, the log of the whole lines before it was written
-- already; so it is written before each further read.
-- A read failed, at most one, exactly where the outcome is `Read`, and a write where it is `Write`.
pub record ListensBy {R W : Type 0} (printing : Printing) (starts : Starts) (d : Devices R W)
    (outcome : Result Report ListenFault) : Type 0 where
  pub bytes : List ℕ
  pub consumed : Consumes (d.remaining d.reader.inner) (d.remaining d.reader_after.inner) bytes
  pub answer : AnswersListeningBy printing starts (as_read d) (contents_of d) outcome bytes
  pub file : IfSome (d.remaining d.reader.inner)
      (AnswersListeningBy printing starts whole_input (contents_of d) outcome)
  pub unread : IsErrOf outcome Read ↔ (d.reader_after.failures ≡ 1)
  pub read_once : d.reader_after.failures ≤ 1
  pub unwritten : ((written : ℕ) × (outcome ≡ Err (Write written)))
      ↔ (d.writer_after.failures ≡ 1)
  pub write_once : d.writer_after.failures ≤ 1

-- the same where each copy is judged alone
abbrev pub Listens : {R W : Type 0} → Starts → Devices R W → Result Report ListenFault → Type 0
Listens starts d outcome = ListensBy plain starts d outcome
