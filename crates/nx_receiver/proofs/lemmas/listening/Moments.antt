-- Where the lines of an air file are taken, all that is printed has a moment in range, and so has a
-- log.
use Rattle.std.proofs.Common.{◌≡◌, ℕ, ◌≤◌, Bool, true, false, List, [], ◌∷◌, ◌++◌, Option, sym, subst}
use Rattle.std.specs.List.{All}
use Rattle.std.specs.Prelude.{if◌then◌else◌}
use Rattle.std.proofs.lemmas.List.Elements.{All-nil, All-cons, All-append}
use Rattle.nx_envelope.specs.Moment.{last_moment}
use Rattle.nx_fec.specs.air_files.AirFile.{Line, moment, elements, refuse_station, accept_station}
use Rattle.nx_fec.specs.air_files.AirFile.{refuse_subject, accept_subject}
use Rattle.nx_fec.specs.air_files.Channels.{channel_of, same_channel}
use Rattle.nx_fec.specs.Transfers.{WroteSome}
use Rattle.nx_fec.specs.declared.air_files.channel.Channel.{Channel}
use Rattle.nx_fec.specs.air_files.Lines.{IsAirFile, air_limit}
use Rattle.nx_fec.proofs.lemmas.lines.LineLaws.{IsAirFile-unique}
use Rattle.nx_fec.proofs.lemmas.devices.WritingLaws.{WroteSome-front}
use Rattle.nx_copies.specs.Events.{Event, element}
use Rattle.nx_copies.specs.copies.FoundCopies.{TaggedCopy}
use Rattle.nx_receiver.specs.air_file_runs.Listen.{AreTaken, HasLoggedSome, IsLogOf, IsLogOfLines}
use Rattle.nx_receiver.specs.air_file_runs.Listen.{IsLogOfLinesBy, events_on, given_by, given_of}
use Rattle.nx_receiver.specs.private.Taken.{AreTakenAfter, IsTakenAfter}
use Rattle.nx_receiver.proofs.lemmas.listening.Taken.{taken-each}
use Rattle.nx_receiver.specs.private.Listener.{BeginsListeningBy}
use Rattle.nx_copies.specs.copies.InTurn.{HavePrintedBy, PrintAllToEnd, PrintAllToEndBy}
use Rattle.nx_copies.specs.copies.Log.{IsLog, IsPrinting, IsUpTo, Printing, plain}
use Rattle.nx_copies.specs.Events as fed
use Rattle.nx_copies.specs.copies.Shares.{MarkedCopy, Starts, events_for, start_on}
use Rattle.nx_copies.proofs.lemmas.channels.Shares.{to_end-on}
use Rattle.nx_copies.proofs.lemmas.printing.Laws.{plain-laws, up_to-so_far}
use Rattle.nx_copies.proofs.lemmas.printing.Log.{log_begins, one_log, some_log}
use Rattle.nx_copies.proofs.lemmas.channels.Marked.{all-on}
use Rattle.nx_copies.proofs.lemmas.channels.One.{one-in_turn, one-to_end}
use Rattle.nx_copies.proofs.lemmas.channels.Some.{some-in_turn, some-to_end}

-- an event that is a moment is in range
abbrev pub IsInRange : Event → Type 0
IsInRange event = IsUpTo last_moment event

abbrev pub IsCopyInRange : TaggedCopy → Type 0
IsCopyInRange copy = copy.moment ≤ last_moment

pub elements-in_range : (bits : List Bool) → All IsInRange (fed.elements bits)
elements-in_range [] = All-nil IsInRange
elements-in_range (bit ∷ bits) =
    All-cons IsInRange (element bit) (fed.elements bits) tt (elements-in_range bits)

pub one-in_range : (event : Event) → IsInRange event → All IsInRange (event ∷ [])
one-in_range event h = All-cons IsInRange event [] h (All-nil IsInRange)

share-in_range : (b : Bool) (events : List Event) → All IsInRange events
    → All IsInRange (if b then events else [])
share-in_range true events h = h
share-in_range false events h = All-nil IsInRange

line-in_range : (starts : Starts) (channel : Channel) (first : List Line) (line : Line)
    → IsTakenAfter starts first line → All IsInRange (events_for channel (given_of line))
line-in_range starts channel first (moment n) h = one-in_range _ h.1
line-in_range starts channel first (elements mark bits) h =
    share-in_range (same_channel (channel_of mark) channel) _ (elements-in_range bits)
line-in_range starts channel first (refuse_station mark letter) h =
    share-in_range (same_channel (channel_of mark) channel) _ (one-in_range _ tt)
line-in_range starts channel first (accept_station mark letter) h =
    share-in_range (same_channel (channel_of mark) channel) _ (one-in_range _ tt)
line-in_range starts channel first (refuse_subject mark letter) h =
    share-in_range (same_channel (channel_of mark) channel) _ (one-in_range _ tt)
line-in_range starts channel first (accept_subject mark letter) h =
    share-in_range (same_channel (channel_of mark) channel) _ (one-in_range _ tt)

pub lines-in_range : (starts : Starts) (channel : Channel) (first lines : List Line)
    → AreTakenAfter starts first lines → All IsInRange (events_on channel lines)
unfolding AreTakenAfter
lines-in_range starts channel first [] h = All-nil IsInRange
lines-in_range starts channel first (line ∷ lines) h =
    All-append IsInRange (events_for channel (given_of line)) (events_on channel lines)
    (line-in_range starts channel first line h.0)
    (lines-in_range starts channel (first ++ line ∷ []) lines h.1)

-- all that lines print is in range, with the end and without it
open-in_range : (printing : Printing) (laws : IsPrinting printing) (starts : Starts)
    (lines : List Line) (copies : List MarkedCopy) → AreTaken starts lines
    → HavePrintedBy printing starts (given_by lines) copies
    → All (λ (one : MarkedCopy). IsCopyInRange one.copy) copies
open-in_range printing laws starts lines copies taken h =
    all-on IsCopyInRange copies (λ channel.
    up_to-so_far printing laws (start_on starts channel) (events_on channel lines) _ last_moment
    taken.in_range (lines-in_range starts channel [] lines (taken-each starts lines taken))
    (h channel))

closed-in_range : (printing : Printing) (laws : IsPrinting printing) (starts : Starts)
    (lines : List Line) (copies : List MarkedCopy) → AreTaken starts lines
    → PrintAllToEndBy printing starts (given_by lines) copies
    → All (λ (one : MarkedCopy). IsCopyInRange one.copy) copies
closed-in_range printing laws starts lines copies taken h =
    all-on IsCopyInRange copies (λ channel.
    laws.up_to (start_on starts channel) (events_on channel lines) _ last_moment
    taken.in_range (lines-in_range starts channel [] lines (taken-each starts lines taken))
    (to_end-on starts (given_by lines) copies channel h))

-- so lines have a log, with the end and without it
pub some-open : (starts : Starts) (lines : List Line) → AreTaken starts lines
    → (log : List ℕ) × IsLogOfLines starts lines log
some-open starts lines taken =
    let all = some-in_turn starts (given_by lines) in
    let log = some_log all.0 (open-in_range plain plain-laws starts lines all.0 taken all.1.each) in
    (log.0, record { taken = taken; copies = all.0; printed = all.1; spelled = log.1 })

pub some-closed : (starts : Starts) (bytes : List ℕ) (lines : List Line)
    → IsAirFile air_limit bytes lines → AreTaken starts lines
    → (log : List ℕ) × IsLogOf starts bytes log
some-closed starts bytes lines file taken =
    let all = some-to_end starts (given_by lines) in
    let log = some_log all.0 (closed-in_range plain plain-laws starts lines all.0 taken all.1) in
    (log.0, (lines, all.0, record { file = file; taken = taken; printed = all.1; spelled = log.1 }))

-- and one alone
pub one-open : (starts : Starts) (lines : List Line) (log other : List ℕ)
    → IsLogOfLines starts lines log → IsLogOfLines starts lines other → log ≡ other
one-open starts lines log other a b =
    let same = one-in_turn starts (given_by lines) a.copies b.copies a.printed b.printed in
    one_log b.copies log other (subst (λ copies. IsLog copies log) same a.spelled) b.spelled

pub one-closed : (starts : Starts) (bytes log other : List ℕ) → IsLogOf starts bytes log
    → IsLogOf starts bytes other → log ≡ other
one-closed starts bytes log other a b =
    let lines = IsAirFile-unique air_limit bytes a.0 b.0 a.2.file b.2.file in
    let same = one-to_end starts (given_by b.0) a.1 b.1
    (subst (λ l. PrintAllToEnd starts (given_by l) a.1) lines a.2.printed) b.2.printed in
    one_log b.1 log other (subst (λ copies. IsLog copies log) same a.2.spelled) b.2.spelled

-- what is the log of the first copies of lines was written in part: so was the log of the lines
pub logged-some : {printing : Printing} (laws : IsPrinting printing) (starts : Starts)
    (old new : Option (List ℕ)) (written : ℕ) (lines : List Line) (bytes : List ℕ)
    → BeginsListeningBy printing starts lines bytes → WroteSome old new bytes written
    → HasLoggedSome (IsLogOfLinesBy printing starts lines)
    (record { before = old; after = new }) written
logged-some {printing} laws starts old new written lines bytes h some =
    let b = h.begun in
    let copies = b.first ++ b.rest in
    let log = some_log copies (open-in_range printing laws starts lines copies h.taken
    b.printed.each) in
    let front = log_begins b.first b.rest bytes log.0 b.spelled log.1 in (
      log.0,
      record { taken = h.taken; copies = copies; printed = b.printed; spelled = log.1 },
      subst (λ l. WroteSome old new l written) (sym front.1)
          (WroteSome-front old new bytes front.0 written some),
    )
