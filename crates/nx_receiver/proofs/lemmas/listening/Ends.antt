-- What the end of an air file makes of what a listener heard.
use Rattle.std.proofs.Common.{◌≡◌, ℕ, ◌+◌, ◌-◌, ◌^◌, ◌≤◌, List, [], ◌++◌, map, Option, None, Some}
use Rattle.std.proofs.Common.{length, ap, ◌∙◌, subst, sym, append-nil, append_assoc, arith}
use Rattle.std.proofs.Common.{Bool, is_some}
use mir.Val.{bool_byte}
use Rattle.std.proofs.Common.{length-append}
use Rattle.std.specs.Prelude.{IfSome}
use Rattle.std.specs.List.{All}
use Rattle.std.specs.Io.KnownBytes.{Appends}
use Rattle.std.proofs.lemmas.List.{length-map}
use Rattle.std.proofs.lemmas.List.Elements.{All-nil, All-cons, All-append}
use Rattle.nx_envelope.specs.Moment.{last_moment}
use Rattle.nx_fec.specs.Transfers.{WroteSome, count_of}
use Rattle.nx_fec.specs.declared.air_files.channel.Channel.{Channel}
use Rattle.nx_fec.specs.declared.air_files.channel.Channel.TheVariants.{Zero, One, Two}
use Rattle.nx_fec.proofs.lemmas.devices.WritingLaws.{WroteSome-front}
use Rattle.nx_copies.specs.Events.{Event, Start}
use Rattle.nx_copies.specs.copies.FoundCopies.{TaggedCopy, copy_of}
use Rattle.nx_copies.specs.copies.InTurn.{PrintAllToEndBy}
use Rattle.nx_copies.specs.copies.Log.{IsLog, Printing}
use Rattle.nx_receiver.specs.ChannelReceiver.{ReceiverKind}
use Rattle.nx_receiver.specs.Receiver.{entry_list}
use Rattle.nx_copies.specs.copies.Shares.{Given, MarkedCopy, Starts, copies_on, marked, share}
use Rattle.nx_copies.specs.copies.Shares.{start_on}
use Rattle.nx_receiver.specs.Listener.{AreInRange, HearsBy, last_copies}
use Rattle.nx_receiver.specs.private.Listener.{HasClosedBy, HasClosedSomeBy, HearsLogBy}
use Rattle.nx_receiver.specs.Listener.{ListeningOver}
use Rattle.nx_copies.specs.declared.entry.Entry.{Entry}
use Rattle.nx_receiver.specs.declared.listener.LastEntries.{LastEntries}
use Rattle.nx_receiver.specs.declared.air_file_runs.listening.Report.{Report}
use Rattle.nx_receiver.proofs.lemmas.listening.Listener.{counts-on}
use Rattle.nx_copies.proofs.lemmas.printing.Log.{logs_join, some_log}

-- an entry is one copy
at-most-one : (entry : Option Entry) → length (entry_list entry) ≤ 1
at-most-one None = omega arith
at-most-one (Some entry) = omega arith

abbrev pub closed_on : LastEntries → Channel → List TaggedCopy
closed_on closing Zero = entry_list closing.on_0
closed_on closing One = entry_list closing.on_1
closed_on closing Two = entry_list closing.on_2

abbrev pub marked_on : LastEntries → Channel → List MarkedCopy
marked_on closing channel = map (marked channel) (closed_on closing channel)

-- a receiver prints this entry, or none, at the end, whatever it was given; its moment is in range
pub record Closes {R : Type 0} (kind : ReceiverKind R) (receiver : R) (entry : Option Entry)
    : Type 0 where
  pub to_end : (start : Start) (events : List Event) (log : List TaggedCopy)
      → kind.stands start receiver events log
      → kind.printing.to_end start events (log ++ entry_list entry)
  pub moment : IfSome entry (λ entry. entry.moment ≤ last_moment)

-- the receivers of a listener do
pub record CloseAll {R : Type 0} (kind : ReceiverKind R) (listener : ListeningOver R)
    (closing : LastEntries) : Type 0 where
  pub on_0 : Closes kind listener.on_0 closing.on_0
  pub on_1 : Closes kind listener.on_1 closing.on_1
  pub on_2 : Closes kind listener.on_2 closing.on_2

pub closes-all : {R : Type 0} {kind : ReceiverKind R} (now inside : ListeningOver R)
    (one two three : Option Entry) → inside ≡ now
    → Closes kind inside.on_0 one → Closes kind inside.on_1 two
    → Closes kind inside.on_2 three
    → CloseAll kind now (record { on_0 = one; on_1 = two; on_2 = three })
closes-all {R} {kind} now inside one two three e h i j =
    subst (λ l. CloseAll kind l (record { on_0 = one; on_1 = two; on_2 = three })) e
    (record { on_0 = h; on_1 = i; on_2 = j })

close-on : {R : Type 0} {kind : ReceiverKind R} (starts : Starts)
    (listener : ListeningOver R) (closing : LastEntries) (given : List Given)
    (copies : List MarkedCopy) → CloseAll kind listener closing
    → HearsBy kind starts listener given copies
    → (channel : Channel) → kind.printing.to_end (start_on starts channel) (share channel given)
    (copies_on channel copies ++ closed_on closing channel)
close-on {R} {kind} starts listener closing given copies c h Zero =
    c.on_0.to_end _ _ _ (h.receivers Zero)
close-on {R} {kind} starts listener closing given copies c h One =
    c.on_1.to_end _ _ _ (h.receivers One)
close-on {R} {kind} starts listener closing given copies c h Two =
    c.on_2.to_end _ _ _ (h.receivers Two)

-- all copies: those that have ended, and those that the end closes
abbrev pub all_copies : List MarkedCopy → LastEntries → List MarkedCopy
all_copies copies closing =
    ((copies ++ marked_on closing Zero) ++ marked_on closing One) ++ marked_on closing Two

print-all : {R : Type 0} {kind : ReceiverKind R} (starts : Starts)
    (listener : ListeningOver R) (closing : LastEntries) (given : List Given)
    (copies : List MarkedCopy) → CloseAll kind listener closing
    → HearsBy kind starts listener given copies
    → PrintAllToEndBy kind.printing starts given (all_copies copies closing)
print-all {R} {kind} starts listener closing given copies c h =
    let a = marked_on closing Zero in
    let b = marked_on closing One in
    let last = marked_on closing Two in
    record {
      ended = copies;
      in_turn = h.in_turn;
      closed = closed_on closing;
      to_end = close-on starts listener closing given copies c h;
      whole = append_assoc (copies ++ a) b last ∙ append_assoc copies a (b ++ last)
          ∙ ap (λ l. copies ++ (a ++ (b ++ l))) (sym (append-nil last));
    }

-- the same, where those that the end prints are told by their entries
pub prints-last : {R : Type 0} {kind : ReceiverKind R} (starts : Starts)
    (listener : ListeningOver R) (closing : LastEntries)
    (given : List Given) (copies : List MarkedCopy) → CloseAll kind listener closing
    → HearsBy kind starts listener given copies
    → PrintAllToEndBy kind.printing starts given (copies ++ last_copies closing)
prints-last {R} {kind} starts listener closing given copies c h =
    let a = marked_on closing Zero in
    let b = marked_on closing One in
    let last = marked_on closing Two in
    subst (PrintAllToEndBy kind.printing starts given)
    (ap (λ l. l ++ last) (append_assoc copies a b) ∙ append_assoc copies (a ++ b) last)
    (print-all starts listener closing given copies c h)

-- what the end prints, as its parts by channel
pub printed-parts : {printing : Printing} (starts : Starts) (closing : LastEntries)
    (given : List Given) (copies : List MarkedCopy) → PrintAllToEndBy printing starts given
    (copies ++ last_copies closing)
    → PrintAllToEndBy printing starts given (all_copies copies closing)
printed-parts {printing} starts closing given copies h =
    let a = marked_on closing Zero in
    let b = marked_on closing One in
    let last = marked_on closing Two in
    subst (PrintAllToEndBy printing starts given)
    (sym (ap (λ l. l ++ last) (append_assoc copies a b) ∙ append_assoc copies (a ++ b) last)) h

-- an entry whose moment is in range has bytes
range-of : (entry : Option Entry) (channel : Channel)
    → IfSome entry (λ entry. entry.moment ≤ last_moment)
    → All (λ (one : MarkedCopy). one.copy.moment ≤ last_moment)
    (map (marked channel) (entry_list entry))
range-of None channel h = All-nil (λ (one : MarkedCopy). one.copy.moment ≤ last_moment)
range-of (Some entry) channel h =
    All-cons (λ (one : MarkedCopy). one.copy.moment ≤ last_moment) (marked channel (copy_of entry))
    [] h (All-nil (λ (one : MarkedCopy). one.copy.moment ≤ last_moment))

pub log-of : (entry : Option Entry) (channel : Channel)
    → IfSome entry (λ entry. entry.moment ≤ last_moment)
    → (bytes : List ℕ) × IsLog (map (marked channel) (entry_list entry)) bytes
log-of entry channel h =
    some_log (map (marked channel) (entry_list entry)) (range-of entry channel h)

-- how many copies an entry is
pub bool-counted : (entry : Option Entry) (is : Bool) (k : ℕ) → is ≡ is_some entry
    → k ≡ bool_byte is → k ≡ length (entry_list entry)
bool-counted None is k e f = f ∙ ap bool_byte e
bool-counted (Some entry) is k e f = f ∙ ap bool_byte e

-- what the end printed was written, and counted
pub closed-all : {R : Type 0} {kind : ReceiverKind R} (starts : Starts)
    (listener : ListeningOver R) (closing : LastEntries)
    (old new : Option (List ℕ)) (given : List Given) (bytes on_0 on_1 on_2 : List ℕ)
    (n first second : ℕ) (report : Report) (h : HearsLogBy kind starts listener given bytes)
    → PrintAllToEndBy kind.printing starts given (h.log ++ last_copies closing)
    → IsLog (marked_on closing Zero) on_0 → IsLog (marked_on closing One) on_1
    → IsLog (marked_on closing Two) on_2
    → Appends old new (((bytes ++ on_0) ++ on_1) ++ on_2)
    → report.bits ≡ listener.elements
    → n ≡ listener.entries
    → (n ≤ 2 ^ 64 - 1 → first ≡ count_of (n + length (entry_list closing.on_0)))
    → (first ≤ 2 ^ 64 - 1 → second ≡ count_of (first + length (entry_list closing.on_1)))
    → (second ≤ 2 ^ 64 - 1 → report.printed ≡ count_of (second + length (entry_list closing.on_2)))
    → HasClosedBy kind.printing starts old new given report
closed-all starts listener closing old new given bytes on_0 on_1 on_2 n first second report h c is_0
    is_1 is_2 written bits same one two three =
    let a = marked_on closing Zero in
    let b = marked_on closing One in
    let last = marked_on closing Two in
    let longer_0 : length (h.log ++ a) ≡ length h.log + length (entry_list closing.on_0) =
    length-append h.log a
    ∙ ap (λ n. length h.log + n) (length-map (entry_list closing.on_0) (marked Zero)) in
    let longer_1 : length ((h.log ++ a) ++ b)
    ≡ length (h.log ++ a) + length (entry_list closing.on_1) =
    length-append (h.log ++ a) b
    ∙ ap (λ n. length (h.log ++ a) + n) (length-map (entry_list closing.on_1) (marked One)) in
    let longer_2 : length (((h.log ++ a) ++ b) ++ last)
    ≡ length ((h.log ++ a) ++ b) + length (entry_list closing.on_2) =
    length-append ((h.log ++ a) ++ b) last
    ∙ ap (λ n. length ((h.log ++ a) ++ b) + n)
    (length-map (entry_list closing.on_2) (marked Two)) in
    let counted_0 : first ≡ count_of (length (h.log ++ a)) =
    counts-on n first (length h.log) (length (entry_list closing.on_0)) _ (same ∙ h.hears.entries)
    (one (omega (arith, same, h.hears.entries))) longer_0 in
    let counted_1 : second ≡ count_of (length ((h.log ++ a) ++ b)) =
    counts-on first second (length (h.log ++ a)) (length (entry_list closing.on_1)) _ counted_0
    (two (omega (arith, counted_0))) longer_1 in
    let few_0 = at-most-one closing.on_0 in
    let few_1 = at-most-one closing.on_1 in
    let few_2 = at-most-one closing.on_2 in
    record {
      copies = all_copies h.log closing;
      log = ((bytes ++ on_0) ++ on_1) ++ on_2;
      printed = printed-parts starts closing given h.log c;
      spelled = logs_join ((h.log ++ a) ++ b) last ((bytes ++ on_0) ++ on_1) on_2
          (logs_join (h.log ++ a) b (bytes ++ on_0) on_1
          (logs_join h.log a bytes on_0 h.spelled is_0) is_1)
          is_2;
      written = written;
      bits_counted = bits ∙ h.hears.elements;
      printed_counted = counts-on second report.printed (length ((h.log ++ a) ++ b))
          (length (entry_list closing.on_2)) _ counted_1 (three (omega (arith, counted_1)))
          longer_2;
      few = omega (arith, h.hears.few, longer_0, longer_1, longer_2, few_0, few_1, few_2);
    }

-- the first of what is printed to the end was written in part
some-closed : {printing : Printing} (starts : Starts) (old new : Option (List ℕ))
    (given : List Given) (first rest : List MarkedCopy) (log : List ℕ) (written : ℕ)
    → PrintAllToEndBy printing starts given (first ++ rest) → IsLog first log
    → All (λ (one : MarkedCopy). one.copy.moment ≤ last_moment) rest → WroteSome old new log written
    → HasClosedSomeBy printing starts old new given written
some-closed starts old new given first rest log written printed spelled range some =
    let more = some_log rest range in
    record {
      copies = first ++ rest;
      log = log ++ more.0;
      printed = printed;
      spelled = logs_join first rest log more.0 spelled more.1;
      some = WroteSome-front old new log more.0 written some;
    }

-- the entry that the end printed on channel 0 was written in part
pub closed-part-0 : {R : Type 0} {kind : ReceiverKind R} (starts : Starts)
    (listener : ListeningOver R) (closing : LastEntries)
    (old new : Option (List ℕ)) (given : List Given) (bytes on_0 : List ℕ) (written : ℕ)
    → (h : HearsLogBy kind starts listener given bytes)
    → PrintAllToEndBy kind.printing starts given (h.log ++ last_copies closing) → AreInRange closing
    → IsLog (marked_on closing Zero) on_0 → WroteSome old new (bytes ++ on_0) written
    → HasClosedSomeBy kind.printing starts old new given written
closed-part-0 {R} {kind} starts listener closing old new given bytes on_0 written h c r is_0 some =
    let a = marked_on closing Zero in
    let b = marked_on closing One in
    let last = marked_on closing Two in
    some-closed starts old new given (h.log ++ a) (b ++ last) (bytes ++ on_0) written
    (subst (PrintAllToEndBy kind.printing starts given) (append_assoc (h.log ++ a) b last)
    (printed-parts starts closing given h.log c))
    (logs_join h.log a bytes on_0 h.spelled is_0)
    (All-append (λ (one : MarkedCopy). one.copy.moment ≤ last_moment) b last
    (range-of closing.on_1 One r.1)
    (range-of closing.on_2 Two r.2))
    some

-- that on channel 1
pub closed-part-1 : {R : Type 0} {kind : ReceiverKind R} (starts : Starts)
    (listener : ListeningOver R) (closing : LastEntries)
    (old new : Option (List ℕ)) (given : List Given) (bytes on_0 on_1 : List ℕ) (written : ℕ)
    → (h : HearsLogBy kind starts listener given bytes)
    → PrintAllToEndBy kind.printing starts given (h.log ++ last_copies closing) → AreInRange closing
    → IsLog (marked_on closing Zero) on_0 → IsLog (marked_on closing One) on_1
    → WroteSome old new ((bytes ++ on_0) ++ on_1) written
    → HasClosedSomeBy kind.printing starts old new given written
closed-part-1 starts listener closing old new given bytes on_0 on_1 written h c r is_0 is_1 some =
    let a = marked_on closing Zero in
    let b = marked_on closing One in
    some-closed starts old new given ((h.log ++ a) ++ b) (marked_on closing Two)
    ((bytes ++ on_0) ++ on_1) written
    (printed-parts starts closing given h.log c)
    (logs_join (h.log ++ a) b (bytes ++ on_0) on_1
    (logs_join h.log a bytes on_0 h.spelled is_0) is_1)
    (range-of closing.on_2 Two r.2) some

-- and that on channel 2
pub closed-part-2 : {R : Type 0} {kind : ReceiverKind R} (starts : Starts)
    (listener : ListeningOver R) (closing : LastEntries)
    (old new : Option (List ℕ)) (given : List Given) (bytes on_0 on_1 on_2 : List ℕ) (written : ℕ)
    → (h : HearsLogBy kind starts listener given bytes)
    → PrintAllToEndBy kind.printing starts given (h.log ++ last_copies closing) → AreInRange closing
    → IsLog (marked_on closing Zero) on_0 → IsLog (marked_on closing One) on_1
    → IsLog (marked_on closing Two) on_2
    → WroteSome old new (((bytes ++ on_0) ++ on_1) ++ on_2) written
    → HasClosedSomeBy kind.printing starts old new given written
closed-part-2 starts listener closing old new given bytes on_0 on_1 on_2 written h c r is_0 is_1
    is_2 some =
    let a = marked_on closing Zero in
    let b = marked_on closing One in
    let last = marked_on closing Two in
    record {
      copies = all_copies h.log closing;
      log = ((bytes ++ on_0) ++ on_1) ++ on_2;
      printed = printed-parts starts closing given h.log c;
      spelled = logs_join ((h.log ++ a) ++ b) last ((bytes ++ on_0) ++ on_1) on_2
          (logs_join (h.log ++ a) b (bytes ++ on_0) on_1
          (logs_join h.log a bytes on_0 h.spelled is_0) is_1)
          is_2;
      some = some;
    }
