-- The worked chain of two watches: it is one, and it meets what is asked of a message that is put
-- once.
use Rattle.std.proofs.Common.{◌≡◌, ℕ, ◌+◌, ◌<◌, ◌≤◌, Bool, false, true, List, [], ◌∷◌, ◌++◌}
use Rattle.std.proofs.Common.{length, map, take, refl, sym, ap, ◌∙◌, subst, arith, append-nil, length-append}
use Rattle.std.proofs.Common.{cond, lit<, lit≤, nat_le}
use Rattle.std.specs.Prelude.{codes, slice_index_or, Option, Some}
use Rattle.std.proofs.lemmas.Bool.{and_from, le-leb}
use Rattle.std.specs.List.{All, AllZip, Contains, concat}
use Rattle.std.proofs.lemmas.List.{length-take}
use Rattle.std.proofs.lemmas.List.Elements.{All-cons, All-contains, All-nil}
use Rattle.nx_code.specs.Lists.{Begins}
use Rattle.nx_code.specs.Reading.{characters, is_in_code}
use Rattle.nx_envelope.specs.Moment.{last_moment}
use Rattle.nx_envelope.specs.declared.found.How.TheVariants.{Full}
use Rattle.nx_fec.specs.air_files.AirFile.{Line, moment}
use Rattle.nx_fec.specs.air_files.BitLines.{bit_line, bit_lines}
use Rattle.nx_fec.specs.air_files.Channels.{same_channel}
use Rattle.nx_fec.specs.declared.air_files.channel.Channel.{Channel}
use Rattle.nx_fec.specs.declared.air_files.channel.Channel.TheVariants.{Zero, One, Two}
use Rattle.nx_fec.proofs.lemmas.emissions.RoundTrip.{length-bits_of}
use Rattle.nx_log.specs.Logged.{IsLogged, IsLoggedAs, is_memorable, is_text_byte, memory_entries, remembered_on}
use Rattle.nx_memory.specs.Memory.{newest_moment, seconds_known}
use Rattle.nx_memory.specs.Selection.{admits}
use Rattle.nx_memory.specs.declared.memories.entry.MemoryEntry.{MemoryEntry}
use Rattle.nx_station.specs.reception.PathExample.{ea01, example_message, example_parts, example_sending}
use Rattle.nx_station.specs.reception.Sendings.{IsCut, IsSentAt, Part}
use Rattle.nx_station.proofs.lemmas.reception.PathExamples.{example_sent}
use Rattle.nx_sync.specs.Locks.{IsNow, locked}
use Rattle.nx_copies.specs.copies.FoundCopies.{AreFoundIn}
use Rattle.nx_promises.specs.examples.Chain.{copy_heard, found_on}
use Rattle.nx_copies.specs.laws.Emissions.{copy_of_sending}
use Rattle.nx_copies.specs.Events.{Event, Setting, at_moment, elements_among, first_setting}
use Rattle.nx_copies.specs.Events.{none_refused, setting_at, settings}
use Rattle.nx_promises.specs.examples.Repeats.{first_copy, heard_at}
use Rattle.nx_copies.specs.copies.FoundCopies.{FoundCopy, TaggedCopy, ended_so_far, found_to_end}
use Rattle.nx_copies.specs.copies.FoundCopies.{open_so_far, tag, tagged_copies}
use Rattle.nx_copies.specs.copies.InTurn.{PrintAllToEnd, PrintsInTurn}
use Rattle.nx_receiver.specs.air_file_runs.Listen.{events_on, given_by}
use Rattle.nx_copies.specs.copies.Log.{HasPrinted, IsEntry, PrintsToEnd}
use Rattle.nx_copies.specs.copies.Printing.{entries_made, entry_of, if_printed}
use Rattle.nx_copies.specs.copies.Printing.{is_printed, printed_copies}
use Rattle.nx_copies.specs.copies.Shares.{MarkedCopy, Starts, copies_on, marked, start_on}
use Rattle.nx_promises.proofs.lemmas.chain.Alone.{found-none, printed-alone}
use Rattle.nx_copies.proofs.lemmas.emissions.Found.{sending_found}
use Rattle.nx_promises.proofs.lemmas.examples.AirFile.{bits, inside, one-sending, place-within}
use Rattle.nx_promises.proofs.lemmas.examples.Emission.{alone, cut_is, events, events_are}
use Rattle.nx_promises.proofs.lemmas.examples.Emission.{first_bits, found}
use Rattle.nx_promises.proofs.lemmas.examples.Emission.{one_found, one_in, sent_there, stands_is}
use Rattle.nx_promises.proofs.lemmas.examples.Repeats.{made_few}
use Rattle.nx_promises.proofs.lemmas.examples.Worked.{damaged_computed}
use Rattle.nx_promises.proofs.lemmas.examples.WorkedLog.{all_selected, log_is}
use Rattle.nx_promises.proofs.lemmas.listening.ElementLines.{events-lines, events-others}
use Rattle.nx_copies.proofs.lemmas.printing.Logged.{end_adds, one_printed}
use Rattle.nx_copies.proofs.lemmas.channels.Marked.{of-one}
use Rattle.nx_copies.proofs.lemmas.channels.Some.{some-in_turn}
use Rattle.nx_promises.specs.examples.Emission.{damaged_words, worked_log}
use Rattle.nx_watch.specs.Acting.{acting_behind, acting_lines, moment_said, with_start}
use Rattle.nx_watch.specs.declared.lines.line_effects.StartMoments.{StartMoments}
use Rattle.nx_left_on.specs.Chain.{ClocksAreNear, GoesOn, HadEnded, IsChain, IsLeftBy, Judges}
use Rattle.nx_left_on.specs.Chain.{Puts, Watch, answered, stopped, all_copies, all_put, copies_in}
use Rattle.nx_left_on.specs.Chain.{with_copies}
use Rattle.nx_watch.specs.Watch.{StandsForEntries, at_end, moments_at, unread}
use Rattle.nx_left_on.specs.Chain.{events_in}
use Rattle.nx_left_on.specs.Chain.{lines_of}
use Rattle.nx_left_on.specs.Example.{first_acting, first_moment, first_watch, kept_bytes, lines_at}
use Rattle.nx_left_on.specs.Example.{one_entry, second_acting, second_watch}
use Rattle.nx_left_on.specs.LeftOn.{AreFewOver, CutWatch, HasEndedAt, IsHeardInTimeOver, IsSentIn, elements_in}
use Rattle.nx_left_on.specs.LeftOn.{in_force_in}
use Rattle.nx_left_on.proofs.lemmas.chains.Chains.{entries-append, entries_on, none-remembered}
use Rattle.nx_left_on.proofs.lemmas.chains.Found.{begins-itself, one-ended, some-ended, to_end-begin}
use Rattle.nx_left_on.proofs.lemmas.chains.Keeps.{keeps-all, keeps-behind, one-told}
use Rattle.nx_left_on.proofs.lemmas.chains.Links.{copies-append, put-append}
use Rattle.nx_left_on.proofs.lemmas.chains.Once.{unknown-from_nothing}
use Rattle.nx_left_on.proofs.lemmas.entries.Judging.{puts-with}
use Rattle.nx_promises.proofs.lemmas.examples.Chain.{first-long, place-is, copy-is, sent-there}

-- ---- the lines of a watch: this moment, and the elements

events-are : (n : ℕ) → events_on Zero (lines_at n) ≡ at_moment n ∷ events
events-are n = ap (λ es. at_moment n ∷ es) (events-lines bits)

same : (n : ℕ) → elements_among events ≡ elements_among (events_on Zero (lines_at n))
unfolding elements_among
same n = sym (ap elements_among (events-are n))

-- the other channels are given the moment alone
none-among : (channel : Channel) → same_channel Zero channel ≡ false → (n : ℕ)
    → elements_among (events_on channel (lines_at n)) ≡ []
unfolding elements_among
none-among channel h n =
    ap elements_among (ap (λ es. at_moment n ∷ es) (events-others channel h bits))

-- lines of elements act
elements-act : (heard : List Bool) (first : ℕ) (moments indices : List ℕ)
    → acting_behind first moments (map Some (map (bit_line heard) indices))
    ≡ map (bit_line heard) indices
elements-act heard first moments [] = refl
elements-act heard first moments (i ∷ indices) =
    ap (λ l. bit_line heard i ∷ l) (elements-act heard first (moments ++ []) indices)

abbrev said_on : ℕ → List (Option Line)
said_on n = map Some (lines_at n)

pub bits-act : (heard : List Bool) (start : StartMoments) (n : ℕ) → start.newest ≤ n
    → n ≤ last_moment
    → moment n ∷ bit_lines heard ≡ acting_lines start (map Some (moment n ∷ bit_lines heard))
bits-act heard start n low high =
    let first = start.newest in
    let range : nat_le n last_moment ≡ true = le-leb n last_moment high in
    let moments = moment_said (Some (moment n)) in
    let rest = map Some (bit_lines heard) in
    sym (ap (λ b. acting_behind first [] (Some (moment n) ∷ cond b rest (with_start start rest)))
    range
    ∙ ap (λ b. cond b (moment n ∷ []) [] ++ acting_behind first moments rest)
    (and_from (nat_le n last_moment) (nat_le first n) range (le-leb first n low))
    ∙ ap (λ l. moment n ∷ l) (elements-act heard first moments _))

lines-act : (start : StartMoments) (n : ℕ) → start.newest ≤ n → n ≤ last_moment
    → lines_at n ≡ acting_lines start (said_on n)
lines-act start n low high = bits-act bits start n low high

-- ---- the copy in them

stands-in : (n : ℕ) → IsNow (elements_among (events_on Zero (lines_at n))) [] (locked 0 28)
stands-in n = subst (λ (b : List Bool). IsNow b [] (locked 0 28)) (same n) stands_is

found-to_end : (n : ℕ)
    → found_to_end (elements_among (events_on Zero (lines_at n))) [] (locked 0 28)
    ≡ copy_heard ∷ []
found-to_end n =
    sym (ap (λ (b : List Bool). found_to_end b [] (locked 0 28)) (same n)) ∙ copy-is

cut-heard : (n : ℕ) → IsCut (elements_among (events_on Zero (lines_at n)))
    (example_parts first_bits [])
cut-heard n = subst (λ (b : List Bool). IsCut b (example_parts first_bits [])) (same n) cut_is

-- it has ended, so it is all that has
only-one : (front back : List FoundCopy) (copy other : FoundCopy) → front ++ back ≡ copy ∷ []
    → Contains front other → front ≡ copy ∷ []
only-one [] back copy other e c = absurd (omega (arith, c.1))
only-one (x ∷ []) back copy other e c =
    let head : x ≡ copy = cc in ap (λ y. y ∷ []) head
only-one (x ∷ y ∷ front) back copy other e c = cc

ended-first : (n : ℕ) → HadEnded (events_on Zero (lines_at n)) (copy_heard ∷ [])
ended-first n =
    let all = elements_among (events_on Zero (lines_at n)) in
    let ended = ended_so_far all [] (locked 0 28) in
    record {
      locks = [];
      now = locked 0 28;
      stands = stands-in n;
      whole = sym (only-one ended (open_so_far all (locked 0 28)) copy_heard copy_heard
          (sym (end_adds all [] (locked 0 28)) ∙ found-to_end n)
          (sending_found all (example_parts first_bits [])
          (record { message = example_message; place = 1189 }) [] (locked 0 28) (cut-heard n)
          sent-there (stands-in n)));
    }

ended-none : (channel : Channel) → same_channel Zero channel ≡ false → (n : ℕ)
    → HadEnded (events_on channel (lines_at n)) []
ended-none channel h n =
    let events = events_on channel (lines_at n) in
    let f = found-none events (none-among channel h n) in
    let s = some-ended events in
    subst (HadEnded events)
    (none-begins s.0 (to_end-begin events s.0 f.locks f.now s.1 f.stands) (sym f.whole)) s.1
  where
    none-begins : {all : List FoundCopy} (front : List FoundCopy)
        → (rest : List FoundCopy) × (all ≡ front ++ rest) → all ≡ [] → front ≡ []
    none-begins [] b e = refl
    none-begins (x ∷ front) b e = cc

-- ---- what a watch of them judges and prints, whatever it starts with

-- the copy with its moment
abbrev pub copy_then : ℕ → TaggedCopy
copy_then n = heard_at n ea01 Full (codes "TEST\n")

module _ (starts : Starts) (n : ℕ) (selects : starts.refused Zero ≡ none_refused) where
  abbrev first : Setting
  first = first_setting (start_on starts Zero)

  abbrev given : List Event
  given = events_on Zero (lines_at n)

  in-force : setting_at first given 1189 ≡ record { moment = n; refused = none_refused }
  unfolding settings
  in-force =
      let then : Setting = record { moment = n; refused = starts.refused Zero } in
      ap (λ es. slice_index_or (settings first es) 1189 first) (events-are n)
      ∙ inside then first bits 1189 (omega (arith, place-within, place-is))
      ∙ ap (λ r. record { moment = n; refused = r }) selects

  tagged : tagged_copies first given (copy_heard ∷ []) ≡ copy_then n ∷ []
  unfolding tagged_copies tag
  tagged =
      ap (λ (s : Setting). tag s copy_heard ∷ []) in-force
      ∙ ap (λ b. record {
        identity = ea01;
        how = Full;
        text = codes "TEST\n";
        moment = n;
        selected = b;
      } ∷ []) all_selected

  abbrev shown : List TaggedCopy
  shown = printed_copies (starts.entries Zero) (copy_then n ∷ [])

  printed-ended : HasPrinted (start_on starts Zero) given shown
  printed-ended =
      let h = ended-first n in
      record {
        locks = h.locks;
        now = h.now;
        stands = h.stands;
        printed = ap (printed_copies (starts.entries Zero))
            (sym tagged ∙ ap (tagged_copies first given) h.whole);
      }

  printed-closed : PrintsToEnd (start_on starts Zero) given shown
  printed-closed = record {
    locks = [];
    now = locked 0 28;
    stands = stands-in n;
    printed = ap (printed_copies (starts.entries Zero))
        (sym tagged ∙ ap (tagged_copies first given) (sym (found-to_end n)));
  }

  none-printed : (channel : Channel) → same_channel Zero channel ≡ false
      → HasPrinted (start_on starts channel) (events_on channel (lines_at n)) []
  unfolding tagged_copies printed_copies
  none-printed channel h =
      let e = ended-none channel h n in
      let start = start_on starts channel in
      record {
        locks = e.locks;
        now = e.now;
        stands = e.stands;
        printed = ap (λ copies. printed_copies start.entries
            (tagged_copies (first_setting start) (events_on channel (lines_at n)) copies))
            e.whole;
      }

  in-turn : PrintsInTurn starts (given_by (lines_at n)) (map (marked Zero) shown)
  in-turn =
      let all = given_by (lines_at n) in
      let s = some-in_turn starts all in
      let on-0 : copies_on Zero s.0 ≡ shown =
      one_printed (start_on starts Zero) given (copies_on Zero s.0) shown (s.1.each Zero)
      printed-ended in
      let is : s.0 ≡ map (marked Zero) (copies_on Zero s.0) =
      of-one Zero s.0 (λ other h. one_printed (start_on starts other)
      (events_on other (lines_at n)) (copies_on other s.0) [] (s.1.each other)
      (none-printed other h)) in
      subst (PrintsInTurn starts all) (is ∙ ap (map (marked Zero)) on-0) s.1

  to-end : PrintAllToEnd starts (given_by (lines_at n)) (map (marked Zero) shown)
  to-end =
      printed-alone Zero starts (given_by (lines_at n)) shown (λ other h. none-among other h n)
      printed-closed

-- ---- the log that holds the entry

abbrev IsOfText : ℕ → Type 0
IsOfText byte = is_text_byte byte ≡ true

letters : All IsOfText (codes "TEST\n")
unfolding is_text_byte is_in_code characters
letters =
    All-cons IsOfText 84 (codes "EST\n") refl
    (All-cons IsOfText 69 (codes "ST\n") refl
    (All-cons IsOfText 83 (codes "T\n") refl
    (All-cons IsOfText 84 (codes "\n") refl
    (All-cons IsOfText 10 [] refl (All-nil IsOfText)))))

logged : IsLogged (marked Zero first_copy)
logged = record { in_range = lit≤ tt; short = lit≤ tt; text = letters; selected = refl }

-- a log of one copy is its entry
one-logged : (one : MarkedCopy) (bytes : List ℕ) (entries : List (List ℕ))
    → AllZip IsEntry (one ∷ []) entries → bytes ≡ concat entries → IsEntry one bytes
one-logged one bytes [] each joined = absurd each
one-logged one bytes (entry ∷ []) each joined =
    subst (IsEntry one) (sym (joined ∙ append-nil entry)) each.0
one-logged one bytes (entry ∷ next ∷ entries) each joined = absurd each.1

pub one-stands : StandsForEntries one_entry kept_bytes
one-stands =
    let spelled =
    one-logged (marked Zero first_copy) worked_log log_is.entries log_is.each log_is.joined in
    let is : IsLoggedAs (marked Zero first_copy) worked_log =
    record { logged = logged; entry = spelled } in
    record {
      texts = worked_log ∷ [];
      each = (is, tt);
      stands = record {
        front = 10 ∷ (worked_log ++ []);
        tail = 32 ∷ [];
        kept = (10, [], λ e. omega (arith, e), (marked Zero first_copy, is), refl, refl);
        end = tt;
        split = refl;
      };
    }

-- ---- with what the first watch starts, and what it prints

first-entries : first_watch.starts.entries Zero ≡ []
unfolding memory_entries
first-entries = refl

first-start : first_watch.starts.moment ≡ 0
unfolding memory_entries
first-start = refl

pub one-remembered : remembered_on Zero one_entry ≡ entry_of first_copy ∷ []
unfolding memory_entries is_memorable
one-remembered = refl

first-shown : printed_copies [] (copy_then first_moment ∷ []) ≡ first_copy ∷ []
unfolding printed_copies if_printed is_printed
first-shown = refl

-- ---- what a watch has that hears these lines

pub record Hears (starts : Starts) (lines : List Line) (n : ℕ) : Type 0 where
  pub acts : lines ≡ acting_lines (moments_at n starts) (said_on n)
  pub ended : (channel : Channel) → HadEnded (events_on channel lines) (found_on channel)
  pub found : (channel : Channel) → AreFoundIn (events_on channel lines) (found_on channel)
  pub cut : IsCut (elements_among (events_on Zero lines)) (example_parts first_bits [])
  pub long : 1189 < length (elements_among (events_on Zero lines))
  pub force : setting_at (first_setting (start_on starts Zero)) (events_on Zero lines) 1189
      ≡ record { moment = n; refused = none_refused }
  pub copies : tagged_copies (first_setting (start_on starts Zero)) (events_on Zero lines)
      (copy_heard ∷ []) ≡ copy_then n ∷ []
  pub turn : PrintsInTurn starts (given_by lines)
      (map (marked Zero) (printed_copies (starts.entries Zero) (copy_then n ∷ [])))
  pub all : PrintAllToEnd starts (given_by lines)
      (map (marked Zero) (printed_copies (starts.entries Zero) (copy_then n ∷ [])))

ended-on : (n : ℕ) (channel : Channel)
    → HadEnded (events_on channel (lines_at n)) (found_on channel)
ended-on n Zero = ended-first n
ended-on n One = ended-none One refl n
ended-on n Two = ended-none Two refl n

found-first : (n : ℕ) → AreFoundIn (events_on Zero (lines_at n)) (copy_heard ∷ [])
found-first n = record {
  locks = [];
  now = locked 0 28;
  stands = stands-in n;
  whole = sym (found-to_end n);
}

found-in : (n : ℕ) (channel : Channel)
    → AreFoundIn (events_on channel (lines_at n)) (found_on channel)
found-in n Zero = found-first n
found-in n One = found-none (events_on One (lines_at n)) (none-among One refl n)
found-in n Two = found-none (events_on Two (lines_at n)) (none-among Two refl n)

long-in : (n : ℕ) → 1189 < length (elements_among (events_on Zero (lines_at n)))
long-in n =
    subst (λ (b : List Bool). 1189 < length b) (sym events_are ∙ same n)
    (omega (arith, place-within, place-is))

hears-lines : (starts : Starts) (n : ℕ) → starts.refused Zero ≡ none_refused
    → starts.moment ≤ n → n ≤ last_moment → Hears starts (lines_at n) n
hears-lines starts n selects low high = record {
  acts = lines-act (moments_at n starts) n low high;
  ended = ended-on n;
  found = found-in n;
  cut = cut-heard n;
  long = long-in n;
  force = in-force starts n selects;
  copies = tagged starts n selects;
  turn = in-turn starts n selects;
  all = to-end starts n selects;
}

-- the same of the lines with none behind them
pub hears-all : (starts : Starts) (n : ℕ) → starts.refused Zero ≡ none_refused
    → starts.moment ≤ n → n ≤ last_moment → Hears starts (lines_at n ++ []) n
hears-all starts n selects low high =
    subst (λ lines. Hears starts lines n) (sym (append-nil (lines_at n)))
    (hears-lines starts n selects low high)

-- what had ended in lines is this, so it is a beginning of it
ended-begins : (events : List Event) (copies others : List FoundCopy) → HadEnded events copies
    → HadEnded events others → Begins others copies
ended-begins events copies others h k =
    subst (λ l. Begins l copies) (one-ended events copies others h k) (begins-itself copies)

none-shown : (entries : List MemoryEntry) (setting : Setting) (heard : List Event)
    → [] ≡ printed_copies entries (tagged_copies setting heard [])
unfolding printed_copies tagged_copies
none-shown entries setting heard = refl

-- ---- the first watch

first-low : first_watch.starts.moment ≤ first_moment
first-low = subst (λ (m : ℕ). m ≤ first_moment) (sym first-start) (lit≤ tt)

first-sure : Hears first_watch.starts first_watch.sure first_moment
first-sure = hears-lines first_watch.starts first_moment refl first-low (lit≤ tt)

pub first-hears : Hears first_watch.starts (lines_of first_watch) first_moment
first-hears = hears-all first_watch.starts first_moment refl first-low (lit≤ tt)

first-shows : printed_copies (first_watch.starts.entries Zero) (copy_then first_moment ∷ [])
    ≡ first_copy ∷ []
first-shows = ap (λ es. printed_copies es (copy_then first_moment ∷ [])) first-entries ∙ first-shown

-- what its lines print in turn is the one entry
first-prints : PrintsInTurn first_watch.starts (given_by first_watch.sure) one_entry
first-prints =
    subst (λ (cs : List TaggedCopy). PrintsInTurn first_watch.starts
    (given_by first_watch.sure) (map (marked Zero) cs)) first-shows first-sure.turn

first-turn : PrintsInTurn first_watch.starts (given_by first_acting) one_entry
first-turn =
    subst (λ lines. PrintsInTurn first_watch.starts (given_by lines) one_entry) first-sure.acts
    first-prints

-- A crash leaves its bytes behind a moment at which all its lines had been read.
pub first-left : IsLeftBy first_moment [] stopped first_acting first_acting one_entry kept_bytes
first-left =
    keeps-behind first_moment [] one_entry (said_on first_moment) (said_on first_moment) kept_bytes
    1 unread first-turn (record {
      begins = begins-itself (said_on first_moment);
      surely = one_entry;
      in_turn = first-turn;
      least = lit≤ tt;
    }) one-stands

-- so it is this watch
pub first-is : first_watch ≡ with_copies first-left.watch found_on found_on
first-is =
    ap (λ lines. record first_watch { sure = lines }) first-sure.acts
    ∙ one-told first_moment [] stopped first_acting one_entry kept_bytes found_on found_on
    first-left

first-judges : (channel : Channel) → Judges channel first_watch
first-judges channel = record {
  found = first-hears.ended channel;
  begins = begins-itself (found_on channel);
  put = put-on channel;
  surely = λ ended h. ended-begins (events_on channel first_watch.sure) (found_on channel) ended
      (first-sure.ended channel) h;
}
  where
    put-on : (channel : Channel) → copies_on channel one_entry
        ≡ printed_copies (first_watch.starts.entries channel) (copies_in channel first_watch)
    put-on Zero =
        sym (ap (printed_copies (first_watch.starts.entries Zero)) first-hears.copies ∙ first-shows)
    put-on One = none-shown (first_watch.starts.entries One) _ _
    put-on Two = none-shown (first_watch.starts.entries Two) _ _

first-goes : GoesOn [] first_watch
first-goes = record {
  puts = subst (Puts []) (sym first-is)
      (puts-with [] first-left.watch found_on found_on first-left.puts);
  judges = first-judges;
}

-- ---- the second watch, less than 66 hours later

-- At this moment it starts with the one entry, and prints nothing.
pub record IsSecond (n : ℕ) : Type 0 where
  pub low : first_moment ≤ n
  pub near : n < first_moment + seconds_known
  pub high : n ≤ last_moment
  pub entries : (second_watch n).starts.entries Zero ≡ entry_of first_copy ∷ []
  pub start : (second_watch n).starts.moment ≡ first_moment
  pub shown : printed_copies (entry_of first_copy ∷ []) (copy_then n ∷ []) ≡ []

-- four hours later, and 66 hours less a second
pub four-hours : IsSecond 1735706400
unfolding memory_entries is_memorable printed_copies if_printed is_printed
four-hours = record {
  low = lit≤ tt;
  near = lit< tt;
  high = lit≤ tt;
  entries = refl;
  start = refl;
  shown = refl;
}

pub almost-66-hours : IsSecond 1735929599
unfolding memory_entries is_memorable printed_copies if_printed is_printed
almost-66-hours = record {
  low = lit≤ tt;
  near = lit< tt;
  high = lit≤ tt;
  entries = refl;
  start = refl;
  shown = refl;
}

-- no MOMENT lies before an entry
pub none-newest : newest_moment (remembered_on Zero []) ≡ 0
none-newest = ap newest_moment (none-remembered Zero)

-- ---- the message in both

abbrev cut_of : Watch → CutWatch
cut_of watch =
    record { watch = watch; unheard = []; parts = example_parts first_bits [] }

-- what each of the two watches has
record IsOne (one : CutWatch) : Type 0 where
  n : ℕ
  low : first_moment ≤ n
  near : n < first_moment + seconds_known
  none : one.unheard ≡ []
  parts : one.parts ≡ example_parts first_bits []
  found : one.watch.found ≡ found_on
  hears : Hears one.watch.starts (lines_of one.watch) n

is-first : IsOne (cut_of first_watch)
is-first = record {
  n = first_moment;
  low = lit≤ tt;
  near = lit< tt;
  none = refl;
  parts = refl;
  found = refl;
  hears = first-hears;
}

-- the one copy has ended
has-ended : (starts : Starts) (lines : List Line) (n : ℕ) → Hears starts lines n
    → HasEndedAt (events_on Zero lines) 1189
has-ended starts lines n h = record {
  copies = copy_heard ∷ [];
  ended = h.ended Zero;
  copy = copy_heard;
  there = (0, lit< tt, refl);
  here = refl;
}

module _ (n : ℕ) (is : IsSecond n) where
  abbrev second : Watch
  second = second_watch n

  abbrev both : List Watch
  both = first_watch ∷ second ∷ []

  low : second.starts.moment ≤ n
  low = subst (λ (m : ℕ). m ≤ n) (sym is.start) is.low

  second-sure : Hears second.starts second.sure n
  second-sure = hears-lines second.starts n refl low is.high

  pub second-hears : Hears second.starts (lines_of second) n
  second-hears = hears-all second.starts n refl low is.high

  second-shows : printed_copies (second.starts.entries Zero) (copy_then n ∷ []) ≡ []
  second-shows = ap (λ es. printed_copies es (copy_then n ∷ [])) is.entries ∙ is.shown

  second-prints : PrintAllToEnd second.starts (given_by second.sure) []
  second-prints =
      subst (λ (cs : List TaggedCopy). PrintAllToEnd second.starts
      (given_by second.sure) (map (marked Zero) cs)) second-shows second-sure.all

  second-to_end : PrintAllToEnd second.starts (given_by (second_acting n)) []
  second-to_end =
      subst (λ lines. PrintAllToEnd second.starts (given_by lines) []) second-sure.acts
      second-prints

  -- it answers at the end of its lines
  pub second-left : IsLeftBy n one_entry answered (second_acting n) (second_acting n) []
      kept_bytes
  second-left =
      keeps-all n one_entry [] (said_on n) kept_bytes at_end second-to_end one-stands

  pub second-is : second ≡ with_copies second-left.watch found_on found_on
  second-is =
      ap (λ lines. record (second_watch n) { sure = lines }) second-sure.acts
      ∙ one-told n one_entry answered (second_acting n) [] kept_bytes found_on found_on second-left

  second-judges : (channel : Channel) → Judges channel second
  second-judges channel = record {
    found = second-hears.found channel;
    begins = begins-itself (found_on channel);
    put = put-on channel;
    surely = λ ended h. ended-begins (events_on channel second.sure) (found_on channel) ended
        (second-sure.ended channel) h;
  }
    where
      put-on : (channel : Channel) → []
          ≡ printed_copies (second.starts.entries channel) (copies_in channel second)
      put-on Zero =
          sym (ap (printed_copies (second.starts.entries Zero)) second-hears.copies ∙ second-shows)
      put-on One = none-shown (second.starts.entries One) _ _
      put-on Two = none-shown (second.starts.entries Two) _ _

  second-goes : GoesOn one_entry second
  second-goes = record {
    puts = subst (Puts one_entry) (sym second-is)
        (puts-with one_entry second-left.watch found_on found_on second-left.puts);
    judges = second-judges;
  }

  pub is-chain : IsChain [] both
  is-chain = (first-goes, (second-goes, tt))

  pub clocks-near : ClocksAreNear Zero [] both
  clocks-near = (
    omega (arith, none-newest),
    (omega (arith, ap newest_moment one-remembered, is.low), tt),
  )

  abbrev cuts : List CutWatch
  cuts = cut_of first_watch ∷ cut_of second ∷ []

  is-second : IsOne (cut_of second)
  is-second = record {
    n = n;
    low = is.low;
    near = is.near;
    none = refl;
    parts = refl;
    found = refl;
    hears = second-hears;
  }

  is-one : (one : CutWatch) → Contains cuts one → IsOne one
  is-one one c = All-contains IsOne cuts one
      (All-cons IsOne (cut_of first_watch) (cut_of second ∷ []) is-first
      (All-cons IsOne (cut_of second) [] is-second (All-nil IsOne))) c

  -- each sending is at the same element of its watch
  sent-at : (one : CutWatch) (at : ℕ) (s : IsSentIn Zero cuts example_message one at)
      → in_force_in Zero one at
      ≡ record { moment = (is-one one s.among).n; refused = none_refused }
  sent-at one at s =
      let h = is-one one s.among in
      let there : IsSentAt (example_parts first_bits []) example_message at =
      subst (λ (ps : List Part). IsSentAt ps example_message at) h.parts s.sent in
      ap (in_force_in Zero one) (one-sending at there ∙ place-is) ∙ h.hears.force

  two-copies : length (all_copies Zero both) ≡ 2
  unfolding tagged_copies
  two-copies = refl

  one-put : length (entries_on Zero (all_put both)) ≡ 1
  unfolding memory_entries is_memorable
  one-put = refl

  -- so few entries are made in all
  few-made : AreFewOver Zero both example_message.identity
  few-made later before behind entry named made same =
      let put = entries_on Zero (all_put later.before) in
      let rest = later.watch ∷ later.after in
      let parts : entries_on Zero (all_put both)
      ≡ put ++ entries_on Zero (all_put rest) =
      ap (λ l. entries_on Zero (all_put l)) later.among
      ∙ ap (entries_on Zero) (put-append later.before rest)
      ∙ entries-append Zero (all_put later.before) (all_put rest) in
      let copies : all_copies Zero both
      ≡ all_copies Zero later.before
      ++ (copies_in Zero later.watch ++ all_copies Zero later.after) =
      ap (all_copies Zero) later.among ∙ copies-append Zero later.before rest in
      omega (
        arith,
        one-put,
        two-copies,
        ap length parts ∙ length-append put (entries_on Zero (all_put rest)),
        ap length copies
            ∙ length-append (all_copies Zero later.before)
            (copies_in Zero later.watch ++ all_copies Zero later.after),
        length-append (copies_in Zero later.watch) (all_copies Zero later.after),
        ap length later.judged ∙ length-append later.earlier (later.copy ∷ later.later),
        made_few (later.watch.starts.entries Zero) later.earlier,
        sym (length-append put (entries_made (later.watch.starts.entries Zero) later.earlier))
            ∙ ap length made ∙ length-append before (entry ∷ behind),
      )

  pub heard-in-time : IsHeardInTimeOver Zero both example_message
  heard-in-time = record {
    cuts = cuts;
    whole = refl;
    cut = λ one there.
        let o = is-one one there in
        let heard = elements_in Zero one.watch in
        subst (λ ps. IsCut (heard ++ one.unheard) ps) (sym o.parts)
        (subst (λ bs. IsCut bs (example_parts first_bits []))
        (sym (append-nil heard) ∙ ap (λ bs. heard ++ bs) (sym o.none)) o.hears.cut);
    at = cut_of first_watch;
    place = 1189;
    sent = record { among = (0, lit< tt, refl); sent = sent-there; heard = first-hears.long };
    surely = has-ended first_watch.starts first_watch.sure first_moment first-sure;
    numbered = lit< tt;
    alone = λ one copy among there named.
        let o = is-one one among in
        let is = one_in (copy_heard ∷ []) copy_heard copy refl (0, lit< tt, refl)
        (subst (λ (found : Channel → List FoundCopy). Contains (found Zero) copy) o.found there) in
        let at : 1189 ≡ copy.place = ap (λ (c : FoundCopy). c.place) is in (
          subst (λ (ps : List Part). IsSentAt ps example_message copy.place) (sym o.parts)
              (subst (IsSentAt (example_parts first_bits []) example_message) at sent-there),
          subst (HasEndedAt (events_in Zero one.watch)) at
              (has-ended one.watch.starts (lines_of one.watch) o.n o.hears),
        );
    selected = λ one at s. ap (λ (f : Setting). admits f.refused example_message.identity)
        (sent-at one at s) ∙ all_selected;
    close = λ one other at place s t.
        let m = ap (λ (f : Setting). f.moment) (sent-at one at s) in
        let n = ap (λ (f : Setting). f.moment) (sent-at other place t) in
        omega (arith, m, n, (is-one one s.among).near, (is-one other t.among).low);
    unknown = unknown-from_nothing both Zero example_message.identity is-chain;
    few = few-made;
  }
