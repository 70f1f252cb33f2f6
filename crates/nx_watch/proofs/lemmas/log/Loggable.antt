-- What is printed can stand in a log, and is logged where the moments given are in range.
use Rattle.std.proofs.Common.{◌≡◌, ◌≤◌, true, false, List, [], ◌∷◌, ◌++◌, not, refl, sym}
use Rattle.std.specs.Prelude.{◌||◌, if◌then◌else◌}
use Rattle.std.specs.List.{All}
use Rattle.std.proofs.lemmas.Bool.{and_parts}
use Rattle.std.proofs.lemmas.List.Elements.{All-nil, All-cons, All-head, All-tail, All-append, All-same}
use Rattle.nx_envelope.specs.Moment.{last_moment}
use Rattle.nx_fec.specs.declared.air_files.channel.Channel.{Channel}
use Rattle.nx_memory.specs.declared.memories.entry.MemoryEntry.{MemoryEntry}
use Rattle.nx_copies.specs.Events.{Event, Setting, Start, elements_among, first_setting}
use Rattle.nx_copies.specs.copies.FoundCopies.{FoundCopy, TaggedCopy, tag, tagged_copies}
use Rattle.nx_copies.specs.copies.InTurn.{HavePrintedBy, PrintAllToEndBy}
use Rattle.nx_copies.specs.copies.Log.{IsPrinting, IsUpTo, Printing, plain}
use Rattle.nx_copies.specs.copies.Printing.{entry_made, if_printed, is_number_00, is_printed, is_remembered, printed_copies}
use Rattle.nx_copies.specs.copies.Shares.{Given, MarkedCopy, Starts, copies_on, share, start_on}
use Rattle.nx_copies.proofs.lemmas.channels.Marked.{all-on}
use Rattle.nx_copies.proofs.lemmas.channels.Shares.{to_end-on}
use Rattle.nx_log.specs.Logged.{IsLogged}
use Rattle.nx_log.proofs.lemmas.printed.Copies.{IsFoundText, IsGoodFound, found_to_end_are}
use Rattle.nx_watch.specs.Watch.{IsLoggable, PrintsLoggable}

-- ---- where each copy is judged alone

abbrev HasFoundText : TaggedCopy → Type 0
HasFoundText copy = IsFoundText copy.text

tagged-are : (first : Setting) (events : List Event) (copies : List FoundCopy)
    → All IsGoodFound copies → All HasFoundText (tagged_copies first events copies)
unfolding tagged_copies tag
tagged-are first events [] good = All-nil HasFoundText
tagged-are first events (copy ∷ copies) good =
    All-cons HasFoundText _ _ (All-head IsGoodFound copy copies good)
    (tagged-are first events copies (All-tail IsGoodFound copy copies good))

if-are : (entries : List MemoryEntry) (copy : TaggedCopy) → HasFoundText copy
    → All IsLoggable (if_printed entries copy)
unfolding if_printed is_printed
if-are entries copy h =
    elim (is_printed entries copy) as (λ b. is_printed entries copy ≡ b
    → All IsLoggable (if b then copy ∷ [] else [])) [
      | true ↦ λ e. All-cons IsLoggable copy [] (record {
        short = h.short;
        text = h.letters;
        selected = (and_parts copy.selected
            (is_number_00 copy || not (is_remembered entries copy)) e).0;
      }) (All-nil IsLoggable)
      | false ↦ λ e. All-nil IsLoggable
    ] refl

printed-are : (entries : List MemoryEntry) (copies : List TaggedCopy) → All HasFoundText copies
    → All IsLoggable (printed_copies entries copies)
unfolding printed_copies
printed-are entries [] h = All-nil IsLoggable
printed-are entries (copy ∷ copies) h =
    All-append IsLoggable (if_printed entries copy)
    (printed_copies (entries ++ entry_made entries copy) copies)
    (if-are entries copy (All-head HasFoundText copy copies h))
    (printed-are (entries ++ entry_made entries copy) copies (All-tail HasFoundText copy copies h))

pub plain-loggable : PrintsLoggable plain
plain-loggable start events log h =
    All-same IsLoggable log _ h.printed
    (printed-are start.entries _
    (tagged-are (first_setting start) events _
    (found_to_end_are (elements_among events) h.locks h.now)))

-- ---- what is printed is logged

-- the moments that each channel was given are in range
abbrev pub AreInRange : List Given → Type 0
AreInRange given = (channel : Channel) → All (IsUpTo last_moment) (share channel given)

abbrev HasMomentInRange : TaggedCopy → Type 0
HasMomentInRange copy = copy.moment ≤ last_moment

logged-all : (copies : List MarkedCopy)
    → All (λ (one : MarkedCopy). HasMomentInRange one.copy) copies
    → All (λ (one : MarkedCopy). IsLoggable one.copy) copies → All IsLogged copies
logged-all [] h k = All-nil IsLogged
logged-all (one ∷ copies) h k =
    let is = All-head (λ (one : MarkedCopy). IsLoggable one.copy) one copies k in
    All-cons IsLogged one copies (record {
      in_range = All-head (λ (one : MarkedCopy). HasMomentInRange one.copy) one copies h;
      short = is.short;
      text = is.text;
      selected = is.selected;
    })
    (logged-all copies (All-tail (λ (one : MarkedCopy). HasMomentInRange one.copy) one copies h)
    (All-tail (λ (one : MarkedCopy). IsLoggable one.copy) one copies k))

front-all : (P : TaggedCopy → Type 0) (front back : List TaggedCopy) → All P (front ++ back)
    → All P front
front-all P [] back h = All-nil P
front-all P (x ∷ front) back h =
    All-cons P x front (All-head P x (front ++ back) h)
    (front-all P front back (All-tail P x (front ++ back) h))

module _ {printing : Printing} (laws : IsPrinting printing) (loggable : PrintsLoggable printing)
  where
    -- what holds of all that is printed to the end holds of what is printed so far
    begins : (P : TaggedCopy → Type 0) (start : Start) (events : List Event) (log : List TaggedCopy)
        → ((whole : List TaggedCopy) → printing.to_end start events whole → All P whole)
        → printing.so_far start events log → All P log
    begins P start events log holds h =
        let all = laws.some_to_end start events in
        let on = laws.stays_to_end start events log all.0 h all.1 in
        front-all P log on.0 (All-same P (log ++ on.0) all.0 (sym on.1) (holds all.0 all.1))

    -- what is printed of what was given is logged, without the end and with it
    pub given-logged : (starts : Starts) (given : List Given) (copies : List MarkedCopy)
        → starts.moment ≤ last_moment → AreInRange given
        → HavePrintedBy printing starts given copies → All IsLogged copies
    given-logged starts given copies first within h = logged-all copies
        (all-on HasMomentInRange copies (λ channel. begins HasMomentInRange
        (start_on starts channel) (share channel given) (copies_on channel copies)
        (λ whole end. laws.up_to (start_on starts channel) (share channel given) whole last_moment
        first (within channel) end) (h channel)))
        (all-on IsLoggable copies (λ channel. begins IsLoggable
        (start_on starts channel) (share channel given) (copies_on channel copies)
        (loggable (start_on starts channel) (share channel given)) (h channel)))

    pub end-logged : (starts : Starts) (given : List Given) (copies : List MarkedCopy)
        → starts.moment ≤ last_moment → AreInRange given
        → PrintAllToEndBy printing starts given copies → All IsLogged copies
    end-logged starts given copies first within h = logged-all copies
        (all-on HasMomentInRange copies (λ channel. laws.up_to (start_on starts channel)
        (share channel given) (copies_on channel copies) last_moment first (within channel)
        (to_end-on starts given copies channel h)))
        (all-on IsLoggable copies (λ channel. loggable (start_on starts channel)
        (share channel given) (copies_on channel copies) (to_end-on starts given copies channel h)))
