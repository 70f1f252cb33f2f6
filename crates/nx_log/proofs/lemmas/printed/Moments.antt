-- What lines print that are taken has a moment in range, and was selected.
use Rattle.std.proofs.Common.{◌≡◌, ◌≤◌, ℕ, zero, suc, true, false, List, [], ◌∷◌, ◌++◌, get_or, refl, not}
use Rattle.std.specs.Prelude.{◌||◌, if◌then◌else◌}
use Rattle.std.specs.List.{All}
use Rattle.std.proofs.lemmas.Bool.{and_parts}
use Rattle.std.proofs.lemmas.List.Elements.{All-nil, All-cons, All-head, All-tail, All-append, All-same, All-weaker}
use Rattle.nx_envelope.specs.Moment.{last_moment}
use Rattle.nx_fec.specs.air_files.AirFile.{Line}
use Rattle.nx_fec.specs.declared.air_files.channel.Channel.{Channel}
use Rattle.nx_memory.specs.declared.memories.entry.MemoryEntry.{MemoryEntry}
use Rattle.nx_copies.specs.Events.{Event, Setting, at_moment, command, element, elements_among, first_setting, setting_after, settings}
use Rattle.nx_copies.specs.copies.FoundCopies.{FoundCopy, TaggedCopy, tag, tagged_copies}
use Rattle.nx_copies.specs.copies.InTurn.{HavePrinted, PrintAllToEnd}
use Rattle.nx_receiver.specs.air_file_runs.Listen.{AreTaken, given_by}
use Rattle.nx_copies.specs.copies.Log.{printed_of}
use Rattle.nx_copies.specs.copies.Printing.{entry_made, if_printed, is_number_00, is_printed, is_remembered, printed_copies}
use Rattle.nx_copies.specs.copies.Shares.{Given, MarkedCopy, Starts, copies_on, share, start_on}
use Rattle.nx_copies.proofs.lemmas.channels.Shares.{to_end-on}
use Rattle.nx_receiver.proofs.lemmas.listening.Moments.{IsInRange, lines-in_range}
use Rattle.nx_receiver.proofs.lemmas.listening.Taken.{taken-each}
use Rattle.nx_copies.proofs.lemmas.channels.Marked.{all-on}
use Rattle.nx_log.specs.Logged.{IsLogged}
use Rattle.nx_log.proofs.lemmas.printed.Copies.{IsFoundText, IsGoodFound, ended_so_far_are, found_to_end_are}

-- ---- the moments of events

-- what is in force at an element
in_force : (now first : Setting) (events : List Event) (place : ℕ) → now.moment ≤ last_moment
    → first.moment ≤ last_moment → All IsInRange events
    → (get_or (settings now events) place first).moment ≤ last_moment
unfolding settings
in_force now first [] place h k all = k
in_force now first (at_moment n ∷ events) place h k all =
    in_force (setting_after now (at_moment n)) first events place
    (All-head IsInRange (at_moment n) events all) k (All-tail IsInRange (at_moment n) events all)
in_force now first (element bit ∷ events) zero h k all = h
in_force now first (element bit ∷ events) (suc place) h k all =
    in_force now first events place h k (All-tail IsInRange (element bit) events all)
in_force now first (command c ∷ events) place h k all =
    in_force (setting_after now (command c)) first events place h k
    (All-tail IsInRange (command c) events all)

-- ---- copies

record IsTagged (copy : TaggedCopy) : Type 0 where
  in_range : copy.moment ≤ last_moment
  text : IsFoundText copy.text

record IsPrinted (copy : TaggedCopy) : Type 0 where
  tagged : IsTagged copy
  selected : copy.selected ≡ true

tagged_are : (first : Setting) (events : List Event) (copies : List FoundCopy)
    → first.moment ≤ last_moment → All IsInRange events → All IsGoodFound copies
    → All IsTagged (tagged_copies first events copies)
unfolding tagged_copies tag
tagged_are first events [] h all good = All-nil IsTagged
tagged_are first events (copy ∷ copies) h all good =
    All-cons IsTagged _ _ (record {
      in_range = in_force first first events copy.place h h all;
      text = All-head IsGoodFound copy copies good;
    }) (tagged_are first events copies h all (All-tail IsGoodFound copy copies good))

if_is : (entries : List MemoryEntry) (copy : TaggedCopy) → IsTagged copy
    → All IsPrinted (if_printed entries copy)
unfolding if_printed is_printed
if_is entries copy h =
    elim (is_printed entries copy) as (λ b. is_printed entries copy ≡ b
    → All IsPrinted (if b then copy ∷ [] else [])) [
      | true ↦ λ e. All-cons IsPrinted copy [] (record {
        tagged = h;
        selected = (and_parts copy.selected
            (is_number_00 copy || not (is_remembered entries copy)) e).0;
      }) (All-nil IsPrinted)
      | false ↦ λ e. All-nil IsPrinted
    ] refl

printed_are : (entries : List MemoryEntry) (copies : List TaggedCopy) → All IsTagged copies
    → All IsPrinted (printed_copies entries copies)
unfolding printed_copies
printed_are entries [] h = All-nil IsPrinted
printed_are entries (copy ∷ copies) h =
    All-append IsPrinted (if_printed entries copy)
    (printed_copies (entries ++ entry_made entries copy) copies)
    (if_is entries copy (All-head IsTagged copy copies h))
    (printed_are (entries ++ entry_made entries copy) copies (All-tail IsTagged copy copies h))

-- the moments that each channel was given are in range
abbrev pub AreInRange : List Given → Type 0
AreInRange given = (channel : Channel) → All IsInRange (share channel given)

on_channel : (starts : Starts) (channel : Channel) (given : List Given) (copies : List FoundCopy)
    → starts.moment ≤ last_moment → AreInRange given → All IsGoodFound copies
    → All IsPrinted (printed_of (start_on starts channel) (share channel given) copies)
on_channel starts channel given copies first within good =
    printed_are (start_on starts channel).entries _
    (tagged_are (first_setting (start_on starts channel)) (share channel given) copies first
    (within channel) good)

logged_one : (one : MarkedCopy) → IsPrinted one.copy → IsLogged one
logged_one one h = record {
  in_range = h.tagged.in_range;
  short = h.tagged.text.short;
  text = h.tagged.text.letters;
  selected = h.selected;
}

logged_all : (copies : List MarkedCopy)
    → ((channel : Channel) → All IsPrinted (copies_on channel copies)) → All IsLogged copies
logged_all copies h =
    All-weaker (λ (one : MarkedCopy). IsPrinted one.copy) IsLogged logged_one copies
    (all-on IsPrinted copies h)

-- so what is printed of what was given is logged, without the end and with it
pub given_logged : (starts : Starts) (given : List Given) (copies : List MarkedCopy)
    → starts.moment ≤ last_moment → AreInRange given → HavePrinted starts given copies
    → All IsLogged copies
given_logged starts given copies first within h = logged_all copies (λ channel.
    All-same IsPrinted (copies_on channel copies) _ (h channel).printed
    (on_channel starts channel given _ first within
    (ended_so_far_are (elements_among (share channel given)) (h channel).locks (h channel).now)))

pub end_logged : (starts : Starts) (given : List Given) (copies : List MarkedCopy)
    → starts.moment ≤ last_moment → AreInRange given → PrintAllToEnd starts given copies
    → All IsLogged copies
end_logged starts given copies first within h = logged_all copies (λ channel.
    let p = to_end-on starts given copies channel h in
    All-same IsPrinted (copies_on channel copies) _ p.printed
    (on_channel starts channel given _ first within
    (found_to_end_are (elements_among (share channel given)) p.locks p.now)))

-- and what lines print that are taken
pub open_logged : (starts : Starts) (lines : List Line) (copies : List MarkedCopy)
    → AreTaken starts lines → HavePrinted starts (given_by lines) copies → All IsLogged copies
open_logged starts lines copies taken h =
    given_logged starts (given_by lines) copies taken.in_range
    (λ channel. lines-in_range starts channel [] lines (taken-each starts lines taken)) h

pub closed_logged : (starts : Starts) (lines : List Line) (copies : List MarkedCopy)
    → AreTaken starts lines → PrintAllToEnd starts (given_by lines) copies → All IsLogged copies
closed_logged starts lines copies taken h =
    end_logged starts (given_by lines) copies taken.in_range
    (λ channel. lines-in_range starts channel [] lines (taken-each starts lines taken)) h
