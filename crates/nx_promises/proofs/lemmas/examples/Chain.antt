-- The worked chain of two runs: it is one, and it meets what is asked of a message that is printed
-- once.
use Rattle.std.proofs.Common.{◌≡◌, ℕ, ◌+◌, ◌<◌, ◌≤◌, Bool, false, List, [], ◌∷◌, ◌++◌, length, map}
use Rattle.std.proofs.Common.{take, refl, sym, ap, ◌∙◌, subst, arith, append-nil, length-append}
use Rattle.std.proofs.Common.{lit<, lit≤}
use Rattle.std.specs.Prelude.{codes, slice_index_or}
use Rattle.std.specs.List.{Contains}
use Rattle.std.proofs.lemmas.List.{length-take}
use Rattle.std.proofs.lemmas.List.Elements.{All-cons, All-contains, All-nil}
use Rattle.nx_code.specs.Lists.{last_of}
use Rattle.nx_envelope.specs.Copies.{copies}
use Rattle.nx_envelope.specs.Moment.{last_moment}
use Rattle.nx_envelope.specs.declared.found.How.TheVariants.{Full}
use Rattle.nx_memory.specs.Saved.{SavedState, SavedStates, nothing_saved, on_channel_0}
use Rattle.nx_memory.specs.Memory.{most_entries}
use Rattle.nx_memory.specs.Selection.{admits}
use Rattle.nx_memory.specs.declared.memories.entry.MemoryEntry.{MemoryEntry}
use Rattle.nx_fec.specs.air_files.AirFile.{IsLine, Line, moment, spelling}
use Rattle.nx_fec.specs.air_files.BitLines.{bit_lines}
use Rattle.nx_fec.specs.air_files.Lines.{air_limit, IsAirFile, file_of, line_bytes}
use Rattle.nx_fec.specs.air_files.Channels.{same_channel}
use Rattle.nx_fec.specs.declared.air_files.channel.Channel.{Channel}
use Rattle.nx_fec.specs.declared.air_files.channel.Channel.TheVariants.{Zero, One, Two}
use Rattle.nx_fec.proofs.lemmas.lines.LineLaws.{spelling-IsBeginning}
use Rattle.nx_fec.proofs.lemmas.emissions.RoundTrip.{length-bits_of}
use Rattle.nx_station.specs.reception.PathExample.{ea01, example_message, example_parts, example_sending}
use Rattle.nx_station.specs.reception.Sendings.{IsCut, Part, IsSentAt}
use Rattle.nx_station.proofs.lemmas.reception.PathExamples.{example_sent}
use Rattle.nx_sync.specs.Locks.{IsNow, locked}
use Rattle.nx_receiver.specs.air_file_runs.Chain.{GoesOn, IsChain, Leaves, Run, all_copies, all_logs}
use Rattle.nx_receiver.specs.air_file_runs.Chain.{events_in}
use Rattle.nx_promises.specs.examples.Chain.{copy_heard, example_runs, first_run, found_on}
use Rattle.nx_promises.specs.examples.Chain.{saved_after, second_run}
use Rattle.nx_promises.specs.laws.ChainOnce.{CutRun, IsHeardInTimeOver, IsSentIn, in_force_in}
use Rattle.nx_copies.specs.Events.{Event, Setting, Start, at_moment, elements_among}
use Rattle.nx_copies.specs.Events.{first_setting, none_refused, setting_after_all, settings}
use Rattle.nx_copies.specs.Events.{setting_at}
use Rattle.nx_promises.specs.examples.Repeats.{first_copy, heard_at}
use Rattle.nx_copies.specs.copies.FoundCopies.{AreFoundIn, FoundCopy, found_to_end, TaggedCopy, tag, tagged_copies}
use Rattle.nx_copies.specs.copies.InTurn.{PrintAllToEnd}
use Rattle.nx_receiver.specs.air_file_runs.Listen.{AreTaken, events_on, given_by}
use Rattle.nx_receiver.specs.private.Taken.{AreTakenAfter}
use Rattle.nx_receiver.proofs.lemmas.listening.Taken.{are-taken}
use Rattle.nx_copies.specs.copies.Log.{PrintsToEnd}
use Rattle.nx_copies.specs.copies.Printing.{entries_after, entries_made, entry_made, if_printed}
use Rattle.nx_copies.specs.copies.Printing.{is_entered, is_printed, printed_copies}
use Rattle.nx_copies.specs.laws.Emissions.{copy_of_sending}
use Rattle.nx_copies.specs.copies.Shares.{Starts, marked, none_saved, saved_of, start_on}
use Rattle.nx_promises.specs.examples.Emission.{damaged_words, worked_log}
use Rattle.nx_promises.proofs.lemmas.chain.Alone.{found-none, printed-alone}
use Rattle.nx_promises.proofs.lemmas.listening.ElementLines.{events-lines, events-others, good-lines}
use Rattle.nx_promises.proofs.lemmas.listening.ElementLines.{taken-lines}
use Rattle.nx_promises.proofs.lemmas.examples.AirFile.{bits, inside, lines-short, one-sending}
use Rattle.nx_promises.proofs.lemmas.examples.AirFile.{place-within}
use Rattle.nx_promises.proofs.lemmas.examples.Emission.{alone, cut_is, events, first_bits, found}
use Rattle.nx_promises.proofs.lemmas.examples.Emission.{one_found, one_in, sent_there, stands_is}
use Rattle.nx_copies.proofs.lemmas.once.Repeats.{none_live}
use Rattle.nx_receiver.proofs.lemmas.receiver.Events.{force-more}
use Rattle.nx_promises.proofs.lemmas.examples.Worked.{damaged_computed}
use Rattle.nx_promises.proofs.lemmas.examples.WorkedLog.{all_selected, log_is}

-- a file of this moment and the elements
abbrev lines_heard : ℕ → List Line
lines_heard n = moment n ∷ bit_lines bits

file-is : (n : ℕ) → IsLine (moment n)
    → IsAirFile air_limit (file_of (lines_heard n)) (lines_heard n)
file-is n good = record {
  whole = refl;
  each = (good, good-lines bits);
  within =
      omega (
        arith,
        lines-short,
        (spelling-IsBeginning (moment n) good).short,
        length-append
            (spelling (moment n)) (10 ∷ []),
        length-append (line_bytes (moment n))
            (file_of (bit_lines bits)),
      );
}

events-are : (n : ℕ) → events_on Zero (lines_heard n) ≡ at_moment n ∷ events
events-are n = ap (λ es. at_moment n ∷ es) (events-lines bits)

-- the other channels are given the moment alone
others-are : (channel : Channel) → same_channel Zero channel ≡ false → (n : ℕ)
    → events_on channel (lines_heard n) ≡ at_moment n ∷ []
others-are channel h n = ap (λ es. at_moment n ∷ es) (events-others channel h bits)

same : (n : ℕ) → elements_among events ≡ elements_among (events_on Zero (lines_heard n))
unfolding elements_among
same n = sym (ap elements_among (events-are n))

none-among : (channel : Channel) → same_channel Zero channel ≡ false → (n : ℕ)
    → elements_among (events_on channel (lines_heard n)) ≡ []
unfolding elements_among
none-among channel h n = ap elements_among (others-are channel h n)

cut-heard : (n : ℕ) → IsCut (elements_among (events_on Zero (lines_heard n)))
    (example_parts first_bits [])
cut-heard n = subst (λ (b : List Bool). IsCut b (example_parts first_bits [])) (same n) cut_is

-- the copy, and its place
pub first-long : length first_bits ≡ 672
first-long =
    let words : length (take 96 damaged_words) ≡ 96 =
    length-take 96 damaged_words ∙ omega (arith, damaged_computed.long) in
    omega (arith, words, length-bits_of (take 96 damaged_words))

pub place-is : length first_bits + 517 ≡ 1189
place-is = omega (arith, first-long)

pub copy-is : found ≡ copy_heard ∷ []
copy-is =
    alone found (copy_of_sending (example_sending first_bits)) one_found sent_there
    ∙ ap (λ (p : ℕ). copy_of_sending (record { message = example_message; place = p }) ∷ [])
    place-is

found-first : (n : ℕ) → AreFoundIn (events_on Zero (lines_heard n)) (copy_heard ∷ [])
found-first n = record {
  locks = [];
  now = locked 0 28;
  stands = subst (λ (b : List Bool). IsNow b [] (locked 0 28)) (same n) stands_is;
  whole = sym copy-is ∙ ap (λ (b : List Bool). found_to_end b [] (locked 0 28)) (same n);
}

found-in : (n : ℕ) (channel : Channel)
    → AreFoundIn (events_on channel (lines_heard n)) (found_on channel)
found-in n Zero = found-first n
found-in n One = found-none (events_on One (lines_heard n)) (none-among One refl n)
found-in n Two = found-none (events_on Two (lines_heard n)) (none-among Two refl n)

pub sent-there : IsSentAt (example_parts first_bits []) example_message 1189
sent-there = subst (IsSentAt (example_parts first_bits []) example_message) place-is
    (example_sent first_bits [])

-- the copy with its moment
abbrev copy_then : ℕ → TaggedCopy
copy_then n = heard_at n ea01 Full (codes "TEST\n")

-- ---- a run that hears it, where nothing is refused and nothing is saved of the other channels

module _ (entries : List MemoryEntry) (from n : ℕ) where
  abbrev kept : SavedStates
  kept = on_channel_0 (record { entries = entries; refused = none_refused })

  abbrev begun : Starts
  begun = record {
    moment = from;
    entries = λ channel. (saved_of kept channel).entries;
    refused = λ channel. (saved_of kept channel).refused;
  }

  abbrev begun-first : Start
  begun-first = start_on begun Zero

  abbrev then : Setting
  then = record { moment = n; refused = none_refused }

  abbrev given : List Event
  given = events_on Zero (lines_heard n)

  in-force : setting_at (first_setting begun-first) given 1189 ≡ then
  unfolding settings
  in-force =
      ap (λ es. slice_index_or (settings (first_setting begun-first) es) 1189
      (first_setting begun-first))
      (events-are n)
      ∙ inside then (first_setting begun-first) bits 1189 (omega (arith, place-within, place-is))

  tagged : tagged_copies (first_setting begun-first) given (copy_heard ∷ []) ≡ copy_then n ∷ []
  unfolding tagged_copies tag
  tagged =
      ap (λ (s : Setting). tag s copy_heard ∷ []) in-force
      ∙ ap (λ b. record {
        identity = ea01;
        how = Full;
        text = codes "TEST\n";
        moment = n;
        selected =
            b;
      } ∷ []) all_selected

  printed-first : PrintsToEnd begun-first given (printed_copies entries (copy_then n ∷ []))
  printed-first =
      let f = found-first n in
      record {
        locks = f.locks;
        now = f.now;
        stands = f.stands;
        printed = ap (printed_copies entries) (sym tagged)
            ∙ ap (λ (cs : List FoundCopy). printed_copies entries
            (tagged_copies (first_setting begun-first) given cs)) f.whole;
      }

  printed : PrintAllToEnd begun (given_by (lines_heard n))
      (map (marked Zero) (printed_copies entries (copy_then n ∷ [])))
  printed =
      printed-alone Zero begun (given_by (lines_heard n)) _ (λ other h. none-among other h n)
      printed-first

  taken : from ≤ n → n ≤ last_moment → AreTaken begun (lines_heard n)
  unfolding AreTakenAfter
  taken low high =
      are-taken begun (lines_heard n) (omega (arith, low, high))
      ((low, high), taken-lines begun (moment n ∷ []) bits refl)

  refused-none : none_refused ≡ (setting_after_all (first_setting begun-first) given).refused
  unfolding setting_after_all
  refused-none =
      sym (ap (λ es. (setting_after_all (first_setting begun-first) es).refused) (events-are n)
      ∙ ap (λ (s : Setting). s.refused)
      (force-more (first_setting begun-first) (at_moment n ∷ []) bits))

  leaves-first : (left : SavedState)
      → left.entries ≡ last_of most_entries (entries_after entries (copy_then n ∷ []))
      → left.refused ≡ none_refused → Leaves begun-first given left
  leaves-first left made saved = record {
    copies = copy_heard ∷ [];
    found = found-first n;
    entries = made ∙ ap (λ cs. last_of most_entries (entries_after entries cs)) (sym tagged);
    refused = saved ∙ refused-none;
  }

  -- nothing is left of a channel of which nothing was saved
  leaves-none : (channel : Channel) → same_channel Zero channel ≡ false
      → saved_of kept channel ≡ nothing_saved
      → Leaves (start_on begun channel) (events_on channel (lines_heard n)) nothing_saved
  unfolding tagged_copies entries_made setting_after_all
  leaves-none channel h none = record {
    copies = [];
    found = found-none (events_on channel (lines_heard n)) (none-among channel h n);
    entries = ap (λ (s : SavedState). last_of most_entries (s.entries ++ [])) (sym none);
    refused = ap (λ (s : SavedState). s.refused) (sym none)
        ∙ ap (λ es. (setting_after_all (first_setting (start_on begun channel)) es).refused)
        (sym (others-are channel h n));
  }

  leaves : (left : SavedState)
      → left.entries ≡ last_of most_entries (entries_after entries (copy_then n ∷ []))
      → left.refused ≡ none_refused → (channel : Channel)
      → Leaves (start_on begun channel) (events_on channel (lines_heard n))
      (saved_of (on_channel_0 left) channel)
  leaves left made saved Zero = leaves-first left made saved
  leaves left made saved One = leaves-none One refl refl
  leaves left made saved Two = leaves-none Two refl refl

-- ---- the two runs

first-printed : printed_copies [] (copy_then 1735692000 ∷ []) ≡ first_copy ∷ []
unfolding printed_copies if_printed is_printed
first-printed = refl

first-made : last_of most_entries (entries_after [] (copy_then 1735692000 ∷ []))
    ≡ saved_after.on_0.entries
unfolding entries_made entry_made is_entered is_printed
first-made = refl

second-printed : printed_copies saved_after.on_0.entries (copy_then 1735706400 ∷ []) ≡ []
unfolding printed_copies if_printed is_printed
second-printed = refl

second-made : last_of most_entries
    (entries_after saved_after.on_0.entries (copy_then 1735706400 ∷ []))
    ≡ saved_after.on_0.entries
unfolding entries_made entry_made is_entered is_printed
second-made = refl

first-goes : GoesOn none_saved first_run saved_after
first-goes = record {
  begins = refl;
  heard = record {
    file = file-is 1735692000 (lit< tt);
    taken = taken [] 0 1735692000 (lit≤ tt) (lit≤ tt);
    printed = subst (λ (cs : List TaggedCopy). PrintAllToEnd first_run.starts
        (given_by first_run.lines) (map (marked Zero) cs)) first-printed
        (printed [] 0 1735692000);
    spelled = log_is;
  };
  found = found-in 1735692000;
  leaves = leaves [] 0 1735692000 saved_after.on_0 (sym first-made) refl;
}

second-goes : GoesOn saved_after second_run saved_after
second-goes =
    let entries = saved_after.on_0.entries in
    record {
      begins = refl;
      heard = record {
        file = file-is 1735706400 (lit< tt);
        taken = taken entries 1735692000 1735706400 (lit≤ tt) (lit≤ tt);
        printed = subst (λ (cs : List TaggedCopy). PrintAllToEnd second_run.starts
            (given_by second_run.lines) (map (marked Zero) cs)) second-printed
            (printed entries 1735692000 1735706400);
        spelled = record { entries = []; each = tt; joined = refl };
      };
      found = found-in 1735706400;
      leaves = leaves entries 1735692000 1735706400 saved_after.on_0 (sym second-made) refl;
    }

pub is-chain : IsChain none_saved example_runs saved_after
is-chain = (saved_after, first-goes, (saved_after, second-goes, refl))

-- ---- the message in them

abbrev cut_of : Run → CutRun
cut_of run = record { run = run; parts = example_parts first_bits [] }

abbrev cuts : List CutRun
cuts = cut_of first_run ∷ cut_of second_run ∷ []

-- what each of the two runs has
record Hears (one : CutRun) : Type 0 where
  n : ℕ
  low : 1735692000 ≤ n
  high : n ≤ 1735706400
  parts : one.parts ≡ example_parts first_bits []
  cut : IsCut (elements_among (events_in Zero one.run)) one.parts
  found : one.run.found Zero ≡ copy_heard ∷ []
  force : in_force_in Zero one 1189 ≡ record { moment = n; refused = none_refused }

hears-first : Hears (cut_of first_run)
hears-first = record {
  n = 1735692000;
  low = lit≤ tt;
  high = lit≤ tt;
  parts = refl;
  cut = cut-heard 1735692000;
  found = refl;
  force = in-force [] 0 1735692000;
}

hears-second : Hears (cut_of second_run)
hears-second = record {
  n = 1735706400;
  low = lit≤ tt;
  high = lit≤ tt;
  parts = refl;
  cut = cut-heard 1735706400;
  found = refl;
  force = in-force saved_after.on_0.entries 1735692000 1735706400;
}

hears : (one : CutRun) → Contains cuts one → Hears one
hears one c = All-contains Hears cuts one
    (All-cons Hears (cut_of first_run) (cut_of second_run ∷ []) hears-first
    (All-cons Hears (cut_of second_run) [] hears-second (All-nil Hears))) c

-- each sending is at the same element of its run
sent-at : (one : CutRun) (at : ℕ) (s : IsSentIn cuts example_message one at)
    → in_force_in Zero one at ≡ record { moment = (hears one s.among).n; refused = none_refused }
sent-at one at s =
    let h = hears one s.among in
    let there : IsSentAt (example_parts first_bits []) example_message at =
    subst (λ (ps : List Part). IsSentAt ps example_message at) h.parts s.sent in
    ap (in_force_in Zero one) (one-sending at there ∙ place-is) ∙ h.force

two-copies : length (all_copies Zero example_runs) ≡ 2
unfolding tagged_copies
two-copies = refl

-- where there are two copies, nothing is between two of them
none-made : (entries : List MemoryEntry) (between : List TaggedCopy) → length between ≡ 0
    → length (entries_made entries between) < most_entries
unfolding entries_made
none-made entries [] e = lit< tt
none-made entries (x ∷ xs) e = absurd (omega (arith, e))

none-between : (entries : List MemoryEntry) (copies before between after : List TaggedCopy)
    (first later : TaggedCopy) → length copies ≡ 2
    → copies ≡ before ++ first ∷ (between ++ later ∷ after)
    → length (entries_made entries between) < most_entries
none-between entries copies before between after first later two e =
    let whole = ap length e ∙ length-append before (first ∷ (between ++ later ∷ after)) in
    let more = length-append between (later ∷ after) in
    none-made entries between (omega (arith, two, whole, more))

pub heard-in-time : IsHeardInTimeOver Zero none_saved example_runs example_message
heard-in-time = record {
  cuts = cuts;
  whole = refl;
  cut = λ one there. (hears one there).cut;
  at = cut_of first_run;
  place = 1189;
  sent = record { among = (0, lit< tt, refl); sent = sent-there };
  numbered = lit< tt;
  alone = λ one copy among there named.
      let h = hears one among in
      let is = one_in (copy_heard ∷ []) copy_heard copy refl (0, lit< tt, refl)
      (subst (λ (cs : List FoundCopy). Contains cs copy) h.found there) in
      let sent = subst (IsSentAt (example_parts first_bits []) example_message)
      (ap (λ (c : FoundCopy). c.place) is) sent-there in
      subst (λ (ps : List Part). IsSentAt ps example_message copy.place) (sym h.parts) sent;
  selected = λ one at s. ap (λ (f : Setting). admits f.refused example_message.identity)
      (sent-at one at s) ∙ all_selected;
  close = λ one other at place s t.
      let m = ap (λ (f : Setting). f.moment) (sent-at one at s) in
      let n = ap (λ (f : Setting). f.moment) (sent-at other place t) in
      omega (arith, m, n, (hears one s.among).high, (hears other t.among).low);
  unknown = none_live example_message.identity (all_copies Zero example_runs);
  few = λ before between after first later e none named again.
      none-between (entries_after [] (before ++ first ∷ [])) (all_copies Zero example_runs) before
      between after first later two-copies e;
}

pub logs-are : all_logs example_runs ≡ worked_log
logs-are = append-nil worked_log
