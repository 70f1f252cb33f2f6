-- The worked chain of two watches that take sendings together: it is one, and a message is heard
-- together in each.
use Rattle.std.proofs.Common.{◌≡◌, ℕ, ◌+◌, ◌-◌, ◌<◌, ◌≤◌, Bool, true, false, List, [], ◌∷◌}
use Rattle.std.proofs.Common.{◌++◌, length, map, refl, sym, ap, ap₂, ◌∙◌, subst, arith, append-nil}
use Rattle.std.proofs.Common.{if◌then◌else◌, lit≤, Option, Some, None}
use Rattle.std.specs.Prelude.{unwrap_or, option_map}
use Rattle.std.specs.List.{All, AllZip, flat_map}
use Rattle.std.proofs.lemmas.List.Elements.{All-cons, All-contains, All-drop, All-filter, All-head}
use Rattle.std.proofs.lemmas.List.Elements.{All-append, All-nil, All-tail, All-weaker}
use Rattle.std.proofs.lemmas.Option.{slice_get-get_or}
use Rattle.nx_combine.specs.CombinedPrinting.{combined}
use Rattle.nx_combine.specs.CopyPositions.{PlacedCopy, heard_copies, placed_to_end}
use Rattle.nx_combine.specs.private.laws.CombinedLaws.{combined-laws}
use Rattle.nx_combine.proofs.lemmas.Closing.{found-end}
use Rattle.nx_copies.specs.Events.{Event, Setting, Start, at_moment, element, elements_among}
use Rattle.nx_copies.specs.Events.{first_setting, none_refused, setting_at, settings}
use Rattle.nx_copies.specs.copies.FoundCopies.{TaggedCopy, tag}
use Rattle.nx_copies.specs.copies.InTurn.{PrintAllToEndBy}
use Rattle.nx_copies.specs.copies.Log.{IsEntry, IsUpTo}
use Rattle.nx_copies.specs.copies.Shares.{Given, MarkedCopy, Starts, copies_on, start_on}
use Rattle.nx_copies.proofs.lemmas.channels.Shares.{to_end-on}
use Rattle.nx_copies.proofs.lemmas.channels.Some.{some-to_end_by}
use Rattle.nx_copies.proofs.lemmas.locks.Found.{IsCopyIn}
use Rattle.nx_copies.proofs.lemmas.printing.Log.{some_log}
use Rattle.nx_envelope.specs.Moment.{last_moment}
use Rattle.nx_fec.specs.air_files.Channels.{same_channel}
use Rattle.nx_fec.specs.declared.air_files.channel.Channel.{Channel}
use Rattle.nx_fec.specs.declared.air_files.channel.Channel.TheVariants.{One, Two, Zero}
use Rattle.nx_fec.specs.emissions.Emission.{bits_of}
use Rattle.nx_log.specs.Logged.{IsLogged, IsLoggedAs, memory_entries, remembered_on}
use Rattle.nx_memory.specs.Memory.{newest_moment, newest_of}
use Rattle.nx_memory.specs.Saved.{later_of}
use Rattle.nx_memory.specs.Selection.{admits}
use Rattle.nx_memory.specs.declared.memories.entry.MemoryEntry.{MemoryEntry}
use Rattle.nx_promises.specs.examples.Emission.{at_its_slot, heard_elements}
use Rattle.nx_promises.specs.examples.Together.{twice_heard, twice_parts}
use Rattle.nx_promises.specs.laws.Together.{IsHeardTogether, IsSeenCut, IsThroughWith, behind_digit}
use Rattle.nx_promises.proofs.lemmas.examples.AirFile.{inside}
use Rattle.nx_promises.proofs.lemmas.examples.Together.{twice_through, twice_together}
use Rattle.nx_promises.proofs.lemmas.examples.WorkedLog.{at_first, bits_among-elements}
use Rattle.nx_promises.proofs.lemmas.listening.ElementLines.{events-lines, events-others}
use Rattle.nx_receiver.specs.air_file_runs.Listen.{events_on, given_by}
use Rattle.nx_station.specs.reception.PathExample.{example_message, example_numbers}
use Rattle.nx_sync.specs.Locks.{IsNow}
use Rattle.nx_memory.specs.Content.{is_last_known, passing}
use Rattle.nx_watch.specs.Start.{is_in_order, is_near, remembered_at}
use Rattle.nx_watch.specs.Watch.{StandsForEntries, moments_at, starts_at}
use Rattle.nx_watch.proofs.lemmas.log.CombinedLoggable.{combined-loggable}
use Rattle.nx_watch.proofs.lemmas.log.Loggable.{end-logged}
use Rattle.nx_left_on.specs.Chain.{ClocksAreNear, IsChainBy, PutsBy, Watch, answered, events_in}
use Rattle.nx_left_on.specs.Chain.{lines_of}
use Rattle.nx_left_on.specs.Example.{first_moment, twice_lines_at}
use Rattle.nx_left_on.proofs.lemmas.Example.{bits-act}
use Rattle.nx_left_on.proofs.lemmas.chains.Chains.{none-remembered}
use Rattle.nx_left_on.proofs.lemmas.chains.Found.{begins-itself, found-placed}
use Rattle.nx_left_on.proofs.lemmas.entries.Keeping.{all-kept}
use Rattle.nx_left_on.proofs.lemmas.reading.Written.{rests}

-- ---- what the lines give

abbrev bits : List Bool
bits = bits_of twice_heard

abbrev events : ℕ → List Event
events n = at_moment n ∷ map element bits

lines-give : (n : ℕ) → events_on Zero (twice_lines_at n) ≡ events n
lines-give n = ap (λ es. at_moment n ∷ es) (events-lines bits)

others-give : (channel : Channel) → same_channel Zero channel ≡ false → (n : ℕ)
    → events_on channel (twice_lines_at n) ≡ at_moment n ∷ []
others-give channel h n = ap (λ es. at_moment n ∷ es) (events-others channel h bits)

elements-up_to : (last : ℕ) (bs : List Bool) → All (IsUpTo last) (map element bs)
elements-up_to last [] = All-nil (IsUpTo last)
elements-up_to last (b ∷ bs) =
    All-cons (IsUpTo last) (element b) (map element bs) tt (elements-up_to last bs)

given-up_to : (n last : ℕ) → n ≤ last → (channel : Channel)
    → All (IsUpTo last) (events_on channel (twice_lines_at n))
given-up_to n last low Zero =
    subst (All (IsUpTo last)) (sym (lines-give n))
    (All-cons (IsUpTo last) (at_moment n) (map element bits) low (elements-up_to last bits))
given-up_to n last low One =
    subst (All (IsUpTo last)) (sym (others-give One refl n))
    (All-cons (IsUpTo last) (at_moment n) [] low (All-nil (IsUpTo last)))
given-up_to n last low Two =
    subst (All (IsUpTo last)) (sym (others-give Two refl n))
    (All-cons (IsUpTo last) (at_moment n) [] low (All-nil (IsUpTo last)))

-- ---- a file of logged entries

logged-as : (entries : List MarkedCopy) (texts : List (List ℕ)) → All IsLogged entries
    → AllZip IsEntry entries texts → AllZip IsLoggedAs entries texts
logged-as [] [] all each = tt
logged-as [] (t ∷ ts) all each = absurd each
logged-as (e ∷ es) [] all each = absurd each
logged-as (e ∷ es) (t ∷ ts) all each = (
  record { logged = All-head IsLogged e es all; entry = each.0 },
  logged-as es ts (All-tail IsLogged e es all) each.1,
)

file-of : (entries : List MarkedCopy) → All IsLogged entries
    → (file : List ℕ) × StandsForEntries entries file
file-of entries all =
    let log = some_log entries
    (All-weaker IsLogged (λ (one : MarkedCopy). one.copy.moment ≤ last_moment)
    (λ one is. is.in_range) entries all) in
    let texts = log.1.entries in
    let file : List ℕ = flat_map (λ text. 10 ∷ text) texts ++ 32 ∷ [] in
    let r = rests entries file (record {
      texts = texts;
      each = logged-as entries texts all log.1.each;
      whole = refl;
    }) in (
      file,
      record {
        texts = r.texts;
        each = r.each;
        stands = record {
          front = r.front;
          tail = 32 ∷ [];
          kept = r.kept;
          end = tt;
          split = r.whole;
        };
      },
    )

-- ---- no moment past one

abbrev IsBy : ℕ → MemoryEntry → Type 0
IsBy n entry = entry.moment ≤ n

newest-by : (n : ℕ) (entries : List MemoryEntry) → All (IsBy n) entries
    → newest_moment entries ≤ n
newest-by n [] all = omega arith
newest-by n (x ∷ xs) all =
    let i : ℕ = length (x ∷ xs) - 1 in
    let within : i < length (x ∷ xs) = omega arith in
    let last = ap (λ (o : Option MemoryEntry). unwrap_or (option_map (λ entry. entry.moment) o) 0)
    (slice_get-get_or (x ∷ xs) i x within) in
    omega (arith, last, all i x within)

passing-by : (n : ℕ) (test : MemoryEntry → List MemoryEntry → Bool) (entries : List MemoryEntry)
    → All (IsBy n) entries → All (IsBy n) (passing test entries)
passing-by n test [] all = All-nil (IsBy n)
passing-by n test (x ∷ xs) all =
    let rest = passing-by n test xs (All-tail (IsBy n) x xs all) in
    elim (test x xs) as (λ b. All (IsBy n) ((if b then x ∷ [] else []) ++ passing test xs)) [
      | true ↦ All-cons (IsBy n) x (passing test xs) (All-head (IsBy n) x xs all) rest
      | false ↦ rest
    ]

-- no printed copy is past this moment, on any channel
abbrev AreBy : ℕ → List MarkedCopy → Type 0
AreBy n log = (channel : Channel) → All (λ (c : TaggedCopy). c.moment ≤ n) (copies_on channel log)

remembered-by : (n : ℕ) (log : List MarkedCopy) (channel : Channel) → AreBy n log
    → All (IsBy n) (remembered_on channel log)
remembered-by n log channel are =
    let kept = memory_entries (copies_on channel log) in
    All-drop (IsBy n) (length kept - 200) kept
    (all-kept (IsBy n) (copies_on channel log) (are channel))

known-by : (n now : ℕ) (log : List MarkedCopy) (channel : Channel) → AreBy n log
    → All (IsBy n) (remembered_at now (remembered_on channel log))
known-by n now log channel are =
    let all = remembered-by n log channel are in
    let near = All-filter (is_near now) (IsBy n) (remembered_on channel log) all in
    passing-by n is_last_known _ (passing-by n is_in_order _ near)

later-by : (n : ℕ) (one other : Option ℕ) → unwrap_or one 0 ≤ n → unwrap_or other 0 ≤ n
    → unwrap_or (later_of one other) 0 ≤ n
later-by n None other h k = k
later-by n (Some a) None h k = h
later-by n (Some a) (Some b) h k = omega (arith, h, k)

-- so a watch behind them starts at no later moment
start-by : (n now : ℕ) (log : List MarkedCopy) → AreBy n log → (starts_at now log).moment ≤ n
start-by n now log are =
    let by : (channel : Channel) → newest_moment (remembered_at now (remembered_on channel log)) ≤ n
    = λ channel. newest-by n _ (known-by n now log channel are) in
    let newest : Channel → Option ℕ =
    λ channel. newest_of (remembered_at now (remembered_on channel log)) in
    later-by n (newest Zero) (later_of (newest One) (newest Two)) (by Zero)
    (later-by n (newest One) (newest Two) (by One) (by Two))

-- ---- a watch that hears these lines, behind a log

abbrev heard_watch : ℕ → List MarkedCopy → List MarkedCopy → List ℕ → Watch
heard_watch n log copies file = record {
  moment = n;
  sure = twice_lines_at n;
  more = [];
  ending = answered;
  starts = starts_at n log;
  found = λ channel. [];
  judged = λ channel. [];
  put = copies;
  file = file;
}

module _ (n : ℕ) (log : List MarkedCopy) (high : n ≤ last_moment) (all : All IsLogged log)
    (low : (starts_at n log).moment ≤ n) where
  abbrev starts : Starts
  starts = starts_at n log

  abbrev given : List Given
  given = given_by (twice_lines_at n)

  record Heard : Type 0 where
    copies : List MarkedCopy
    prints : PrintAllToEndBy combined starts given copies
    logged : All IsLogged (log ++ copies)
    by_then : AreBy n copies
    file : List ℕ
    stands : StandsForEntries (log ++ copies) file

  heard : Heard
  heard =
      let some = some-to_end_by combined combined-laws starts given in
      let logged = end-logged combined-laws combined-loggable starts given some.0
      (omega (arith, low, high)) (given-up_to n last_moment high) some.1 in
      let both = All-append IsLogged log some.0 all logged in
      let file = file-of (log ++ some.0) both in
      record {
        copies = some.0;
        prints = some.1;
        logged = both;
        by_then = λ channel. combined-laws.up_to (start_on starts channel)
            (events_on channel (twice_lines_at n)) (copies_on channel some.0) n low
            (given-up_to n n (omega arith) channel)
            (to_end-on {printing = combined} starts given some.0 channel some.1);
        file = file.0;
        stands = file.1;
      }

  puts : (h : Heard) → PutsBy combined log (heard_watch n log h.copies h.file)
  puts h = record {
    begins = refl;
    said = map Some (twice_lines_at n);
    acted = append-nil (twice_lines_at n) ∙ bits-act bits (moments_at n starts) n low high;
    printed = h.copies;
    prints = subst (λ lines. PrintAllToEndBy combined starts (given_by lines) h.copies)
        (sym (append-nil (twice_lines_at n))) h.prints;
    most = begins-itself h.copies;
    surely = h.prints.ended;
    in_turn = h.prints.in_turn;
    least = (_, h.prints.whole);
    all = (refl, refl);
    stands = h.stands;
  }

-- ---- the message is heard together in the first one

-- with nothing remembered, and everything selected
abbrev empty_at : ℕ → Start
empty_at moment = record { entries = []; moment = moment; refused = none_refused }

abbrev slot_setting : Setting
slot_setting = first_setting at_its_slot

abbrev together : IsHeardTogether placed_to_end at_its_slot (heard_elements twice_heard)
    twice_parts example_message example_numbers
together = twice_together

among-events : (n : ℕ) → elements_among (events n) ≡ bits
unfolding elements_among
among-events n = bits_among-elements bits

same-elements : elements_among (events 1735692000) ≡ elements_among (heard_elements twice_heard)
same-elements = among-events 1735692000 ∙ sym (bits_among-elements bits)

abbrev IsWithin : PlacedCopy → Type 0
IsWithin copy = copy.found.place < length bits

found-within : (copies : List PlacedCopy)
    → All (IsCopyIn 0 (length bits)) (map (λ (one : PlacedCopy). one.found) copies)
    → All IsWithin copies
found-within [] h = All-nil IsWithin
found-within (c ∷ cs) h =
    let found = map (λ (one : PlacedCopy). one.found) cs in
    All-cons IsWithin c cs (All-head (IsCopyIn 0 (length bits)) c.found found h).1
    (found-within cs (All-tail (IsCopyIn 0 (length bits)) c.found found h))

all-within : All IsWithin together.copies
all-within =
    let f = together.found in
    let stands : IsNow bits f.locks f.now =
    subst (λ (bs : List Bool). IsNow bs f.locks f.now) (bits_among-elements bits) f.stands in
    let whole : together.copies ≡ placed_to_end bits f.locks f.now =
    f.whole ∙ ap (λ (bs : List Bool). placed_to_end bs f.locks f.now) (bits_among-elements bits) in
    subst (All IsWithin) (sym whole)
    (found-within (placed_to_end bits f.locks f.now)
    (subst (All (IsCopyIn 0 (length bits))) (sym (found-end bits f.locks f.now))
    (found-placed bits f.locks f.now stands)))

module _ (moment : ℕ) where
  abbrev first : Setting
  first = first_setting (empty_at moment)

  in-force : (place : ℕ) → place < length bits
      → setting_at first (events 1735692000) place ≡ slot_setting
  unfolding settings
  in-force place within = inside slot_setting first bits place within

  same-force : (place : ℕ) → place < length bits
      → setting_at first (events 1735692000) place
      ≡ setting_at slot_setting (heard_elements twice_heard) place
  same-force place within = in-force place within ∙ sym (at_first slot_setting bits place)

  same-heard : (copies : List PlacedCopy) → All IsWithin copies
      → heard_copies first (events 1735692000) copies
      ≡ heard_copies slot_setting (heard_elements twice_heard) copies
  unfolding heard_copies
  same-heard [] h = refl
  same-heard (c ∷ cs) h =
      ap₂ (λ (s : Setting) l. record { copy = tag s c.found; positions = c.positions } ∷ l)
      (same-force c.found.place (All-head IsWithin c cs h))
      (same-heard cs (All-tail IsWithin c cs h))

  heard-there : (t : IsHeardTogether placed_to_end at_its_slot (heard_elements twice_heard)
      twice_parts example_message example_numbers) → All IsWithin t.copies
      → IsHeardTogether placed_to_end (empty_at moment) (events 1735692000) twice_parts
      example_message example_numbers
  heard-there t within = record {
    cut = subst (λ (bs : List Bool). IsSeenCut bs twice_parts) (sym same-elements) t.cut;
    sound = t.sound;
    told = t.told;
    numbered = t.numbered;
    copies = t.copies;
    found = record {
      locks = t.found.locks;
      now = t.found.now;
      stands = subst (λ (bs : List Bool). IsNow bs t.found.locks t.found.now)
          (sym same-elements) t.found.stands;
      whole = t.found.whole
          ∙ ap (λ (bs : List Bool). placed_to_end bs t.found.locks t.found.now)
          (sym same-elements);
    };
    behind = t.behind;
    together = λ copy there named.
        let one = t.together copy there named in
        record {
          sending = one.sending;
          selected = ap (λ (s : Setting). admits s.refused example_message.identity)
              (same-force copy.found.place (All-contains IsWithin t.copies copy within there))
              ∙ one.selected;
          few_positions = one.few_positions;
          runs_on = one.runs_on;
        };
    before = t.before;
    first = t.first;
    later = t.later;
    in_order = same-heard t.copies within ∙ t.in_order;
    none_before = t.none_before;
    first_bears = t.first_bears;
    unknown = t.unknown;
    near = t.near;
    in_turn = t.in_turn;
    few_begun = t.few_begun;
    few_made = t.few_made;
  }

-- ---- the two watches

record IsHeardSo (start : Start) (given : List Event) : Type 0 where
  heard : IsHeardTogether placed_to_end start given twice_parts example_message example_numbers
  came : IsThroughWith (behind_digit example_numbers) example_message.identity
      (heard.first ∷ heard.later)

first-start : start_on (starts_at first_moment []) Zero ≡ empty_at 0
unfolding memory_entries
first-start = refl

first-given : events_on Zero (twice_lines_at first_moment ++ []) ≡ events 1735692000
first-given =
    ap (events_on Zero) (append-nil (twice_lines_at first_moment)) ∙ lines-give first_moment

first-heard : IsHeardSo (start_on (starts_at first_moment []) Zero)
    (events_on Zero (twice_lines_at first_moment ++ []))
unfolding heard-there
first-heard =
    subst (λ (s : Start). IsHeardSo s (events_on Zero (twice_lines_at first_moment ++ [])))
    (sym first-start)
    (subst (IsHeardSo (empty_at 0)) (sym first-given)
    (record { heard = heard-there 0 together all-within; came = twice_through }))

none-by : (n : ℕ) → AreBy n []
none-by n channel = All-nil (λ (c : TaggedCopy). c.moment ≤ n)

pub worked-together : (first second : Watch) × IsChainBy combined [] (first ∷ second ∷ [])
    × ClocksAreNear Zero [] (first ∷ second ∷ [])
    × (first.moment ≡ first_moment) × (second.moment ≡ first_moment + 14400)
    × (lines_of first ≡ twice_lines_at first.moment)
    × (lines_of second ≡ twice_lines_at second.moment)
    × (first.ending ≡ answered) × (second.ending ≡ answered)
    × (heard : IsHeardTogether placed_to_end (start_on first.starts Zero) (events_in Zero first)
    twice_parts example_message example_numbers)
    × IsThroughWith (behind_digit example_numbers) example_message.identity
    (heard.first ∷ heard.later)
worked-together =
    let low = start-by first_moment first_moment [] (none-by first_moment) in
    let one = heard first_moment [] (lit≤ tt) (All-nil IsLogged) low in
    let start = start-by first_moment 1735706400 one.copies one.by_then in
    let later : (starts_at 1735706400 one.copies).moment ≤ 1735706400 = omega (arith, start) in
    let two = heard 1735706400 one.copies (lit≤ tt) one.logged later in
    let newest = newest-by first_moment (remembered_on Zero one.copies)
    (remembered-by first_moment one.copies Zero one.by_then) in
    let none : newest_moment (remembered_on Zero []) ≡ 0 =
    ap newest_moment (none-remembered Zero) in (
      heard_watch first_moment [] one.copies one.file,
      heard_watch 1735706400 one.copies two.copies two.file,
      (
        puts first_moment [] (lit≤ tt) (All-nil IsLogged) low one,
        (puts 1735706400 one.copies (lit≤ tt) one.logged later two, tt),
      ),
      (omega (arith, none), (omega (arith, newest), tt)),
      refl,
      refl,
      append-nil (twice_lines_at first_moment),
      append-nil (twice_lines_at 1735706400),
      refl,
      refl,
      first-heard.heard,
      first-heard.came,
    )
