-- The worked air file: it meets what is asked of a message that is printed once, and it has its
-- log.
use Rattle.std.proofs.Common.{◌≡◌, ℕ, zero, suc, ◌+◌, ◌*◌, ◌<◌, ◌≤◌, Bool, List, [], ◌∷◌, length}
use Rattle.std.proofs.Common.{map, take, refl, sym, ap, ◌∙◌, subst, arith, length-append, lit<}
use Rattle.std.proofs.Common.{lit≤}
use Rattle.std.specs.Prelude.{slice_index_or}
use Rattle.std.specs.List.{Contains}
use Rattle.std.specs.Int.{div_ceil}
use Rattle.std.proofs.lemmas.List.{length-map, length-take}
use Rattle.nx_memory.specs.Selection.{admits}
use Rattle.nx_fec.specs.air_files.AirFile.{IsLine, moment, spelling}
use Rattle.nx_fec.specs.air_files.BitLines.{bit_lines}
use Rattle.nx_fec.specs.emissions.Emission.{bits_of}
use Rattle.nx_fec.specs.declared.air_files.channel.Channel.TheVariants.{Zero}
use Rattle.nx_fec.specs.air_files.Lines.{IsAirFile, file_of, line_bytes, air_limit}
use Rattle.nx_fec.proofs.lemmas.lines.LineLaws.{spelling-IsBeginning}
use Rattle.nx_fec.proofs.lemmas.emissions.RoundTrip.{length-bits_of}
use Rattle.nx_station.specs.reception.PathExample.{example_message, example_parts, example_sending}
use Rattle.nx_station.specs.reception.Sendings.{IsCut, Sending, IsSentAt}
use Rattle.nx_station.proofs.lemmas.reception.PathExamples.{example_sent}
use Rattle.nx_sync.specs.Locks.{locked, IsNow}
use Rattle.nx_station.proofs.lemmas.broadcasts.TransmissionLength.{length-bit_lines}
use Rattle.nx_copies.specs.Events.{Event, Setting, Start, at_moment, at_zero, element}
use Rattle.nx_copies.specs.Events.{elements_among, first_setting, none_refused, setting_at}
use Rattle.nx_copies.specs.Events.{settings}
use Rattle.nx_memory.specs.declared.memories.entry.MemoryEntry.{MemoryEntry}
use Rattle.nx_promises.specs.examples.Repeats.{first_copy}
use Rattle.nx_copies.specs.copies.FoundCopies.{FoundCopy, found_to_end, tag, tagged_copies}
use Rattle.nx_receiver.specs.air_file_runs.Listen.{AreTaken, IsLogOf, events_on, given_by}
use Rattle.nx_receiver.specs.private.Taken.{AreTakenAfter}
use Rattle.nx_receiver.proofs.lemmas.listening.Taken.{are-taken}
use Rattle.nx_promises.specs.examples.AirFile.{example_air_file, example_lines}
use Rattle.nx_receiver.specs.air_file_runs.ListenOnce.{IsHeardInTimeOn}
use Rattle.nx_copies.specs.copies.Log.{PrintsToEnd}
use Rattle.nx_copies.specs.laws.Once.{IsHeardInTime, IsUnknownAtFirst}
use Rattle.nx_copies.specs.copies.Printing.{printed_copies}
use Rattle.nx_copies.specs.laws.Emissions.{copy_of_sending}
use Rattle.nx_copies.specs.copies.Shares.{all_at_zero, marked}
use Rattle.nx_promises.specs.examples.Emission.{at_its_slot, damaged_words, worked_log}
use Rattle.nx_promises.proofs.lemmas.listening.ElementLines.{events-lines, events-others, good-lines}
use Rattle.nx_promises.proofs.lemmas.listening.ElementLines.{taken-lines}
use Rattle.nx_promises.proofs.lemmas.chain.Alone.{HearsAlone, printed-alone}
use Rattle.nx_copies.proofs.lemmas.printing.Logged.{one_to_end}
use Rattle.nx_copies.proofs.lemmas.once.Repeats.{none_live}
use Rattle.nx_promises.proofs.lemmas.examples.Emission.{alone, cut_is, events, first_bits, found, not_two}
use Rattle.nx_promises.proofs.lemmas.examples.Emission.{one_found, one_in, sent_there, stands_is}
use Rattle.nx_copies.proofs.lemmas.emissions.Found.{sending_in_end}
use Rattle.nx_promises.proofs.lemmas.examples.Worked.{damaged_computed}
use Rattle.nx_promises.proofs.lemmas.examples.WorkedLog.{all_selected, at_first, log_is, printed_to_end}

abbrev pub bits : List Bool
bits = bits_of damaged_words

pub long : length bits ≡ 1421
long = length-bits_of damaged_words ∙ omega (arith, damaged_computed.long)

-- ---- the file, of a moment and three lines of elements

pub lines-short : length (file_of (bit_lines bits)) ≤ 1479
lines-short =
    let size : 493 * div_ceil (length bits) 490 ≡ 1479 = ap (λ n. 493 * div_ceil n 490) long in
    omega (arith, length-bit_lines bits, size)

moment-good : IsLine (moment 1735692000)
moment-good = lit< tt

file-is : IsAirFile air_limit example_air_file example_lines
file-is = record {
  whole = refl;
  each = (moment-good, good-lines bits);
  within =
      omega (
        arith,
        lines-short,
        (spelling-IsBeginning (moment 1735692000) moment-good).short,
        length-append (spelling (moment 1735692000)) (10 ∷ []),
        length-append
            (line_bytes (moment 1735692000)) (file_of (bit_lines bits)),
      );
}

-- ---- what it gives to the receiver of channel 0

pub events-are : events_on Zero example_lines ≡ at_moment 1735692000 ∷ events
events-are = ap (λ es. at_moment 1735692000 ∷ es) (events-lines bits)

-- each sending of the message is the one at this element
abbrev pub place : ℕ
place = length first_bits + 517

pub one-sending : (at : ℕ) → IsSentAt (example_parts first_bits []) example_message at → at ≡ place
one-sending at sent =
    let sending : Sending = record { message = example_message; place = at } in
    let there : Contains found (copy_of_sending sending) =
    sending_in_end (elements_among events) (example_parts first_bits []) sending [] (locked 0 28)
    cut_is sent stands_is in
    ap (λ (c : FoundCopy). c.place)
    (one_in found (copy_of_sending sending) (copy_of_sending (example_sending first_bits))
    one_found there sent_there)

-- at an element the moment is that of the file's first line
pub inside : (now first : Setting) (xs : List Bool) (at : ℕ) → at < length xs
    → slice_index_or (settings now (map element xs)) at first ≡ now
unfolding settings
inside now first [] at h = absurd (omega arith)
inside now first (x ∷ xs) zero h = refl
inside now first (x ∷ xs) (suc at) h = inside now first xs at (omega arith)

pub place-within : place < length bits
place-within =
    let count : length (take 96 damaged_words) ≡ 96 =
    length-take 96 damaged_words ∙ omega (arith, damaged_computed.long) in
    omega (arith, long, count, length-bits_of (take 96 damaged_words))

-- what a receiver hears that starts with these entries, at this moment, where the moment of the
-- file and the elements are all that it is given
module _ (entries : List MemoryEntry) (from : ℕ) (heard : List Event)
    (are : heard ≡ at_moment 1735692000 ∷ events) where
  abbrev pub begun : Start
  begun = record { entries = entries; moment = from; refused = none_refused }

  same : elements_among events ≡ elements_among heard
  unfolding elements_among
  same = sym (ap elements_among are)

  cut : IsCut (elements_among heard) (example_parts first_bits [])
  cut = subst (λ (b : List Bool). IsCut b (example_parts first_bits [])) same cut_is

  pub stands-heard : IsNow (elements_among heard) [] (locked 0 28)
  stands-heard = subst (λ (b : List Bool). IsNow b [] (locked 0 28)) same stands_is

  -- the copies that are found in it are those of its elements
  abbrev pub all-found : List FoundCopy
  all-found = found_to_end (elements_among heard) [] (locked 0 28)

  pub found-same : found ≡ all-found
  found-same = ap (λ (b : List Bool). found_to_end b [] (locked 0 28)) same

  pub in-force : setting_at (first_setting begun) heard place ≡ first_setting at_its_slot
  unfolding settings
  in-force =
      ap (λ es. slice_index_or (settings (first_setting begun) es) place (first_setting begun)) are
      ∙ inside (first_setting at_its_slot) (first_setting begun) bits place place-within

  in-force-at : (at : ℕ) → IsSentAt (example_parts first_bits []) example_message at
      → setting_at (first_setting begun) heard at ≡ first_setting at_its_slot
  in-force-at at sent =
      ap (setting_at (first_setting begun) heard) (one-sending at sent) ∙ in-force

  one-tagged : length (tagged_copies (first_setting begun) heard all-found) ≡ 1
  unfolding tagged_copies
  one-tagged = length-map all-found _ ∙ ap length (sym found-same) ∙ one_found

  -- its one copy, with the moment of the file
  pub tagged-is : tagged_copies (first_setting begun) heard all-found
      ≡ tag (first_setting at_its_slot) (copy_of_sending (example_sending first_bits)) ∷ []
  unfolding tagged_copies
  tagged-is =
      let this = copy_of_sending (example_sending first_bits) in
      ap (tagged_copies (first_setting begun) heard)
      (sym found-same ∙ alone found this one_found sent_there)
      ∙ ap (λ (s : Setting). tag s this ∷ []) in-force

  pub heard-there : IsUnknownAtFirst entries example_message.identity
      (tagged_copies (first_setting begun) heard all-found)
      → IsHeardInTime begun heard (example_parts first_bits []) example_message
  heard-there unknown = record {
    cut = cut;
    place = place;
    sent = example_sent first_bits [];
    numbered = lit< tt;
    copies = all-found;
    found = record { locks = []; now = locked 0 28; stands = stands-heard; whole = refl };
    alone = λ copy there named.
        let among : Contains found copy =
        subst (λ (cs : List FoundCopy). Contains cs copy) (sym found-same) there in
        subst (IsSentAt (example_parts first_bits []) example_message)
        (ap (λ (c : FoundCopy). c.place)
        (one_in found (copy_of_sending (example_sending first_bits)) copy one_found sent_there
        among)) (example_sent first_bits []);
    selected = λ at sent. ap (λ (s : Setting). admits s.refused example_message.identity)
        (in-force-at at sent) ∙ all_selected;
    close = λ one other a b.
        let m = ap (λ (s : Setting). s.moment) (in-force-at one a) in
        let n = ap (λ (s : Setting). s.moment) (in-force-at other b) in
        omega arith;
    unknown = unknown;
    few =
        λ before between after first later e none named again. absurd
        (not_two (tagged_copies (first_setting begun) heard all-found) before between after
        first later one-tagged e);
  }

abbrev heard : List Event
heard = events_on Zero example_lines

abbrev found-there : List FoundCopy
found-there = all-found [] 0 heard events-are

pub heard-in-time : IsHeardInTimeOn Zero all_at_zero example_air_file example_message
heard-in-time = record {
  lines = example_lines;
  spelled = file-is;
  parts =
      example_parts first_bits [];
  heard = heard-there [] 0 heard events-are
      (none_live example_message.identity
      (tagged_copies (first_setting at_zero) heard found-there));
}

-- ---- its log

taken : AreTaken all_at_zero example_lines
unfolding AreTakenAfter
taken =
    are-taken all_at_zero example_lines (lit≤ tt)
    ((lit≤ tt, lit≤ tt), taken-lines all_at_zero (moment 1735692000 ∷ []) bits refl)

tagged-same : tagged_copies (first_setting at_zero) heard found
    ≡ tagged_copies (first_setting at_its_slot) events found
unfolding tagged_copies
tagged-same =
    let this = copy_of_sending (example_sending first_bits) in
    let is : found ≡ this ∷ [] = alone found this one_found sent_there in
    ap (tagged_copies (first_setting at_zero) heard) is
    ∙ ap (λ (s : Setting). tag s this ∷ [])
    (in-force [] 0 heard events-are ∙ sym (at_first (first_setting at_its_slot) bits place))
    ∙ ap (tagged_copies (first_setting at_its_slot) events) (sym is)

pub printed : PrintsToEnd at_zero heard (first_copy ∷ [])
printed =
    let before = printed_to_end damaged_words damaged_computed in
    let mine : PrintsToEnd at_its_slot events
    (printed_copies [] (tagged_copies (first_setting at_its_slot) events found)) =
    record { locks = []; now = locked 0 28; stands = stands_is; printed = refl } in
    record {
      locks = [];
      now = locked 0 28;
      stands = stands-heard [] 0 heard events-are;
      printed = one_to_end at_its_slot events _ _ before mine
          ∙ ap (printed_copies []) (sym tagged-same)
          ∙ ap (λ (cs : List FoundCopy). printed_copies []
          (tagged_copies (first_setting at_zero) heard cs)) (found-same [] 0 heard events-are);
    }

-- the other channels are given the moment alone
one-heard : HearsAlone Zero (given_by example_lines)
unfolding elements_among
one-heard other h =
    ap (λ es. elements_among (at_moment 1735692000 ∷ es)) (events-others other h bits)

pub logged : IsLogOf all_at_zero example_air_file worked_log
logged = (
  example_lines,
  marked Zero first_copy
      ∷ [],
  record {
    file = file-is;
    taken = taken;
    printed = printed-alone Zero all_at_zero (given_by example_lines) (first_copy ∷ []) one-heard
        printed;
    spelled = log_is;
  },
)
