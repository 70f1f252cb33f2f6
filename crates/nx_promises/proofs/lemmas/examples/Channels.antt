-- What is printed of the worked emission where it comes line by line on two channels.
use Rattle.std.proofs.Common.{◌≡◌, ℕ, ◌*◌, ◌<◌, ◌≤◌, Bool, List, [], ◌∷◌, ◌++◌, length, map, take}
use Rattle.std.proofs.Common.{drop, take_all, length-append, length-drop, refl, sym, ap, ◌∙◌, subst}
use Rattle.std.proofs.Common.{arith, append-nil, append_assoc, lit<, lit≤, Some, None}
use Rattle.std.proofs.Common.{take-append-drop}
use Rattle.std.specs.Prelude.{codes}
use Rattle.std.specs.Fmt.{digits}
use Rattle.std.specs.List.{All, AllByRecursion}
use Rattle.std.proofs.lemmas.List.{drop-drop, length-take, map-append}
use Rattle.std.proofs.lemmas.List.Elements.{All-head}
use Rattle.nx_envelope.proofs.lemmas.Examples.{slot_of_e}
use Rattle.nx_fec.specs.air_files.AirFile.{IsLine, Line, elements, spelling}
use Rattle.nx_fec.specs.emissions.Emission.{bits_of}
use Rattle.nx_fec.specs.air_files.Lines.{IsAirFile, air_limit, file_of, line_bytes}
use Rattle.nx_fec.proofs.lemmas.lines.LineLaws.{spelling-IsBeginning}
use Rattle.nx_fec.specs.declared.air_files.channel.Channel.{Channel}
use Rattle.nx_fec.specs.declared.air_files.channel.Channel.TheVariants.{Zero, One, Two}
use Rattle.nx_fec.proofs.lemmas.emissions.RoundTrip.{length-bits_of}
use Rattle.nx_station.specs.reception.PathExample.{example_parts, example_sending}
use Rattle.nx_station.proofs.lemmas.reception.PathExamples.{example_sent}
use Rattle.nx_sync.specs.Locks.{locked, IsNow}
use Rattle.nx_sync.proofs.lemmas.states.StateChanges.{standing_after}
use Rattle.nx_promises.specs.examples.Channels.{part, two_channels, two_channels_log}
use Rattle.nx_copies.specs.laws.Emissions.{copy_of_sending}
use Rattle.nx_copies.specs.Events.{Event, at_moment, at_zero, element, elements_among}
use Rattle.nx_promises.specs.examples.Repeats.{first_copy}
use Rattle.nx_copies.specs.copies.FoundCopies.{FoundCopy, ended_so_far, found_to_end, open_so_far}
use Rattle.nx_copies.specs.copies.FoundCopies.{tagged_copies}
use Rattle.nx_receiver.specs.air_file_runs.Listen.{AreTaken, IsLogOf, events_on}
use Rattle.nx_receiver.specs.private.Taken.{AreTakenAfter}
use Rattle.nx_receiver.proofs.lemmas.listening.Taken.{are-taken}
use Rattle.nx_copies.specs.copies.InTurn.{HavePrinted, PrintAllToEnd, PrintsInTurn}
use Rattle.nx_copies.specs.copies.Log.{HasPrinted, IsLog, PrintsToEnd, entry_head, is_of_lines}
use Rattle.nx_copies.specs.copies.Log.{missing_newline, printed_of}
use Rattle.nx_copies.specs.copies.Printing.{printed_copies}
use Rattle.nx_copies.specs.copies.Shares.{Given, MarkedCopy, all_at_zero, copies_on, marked, share}
use Rattle.nx_copies.specs.copies.Shares.{start_on, to_all, to_one}
use Rattle.nx_promises.specs.examples.Emission.{damaged_words}
use Rattle.nx_copies.proofs.lemmas.channels.Shares.{in_turn-more, in_turn-none}
use Rattle.nx_copies.proofs.lemmas.locks.Found.{IsCopyIn}
use Rattle.nx_copies.proofs.lemmas.locks.Growing.{ended_go_on}
use Rattle.nx_copies.proofs.lemmas.printing.Log.{entry_with, logs_join}
use Rattle.nx_copies.proofs.lemmas.printing.Logged.{bits_of-append, end_adds, ended_placed, one_to_end}
use Rattle.nx_promises.proofs.lemmas.examples.Emission.{alone, cut_is, events, first_bits, found}
use Rattle.nx_promises.proofs.lemmas.examples.Emission.{one_found, sent_there, stands_is}
use Rattle.nx_copies.proofs.lemmas.emissions.Found.{sending_found}
use Rattle.nx_promises.proofs.lemmas.examples.AirFile.{events-are, printed}
use Rattle.nx_promises.proofs.lemmas.chain.Alone.{printed-none}
use Rattle.nx_promises.proofs.lemmas.examples.Worked.{damaged_computed}
use Rattle.nx_promises.proofs.lemmas.examples.WorkedLog.{bits_among-elements, log_is}
use Rattle.nx_promises.proofs.lemmas.channels.Unnamed.{no-elements}

abbrev bits : List Bool
bits = bits_of damaged_words

-- all that is heard of it on one channel
abbrev pub heard : List Event
heard = at_moment 1735692000 ∷ events

abbrev copy : FoundCopy
copy = copy_of_sending (example_sending first_bits)

same : elements_among heard ≡ elements_among events
unfolding elements_among
same = refl

-- the one copy stands at element 1,189
place-is : copy.place ≡ 1189
place-is =
    let count : length (take 96 damaged_words) ≡ 96 =
    length-take 96 damaged_words ∙ omega (arith, damaged_computed.long) in
    omega (arith, count, length-bits_of (take 96 damaged_words))

-- a list of one that begins with copies that all stand before it begins with none
front-empty : (n : ℕ) (front rest : List FoundCopy) (one : FoundCopy) → front ++ rest ≡ one ∷ []
    → All (IsCopyIn 0 n) front → n ≤ one.place → front ≡ []
front-empty n [] rest one e all low = refl
front-empty n (c ∷ front) rest one e all low =
    let head : c ≡ one = cc in
    let here = All-head (IsCopyIn 0 n) c front all in
    let at : c.place ≡ one.place = ap (λ (f : FoundCopy). f.place) head in
    absurd (omega (arith, here.1, at, low))

found-is : found ≡ copy ∷ []
found-is = alone found copy one_found sent_there

-- where fewer than 981 elements were heard, nothing has ended
none-ended : (xs ys : List Event) → heard ≡ xs ++ ys → length (elements_among xs) ≤ 980
    → HasPrinted at_zero xs []
unfolding tagged_copies printed_copies
none-ended xs ys whole short =
    let s = standing_after (elements_among xs) in
    let ended = ended_so_far (elements_among xs) s.locks s.now in
    let split : elements_among events ≡ elements_among xs ++ elements_among ys =
    sym same ∙ ap elements_among whole ∙ bits_of-append xs ys in
    let now : IsNow (elements_among xs ++ elements_among ys) [] (locked 0 28) =
    subst (λ (b : List Bool). IsNow b [] (locked 0 28)) split stands_is in
    let on = ended_go_on (elements_among xs) (elements_among ys) s.locks [] s.now (locked 0 28)
    s.stands now in
    let last = open_so_far (elements_among events) (locked 0 28) in
    let all : ended ++ (on.rest ++ last) ≡ copy ∷ [] =
    sym (append_assoc ended on.rest last)
    ∙ ap (λ cs. cs ++ last) (sym on.whole)
    ∙ ap (λ (b : List Bool). ended_so_far b [] (locked 0 28) ++ last) (sym split)
    ∙ sym (end_adds (elements_among events) [] (locked 0 28)) ∙ found-is in
    let none : ended ≡ [] =
    front-empty (length (elements_among xs)) ended (on.rest ++ last) copy all
    (ended_placed (elements_among xs) s.locks s.now s.stands) (omega (arith, short, place-is)) in
    record {
      locks = s.locks;
      now = s.now;
      stands = s.stands;
      printed = sym (ap (printed_of at_zero xs) none);
    }

-- ---- the pieces of it

m : Event
m = at_moment 1735692000

abbrev e : ℕ → List Event
e i = map element (part i)

pieces-are : bits ≡ part 0 ++ (part 1 ++ part 2)
pieces-are =
    sym (take-append-drop 490 bits)
    ∙ ap (λ b. part 0 ++ b)
    (sym (take-append-drop 490 (drop 490 bits))
    ∙ ap (λ b. part 1 ++ b)
    (drop-drop 490 490 bits
    ∙ sym (take_all 490 (drop 980 bits)
    (omega (arith, length-drop 980 bits, length-bits_of damaged_words, damaged_computed.long)))))

heard-pieces : heard ≡ m ∷ (e 0 ++ (e 1 ++ (e 2 ++ [])))
unfolding m
heard-pieces =
    ap (λ b. at_moment 1735692000 ∷ map element b) pieces-are
    ∙ ap (λ es. at_moment 1735692000 ∷ es)
    (map-append element (part 0) (part 1 ++ part 2)
    ∙ ap (λ es. e 0 ++ es)
    (map-append element (part 1) (part 2) ∙ ap (λ es. e 1 ++ es) (sym (append-nil (e 2)))))

among-part : (i : ℕ) (more : List Event)
    → elements_among (e i ++ more) ≡ part i ++ elements_among more
among-part i more =
    bits_of-append (e i) more
    ∙ ap (λ b. b ++ elements_among more) (bits_among-elements (part i))

part-short : (i : ℕ) → length (part i) ≤ 490
part-short i = omega (arith, length-take 490 (drop (490 * i) bits))

among-moment : (more : List Event) → elements_among (m ∷ more) ≡ elements_among more
unfolding elements_among m
among-moment more = refl

-- what the file gives to the receiver of channel 1
pub heard-on_1 : events_on One two_channels ≡ heard
unfolding m
heard-on_1 = sym heard-pieces

quiet-0 : HasPrinted at_zero [] []
quiet-0 = none-ended [] heard refl (omega (arith, ap length no-elements))

quiet-1 : HasPrinted at_zero (m ∷ []) []
quiet-1 =
    none-ended (m ∷ []) (e 0 ++ (e 1 ++ (e 2 ++ []))) heard-pieces
    (omega (arith, ap length (among-moment [] ∙ no-elements)))

quiet-2 : HasPrinted at_zero (m ∷ (e 0 ++ [])) []
quiet-2 =
    none-ended (m ∷ (e 0 ++ [])) (e 1 ++ (e 2 ++ []))
    (heard-pieces ∙ ap (λ es. m ∷ es) (sym (append_assoc (e 0) [] (e 1 ++ (e 2 ++ [])))))
    (omega (
      arith,
      ap length (among-moment (e 0 ++ []) ∙ among-part 0 []),
      length-append (part 0) (elements_among []),
      ap length no-elements,
      part-short 0,
    ))

quiet-3 : HasPrinted at_zero (m ∷ (e 0 ++ (e 1 ++ []))) []
quiet-3 =
    none-ended (m ∷ (e 0 ++ (e 1 ++ []))) (e 2 ++ [])
    (heard-pieces ∙ ap (λ es. m ∷ es)
    (ap (λ es. e 0 ++ es) (sym (append_assoc (e 1) [] (e 2 ++ [])))
    ∙ sym (append_assoc (e 0) (e 1 ++ []) (e 2 ++ []))))
    (omega (
      arith,
      ap length (among-moment (e 0 ++ (e 1 ++ [])) ∙ among-part 0 (e 1 ++ [])),
      length-append (part 0) (elements_among (e 1 ++ [])),
      ap length (among-part 1 []),
      length-append (part 1) (elements_among []),
      ap length no-elements,
      part-short 0,
      part-short 1,
    ))

-- ---- all of it

-- the copy has ended before the end of the elements
ended-is : ended_so_far (elements_among events) [] (locked 0 28) ≡ found
ended-is =
    let ended = ended_so_far (elements_among events) [] (locked 0 28) in
    let last = open_so_far (elements_among events) (locked 0 28) in
    let adds = end_adds (elements_among events) [] (locked 0 28) in
    let there = sending_found (elements_among events) (example_parts first_bits [])
    (example_sending first_bits) [] (locked 0 28) cut_is (example_sent first_bits []) stands_is in
    let long = ap length adds ∙ length-append ended last in
    alone ended copy (omega (arith, there.1, long, one_found)) there ∙ sym found-is

heard-to_end : PrintsToEnd at_zero heard (first_copy ∷ [])
heard-to_end = subst (λ es. PrintsToEnd at_zero es (first_copy ∷ [])) events-are printed

all-is : first_copy ∷ [] ≡ printed_of at_zero heard found
all-is =
    one_to_end at_zero heard (first_copy ∷ []) (printed_of at_zero heard found) heard-to_end
    (record {
      locks = [];
      now = locked 0 28;
      stands = subst (λ (b : List Bool). IsNow b [] (locked 0 28)) (sym same) stands_is;
      printed = ap (λ (b : List Bool). printed_of at_zero heard (found_to_end b [] (locked 0 28)))
          (sym same);
    })

loud-heard : HasPrinted at_zero heard (first_copy ∷ [])
loud-heard = record {
  locks = [];
  now = locked 0 28;
  stands = subst (λ (b : List Bool). IsNow b [] (locked 0 28)) (sym same) stands_is;
  printed = all-is ∙ ap (printed_of at_zero heard) (sym ended-is)
      ∙ ap (λ (b : List Bool). printed_of at_zero heard (ended_so_far b [] (locked 0 28)))
      (sym same);
}

loud : HasPrinted at_zero (m ∷ (e 0 ++ (e 1 ++ (e 2 ++ [])))) (first_copy ∷ [])
loud = subst (λ es. HasPrinted at_zero es (first_copy ∷ [])) heard-pieces loud-heard

to_end : PrintsToEnd at_zero (m ∷ (e 0 ++ (e 1 ++ (e 2 ++ [])))) (first_copy ∷ [])
to_end = subst (λ es. PrintsToEnd at_zero es (first_copy ∷ [])) heard-pieces heard-to_end

nothing : PrintsToEnd at_zero (m ∷ []) []
nothing = printed-none at_zero (m ∷ []) (among-moment [] ∙ no-elements)

-- ---- in turn

abbrev x : ℕ → Given
x i = to_one Zero (e i)

abbrev y : ℕ → Given
y i = to_one One (e i)

abbrev t : Given
t = to_all 1735692000

abbrev first : MarkedCopy
first = marked Zero first_copy

abbrev second : MarkedCopy
second = marked One first_copy

have-0 : HavePrinted all_at_zero [] []
have-0 Zero = quiet-0
have-0 One = quiet-0
have-0 Two = quiet-0

have-1 : HavePrinted all_at_zero (t ∷ []) []
unfolding m
have-1 Zero = quiet-1
have-1 One = quiet-1
have-1 Two = quiet-1

have-2 : HavePrinted all_at_zero (t ∷ x 0 ∷ []) []
unfolding m
have-2 Zero = quiet-2
have-2 One = quiet-1
have-2 Two = quiet-1

have-3 : HavePrinted all_at_zero (t ∷ x 0 ∷ y 0 ∷ []) []
unfolding m
have-3 Zero = quiet-2
have-3 One = quiet-2
have-3 Two = quiet-1

have-4 : HavePrinted all_at_zero (t ∷ x 0 ∷ y 0 ∷ x 1 ∷ []) []
unfolding m
have-4 Zero = quiet-3
have-4 One = quiet-2
have-4 Two = quiet-1

have-5 : HavePrinted all_at_zero (t ∷ x 0 ∷ y 0 ∷ x 1 ∷ y 1 ∷ []) []
unfolding m
have-5 Zero = quiet-3
have-5 One = quiet-3
have-5 Two = quiet-1

have-6 : HavePrinted all_at_zero (t ∷ x 0 ∷ y 0 ∷ x 1 ∷ y 1 ∷ x 2 ∷ []) (first ∷ [])
unfolding m
have-6 Zero = loud
have-6 One = quiet-3
have-6 Two = quiet-1

abbrev pub given : List Given
given = t ∷ x 0 ∷ y 0 ∷ x 1 ∷ y 1 ∷ x 2 ∷ y 2 ∷ []

have-7 : HavePrinted all_at_zero given (first ∷ second ∷ [])
unfolding m
have-7 Zero = loud
have-7 One = loud
have-7 Two = quiet-1

in-turn : PrintsInTurn all_at_zero given (first ∷ second ∷ [])
in-turn =
    let s = all_at_zero in
    let turn-0 = in_turn-none s have-0 in
    let turn-1 = in_turn-more s [] t [] [] turn-0 have-1 in
    let turn-2 = in_turn-more s (t ∷ []) (x 0) [] [] turn-1 have-2 in
    let turn-3 = in_turn-more s (t ∷ x 0 ∷ []) (y 0) [] [] turn-2 have-3 in
    let turn-4 = in_turn-more s (t ∷ x 0 ∷ y 0 ∷ []) (x 1) [] [] turn-3 have-4 in
    let turn-5 = in_turn-more s (t ∷ x 0 ∷ y 0 ∷ x 1 ∷ []) (y 1) [] [] turn-4 have-5 in
    let turn-6 = in_turn-more s (t ∷ x 0 ∷ y 0 ∷ x 1 ∷ y 1 ∷ []) (x 2) [] (first ∷ []) turn-5
    have-6 in
    in_turn-more s (t ∷ x 0 ∷ y 0 ∷ x 1 ∷ y 1 ∷ x 2 ∷ []) (y 2) (first ∷ []) (second ∷ []) turn-6
    have-7

ends : (channel : Channel) → PrintsToEnd (start_on all_at_zero channel) (share channel given)
    (copies_on channel (first ∷ second ∷ []) ++ [])
unfolding m
ends Zero = to_end
ends One = to_end
ends Two = nothing

pub two-channels : PrintAllToEnd all_at_zero given (first ∷ second ∷ [])
two-channels = record {
  ended = first ∷ second ∷ [];
  in_turn = in-turn;
  closed = λ channel. [];
  to_end = ends;
  whole = refl;
}

-- ---- the file and its log

part-long : (i : ℕ) → i ≤ 2 → 0 < length (part i)
part-long i h =
    omega (
      arith,
      length-take 490 (drop (490 * i) bits),
      length-drop (490 * i) bits,
      length-bits_of damaged_words,
      damaged_computed.long,
      h,
    )

good-0 : (i : ℕ) → i ≤ 2 → IsLine (elements None (part i))
good-0 i h = (part-long i h, omega (arith, part-short i))

good-1 : (i : ℕ) → i ≤ 2 → IsLine (elements (Some One) (part i))
good-1 i h = (part-long i h, omega (arith, part-short i))

lines-good : AllByRecursion IsLine two_channels
lines-good = (
  lit< tt,
  (
    good-0 0 (lit≤ tt),
    (
      good-1 0 (lit≤ tt),
      (
        good-0 1 (lit≤ tt),
        (good-1 1 (lit≤ tt), (good-0 2 (lit≤ tt), (good-1 2 (lit≤ tt), tt))),
      ),
    ),
  ),
)

-- good lines have at most 515 bytes each
file-short : (lines : List Line) → AllByRecursion IsLine lines
    → length (file_of lines) ≤ 515 * length lines
file-short [] h = omega arith
file-short (line ∷ lines) h =
    omega (
      arith,
      file-short lines h.1,
      (spelling-IsBeginning line h.0).short,
      length-append (spelling line) (10 ∷ []),
      length-append (line_bytes line) (file_of lines),
    )

pub file-is : IsAirFile air_limit (file_of two_channels) two_channels
file-is = record {
  whole = refl;
  each = lines-good;
  within = omega (arith, file-short two_channels lines-good);
}

taken : AreTaken all_at_zero two_channels
unfolding AreTakenAfter
taken =
    are-taken all_at_zero two_channels (lit≤ tt)
    ((lit≤ tt, lit≤ tt), (refl, (refl, (refl, (refl, (refl, (refl, tt)))))))

entry-is : entry_with One first_copy (codes "2025-01-01 00:40:00")
    ≡ codes "[EA01/1 2025-01-01 00:40:00 full 0/5]\nTEST\n\n"
unfolding entry_head missing_newline is_of_lines digits
entry-is = refl

second-log : IsLog (second ∷ []) (codes "[EA01/1 2025-01-01 00:40:00 full 0/5]\nTEST\n\n")
second-log = record {
  entries = codes "[EA01/1 2025-01-01 00:40:00 full 0/5]\nTEST\n\n" ∷ [];
  each = (
    record { civil = codes "2025-01-01 00:40:00"; shown = slot_of_e; spelled = sym entry-is },
    tt,
  );
  joined = refl;
}

pub logged : IsLogOf all_at_zero (file_of two_channels) two_channels_log
logged = (
  two_channels,
  first ∷ second ∷ [],
  record {
    file = file-is;
    taken = taken;
    printed = two-channels;
    spelled = logs_join (first ∷ []) (second ∷ []) _ _ log_is second-log;
  },
)
