-- What a call says of its file makes it a watch of a chain.
use Rattle.std.proofs.Common.{◌≡◌, ◌⊎◌, inl, inr, ℕ, ◌+◌, ◌-◌, ◌≤◌, List, [], ◌∷◌, ◌++◌, length, Option}
use Rattle.std.proofs.Common.{true, false, None, Some, nat_le, cond, option_to_list, refl, sym, ap, ◌∙◌, subst, arith, append-nil, append_assoc}
use Rattle.std.specs.Prelude.{take, drop}
use Rattle.std.proofs.Math.Seq.{take-append-add}
use Rattle.std.proofs.lemmas.List.{append_cancel_left, map-append, take-append-drop}
use Rattle.nx_code.specs.Lists.{Begins}
use Rattle.nx_fec.specs.air_files.AirFile.{Line, accept_station, accept_subject, elements, moment}
use Rattle.nx_fec.specs.air_files.AirFile.{refuse_station, refuse_subject}
use Rattle.nx_envelope.specs.Moment.{last_moment}
use Rattle.nx_fec.specs.declared.air_files.channel.Channel.{Channel}
use Rattle.nx_receiver.specs.air_file_runs.Listen.{given_by, given_of}
use Rattle.nx_copies.specs.copies.FoundCopies.{FoundCopy}
use Rattle.nx_copies.specs.copies.InTurn.{PrintsInTurn, PrintsInTurnBy}
use Rattle.nx_copies.specs.copies.Log.{IsPrinting, Printing, plain}
use Rattle.nx_copies.specs.copies.Shares.{MarkedCopy, Starts}
use Rattle.nx_copies.proofs.lemmas.channels.Added.{nothing-given_by}
use Rattle.nx_copies.proofs.lemmas.printing.Laws.{plain-laws}
use Rattle.nx_copies.proofs.lemmas.channels.One.{one-in_turn_by}
use Rattle.nx_copies.proofs.lemmas.channels.Some.{later-some_by}
use Rattle.nx_watch.specs.Acting.{acting_behind, acting_lines, acts, moment_said, moments_said}
use Rattle.nx_watch.specs.Acting.{with_start}
use Rattle.nx_watch.specs.declared.lines.line_effects.StartMoments.{StartMoments}
use Rattle.nx_watch.specs.Watch.{PrintsUntil, PrintsUntilBy, StandsForEntries, Stop, at_end, back, moments_at, starts_at}
use Rattle.nx_watch.specs.Watch.{unread, unwritten}
use Rattle.nx_left_on.specs.Chain.{Ending, HadRead, HadReadBy, acting_at, IsLeftBy, IsLeftPrinting, PrintOfBy, PutAll, Watch}
use Rattle.nx_left_on.specs.Chain.{answered, kept_all_at, kept_some_at, stopped, stopped_closing, with_copies}
use Rattle.nx_left_on.proofs.lemmas.chains.Found.{begins-itself, begins-more}

-- ---- beginnings

-- the lines that act of a beginning of some lines begin those of all
acting-append : (first : ℕ) (moments : List ℕ) (front later : List (Option Line))
    → acting_behind first moments (front ++ later)
    ≡ acting_behind first moments front
    ++ acting_behind first (moments ++ moments_said front) later
acting-append first moments [] later =
    ap (λ ms. acting_behind first ms later) (sym (append-nil moments))
acting-append first moments (line ∷ front) later =
    let here = cond (acts first moments line) (option_to_list line) [] in
    let next = moments ++ moment_said line in
    ap (λ l. here ++ l)
    (acting-append first next front later
    ∙ ap (λ ms. acting_behind first next front ++ acting_behind first ms later)
    (append_assoc moments (moment_said line) (moments_said front)))
    ∙ sym (append_assoc here (acting_behind first next front) _)

one-before : {A : Type 0} (x : A) (front all : List A) → Begins front all
    → Begins (x ∷ front) (x ∷ all)
one-before x front all b = (b.0, ap (λ l. x ∷ l) b.1)

-- with the moment that a watch sets too
with-begins : (start : StartMoments) (front later : List (Option Line))
    → Begins (with_start start front) (with_start start (front ++ later))
with-begins start [] later = (with_start start later, refl)
with-begins start (Some (elements mark bits) ∷ front) later = (later, refl)
with-begins start (Some (moment n) ∷ front) later =
    elim (nat_le n last_moment) as (λ b. Begins
    (Some (moment n) ∷ cond b front (with_start start front))
    (Some (moment n) ∷ cond b (front ++ later) (with_start start (front ++ later)))) [
      | true ↦ (later, refl)
      | false ↦ one-before (Some (moment n)) (with_start start front)
          (with_start start (front ++ later)) (with-begins start front later)
    ]
with-begins start (None ∷ front) later = one-before None (with_start start front)
    (with_start start (front ++ later)) (with-begins start front later)
with-begins start (Some (refuse_station mark letter) ∷ front) later =
    one-before (Some (refuse_station mark letter)) (with_start start front)
    (with_start start (front ++ later)) (with-begins start front later)
with-begins start (Some (accept_station mark letter) ∷ front) later =
    one-before (Some (accept_station mark letter)) (with_start start front)
    (with_start start (front ++ later)) (with-begins start front later)
with-begins start (Some (refuse_subject mark letter) ∷ front) later =
    one-before (Some (refuse_subject mark letter)) (with_start start front)
    (with_start start (front ++ later)) (with-begins start front later)
with-begins start (Some (accept_subject mark letter) ∷ front) later =
    one-before (Some (accept_subject mark letter)) (with_start start front)
    (with_start start (front ++ later)) (with-begins start front later)

pub acting-begins : (start : StartMoments) (by_then lines : List (Option Line))
    → Begins by_then lines → Begins (acting_lines start by_then) (acting_lines start lines)
acting-begins start by_then lines b =
    let first = start.newest in
    let more = with-begins start by_then b.0 in (
      acting_behind first (moments_said (with_start start by_then)) more.0,
      ap (acting_lines start) b.1 ∙ ap (acting_behind first []) more.1
          ∙ acting-append first [] (with_start start by_then) more.0,
    )

begins-take : {A : Type 0} (front all : List A) (count : ℕ) → Begins front all
    → length front ≤ count → Begins front (take count all)
begins-take front all count b le =
    let sum : count ≡ length front + (count - length front) = omega (arith, le) in (
      take (count - length front) b.0,
      ap (take count) b.1 ∙ ap (λ n. take n (front ++ b.0)) sum
          ∙ take-append-add front b.0 (count - length front),
    )

-- ---- watches

-- a watch by what counts of it; which copies were found and judged is told by that
abbrev pub watch_with : ℕ → List MarkedCopy → List Line → List Line → Ending → List MarkedCopy
    → List ℕ → Watch
watch_with now entries sure more ending put file = record {
  moment = now;
  sure = sure;
  more = more;
  ending = ending;
  starts = starts_at now entries;
  found = λ channel. [];
  judged = λ channel. [];
  put = put;
  file = file;
}

module _ (printing : Printing) (laws : IsPrinting printing) where
  -- what lines print in turn begins what they and more print in turn
  pub turn-begins_by : (starts : Starts) (front more : List Line) (surely copies : List MarkedCopy)
      → PrintsInTurnBy printing starts (given_by front) surely
      → PrintsInTurnBy printing starts (given_by (front ++ more)) copies → Begins surely copies
  turn-begins_by starts front more surely copies h k =
      let on = later-some_by printing laws starts (given_by front) (given_by more) surely h in (
        on.more,
        one-in_turn_by printing laws starts (given_by (front ++ more)) copies (surely ++ on.more) k
            (subst (λ given. PrintsInTurnBy printing starts given (surely ++ on.more))
            (sym (map-append given_of front more)) on.in_turn),
      )

  -- and until a watch stops
  until-begins : (stop : Stop) (starts : Starts) (front more : List Line)
      (surely copies : List MarkedCopy) → PrintsInTurnBy printing starts (given_by front) surely
      → PrintsUntilBy printing stop starts (given_by (front ++ more)) copies → Begins surely copies
  until-begins at_end starts front more surely copies h k =
      begins-more surely k.ended copies (turn-begins_by starts front more surely k.ended h
      k.in_turn)
      (_, k.whole)
  until-begins (back line last given) starts front more surely copies h k =
      begins-more surely k.ended copies (turn-begins_by starts front more surely k.ended h
      k.in_turn)
      (_, k.whole)
  until-begins unread starts front more surely copies h k =
      turn-begins_by starts front more surely copies h k
  until-begins unwritten starts front more surely copies h k =
      turn-begins_by starts front more surely copies h k

  module _ (now : ℕ) (entries copies : List MarkedCopy) (lines : List (Option Line)) (file : List ℕ)
    where
      abbrev starts : Starts
      starts = starts_at now entries

      abbrev acting : List Line
      acting = acting_at now entries lines

      -- the lines with none behind them
      print-all : (ending : Ending) → PrintOfBy printing ending starts (given_by acting) copies
          → PrintOfBy printing ending starts (given_by (acting ++ [])) copies
      print-all ending h =
          subst (λ all. PrintOfBy printing ending starts (given_by all) copies) (sym (append-nil
          acting)) h

      -- all copies are kept, and those that stood open were closed, or weren't
      keeps-closed : PrintOfBy printing answered starts (given_by acting) copies
          → StandsForEntries (entries ++ copies) file
          → IsLeftPrinting printing now entries answered acting acting copies file
      keeps-closed h stands = record {
        watch = watch_with now entries acting [] answered copies file;
        started = refl;
        ended = refl;
        took = append-nil acting;
        read_on = refl;
        kept = refl;
        left = refl;
        puts = record {
          begins = refl;
          said = lines;
          acted = append-nil acting;
          printed = copies;
          prints = print-all answered h;
          most = begins-itself copies;
          surely = h.ended;
          in_turn = h.in_turn;
          least = (_, h.whole);
          all = (refl, refl);
          stands = stands;
        };
      }

      keeps-open : PrintOfBy printing stopped starts (given_by acting) copies
          → StandsForEntries (entries ++ copies) file
          → IsLeftPrinting printing now entries stopped acting acting copies file
      keeps-open h stands = record {
        watch = watch_with now entries acting [] stopped copies file;
        started = refl;
        ended = refl;
        took = append-nil acting;
        read_on = refl;
        kept = refl;
        left = refl;
        puts = record {
          begins = refl;
          said = lines;
          acted = append-nil acting;
          printed = copies;
          prints = print-all stopped h;
          most = begins-itself copies;
          surely = copies;
          in_turn = h;
          least = begins-itself copies;
          all = tt;
          stands = stands;
        };
      }

      pub keeps-all_by : (stop : Stop) → PrintsUntilBy printing stop starts (given_by acting) copies
          → StandsForEntries (entries ++ copies) file
          → IsLeftPrinting printing now entries (kept_all_at stop) acting acting copies file
      keeps-all_by at_end h stands = keeps-closed h stands
      keeps-all_by (back line last given) h stands = keeps-closed h stands
      keeps-all_by unread h stands = keeps-open h stands
      keeps-all_by unwritten h stands = keeps-open h stands

  -- So many copies are kept, and at least all that is printed in turn of the sure lines, which
  -- begin those that act.
  record KeepsSure (now : ℕ) (entries copies : List MarkedCopy) (lines : List (Option Line))
      (sure more : List Line) (count : ℕ) (file : List ℕ)
      : Type 0 where
    all : sure ++ more ≡ acting_at now entries lines
    surely : List MarkedCopy
    in_turn : PrintsInTurnBy printing (starts_at now entries) (given_by sure) surely
    least : length surely ≤ count
    stands : StandsForEntries (entries ++ take count copies) file

  module _ (now : ℕ) (entries copies : List MarkedCopy) (lines : List (Option Line))
      (sure more : List Line) (count : ℕ) (file : List ℕ)
      (k : KeepsSure now entries copies lines sure more count file)
    where
      abbrev starting : Starts
      starting = starts_at now entries

      -- it ended so, with copies closed or not
      keeps-ending : (ending : Ending) → ((all put : List MarkedCopy) → PutAll ending more all put)
          → PrintOfBy printing ending starting (given_by (sure ++ more)) copies → Begins k.surely
          copies
          → IsLeftPrinting printing now entries ending (acting_at now entries lines) sure (take
          count copies) file
      keeps-ending ending all h b = record {
        watch = watch_with now entries sure more ending (take count copies) file;
        started = refl;
        ended = refl;
        took = k.all;
        read_on = refl;
        kept = refl;
        left = refl;
        puts = record {
          begins = refl;
          said = lines;
          acted = k.all;
          printed = copies;
          prints = h;
          most = (drop count copies, sym (take-append-drop count copies));
          surely = k.surely;
          in_turn = k.in_turn;
          least = begins-take k.surely copies count b k.least;
          all = all copies (take count copies);
          stands = k.stands;
        };
      }

      keeps-until : (stop : Stop)
          → PrintsUntilBy printing stop starting (given_by (sure ++ more)) copies
          → Begins k.surely copies
          → IsLeftPrinting printing now entries (kept_some_at stop)
          (acting_at now entries lines) sure (take count copies) file
      keeps-until at_end h b = keeps-ending stopped_closing (λ all put. tt) h b
      keeps-until (back line last given) h b = keeps-ending stopped_closing (λ all put. tt) h b
      keeps-until unread h b = keeps-ending stopped (λ all put. tt) h b
      keeps-until unwritten h b = keeps-ending stopped (λ all put. tt) h b

      keeps-sure : (stop : Stop)
          → PrintsUntilBy printing stop starting (given_by (acting_at now entries lines)) copies
          → IsLeftPrinting printing now entries (kept_some_at stop) (acting_at now entries lines)
          sure
          (take count copies) file
      keeps-sure stop h =
          let until = subst (λ all. PrintsUntilBy printing stop starting (given_by all) copies) (sym
          k.all) h in
          keeps-until stop until
          (until-begins stop starting sure more k.surely copies k.in_turn until)

  -- so many of them are kept, and it is sure of no line
  pub keeps-some_by : (now : ℕ) (entries copies : List MarkedCopy) (lines : List (Option Line))
      (file : List ℕ) (count : ℕ) (stop : Stop)
      → PrintsUntilBy printing stop (starts_at now entries)
      (given_by (acting_at now entries lines)) copies
      → StandsForEntries (entries ++ take count copies) file
      → IsLeftPrinting printing now entries (kept_some_at stop) (acting_at now entries lines) []
      (take count copies) file
  keeps-some_by now entries copies lines file count stop h stands =
      keeps-sure now entries copies lines [] (acting_at now entries lines)
      count file (record {
        all = refl;
        surely = [];
        in_turn = nothing-given_by printing laws (starts_at now entries);
        least = omega arith;
        stands = stands;
      }) stop h

  -- it is sure of the lines that had been read whole
  pub keeps-behind_by : (now : ℕ) (entries copies : List MarkedCopy)
      (lines by_then : List (Option Line)) (file : List ℕ) (count : ℕ) (stop : Stop)
      → PrintsUntilBy printing stop (starts_at now entries) (given_by (acting_at now entries lines))
      copies
      → HadReadBy printing now entries lines by_then count
      → StandsForEntries (entries ++ take count copies) file
      → IsLeftPrinting printing now entries (kept_some_at stop) (acting_at now entries lines)
      (acting_at now entries by_then) (take count copies) file
  keeps-behind_by now entries copies lines by_then file count stop h r stands =
      let more = acting-begins (moments_at now (starts_at now entries)) by_then lines r.begins in
      let sure = acting_at now entries by_then in
      keeps-sure now entries copies lines sure more.0 count file (record {
        all = sym more.1;
        surely = r.surely;
        in_turn = r.in_turn;
        least = omega (arith, r.least);
        stands = stands;
      }) stop h

  -- more copies than those are among one more
  one-more : (now : ℕ) (entries : List MarkedCopy) (lines by_then : List (Option Line)) (count : ℕ)
      → HadReadBy printing now entries lines by_then count → HadReadBy printing now entries lines
      by_then (count + 1)
  one-more now entries lines by_then count r = record {
    begins = r.begins;
    surely = r.surely;
    in_turn = r.in_turn;
    least = omega (arith, r.least);
  }

  -- after a fault of the disk so many are kept, or one more
  pub keeps-faulted_by : (now : ℕ) (entries copies : List MarkedCopy)
      (lines by_then : List (Option Line)) (file : List ℕ) (count : ℕ) (stop : Stop)
      → PrintsUntilBy printing stop (starts_at now entries)
      (given_by (acting_at now entries lines)) copies
      → HadReadBy printing now entries lines by_then count
      → (StandsForEntries (entries ++ take count copies) file)
      ⊎ (StandsForEntries (entries ++ take (count + 1) copies) file)
      → (put : List MarkedCopy) × IsLeftPrinting printing now entries (kept_some_at stop)
      (acting_at now entries lines)
      (acting_at now entries by_then) put file
  keeps-faulted_by now entries copies lines by_then file count stop h r (inl stands) = (
    take count copies,
    keeps-behind_by now entries copies lines by_then file count stop h r stands,
  )
  keeps-faulted_by now entries copies lines by_then file count stop h r (inr stands) = (
    take (count + 1) copies,
    keeps-behind_by now entries copies lines by_then file (count + 1) stop h
        (one-more now entries lines by_then count r) stands,
  )

-- ---- where each copy is judged alone

pub keeps-all : (now : ℕ) (entries copies : List MarkedCopy) (lines : List (Option Line))
    (file : List ℕ) (stop : Stop)
    → PrintsUntil stop (starts_at now entries) (given_by (acting_at now entries lines)) copies
    → StandsForEntries (entries ++ copies) file
    → IsLeftBy now entries (kept_all_at stop) (acting_at now entries lines)
    (acting_at now entries lines) copies file
keeps-all = keeps-all_by plain plain-laws

pub keeps-some : (now : ℕ) (entries copies : List MarkedCopy) (lines : List (Option Line))
    (file : List ℕ) (count : ℕ) (stop : Stop)
    → PrintsUntil stop (starts_at now entries) (given_by (acting_at now entries lines)) copies
    → StandsForEntries (entries ++ take count copies) file
    → IsLeftBy now entries (kept_some_at stop) (acting_at now entries lines) []
    (take count copies) file
keeps-some = keeps-some_by plain plain-laws

pub keeps-behind : (now : ℕ) (entries copies : List MarkedCopy)
    (lines by_then : List (Option Line)) (file : List ℕ) (count : ℕ) (stop : Stop)
    → PrintsUntil stop (starts_at now entries) (given_by (acting_at now entries lines)) copies
    → HadRead now entries lines by_then count
    → StandsForEntries (entries ++ take count copies) file
    → IsLeftBy now entries (kept_some_at stop) (acting_at now entries lines)
    (acting_at now entries by_then) (take count copies) file
keeps-behind = keeps-behind_by plain plain-laws

pub keeps-faulted : (now : ℕ) (entries copies : List MarkedCopy)
    (lines by_then : List (Option Line)) (file : List ℕ) (count : ℕ) (stop : Stop)
    → PrintsUntil stop (starts_at now entries) (given_by (acting_at now entries lines)) copies
    → HadRead now entries lines by_then count
    → (StandsForEntries (entries ++ take count copies) file)
    ⊎ (StandsForEntries (entries ++ take (count + 1) copies) file)
    → (put : List MarkedCopy) × IsLeftBy now entries (kept_some_at stop)
    (acting_at now entries lines)
    (acting_at now entries by_then) put file
keeps-faulted = keeps-faulted_by plain plain-laws

-- ---- what is told of a watch makes it one

-- the copies that are found and judged, and what is told
abbrev watch_told : (Channel → List FoundCopy) → (Channel → List FoundCopy) → ℕ → List Line
    → List Line → Ending → Starts → List MarkedCopy → List ℕ → Watch
watch_told found judged now sure more ending starts put file = record {
  moment = now;
  sure = sure;
  more = more;
  ending = ending;
  starts = starts;
  found = found;
  judged = judged;
  put = put;
  file = file;
}

module _ (now : ℕ) (log : List MarkedCopy) (ending : Ending) (lines : List Line)
    (put : List MarkedCopy) (file : List ℕ) (found judged : Channel → List FoundCopy)
    (l : IsLeftBy now log ending lines lines put file)
  where
    abbrev told : ℕ → List Line → List Line → Ending → Starts → List MarkedCopy → List ℕ → Watch
    told = watch_told found judged

    abbrev it : Watch
    it = l.watch

    no-more : it.more ≡ []
    no-more =
        append_cancel_left lines it.more []
        (ap (λ sure. sure ++ it.more) (sym l.read_on) ∙ l.took ∙ sym (append-nil lines))

    -- where it read on behind all its lines
    pub one-told : told now lines [] ending (starts_at now log) put file
        ≡ with_copies l.watch found judged
    one-told =
        sym (ap (λ n. told n it.sure it.more it.ending it.starts it.put it.file) l.started
        ∙ ap (λ sure. told now sure it.more it.ending it.starts it.put it.file) l.read_on
        ∙ ap (λ more. told now lines more it.ending it.starts it.put it.file) no-more
        ∙ ap (λ e. told now lines [] e it.starts it.put it.file) l.ended
        ∙ ap (λ starts. told now lines [] ending starts it.put it.file)
        (l.puts.begins ∙ ap (λ n. starts_at n log) l.started)
        ∙ ap (λ copies. told now lines [] ending (starts_at now log) copies it.file) l.kept
        ∙ ap (λ bytes. told now lines [] ending (starts_at now log) put bytes) l.left)
