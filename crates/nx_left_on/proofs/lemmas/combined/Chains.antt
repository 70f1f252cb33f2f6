-- What watches one after another put that take sendings together.
use Rattle.std.proofs.Common.{◌≡◌, inl, inr, ℕ, ◌+◌, ◌<◌, ◌≤◌, Bool, true, false, cond, List, [], ◌∷◌, ◌++◌}
use Rattle.std.proofs.Common.{length, refl, sym, ap, ap₂, ◌∙◌, subst, arith, append-nil, append_assoc}
use Rattle.std.proofs.Common.{length-append}
use Rattle.std.specs.List.{All}
use Rattle.std.proofs.lemmas.Bool.{cases_lt}
use Rattle.std.proofs.lemmas.List.{get_or_past}
use Rattle.std.proofs.lemmas.List.Elements.{All-append, All-cons, All-head, All-nil, All-tail}
use Rattle.std.proofs.lemmas.List.Elements.{All-weaker}
use Rattle.nx_code.specs.Lists.{Begins}
use Rattle.nx_envelope.specs.Identity.{same_identity}
use Rattle.nx_envelope.specs.Message.{MessageView}
use Rattle.nx_envelope.specs.declared.identity.Identity.{Identity}
use Rattle.nx_fec.specs.declared.air_files.channel.Channel.{Channel}
use Rattle.nx_log.specs.Logged.{memory_entries, remembered_on}
use Rattle.nx_memory.specs.Memory.{most_entries, newest_moment, seconds_known}
use Rattle.nx_memory.specs.declared.memories.entry.MemoryEntry.{MemoryEntry}
use Rattle.nx_copies.specs.Events.{Event, Setting, Start, elements_among, first_setting, setting_at, settings}
use Rattle.nx_copies.specs.copies.FoundCopies.{TaggedCopy, tag}
use Rattle.nx_copies.specs.copies.Printing.{copies_of, entry_of}
use Rattle.nx_copies.specs.copies.Shares.{Given, MarkedCopy, Starts, copies_on, share, start_on}
use Rattle.nx_copies.proofs.lemmas.channels.Shares.{copies_on-append, to_end-on}
use Rattle.nx_combine.specs.CombinedPrinting.{combined, if_printed_combined}
use Rattle.nx_combine.specs.private.CombinedPrinting.{PrintsCombined}
use Rattle.nx_combine.specs.CombinedPrinting.{is_printed_combined}
use Rattle.nx_combine.specs.CopyPositions.{HeardCopy, PlacedCopy, ended_placed, heard_copies}
use Rattle.nx_combine.specs.CopyPositions.{placed_to_end}
use Rattle.nx_combine.specs.private.Families.{combined_copy}
use Rattle.nx_combine.specs.Judging.{Judged, all_copies, all_printed, judged_after}
use Rattle.nx_combine.proofs.lemmas.Once.{in_order, tagged_as}
use Rattle.nx_promises.specs.laws.Together.{IsHeardTogether, IsPrintedWholeOnce, IsThroughWith}
use Rattle.nx_promises.specs.laws.Together.{behind_digit, none_judged}
use Rattle.nx_promises.proofs.lemmas.together.Joint.{whole_so_far, whole_to_end}
use Rattle.nx_receiver.specs.air_file_runs.Listen.{events_on, given_by}
use Rattle.nx_station.specs.reception.Sendings.{Part}
use Rattle.nx_sync.specs.Locks.{Lock, Now}
use Rattle.nx_watch.specs.Start.{remembered_at}
use Rattle.nx_watch.specs.Watch.{StandsForEntries, all_saved_at, moments_at}
use Rattle.nx_left_on.specs.Chain.{ClocksAreNear, Ending, IsChainBy, PrintOfBy, PutAll, PutsBy}
use Rattle.nx_left_on.specs.Chain.{Watch, all_put, answered, events_in, lines_of, stopped}
use Rattle.nx_left_on.specs.Chain.{stopped_closing}
use Rattle.nx_left_on.specs.Together.{IsKeptWhole, IsOver, StandsLast}
use Rattle.nx_left_on.proofs.lemmas.Acting.{acting-act}
use Rattle.nx_left_on.proofs.lemmas.chains.Chains.{entries-append, entries_on, kept-append, known-is}
use Rattle.nx_receiver.proofs.lemmas.chain.Moments.{newest-before}
use Rattle.nx_left_on.proofs.lemmas.chains.Links.{copies_of-append, none-parts}
use Rattle.nx_left_on.proofs.lemmas.combined.Again.{over-more, printed-over}
use Rattle.nx_left_on.proofs.lemmas.combined.Named.{same_back}
use Rattle.nx_left_on.proofs.lemmas.combined.Whole.{stands-whole, to_end-climbs}
use Rattle.nx_left_on.proofs.lemmas.entries.Climbing.{Rise, lines-rise}
use Rattle.nx_left_on.proofs.lemmas.entries.Keeping.{all-kept, all-other}
use Rattle.nx_left_on.proofs.lemmas.entries.Staying.{IsBehind, Stands, stands-newest, stands-remembered}
use Rattle.nx_left_on.proofs.lemmas.shortened.Heard.{all-late}
use Rattle.nx_copies.proofs.lemmas.printing.Laws.{all-front}
use Rattle.nx_copies.proofs.lemmas.once.Repeats.{bears}

-- ---- one watch

-- what is printed of a channel
record IsPrintedOn (start : Start) (events : List Event) (copies : List TaggedCopy) : Type 0 where
  found : List Bool → List Lock → Now → List PlacedCopy
  prints : PrintsCombined found start events copies

printed-on : (ending : Ending) (starts : Starts) (given : List Given) (copies : List MarkedCopy)
    (channel : Channel) → PrintOfBy combined ending starts given copies
    → IsPrintedOn (start_on starts channel) (share channel given) (copies_on channel copies)
printed-on stopped starts given copies channel h =
    record { found = ended_placed; prints = h.each channel }
printed-on answered starts given copies channel h = record {
  found = placed_to_end;
  prints = to_end-on {printing = combined} starts given copies channel h;
}
printed-on stopped_closing starts given copies channel h = record {
  found = placed_to_end;
  prints = to_end-on {printing = combined} starts given copies channel h;
}

-- no copy that is printed has a moment before that at which the watch started
setting-low : (first : Setting) (events : List Event) (place : ℕ) → Rise first.moment events
    → first.moment ≤ (setting_at first events place).moment
setting-low first events place rise =
    let low : first.moment ≤ first.moment = omega arith in
    elim (cases_lt place (length (settings first events))) [
      | inl within ↦ all-late first.moment first events low rise place first within
      | inr past ↦
          omega (
            arith,
            ap (λ (s : Setting). s.moment) (get_or_past (settings first events) place first past),
          )
    ]

abbrev IsLow : ℕ → TaggedCopy → Type 0
IsLow m copy = m ≤ copy.moment

heard-low : (first : Setting) (events : List Event) (copies : List PlacedCopy)
    → Rise first.moment events
    → All (λ (h : HeardCopy). IsLow first.moment h.copy) (heard_copies first events copies)
unfolding heard_copies tag
heard-low first events [] rise = All-nil (λ (h : HeardCopy). IsLow first.moment h.copy)
heard-low first events (placed ∷ copies) rise =
    let head : HeardCopy = record {
      copy = tag (setting_at first events placed.found.place) placed.found;
      positions = placed.positions;
    } in
    All-cons (λ (h : HeardCopy). IsLow first.moment h.copy) head
    (heard_copies first events copies)
    (setting-low first events placed.found.place rise) (heard-low first events copies rise)

printed-low : (m : ℕ) (so_far : Judged) (heard : List HeardCopy)
    → All (λ (h : HeardCopy). IsLow m h.copy) heard
    → All (IsLow m) (all_copies (all_printed so_far heard))
unfolding if_printed_combined
printed-low m so_far [] low = All-nil (IsLow m)
printed-low m so_far (next ∷ heard) low =
    let one = combined_copy so_far.families next in
    let rest = printed-low m (judged_after so_far next) heard
    (All-tail (λ (h : HeardCopy). IsLow m h.copy) next heard low) in
    let here = All-head (λ (h : HeardCopy). IsLow m h.copy) next heard low in
    elim (is_printed_combined so_far.entries so_far.printed one) as (λ (b : Bool).
    All (IsLow m)
    (all_copies (cond b (one ∷ []) [] ++ all_printed (judged_after so_far next) heard))) [
      | true ↦
          All-cons (IsLow m) one.copy (all_copies (all_printed (judged_after so_far next) heard))
          (omega (arith, here, (tagged_as so_far.families next).moment)) rest
      | false ↦ rest
    ]

all-low : (start : Start) (events : List Event) (copies : List TaggedCopy)
    → Rise start.moment events → IsPrintedOn start events copies
    → All (IsLow start.moment) copies
all-low start events copies rise h =
    let p = h.prints in
    let heard = heard_copies (first_setting start) events
    (h.found (elements_among events) p.locks p.now) in
    subst (All (IsLow start.moment))
    (sym (p.printed ∙ sym (ap all_copies (in_order (none_judged start) heard))))
    (printed-low start.moment (none_judged start) heard
    (heard-low (first_setting start) events (h.found (elements_among events) p.locks p.now) rise))

-- ---- a message heard together

module _ (log : List MarkedCopy) (watch : Watch) (puts : PutsBy combined log watch)
    (channel : Channel) (parts : List Part) (message : MessageView) (numbers : List ℕ) where
  -- what it put, where it answered, is all that is printed to the end
  prints-all : watch.ending ≡ answered
      → PrintsCombined placed_to_end (start_on watch.starts channel)
      (events_on channel (lines_of watch)) (copies_on channel watch.put)
  prints-all is =
      let all : PrintOfBy combined answered watch.starts (given_by (lines_of watch)) puts.printed =
      subst (λ (e : Ending). PrintOfBy combined e watch.starts (given_by (lines_of watch))
      puts.printed) is puts.prints in
      let put : PutAll answered watch.more puts.printed watch.put =
      subst (λ (e : Ending). PutAll e watch.more puts.printed watch.put) is puts.all in
      subst (λ those. PrintsCombined placed_to_end (start_on watch.starts channel)
      (events_on channel (lines_of watch)) (copies_on channel those)) (sym put.1)
      (to_end-on {printing = combined} watch.starts (given_by (lines_of watch)) puts.printed channel
      all)

  pub whole-answered : watch.ending ≡ answered
      → (heard : IsHeardTogether placed_to_end (start_on watch.starts channel)
      (events_in channel watch) parts message numbers)
      → (came : IsThroughWith (behind_digit numbers) message.identity (heard.first ∷ heard.later))
      → IsPrintedWholeOnce message (start_on watch.starts channel)
      (heard.before ++ (came.up_to ++ came.one ∷ [])) came.rest (copies_on channel watch.put)
  whole-answered is heard came =
      whole_to_end (start_on watch.starts channel) (events_in channel watch) parts message numbers
      heard came (copies_on channel watch.put) (prints-all is)

  -- so its entry stands last of its identity
  pub whole-last : watch.ending ≡ answered
      → (heard : IsHeardTogether placed_to_end (start_on watch.starts channel)
      (events_in channel watch) parts message numbers)
      → (came : IsThroughWith (behind_digit numbers) message.identity (heard.first ∷ heard.later))
      → (entry : MemoryEntry) × (entry.identity ≡ message.identity)
      × StandsLast channel (log ++ watch.put) entry
  whole-last is heard came =
      let rise = lines-rise channel watch.starts.moment (lines_of watch)
      (acting-act (moments_at watch.moment watch.starts) puts.said (lines_of watch) puts.acted) in
      stands-whole channel log watch.put message (start_on watch.starts channel)
      (heard.before ++ (came.up_to ++ came.one ∷ [])) came.rest watch.starts.moment heard.numbered
      (to_end-climbs (start_on watch.starts channel) (events_in channel watch)
      (copies_on channel watch.put) rise (prints-all is))
      (whole-answered is heard came)

  -- a crash may come behind the lines behind which it read on
  pub whole-surely :
      (heard : IsHeardTogether ended_placed (start_on watch.starts channel)
      (events_on channel watch.sure) parts message numbers)
      → (came : IsThroughWith (behind_digit numbers) message.identity (heard.first ∷ heard.later))
      → (surely : List TaggedCopy) × Begins surely (copies_on channel watch.put)
      × IsPrintedWholeOnce message (start_on watch.starts channel)
      (heard.before ++ (came.up_to ++ came.one ∷ [])) came.rest surely
  whole-surely heard came = (
    copies_on channel puts.surely,
    (
      copies_on channel puts.least.0,
      ap (copies_on channel) puts.least.1
          ∙ copies_on-append channel puts.surely puts.least.0,
    ),
    whole_so_far (start_on watch.starts channel) (events_on channel watch.sure) parts message
        numbers heard came (copies_on channel puts.surely) (puts.in_turn.each channel),
  )

-- ---- what a chain puts

pub by-last-stands : (log : List MarkedCopy) (watches : List Watch) (last : Watch)
    → IsChainBy combined log (watches ++ last ∷ [])
    → StandsForEntries (log ++ all_put (watches ++ last ∷ [])) last.file
by-last-stands log [] last chain =
    subst (λ put. StandsForEntries (log ++ put) last.file) (sym (append-nil last.put))
    chain.0.stands
by-last-stands log (watch ∷ watches) last chain =
    subst (λ entries. StandsForEntries entries last.file)
    (append_assoc log watch.put (all_put (watches ++ last ∷ [])))
    (by-last-stands (log ++ watch.put) watches last chain.1)

pub by-chain-at : (log : List MarkedCopy) (before after : List Watch) (watch : Watch)
    → IsChainBy combined log (before ++ watch ∷ after)
    → PutsBy combined (log ++ all_put before) watch
by-chain-at log [] after watch chain =
    subst (λ entries. PutsBy combined entries watch) (sym (append-nil log)) chain.0
by-chain-at log (one ∷ before) after watch chain =
    subst (λ entries. PutsBy combined entries watch) (append_assoc log one.put (all_put before))
    (by-chain-at (log ++ one.put) before after watch chain.1)

-- ---- a message that stands there already

-- of two lists, one behind the other, an element stands in the first or in the second
data StandsIn (front back earlier later : List TaggedCopy) (copy : TaggedCopy) : Type 0 where
  in_front : (rest : List TaggedCopy) → front ≡ earlier ++ copy ∷ rest
      → StandsIn front back earlier later copy
  in_back : (rest : List TaggedCopy) → earlier ≡ front ++ rest → back ≡ rest ++ copy ∷ later
      → StandsIn front back earlier later copy

stands-in : (front back earlier later : List TaggedCopy) (copy : TaggedCopy)
    → front ++ back ≡ earlier ++ copy ∷ later → StandsIn front back earlier later copy
stands-in [] back earlier later copy e = in_back earlier refl e
stands-in (x ∷ front) back [] later copy e =
    let head : x ≡ copy = cc in
    in_front front (ap (λ c. c ∷ front) head)
stands-in (x ∷ front) back (y ∷ earlier) later copy e =
    let head : x ≡ y = cc in
    let tail : front ++ back ≡ earlier ++ copy ∷ later = cc in
    more (stands-in front back earlier later copy tail) head
  where
    more : StandsIn front back earlier later copy → x ≡ y
        → StandsIn (x ∷ front) back (y ∷ earlier) later copy
    more (in_front rest is) head =
        in_front rest (ap₂ (λ c cs. c ∷ cs) head is)
    more (in_back rest is behind) head =
        in_back rest (ap₂ (λ c cs. c ∷ cs) (sym head) is) behind

module _ (channel : Channel) (identity : Identity) (entry : MemoryEntry)
    (numbered : 0 < identity.number) (named : entry.identity ≡ identity) where
  -- the entry, where a watch starts
  record IsAtStart (log : List MarkedCopy) (watch : Watch) (count : ℕ) : Type 0 where
    front : List MemoryEntry
    behind : List MemoryEntry
    whole : watch.starts.entries channel ≡ front ++ entry ∷ behind
    few : length behind ≤ count
    low : entry.moment ≤ watch.starts.moment

  module _ (log : List MarkedCopy) (watch : Watch) (puts : PutsBy combined log watch)
      (near : newest_moment (remembered_on channel log) < watch.moment + seconds_known)
      (s : StandsLast channel log entry) where
    start-is : watch.starts.entries channel
        ≡ remembered_at watch.moment (remembered_on channel log)
    start-is =
        ap (λ (s : Starts). s.entries channel) puts.begins ∙ known-is watch.moment log channel

    newest-start : newest_moment (watch.starts.entries channel) ≤ watch.starts.moment
    newest-start =
        subst (λ (s : Starts). newest_moment (s.entries channel) ≤ s.moment) (sym puts.begins)
        (newest-before (all_saved_at watch.moment log) channel)

    all-behind : All (IsBehind entry) s.behind
    all-behind k d lt = record { apart = s.others k d lt; late = s.late k d lt }

    at-start : length s.behind < most_entries → IsAtStart log watch (length s.behind)
    at-start few =
        let stands : Stands entry (length s.behind) (entries_on channel log) = record {
          front = s.front;
          behind = s.behind;
          whole = s.whole;
          all = all-behind;
          few = omega arith;
        } in
        let there = stands-remembered watch.moment entry (length s.behind)
        (entries_on channel log) few near stands in
        let newest = stands-newest entry (length s.behind)
        (remembered_at watch.moment (remembered_on channel log)) there in
        record {
          front = there.front;
          behind = there.behind;
          whole = start-is ∙ there.whole;
          few = there.few;
          low = omega (arith, newest, ap newest_moment start-is, newest-start);
        }

    abbrev start : Start
    start = start_on watch.starts channel

    on-channel : IsPrintedOn start (events_in channel watch) (copies_on channel puts.printed)
    on-channel =
        printed-on watch.ending watch.starts (given_by (lines_of watch)) puts.printed channel
        puts.prints

    more : List TaggedCopy
    more = copies_on channel puts.most.0

    begins : copies_on channel puts.printed ≡ copies_on channel watch.put ++ more
    unfolding more
    begins =
        ap (copies_on channel) puts.most.1
        ∙ copies_on-append channel watch.put puts.most.0

    pub watch-over : (earlier later : List TaggedCopy) (copy : TaggedCopy)
        → length s.behind < most_entries
        → copies_on channel watch.put ≡ earlier ++ copy ∷ later → copy.identity ≡ identity
        → copies_of identity earlier ≡ []
        → IsOver entry (length s.behind + length (memory_entries earlier)) copy
    watch-over earlier later copy few e is first =
        let at = at-start few in
        let p = on-channel.prints in
        let split : copies_on channel puts.printed ≡ earlier ++ copy ∷ (later ++ more) =
        begins ∙ ap (λ l. l ++ more) e ∙ append_assoc earlier (copy ∷ later) more in
        over-more entry (length at.behind + length (memory_entries earlier))
        (length s.behind + length (memory_entries earlier)) copy (omega (arith, at.few))
        (printed-over start
        (heard_copies (first_setting start) (events_in channel watch)
        (on-channel.found (elements_among (events_in channel watch)) p.locks p.now))
        (copies_on channel puts.printed) earlier (later ++ more) copy identity at.front at.behind
        entry p.printed at.whole named numbered split is first)

    put-low : length s.behind < most_entries
        → All (λ copy. entry.moment ≤ copy.moment) (copies_on channel watch.put)
    put-low few =
        let at = at-start few in
        let rise = lines-rise channel watch.starts.moment (lines_of watch)
        (acting-act (moments_at watch.moment watch.starts) puts.said (lines_of watch) puts.acted) in
        let all = subst (All (IsLow watch.starts.moment)) begins
        (all-low start (events_in channel watch) (copies_on channel puts.printed) rise
        on-channel) in
        All-weaker (IsLow watch.starts.moment) (IsLow entry.moment)
        (λ copy low. omega (arith, low, at.low)) (copies_on channel watch.put)
        (all-front (IsLow watch.starts.moment) (copies_on channel watch.put) more all)

    -- where it put none of the identity, the entry stands so again
    stands-next : length s.behind < most_entries
        → copies_of identity (copies_on channel watch.put) ≡ []
        → StandsLast channel (log ++ watch.put) entry
    stands-next few none =
        let put = copies_on channel watch.put in
        let apart : MemoryEntry → Type 0 =
        λ (other : MemoryEntry). same_identity entry.identity other.identity ≡ false in
        let other-is : (copy : TaggedCopy) → bears identity copy ≡ false
        → same_identity entry.identity copy.identity ≡ false =
        λ copy isnt. ap (λ (i : Identity). same_identity i copy.identity) named
        ∙ same_back identity copy.identity isnt in
        record {
          front = s.front;
          behind = s.behind ++ memory_entries put;
          whole = entries-append channel log watch.put
              ∙ ap (λ es. es ++ memory_entries put) s.whole
              ∙ append_assoc s.front (entry ∷ s.behind) (memory_entries put);
          others = All-append apart s.behind (memory_entries put) s.others
              (all-kept apart put
              (All-weaker (λ copy. bears identity copy ≡ false) (λ copy. apart (entry_of copy))
              other-is put (all-other identity put none)));
          late = All-append (λ other. entry.moment ≤ other.moment) s.behind (memory_entries put)
              s.late
              (all-kept (λ other. entry.moment ≤ other.moment) put (put-low few));
        }

  -- what holds of the first copy of the identity that is put behind this
  abbrev pub AreOver : List MarkedCopy → List Watch → Type 0
  AreOver log watches =
      IsChainBy combined log watches → ClocksAreNear channel log watches
      → (s : StandsLast channel log entry) → (earlier later : List TaggedCopy) (copy : TaggedCopy)
      → copies_on channel (all_put watches) ≡ earlier ++ copy ∷ later → copy.identity ≡ identity
      → copies_of identity earlier ≡ []
      → IsOver entry (length s.behind + length (memory_entries earlier)) copy

  next-over : (log : List MarkedCopy) (watch : Watch) (watches : List Watch)
      → AreOver (log ++ watch.put) watches → AreOver log (watch ∷ watches)
  unfolding memory_entries stands-next
  next-over log watch watches rest chain near s earlier later copy e is first =
      elim (cases_lt (length s.behind) most_entries) [
        | inl few ↦
            by few
            (stands-in (copies_on channel watch.put) (copies_on channel (all_put watches)) earlier
            later copy (sym (copies_on-append channel watch.put (all_put watches)) ∙ e))
        | inr many ↦ inr (omega (arith, many))
      ]
    where
      close : newest_moment (remembered_on channel log) < watch.moment + seconds_known
      close = omega (arith, near.0)

      by : length s.behind < most_entries
          → StandsIn (copies_on channel watch.put) (copies_on channel (all_put watches)) earlier
          later copy
          → IsOver entry (length s.behind + length (memory_entries earlier)) copy
      by few (in_front after here) =
          watch-over log watch chain.0 close s earlier after copy few here is first
      by few (in_back front here behind) =
          let put = copies_on channel watch.put in
          let parts = none-parts (copies_of identity put) (copies_of identity front)
          (sym (copies_of-append identity put front) ∙ ap (copies_of identity) (sym here) ∙ first)
          in
          let next = stands-next log watch chain.0 close s few parts.0 in
          let over = rest chain.1 near.1 next front later copy behind is parts.1 in
          let kept : length (memory_entries earlier)
          ≡ length (memory_entries put) + length (memory_entries front) =
          ap (λ cs. length (memory_entries cs)) here ∙ ap (λ es. length es) (kept-append put front)
          ∙ length-append (memory_entries put) (memory_entries front) in
          over-more entry (length (s.behind ++ memory_entries put) + length (memory_entries front))
          (length s.behind + length (memory_entries earlier)) copy
          (omega (arith, kept, length-append s.behind (memory_entries put))) over

  pub chain-over : (log : List MarkedCopy) (watches : List Watch) → AreOver log watches
  chain-over log [] chain near s [] later copy e is first = cc
  chain-over log [] chain near s (x ∷ earlier) later copy e is first = cc
  chain-over log (watch ∷ watches) chain near s earlier later copy e is first =
      next-over log watch watches (chain-over (log ++ watch.put) watches) chain near s earlier later
      copy e is first

-- ---- both, of one watch among others

by-chain-behind : (log : List MarkedCopy) (before after : List Watch) (watch : Watch)
    → IsChainBy combined log (before ++ watch ∷ after)
    → IsChainBy combined (log ++ all_put before ++ watch.put) after
by-chain-behind log [] after watch chain =
    subst (λ entries. IsChainBy combined (entries ++ watch.put) after) (sym (append-nil log))
    chain.1
by-chain-behind log (one ∷ before) after watch chain =
    subst (λ entries. IsChainBy combined (entries ++ watch.put) after)
    (append_assoc log one.put (all_put before))
    (by-chain-behind (log ++ one.put) before after watch chain.1)

pub chain-whole : (log : List MarkedCopy) (before after : List Watch) (watch : Watch)
    → IsChainBy combined log (before ++ watch ∷ after)
    → (channel : Channel) (parts : List Part) (message : MessageView) (numbers : List ℕ)
    → IsKeptWhole (log ++ all_put before) watch after channel parts message numbers
chain-whole log before after watch chain channel parts message numbers =
    let puts = by-chain-at log before after watch chain in
    let front = log ++ all_put before in
    record {
      answered_whole = λ is heard came.
          let last = whole-last front watch puts channel parts message numbers is heard came in (
            whole-answered front watch puts channel parts message numbers is heard came,
            record {
              entry = last.0;
              named = last.1;
              last = last.2;
              not_again = λ near earlier later copy e named first.
                  chain-over channel message.identity last.0 heard.numbered last.1
                  (front ++ watch.put) after (by-chain-behind log before after watch chain) near
                  last.2 earlier later copy e named first;
            },
          );
      surely_whole = λ heard came.
          whole-surely front watch puts channel parts message numbers heard came;
    }
