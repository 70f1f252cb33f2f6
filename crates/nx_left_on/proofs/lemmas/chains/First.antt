-- The first copy of an identity is put, and no other.
use Rattle.std.proofs.Common.{◌≡◌, ◌+◌, ◌<◌, ◌≤◌, true, false, not, cond, List, [], ◌∷◌, ◌++◌}
use Rattle.std.proofs.Common.{filter, map, refl, sym, ap, ap₂, ◌∙◌, subst, arith, append_assoc}
use Rattle.std.proofs.Common.{append-nil, IsTrue}
use Rattle.std.specs.List.{All}
use Rattle.std.proofs.lemmas.Bool.{and_from, ne_eqb, not_from_false}
use Rattle.std.proofs.lemmas.List.{append_cancel_left}
use Rattle.std.proofs.lemmas.List.Elements.{All-head}
use Rattle.nx_envelope.specs.declared.identity.Identity.{Identity}
use Rattle.nx_envelope.proofs.lemmas.headers.Identities.{same_identity-true}
use Rattle.nx_fec.specs.declared.air_files.channel.Channel.{Channel}
use Rattle.nx_log.specs.Logged.{is_memorable, memory_entries}
use Rattle.nx_memory.specs.Memory.{seconds_known}
use Rattle.nx_memory.specs.declared.memories.entry.MemoryEntry.{MemoryEntry}
use Rattle.nx_copies.specs.copies.FoundCopies.{TaggedCopy}
use Rattle.nx_copies.specs.copies.Printing.{copies_of, entries_after, entries_made, entry_made, entry_of}
use Rattle.nx_copies.specs.copies.Printing.{if_printed, is_good, is_number_00, is_printed, printed_copies}
use Rattle.nx_copies.specs.copies.Shares.{MarkedCopy, copies_on}
use Rattle.nx_copies.proofs.lemmas.channels.Shares.{copies_on-append}
use Rattle.nx_copies.proofs.lemmas.printing.Judging.{entered, unknown}
use Rattle.nx_copies.proofs.lemmas.printing.Logged.{entries_after-append, printed_copies-append}
use Rattle.nx_left_on.specs.Chain.{ClocksAreNear, IsChain, Watch, all_copies, all_put}
use Rattle.nx_left_on.specs.LeftOn.{AreFewOver, IsUnknownOver, JudgedCopy, made_before}
use Rattle.nx_left_on.proofs.lemmas.chains.Chains.{entries-append, entries_on, kept-append, watch-climbs}
use Rattle.nx_left_on.proofs.lemmas.entries.Climbing.{Climbs}
use Rattle.nx_left_on.proofs.lemmas.entries.Keeping.{AllFind, all-climb, all-kept}
use Rattle.nx_left_on.proofs.lemmas.entries.Keeping.{climbs-behind, kept-back, one-first}
use Rattle.nx_left_on.proofs.lemmas.chains.Later.{HasCome, behind-kept, none-later}
use Rattle.nx_left_on.proofs.lemmas.chains.Links.{HasFirst, all-back, chain-back, chain-front, clocks-back}
use Rattle.nx_left_on.proofs.lemmas.chains.Links.{copies_of-append, none-parts, none-put, put-append}
use Rattle.nx_left_on.proofs.lemmas.entries.Staying.{IsBehind}
use Rattle.nx_copies.proofs.lemmas.once.Repeats.{all_printed, before_prints, bears}

-- a copy of the identity comes less than 66 hours after this one
abbrev pub IsRecentTo : Identity → TaggedCopy → TaggedCopy → Type 0
IsRecentTo identity first copy =
    bears identity copy ≡ true → copy.moment < first.moment + seconds_known

made-append : (entries : List MemoryEntry) (front back : List TaggedCopy)
    → entries_made entries (front ++ back)
    ≡ entries_made entries front ++ entries_made (entries_after entries front) back
made-append entries front back =
    append_cancel_left entries (entries_made entries (front ++ back))
    (entries_made entries front ++ entries_made (entries_after entries front) back)
    (entries_after-append entries front back
    ∙ append_assoc entries (entries_made entries front)
    (entries_made (entries_after entries front) back))

-- ---- one copy that is entered

module _ (entries : List MemoryEntry) (copy : TaggedCopy) (copies : List TaggedCopy)
    (shown : is_printed entries copy ≡ true) (good : IsTrue (is_good copy))
    (other : is_number_00 copy ≡ false) where
  enters : entry_made entries copy ≡ entry_of copy ∷ []
  enters = entered entries copy shown good other

  pub made-next : entries_made entries (copy ∷ copies)
      ≡ entry_of copy ∷ entries_made (entries ++ entry_of copy ∷ []) copies
  unfolding entries_made
  made-next = ap (λ made. made ++ entries_made (entries ++ made) copies) enters

  pub printed-next : printed_copies entries (copy ∷ copies)
      ≡ copy ∷ printed_copies (entries ++ entry_of copy ∷ []) copies
  unfolding printed_copies if_printed
  printed-next =
      ap₂ (λ b made. cond b (copy ∷ []) [] ++ printed_copies (entries ++ made) copies) shown enters

  pub kept-next : (more : List TaggedCopy)
      → memory_entries (copy ∷ more) ≡ entry_of copy ∷ memory_entries more
  unfolding memory_entries is_memorable
  kept-next more =
      ap (λ b. map entry_of (cond b (copy ∷ filter is_memorable more) (filter is_memorable more)))
      (and_from (is_good copy) (not (is_number_00 copy)) good (not_from_false _ other))

-- ---- the watch that judges it

module _ (log : List MarkedCopy) (watches : List Watch) (channel : Channel) (identity : Identity)
    (chain : IsChain log watches) (clocks : ClocksAreNear channel log watches)
    (new : IsUnknownOver channel watches identity) (few : AreFewOver channel watches identity)
    (numbered : 0 < identity.number) (f : HasFirst channel watches identity)
    (good : IsTrue (is_good f.at.copy)) (selected : IsTrue f.at.copy.selected)
    (here : All (IsRecentTo identity f.at.copy) f.at.later)
    (after : All (IsRecentTo identity f.at.copy) (all_copies channel f.at.after)) where
  abbrev watch : Watch
  watch = f.at.watch

  abbrev before : List Watch
  before = f.at.before

  abbrev next : List Watch
  next = f.at.after

  abbrev first : TaggedCopy
  first = f.at.copy

  abbrev entry : MemoryEntry
  entry = entry_of first

  -- the entries where the watch starts, where it judges the copy, and behind it
  abbrev known : List MemoryEntry
  known = watch.starts.entries channel

  abbrev so_far : List MemoryEntry
  so_far = entries_after known f.at.earlier

  abbrev made : List MemoryEntry
  made = so_far ++ entry ∷ []

  named : first.identity ≡ identity
  named = same_identity-true first.identity identity f.named

  other : is_number_00 first ≡ false
  other = ne_eqb first.identity.number 0
      (λ e. absurd (omega (arith, numbered, ap (λ (x : Identity). x.number) named, e)))

  shown : is_printed so_far first ≡ true
  shown = unknown so_far first selected (new f.at f.named f.none)

  none_before : (copies_of identity (all_copies channel before) ≡ [])
      × (copies_of identity f.at.earlier ≡ [])
  none_before = none-parts (copies_of identity (all_copies channel before))
      (copies_of identity f.at.earlier)
      (sym (copies_of-append identity (all_copies channel before) f.at.earlier) ∙ f.none)

  find : AllFind identity entry made [] f.at.later
  find earlier later copy e bearing =
      let there : JudgedCopy channel watches = record {
        before = before;
        watch = watch;
        after = next;
        among = f.at.among;
        earlier = f.at.earlier ++ first ∷ earlier;
        copy = copy;
        later = later;
        judged = f.at.judged ∙ ap (λ l. f.at.earlier ++ first ∷ l) e
            ∙ sym (append_assoc f.at.earlier (first ∷ earlier) (copy ∷ later));
      } in
      let put = entries_on channel (all_put before) in
      let is : made_before there
      ≡ (put ++ entries_made known f.at.earlier) ++ entry ∷ entries_made made earlier =
      ap (λ l. put ++ l)
      (made-append known f.at.earlier (first ∷ earlier)
      ∙ ap (λ l. entries_made known f.at.earlier ++ l)
      (made-next so_far first earlier shown good other))
      ∙ sym (append_assoc put (entries_made known f.at.earlier)
      (entry ∷ entries_made made earlier)) in (
        All-head (IsRecentTo identity first) copy later
            (all-back (IsRecentTo identity first) earlier (copy ∷ later)
            (subst (All (IsRecentTo identity first)) e here)) bearing,
        omega (
          arith,
          few there (put ++ entries_made known f.at.earlier) (entries_made made earlier) entry
              bearing is named,
        ),
      )

  none_here : copies_of identity (printed_copies made f.at.later) ≡ []
  none_here = kept-back identity entry made so_far [] f.at.later numbered named refl find

  -- the chain up to the watch
  link : IsChain (log ++ all_put before) (watch ∷ next)
  link = chain-back log before (watch ∷ next) (subst (IsChain log) f.at.among chain)

  puts : copies_on channel watch.put
      ≡ printed_copies known f.at.earlier ++ first ∷ printed_copies made f.at.later
  puts =
      (link.0.judges channel).put
      ∙ ap (printed_copies known) f.at.judged
      ∙ printed_copies-append known f.at.earlier (first ∷ f.at.later)
      ∙ ap (λ l. printed_copies known f.at.earlier ++ l)
      (printed-next so_far first f.at.later shown good other)

  one_here : copies_of identity (copies_on channel watch.put) ≡ first ∷ []
  one_here =
      ap (copies_of identity) puts
      ∙ copies_of-append identity (printed_copies known f.at.earlier)
      (first ∷ printed_copies made f.at.later)
      ∙ ap₂ (λ a b. a ++ b) (before_prints identity known f.at.earlier none_before.1)
      (one-first identity first (printed_copies made f.at.later) f.named
      ∙ ap (λ l. first ∷ l) none_here)

  late : All (λ (copy : TaggedCopy). first.moment ≤ copy.moment) (printed_copies made f.at.later)
  late =
      all_printed (λ (copy : TaggedCopy). first.moment ≤ copy.moment) made f.at.later
      (all-climb first.moment f.at.later
      (climbs-behind watch.starts.moment f.at.earlier f.at.later first
      (subst (λ l. Climbs watch.starts.moment l) f.at.judged
      (watch-climbs channel (log ++ all_put before) watch link.0))))

  next_put : all_put (before ++ watch ∷ []) ≡ all_put before ++ watch.put
  next_put =
      put-append before (watch ∷ []) ∙ ap (λ l. all_put before ++ l) (append-nil watch.put)

  abbrev kept_front : List MemoryEntry
  kept_front = entries_on channel (all_put before)
      ++ memory_entries (printed_copies known f.at.earlier)

  abbrev kept_behind : List MemoryEntry
  kept_behind = memory_entries (printed_copies made f.at.later)

  entries_put : entries_on channel (all_put (before ++ watch ∷ [])) ≡ kept_front ++ entry
      ∷ kept_behind
  entries_put =
      let shown_front = printed_copies known f.at.earlier in
      let shown_behind = printed_copies made f.at.later in
      ap (entries_on channel) next_put
      ∙ entries-append channel (all_put before) watch.put
      ∙ ap (λ l. entries_on channel (all_put before) ++ l)
      (ap memory_entries puts
      ∙ kept-append shown_front (first ∷ shown_behind)
      ∙ ap (λ l. memory_entries shown_front ++ l)
      (kept-next so_far first f.at.later shown good other shown_behind))
      ∙ sym (append_assoc (entries_on channel (all_put before)) (memory_entries shown_front)
      (entry ∷ kept_behind))

  come : HasCome channel identity entry numbered named (entries_on channel log) watches few
      (before ++ watch ∷ []) next ((log ++ all_put before) ++ watch.put) kept_front kept_behind
  come = record {
    whole = f.at.among ∙ sym (append_assoc before (watch ∷ []) next);
    chain = link.1;
    clocks = (clocks-back channel log before (watch ∷ next)
        (subst (ClocksAreNear channel log) f.at.among clocks)).1;
    entries = ap (entries_on channel)
        (append_assoc log (all_put before) watch.put ∙ ap (λ l. log ++ l) (sym next_put))
        ∙ entries-append channel log (all_put (before ++ watch ∷ []));
    made = entries_put;
    all = all-kept (IsBehind entry) (printed_copies made f.at.later)
        (behind-kept identity entry (printed_copies made f.at.later) named none_here late);
    recent = after;
  }

  pub first-put : copies_of identity (copies_on channel (all_put watches)) ≡ first ∷ []
  first-put =
      let none_after = none-later channel identity entry numbered named (entries_on channel log)
      watches few (before ++ watch ∷ []) next ((log ++ all_put before) ++ watch.put) kept_front
      kept_behind come in
      let none_front = none-put channel identity log before
      (chain-front log before (watch ∷ next) (subst (IsChain log) f.at.among chain))
      none_before.0 in
      ap (λ l. copies_of identity (copies_on channel (all_put l))) f.at.among
      ∙ ap (λ l. copies_of identity (copies_on channel l)) (put-append before (watch ∷ next))
      ∙ ap (copies_of identity)
      (copies_on-append channel (all_put before) (watch.put ++ all_put next)
      ∙ ap (λ l. copies_on channel (all_put before) ++ l)
      (copies_on-append channel watch.put (all_put next)))
      ∙ copies_of-append identity (copies_on channel (all_put before))
      (copies_on channel watch.put ++ copies_on channel (all_put next))
      ∙ ap₂ (λ a b. a ++ b) none_front
      (copies_of-append identity (copies_on channel watch.put) (copies_on channel (all_put next))
      ∙ ap₂ (λ a b. a ++ b) one_here none_after)
