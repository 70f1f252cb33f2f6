-- A message that was put whole stands last of its identity in the log.
use Rattle.std.proofs.Common.{◌≡◌, ℕ, ◌<◌, ◌≤◌, ◌*◌, max, Bool, true, false, not, cond, List, [], ◌∷◌, ◌++◌}
use Rattle.std.proofs.Common.{length, refl, sym, ap, ◌∙◌, subst, arith, append_assoc}
use Rattle.std.specs.Prelude.{filter, map, nat_lt}
use Rattle.std.specs.List.{All, AllByRecursion}
use Rattle.std.proofs.lemmas.Bool.{and_from, lt-ltb, ne_eqb}
use Rattle.std.proofs.lemmas.List.{map-append}
use Rattle.std.proofs.lemmas.List.Elements.{All-cons, All-nil}
use Rattle.nx_envelope.specs.Copies.{errors_of}
use Rattle.nx_envelope.specs.Identity.{same_identity}
use Rattle.nx_envelope.specs.Message.{MessageView}
use Rattle.nx_envelope.specs.declared.found.How.{How}
use Rattle.nx_envelope.specs.declared.found.How.TheVariants.{Full}
use Rattle.nx_envelope.specs.declared.identity.Identity.{Identity}
use Rattle.nx_envelope.proofs.lemmas.headers.Identities.{same_identity-true}
use Rattle.nx_fec.specs.declared.air_files.channel.Channel.{Channel}
use Rattle.nx_log.specs.Logged.{is_memorable, memory_entries}
use Rattle.nx_memory.specs.declared.memories.entry.MemoryEntry.{MemoryEntry}
use Rattle.nx_copies.specs.Events.{Event, Setting, Start, elements_among, first_setting, setting_at}
use Rattle.nx_copies.specs.copies.FoundCopies.{TaggedCopy}
use Rattle.nx_copies.specs.copies.FoundCopies.{tag, tagged_copies}
use Rattle.nx_copies.specs.copies.Printing.{entry_of, good_share, is_full, is_good, is_number_00}
use Rattle.nx_copies.specs.copies.Shares.{MarkedCopy, copies_on}
use Rattle.nx_combine.specs.CombinedPrinting.{if_printed_combined, is_printed_combined}
use Rattle.nx_combine.specs.private.CombinedPrinting.{PrintsCombined}
use Rattle.nx_combine.specs.CopyPositions.{HeardCopy, PlacedCopy, heard_copies}
use Rattle.nx_combine.specs.CopyPositions.{placed_to_end}
use Rattle.nx_combine.specs.Families.{CombinedCopy}
use Rattle.nx_combine.specs.private.Families.{combined_copy}
use Rattle.nx_combine.specs.Judging.{Judged, all_copies, all_printed, judged_after, judged_behind}
use Rattle.nx_combine.specs.Laws.{is_named}
use Rattle.nx_combine.specs.private.laws.Heard.{found_of}
use Rattle.nx_combine.proofs.lemmas.Closing.{found-end}
use Rattle.nx_combine.proofs.lemmas.Once.{in_order, tagged_as}
use Rattle.nx_promises.specs.laws.Together.{IsPrintedWholeOnce, none_judged}
use Rattle.nx_sync.specs.Locks.{IsNow, Lock, Now}
use Rattle.nx_left_on.specs.Together.{StandsLast}
use Rattle.nx_left_on.proofs.lemmas.chains.Chains.{entries-append, entries_on, kept-append}
use Rattle.nx_left_on.proofs.lemmas.chains.Found.{found-climb}
use Rattle.nx_left_on.proofs.lemmas.combined.Named.{same_back}
use Rattle.nx_left_on.proofs.lemmas.entries.Climbing.{Climbs, Rise}
use Rattle.nx_left_on.proofs.lemmas.entries.Keeping.{all-climb, all-kept}

-- ---- the moments of what is printed never fall

heard-tagged : (first : Setting) (events : List Event) (copies : List PlacedCopy)
    → map (λ (h : HeardCopy). h.copy) (heard_copies first events copies)
    ≡ tagged_copies first events (found_of copies)
unfolding heard_copies tagged_copies
heard-tagged first events [] = refl
heard-tagged first events (placed ∷ copies) =
    ap (λ cs. tag (setting_at first events placed.found.place) placed.found ∷ cs)
    (heard-tagged first events copies)

abbrev moments_climb : ℕ → List HeardCopy → Type 0
moments_climb m heard = Climbs m (map (λ (h : HeardCopy). h.copy) heard)

pub climb-to_end : (first : Setting) (events : List Event) (locks : List Lock) (now : Now)
    → Rise first.moment events → IsNow (elements_among events) locks now
    → moments_climb first.moment
    (heard_copies first events (placed_to_end (elements_among events) locks now))
climb-to_end first events locks now rise stands =
    let bits = elements_among events in
    subst (Climbs first.moment)
    (sym (heard-tagged first events (placed_to_end bits locks now)
    ∙ ap (tagged_copies first events) (found-end bits locks now)))
    (found-climb first events locks now rise stands)

lower : (m n : ℕ) (copies : List TaggedCopy) → m ≤ n → Climbs n copies → Climbs m copies
lower m n [] le climbs = tt
lower m n (copy ∷ copies) le climbs = (omega (arith, le, climbs.0), climbs.1)

printed-climb : (m : ℕ) (so_far : Judged) (heard : List HeardCopy) → moments_climb m heard
    → Climbs m (all_copies (all_printed so_far heard))
unfolding if_printed_combined
printed-climb m so_far [] climbs = tt
printed-climb m so_far (next ∷ heard) climbs =
    let one = combined_copy so_far.families next in
    let same = (tagged_as so_far.families next).moment in
    let behind = all_copies (all_printed (judged_after so_far next) heard) in
    let rest = printed-climb next.copy.moment (judged_after so_far next) heard climbs.1 in
    elim (is_printed_combined so_far.entries so_far.printed one) as (λ (b : Bool).
    Climbs m (all_copies (cond b (one ∷ []) [] ++ all_printed (judged_after so_far next) heard))) [
      | true ↦ (
        omega (arith, climbs.0, same),
        subst (λ (n : ℕ). Climbs n behind) (sym same) rest,
      )
      | false ↦ lower m next.copy.moment behind climbs.0 rest
    ]

pub to_end-climbs : (start : Start) (events : List Event) (copies : List TaggedCopy)
    → Rise start.moment events → PrintsCombined placed_to_end start events copies
    → Climbs start.moment copies
to_end-climbs start events copies rise p =
    let heard = heard_copies (first_setting start) events
    (placed_to_end (elements_among events) p.locks p.now) in
    subst (Climbs start.moment)
    (sym (p.printed ∙ sym (ap all_copies (in_order (none_judged start) heard))))
    (printed-climb start.moment (none_judged start) heard
    (climb-to_end (first_setting start) events p.locks p.now rise p.stands))

climbs-behind : (m : ℕ) (front : List TaggedCopy) (copy : TaggedCopy) (back : List TaggedCopy)
    → Climbs m (front ++ copy ∷ back) → Climbs copy.moment back
climbs-behind m [] copy back climbs = climbs.1
climbs-behind m (x ∷ front) copy back climbs = climbs-behind x.moment front copy back climbs.1

-- ---- the whole copy is kept

full-is : (how : How) → how ≡ Full → is_full how ≡ true
full-is how is = ap is_full is

whole-kept : (copy : TaggedCopy) → copy.how ≡ Full → errors_of copy.text ≡ 0
    → 0 < copy.identity.number → is_memorable copy ≡ true
unfolding is_memorable
whole-kept copy full none numbered =
    let few : nat_lt (good_share * errors_of copy.text) (max 1 (length copy.text)) ≡ true =
    ap (λ (n : ℕ). nat_lt (good_share * n) (max 1 (length copy.text))) none
    ∙ lt-ltb 0 (max 1 (length copy.text)) (omega arith) in
    and_from (is_good copy) (not (is_number_00 copy))
    (and_from (is_full copy.how) (nat_lt (good_share * errors_of copy.text)
    (max 1 (length copy.text))) (full-is copy.how full) few)
    (ap not (ne_eqb copy.identity.number 0 (λ e. omega (arith, numbered, e))))

kept-first : (copy : TaggedCopy) (copies : List TaggedCopy) → is_memorable copy ≡ true
    → memory_entries (copy ∷ copies) ≡ entry_of copy ∷ memory_entries copies
unfolding memory_entries
kept-first copy copies kept =
    ap (λ b. map entry_of (cond b (copy ∷ filter is_memorable copies) (filter is_memorable copies)))
    kept

none-named : (identity : Identity) (entry : MemoryEntry) (copies : List CombinedCopy)
    → entry.identity ≡ identity
    → AllByRecursion (λ other. is_named identity other ≡ false) copies
    → All (λ (copy : TaggedCopy). same_identity entry.identity copy.identity ≡ false)
    (all_copies copies)
none-named identity entry [] named none =
    All-nil (λ (copy : TaggedCopy). same_identity entry.identity copy.identity ≡ false)
none-named identity entry (one ∷ copies) named none =
    All-cons (λ (copy : TaggedCopy). same_identity entry.identity copy.identity ≡ false) one.copy
    (all_copies copies)
    (ap (λ (i : Identity). same_identity i one.copy.identity) named
    ∙ same_back identity one.copy.identity none.0)
    (none-named identity entry copies named none.1)

pub stands-whole : (channel : Channel) (log : List MarkedCopy) (put : List MarkedCopy)
    (message : MessageView) (start : Start) (copies later : List HeardCopy) (m : ℕ)
    → 0 < message.identity.number → Climbs m (copies_on channel put)
    → IsPrintedWholeOnce message start copies later (copies_on channel put)
    → (entry : MemoryEntry) × (entry.identity ≡ message.identity)
    × StandsLast channel (log ++ put) entry
stands-whole channel log put message start copies later m numbered climbs w =
    let o = w.once in
    let front = all_copies o.before in
    let others = o.after ++ all_printed (judged_behind (none_judged start) copies) later in
    let behind = all_copies others in
    let copy = o.one.copy in
    let split : copies_on channel put ≡ front ++ copy ∷ behind =
    w.printed
    ∙ ap (λ those. all_copies (those ++ all_printed (judged_behind (none_judged start) copies)
    later))
    o.among
    ∙ ap all_copies (append_assoc o.before (o.one ∷ o.after)
    (all_printed (judged_behind (none_judged start) copies) later))
    ∙ map-append (λ (one : CombinedCopy). one.copy) o.before (o.one ∷ others) in
    let named : copy.identity ≡ message.identity =
    same_identity-true copy.identity message.identity o.named in
    let kept = whole-kept copy o.whole.full o.whole.no_error
    (subst (λ (i : Identity). 0 < i.number) (sym named) numbered) in
    let up = climbs-behind m front copy behind (subst (Climbs m) split climbs) in
    let made : memory_entries (copies_on channel put)
    ≡ memory_entries front ++ entry_of copy ∷ memory_entries behind =
    ap memory_entries split ∙ kept-append front (copy ∷ behind)
    ∙ ap (λ es. memory_entries front ++ es) (kept-first copy behind kept) in (
      entry_of copy,
      named,
      record {
        front = entries_on channel log ++ memory_entries front;
        behind = memory_entries behind;
        whole = entries-append channel log put
            ∙ ap (λ es. entries_on channel log ++ es) made
            ∙ sym (append_assoc (entries_on channel log) (memory_entries front)
            (entry_of copy ∷ memory_entries behind));
        others = all-kept (λ other. same_identity copy.identity other.identity ≡ false) behind
            (none-named message.identity (entry_of copy) others named o.nothing_behind);
        late = all-kept (λ other. copy.moment ≤ other.moment) behind
            (all-climb copy.moment behind up);
      },
    )
