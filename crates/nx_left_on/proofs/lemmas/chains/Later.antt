-- Once an entry of an identity is made, the watches that follow put no copy of it while the entry
-- is live.
use Rattle.std.proofs.Common.{◌≡◌, ◌+◌, ◌<◌, ◌≤◌, true, false, List, [], ◌∷◌, ◌++◌, length, refl, sym}
use Rattle.std.proofs.Common.{ap, ap₂, ◌∙◌, subst, arith, append_assoc, append-nil}
use Rattle.std.specs.List.{All}
use Rattle.std.proofs.lemmas.Bool.{false_from_ne_true, true≢false}
use Rattle.std.proofs.lemmas.List.{length-append}
use Rattle.std.proofs.lemmas.List.Elements.{All-append, All-cons, All-head, All-nil}
use Rattle.std.proofs.lemmas.List.Elements.{All-tail, All-weaker}
use Rattle.nx_envelope.specs.Identity.{same_identity}
use Rattle.nx_envelope.specs.declared.identity.Identity.{Identity}
use Rattle.nx_envelope.proofs.lemmas.headers.Identities.{same_identity-true, same_itself}
use Rattle.nx_fec.specs.declared.air_files.channel.Channel.{Channel}
use Rattle.nx_memory.specs.Memory.{most_entries, seconds_known}
use Rattle.nx_memory.specs.declared.memories.entry.MemoryEntry.{MemoryEntry}
use Rattle.nx_copies.specs.copies.FoundCopies.{TaggedCopy}
use Rattle.nx_copies.specs.copies.Printing.{copies_of, entries_made, entry_of, printed_copies}
use Rattle.nx_copies.specs.copies.Shares.{MarkedCopy, copies_on}
use Rattle.nx_copies.proofs.lemmas.channels.Shares.{copies_on-append}
use Rattle.nx_left_on.specs.Chain.{ClocksAreNear, IsChain, Watch, all_copies, all_put}
use Rattle.nx_left_on.specs.Chain.{copies_in}
use Rattle.nx_left_on.specs.LeftOn.{AreFewOver, JudgedCopy, made_before}
use Rattle.nx_left_on.proofs.lemmas.chains.Chains.{entries-append, entries_on, newest-start, start-is}
use Rattle.nx_left_on.proofs.lemmas.chains.Chains.{near-now, watch-climbs}
use Rattle.nx_left_on.proofs.lemmas.entries.Keeping.{AllFind, all-climb, all-kept}
use Rattle.nx_left_on.proofs.lemmas.entries.Keeping.{kept-back}
use Rattle.nx_left_on.proofs.lemmas.chains.Links.{all-back, copies_of-append, find-first}
use Rattle.nx_left_on.proofs.lemmas.chains.Links.{none-put, put-append}
use Rattle.nx_left_on.proofs.lemmas.entries.Staying.{IsBehind, Stands, stands-newest, stands-remembered}
use Rattle.nx_copies.proofs.lemmas.once.Repeats.{all_printed, none_first, bears}
use Rattle.nx_copies.proofs.lemmas.printing.Laws.{all-front}

-- other identities
other-way : (one other : Identity) → same_identity one other ≡ false
    → same_identity other one ≡ false
other-way one other apart =
    false_from_ne_true _ (λ same.
    let is : other ≡ one = same_identity-true other one same in
    true≢false (sym (ap (λ (x : Identity). same_identity one x) is ∙ same_itself one) ∙ apart))

-- copies of other identities, from this moment on, make entries that stand behind the entry
pub behind-kept : (identity : Identity) (entry : MemoryEntry) (copies : List TaggedCopy)
    → entry.identity ≡ identity → copies_of identity copies ≡ []
    → All (λ copy. entry.moment ≤ copy.moment) copies
    → All (λ copy. IsBehind entry (entry_of copy)) copies
behind-kept identity entry [] named none late =
    All-nil (λ (copy : TaggedCopy). IsBehind entry (entry_of copy))
behind-kept identity entry (copy ∷ copies) named none late =
    let parts = none_first identity copy copies none in
    let apart : same_identity entry.identity copy.identity ≡ false =
    ap (λ (x : Identity). same_identity x copy.identity) named
    ∙ other-way copy.identity identity parts.0 in
    All-cons (λ (it : TaggedCopy). IsBehind entry (entry_of it)) copy copies
    (record {
      apart = apart;
      late = All-head (λ (it : TaggedCopy). entry.moment ≤ it.moment) copy copies late;
    })
    (behind-kept identity entry copies named parts.1
    (All-tail (λ (it : TaggedCopy). entry.moment ≤ it.moment) copy copies late))

module _ (channel : Channel) (identity : Identity) (entry : MemoryEntry)
    (numbered : 0 < identity.number) (named : entry.identity ≡ identity) (begun : List MemoryEntry)
    (watches : List Watch) (few : AreFewOver channel watches identity) where
  -- a copy comes while the entry isn't too old
  abbrev pub IsRecent : TaggedCopy → Type 0
  IsRecent copy = bears identity copy ≡ true → copy.moment < entry.moment + seconds_known

  -- How far the chain has come: the watches that are over and those that follow, with their log;
  -- and the entry with those that were made behind it.
  pub record HasCome (over next : List Watch) (log : List MarkedCopy)
      (front behind : List MemoryEntry)
      : Type 0 where
    pub whole : watches ≡ over ++ next
    pub chain : IsChain log next
    pub clocks : ClocksAreNear channel log next
    pub entries : entries_on channel log ≡ begun ++ entries_on channel (all_put over)
    pub made : entries_on channel (all_put over) ≡ front ++ entry ∷ behind
    pub all : All (IsBehind entry) behind
    pub recent : All IsRecent (all_copies channel next)

  -- where a copy of the identity follows, fewer than 200 entries are behind the entry
  few-behind : (over next : List Watch) (front behind : List MemoryEntry)
      → watches ≡ over ++ next → entries_on channel (all_put over) ≡ front ++ entry ∷ behind
      → (at : JudgedCopy channel next) → bears identity at.copy ≡ true
      → length behind + length (entries_made (at.watch.starts.entries channel) at.earlier)
      < most_entries
  few-behind over next front behind whole made at bearing =
      let more = entries_made (at.watch.starts.entries channel) at.earlier in
      let between = entries_on channel (all_put at.before) in
      let there : JudgedCopy channel watches = record {
        before = over ++ at.before;
        watch = at.watch;
        after = at.after;
        among = whole ∙ ap (λ l. over ++ l) at.among
            ∙ sym (append_assoc over at.before (at.watch ∷ at.after));
        earlier = at.earlier;
        copy = at.copy;
        later = at.later;
        judged = at.judged;
      } in
      let is : made_before there ≡ front ++ entry ∷ (behind ++ (between ++ more)) =
      ap (λ put. entries_on channel put ++ more) (put-append over at.before)
      ∙ ap (λ es. es ++ more) (entries-append channel (all_put over) (all_put at.before))
      ∙ append_assoc (entries_on channel (all_put over)) between more
      ∙ ap (λ es. es ++ (between ++ more)) made
      ∙ append_assoc front (entry ∷ behind) (between ++ more) in
      let less = few there front (behind ++ (between ++ more)) entry bearing is named in
      omega (
        arith,
        less,
        length-append behind (between ++ more),
        length-append between more,
      )

  -- what the next watch makes of it
  record Follows (over : List Watch) (watch : Watch) (next : List Watch) (log : List MarkedCopy)
      (front behind : List MemoryEntry)
      : Type 0 where
    none : copies_of identity (copies_on channel watch.put) ≡ []
    come : HasCome (over ++ watch ∷ []) next (log ++ watch.put) front
        (behind ++ entries_on channel watch.put)

  follows : (over : List Watch) (watch : Watch) (next : List Watch) (log : List MarkedCopy)
      (front behind : List MemoryEntry) → HasCome over (watch ∷ next) log front behind
      → length behind < most_entries → Follows over watch next log front behind
  follows over watch next log front behind h small =
      let goes = h.chain.0 in
      let known = watch.starts.entries channel in
      let copies = copies_in channel watch in
      let itself : length behind ≤ length behind = omega arith in
      let stands : Stands entry (length behind) (entries_on channel log) = record {
        front = begun ++ front;
        behind = behind;
        whole = h.entries ∙ ap (λ es. begun ++ es) h.made
            ∙ sym (append_assoc begun front (entry ∷ behind));
        all = h.all;
        few = itself;
      } in
      let start : Stands entry (length behind) known =
      subst (Stands entry (length behind)) (sym (start-is channel log watch goes))
      (stands-remembered watch.moment entry (length behind) (entries_on channel log) small
      (near-now channel log watch next h.clocks) stands) in
      let soon : All IsRecent copies =
      all-front IsRecent copies (all_copies channel next) h.recent in
      let find : AllFind identity entry known start.behind copies =
      λ before after copy e bearing. (
        All-head IsRecent copy after
            (all-back IsRecent before (copy ∷ after) (subst (All IsRecent) e soon)) bearing,
        omega (
          arith,
          start.few,
          few-behind over (watch ∷ next) front behind h.whole h.made (record {
            before = [];
            watch = watch;
            after = next;
            among = refl;
            earlier = before;
            copy = copy;
            later = after;
            judged = e;
          }) bearing,
        ),
      ) in
      let printed : copies_of identity (printed_copies known copies) ≡ [] =
      kept-back identity entry known start.front start.behind copies numbered named start.whole find
      in
      let put = (goes.judges channel).put in
      let none : copies_of identity (copies_on channel watch.put) ≡ [] =
      ap (copies_of identity) put ∙ printed in
      let low : entry.moment ≤ watch.starts.moment =
      omega (
        arith,
        stands-newest entry (length behind) known start,
        newest-start channel log watch goes,
      ) in
      let late : All (λ (copy : TaggedCopy). entry.moment ≤ copy.moment)
      (copies_on channel watch.put) =
      subst (All (λ (copy : TaggedCopy). entry.moment ≤ copy.moment)) (sym put)
      (all_printed (λ (copy : TaggedCopy). entry.moment ≤ copy.moment) known copies
      (All-weaker (λ (copy : TaggedCopy). watch.starts.moment ≤ copy.moment)
      (λ (copy : TaggedCopy). entry.moment ≤ copy.moment) (λ copy le. omega (arith, low, le)) copies
      (all-climb watch.starts.moment copies (watch-climbs channel log watch goes)))) in
      let next_put : all_put (over ++ watch ∷ []) ≡ all_put over ++ watch.put =
      put-append over (watch ∷ []) ∙ ap (λ l. all_put over ++ l) (append-nil watch.put) in
      let on_next : entries_on channel (all_put (over ++ watch ∷ []))
      ≡ entries_on channel (all_put over) ++ entries_on channel watch.put =
      ap (entries_on channel) next_put ∙ entries-append channel (all_put over) watch.put in
      record {
        none = none;
        come = record {
          whole = h.whole ∙ sym (append_assoc over (watch ∷ []) next);
          chain = h.chain.1;
          clocks = h.clocks.1;
          entries = entries-append channel log watch.put
              ∙ ap (λ es. es ++ entries_on channel watch.put) h.entries
              ∙ append_assoc begun (entries_on channel (all_put over))
              (entries_on channel watch.put)
              ∙ ap (λ es. begun ++ es) (sym on_next);
          made = on_next ∙ ap (λ es. es ++ entries_on channel watch.put) h.made
              ∙ append_assoc front (entry ∷ behind) (entries_on channel watch.put);
          all = All-append (IsBehind entry) behind (entries_on channel watch.put) h.all
              (all-kept (IsBehind entry) (copies_on channel watch.put)
              (behind-kept identity entry (copies_on channel watch.put) named none late));
          recent = all-back IsRecent copies (all_copies channel next) h.recent;
        };
      }

  pub none-later : (over next : List Watch) (log : List MarkedCopy)
      (front behind : List MemoryEntry) → HasCome over next log front behind
      → copies_of identity (copies_on channel (all_put next)) ≡ []
  unfolding copies_of
  none-later over [] log front behind h = refl
  none-later over (watch ∷ next) log front behind h =
      elim (copies_of identity (all_copies channel (watch ∷ next))) as (λ l.
      copies_of identity (all_copies channel (watch ∷ next)) ≡ l
      → copies_of identity (copies_on channel (all_put (watch ∷ next))) ≡ []) [
        | [] ↦ λ none. none-put channel identity log (watch ∷ next) h.chain none
        | one ∷ more ↦ λ some.
            let first = find-first channel (watch ∷ next) identity one more some in
            let small : length behind < most_entries =
            omega (
              arith,
              few-behind over (watch ∷ next) front behind h.whole h.made first.at first.named,
            ) in
            let f = follows over watch next log front behind h small in
            ap (copies_of identity) (copies_on-append channel watch.put (all_put next))
            ∙ copies_of-append identity (copies_on channel watch.put)
            (copies_on channel (all_put next))
            ∙ ap₂ (λ a b. a ++ b) f.none
            (none-later (over ++ watch ∷ []) next (log ++ watch.put) front
            (behind ++ entries_on channel watch.put) f.come)
      ] refl
