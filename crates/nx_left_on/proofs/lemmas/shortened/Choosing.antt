-- What a query for all entries since some moment leaves out, and what is put behind the others.
use Rattle.std.proofs.Common.{◌≡◌, ℕ, suc, ◌+◌, ◌<◌, ◌≤◌, ◌&&◌, ◌||◌, nat_le, Bool, true, false, not, cond, List, []}
use Rattle.std.proofs.Common.{◌∷◌, ◌++◌, refl, sym, ap, ◌∙◌, arith, append_assoc}
use Rattle.std.specs.Prelude.{filter, map}
use Rattle.std.specs.List.{All}
use Rattle.std.specs.List.Sorted.{IsNonDecreasingBy}
use Rattle.std.proofs.lemmas.Bool.{and_parts, le-leb, leb-false, leb-true}
use Rattle.std.proofs.lemmas.List.Elements.{All-cons, All-head, All-nil, All-tail, All-weaker, filter-append}
use Rattle.nx_code.specs.Lists.{last_of}
use Rattle.nx_fec.specs.air_files.Channels.{same_channel}
use Rattle.nx_fec.specs.declared.air_files.channel.Channel.{Channel}
use Rattle.nx_log.specs.Logged.{is_memorable, memory_entries, remembered_on}
use Rattle.nx_log.specs.Query.{admits, admitted_by, chosen, chosen_so}
use Rattle.nx_log.specs.declared.queries.query.Query.{Query}
use Rattle.nx_memory.specs.Memory.{most_entries, seconds_known}
use Rattle.nx_memory.specs.declared.memories.entry.MemoryEntry.{MemoryEntry}
use Rattle.nx_copies.specs.copies.FoundCopies.{TaggedCopy}
use Rattle.nx_copies.specs.copies.Printing.{entry_of, is_good, is_number_00}
use Rattle.nx_copies.specs.copies.Shares.{MarkedCopy, copies_on}
use Rattle.nx_receiver.proofs.lemmas.chain.Printing.{agree_with, last_agrees}
use Rattle.nx_left_on.specs.Shortened.{AreInOrder, AsksSince, IsOldAt, LeavesOutOld}
use Rattle.nx_left_on.proofs.lemmas.chains.Chains.{entries-append, entries_on}
use Rattle.nx_left_on.proofs.lemmas.shortened.Knowing.{last-behind}
use Rattle.nx_left_on.proofs.lemmas.shortened.Starting.{AreBehindOld}

-- by channels
pub leaves-out : (moment : ℕ) (whole shorter : List MarkedCopy)
    → ((channel : Channel)
    → AreBehindOld moment (remembered_on channel whole) (remembered_on channel shorter))
    → LeavesOutOld moment whole shorter
leaves-out moment whole shorter h = record {
  left_out = λ channel. (h channel).front;
  split = λ channel. (h channel).split;
  old = λ channel. (h channel).old;
}

-- ---- what is put behind

pub stays-so : (moment : ℕ) (whole shorter put : List MarkedCopy)
    → LeavesOutOld moment whole shorter → LeavesOutOld moment (whole ++ put) (shorter ++ put)
stays-so moment whole shorter put h =
    leaves-out moment (whole ++ put) (shorter ++ put) (λ channel.
    let front = h.left_out channel in
    let ours = remembered_on channel whole in
    let theirs = remembered_on channel shorter in
    let made = entries_on channel put in
    let whole_is : remembered_on channel (whole ++ put)
    ≡ last_of most_entries (front ++ (theirs ++ made)) =
    ap (last_of most_entries) (entries-append channel whole put)
    ∙ agree_with (entries_on channel whole) ours made (last_agrees (entries_on channel whole))
    ∙ ap (λ es. last_of most_entries (es ++ made)) (h.split channel)
    ∙ ap (last_of most_entries) (append_assoc front theirs made) in
    let shorter_is : remembered_on channel (shorter ++ put)
    ≡ last_of most_entries (theirs ++ made) =
    ap (last_of most_entries) (entries-append channel shorter put)
    ∙ agree_with (entries_on channel shorter) theirs made
    (last_agrees (entries_on channel shorter)) in
    let b = last-behind moment front (theirs ++ made) (h.old channel) in
    record {
      front = b.front;
      split = whole_is ∙ b.split ∙ ap (λ es. b.front ++ es) (sym shorter_is);
      old = b.old;
    })

-- ---- the entries that count, one by one

-- what one logged entry makes of a channel
made_of : Channel → MarkedCopy → List MemoryEntry
made_of channel one =
    cond (same_channel one.channel channel && is_memorable one.copy) (entry_of one.copy ∷ []) []

one-more : (channel : Channel) (one : MarkedCopy) (log : List MarkedCopy)
    → entries_on channel (one ∷ log) ≡ made_of channel one ++ entries_on channel log
unfolding memory_entries made_of
one-more channel one log =
    let rest = copies_on channel log in
    elim (same_channel one.channel channel) as (λ (a : Bool).
    map entry_of (filter is_memorable (map (λ (it : MarkedCopy). it.copy)
    (cond a (one ∷ filter (λ (it : MarkedCopy). same_channel it.channel channel) log)
    (filter (λ (it : MarkedCopy). same_channel it.channel channel) log))))
    ≡ cond (a && is_memorable one.copy) (entry_of one.copy ∷ []) [] ++ map entry_of
    (filter is_memorable rest)) [
      | true ↦ elim (is_memorable one.copy) as (λ (b : Bool).
          map entry_of (cond b (one.copy ∷ filter is_memorable rest) (filter is_memorable rest))
          ≡ cond b (entry_of one.copy ∷ []) [] ++ map entry_of (filter is_memorable rest)) [
            | true ↦ refl
            | false ↦ refl
          ]
      | false ↦ refl
    ]

abbrev is_late : ℕ → MemoryEntry → Bool
is_late first entry = nat_le first entry.moment

good-of : (copy : TaggedCopy) → is_memorable copy ≡ true → is_good copy ≡ true
unfolding is_memorable
good-of copy kept = (and_parts (is_good copy) (not (is_number_00 copy)) kept).0

-- such a query admits what counts exactly where it isn't before the moment
admits-late : (first : ℕ) (query : Query) (one : MarkedCopy) → AsksSince first query
    → is_memorable one.copy ≡ true → admits query one ≡ nat_le first one.copy.moment
unfolding admits
admits-late first query one asks kept =
    rw asks.stations
    (rw asks.subjects (rw asks.channel (rw asks.since (rw asks.until
    (rw (good-of one.copy kept) (of (nat_le first one.copy.moment) query.good))))))
  where
    of : (late good : Bool) → (late && true && (not good || true)) ≡ late
    of true true = refl
    of true false = refl
    of false true = refl
    of false false = refl

abbrev nothing : List MemoryEntry
nothing = []

none-left : (a : Bool) → nothing ≡ cond a nothing nothing
none-left true = refl
none-left false = refl

late-made : (first : ℕ) (query : Query) (channel : Channel) (one : MarkedCopy)
    → AsksSince first query
    → filter (is_late first) (made_of channel one)
    ≡ cond (admits query one) (made_of channel one) []
unfolding made_of
late-made first query channel one asks =
    let entry = entry_of one.copy in
    elim (same_channel one.channel channel && is_memorable one.copy) as (λ (b : Bool).
    (same_channel one.channel channel && is_memorable one.copy) ≡ b
    → filter (is_late first) (cond b (entry ∷ []) [])
    ≡ cond (admits query one) (cond b (entry ∷ []) []) []) [
      | true ↦ λ is.
          ap (λ a. cond a (entry ∷ []) [])
          (sym (admits-late first query one asks
          (and_parts (same_channel one.channel channel) (is_memorable one.copy) is).1))
      | false ↦ λ is. none-left (admits query one)
    ] refl

filter-admitted : (first : ℕ) (query : Query) (channel : Channel) (entries : List MarkedCopy)
    → AsksSince first query
    → entries_on channel (filter (admits query) entries)
    ≡ filter (is_late first) (entries_on channel entries)
unfolding memory_entries
filter-admitted first query channel [] asks = refl
filter-admitted first query channel (one ∷ entries) asks =
    let made = made_of channel one in
    let rest = filter (admits query) entries in
    let behind = filter (is_late first) (entries_on channel entries) in
    elim (admits query one) as (λ (a : Bool).
    entries_on channel (cond a (one ∷ rest) rest) ≡ cond a made [] ++ behind) [
      | true ↦
          one-more channel one rest
          ∙ ap (λ es. made ++ es) (filter-admitted first query channel entries asks)
      | false ↦ filter-admitted first query channel entries asks
    ]
    ∙ ap (λ es. es ++ behind) (sym (late-made first query channel one asks))
    ∙ sym (filter-append (is_late first) made (entries_on channel entries))
    ∙ ap (filter (is_late first)) (sym (one-more channel one entries))

-- ---- in order

behind-late : (first : ℕ) (entries : List MemoryEntry)
    → All (λ entry. first ≤ entry.moment) entries → filter (is_late first) entries ≡ entries
behind-late first [] late = refl
behind-late first (entry ∷ entries) late =
    ap (λ b. cond b (entry ∷ filter (is_late first) entries) (filter (is_late first) entries))
    (le-leb first entry.moment
    (All-head (λ (it : MemoryEntry). first ≤ it.moment) entry entries late))
    ∙ ap (λ es. entry ∷ es)
    (behind-late first entries
    (All-tail (λ (it : MemoryEntry). first ≤ it.moment) entry entries late))

abbrev pub moment_of : MemoryEntry → ℕ
moment_of entry = entry.moment

pub all-behind : (entry : MemoryEntry) (entries : List MemoryEntry)
    → IsNonDecreasingBy moment_of (entry ∷ entries)
    → All (λ other. entry.moment ≤ other.moment) entries
all-behind entry entries sorted k d lt = sorted 0 (suc k) d (omega arith) (omega arith)

pub sorted-behind : (entry : MemoryEntry) (entries : List MemoryEntry)
    → IsNonDecreasingBy moment_of (entry ∷ entries) → IsNonDecreasingBy moment_of entries
sorted-behind entry entries sorted i j d le lt =
    sorted (suc i) (suc j) d (omega arith) (omega arith)

-- those before the moment stand in front
record AreCutAt (first : ℕ) (entries : List MemoryEntry) : Type 0 where
  front : List MemoryEntry
  split : entries ≡ front ++ filter (is_late first) entries
  early : All (λ entry. entry.moment < first) front

cut-at : (first : ℕ) (entries : List MemoryEntry) → IsNonDecreasingBy moment_of entries
    → AreCutAt first entries
cut-at first [] sorted =
    record { front = []; split = refl; early = All-nil (λ (it : MemoryEntry). it.moment < first) }
cut-at first (entry ∷ entries) sorted =
    let rest = cut-at first entries (sorted-behind entry entries sorted) in
    let late = filter (is_late first) entries in
    elim (nat_le first entry.moment) as (λ b. nat_le first entry.moment ≡ b
    → AreCutAt first (entry ∷ entries)) [
      | true ↦ λ is.
          let low = leb-true first entry.moment is in
          record {
            front = [];
            split = sym (behind-late first (entry ∷ entries)
                (All-cons (λ (it : MemoryEntry). first ≤ it.moment) entry entries low
                (λ k d lt. omega (arith, low, all-behind entry entries sorted k d lt))));
            early = All-nil (λ (it : MemoryEntry). it.moment < first);
          }
      | false ↦ λ is.
          record {
            front = entry ∷ rest.front;
            split = ap (λ es. entry ∷ es) rest.split
                ∙ ap (λ b. (entry ∷ rest.front) ++ cond b (entry ∷ late) late) (sym is);
            early = All-cons (λ (it : MemoryEntry). it.moment < first) entry rest.front
                (leb-false first entry.moment is) rest.early;
          }
    ] refl

pub leaves-old : (first moment : ℕ) (query : Query) (entries : List MarkedCopy)
    → AsksSince first query → AreInOrder entries → first + seconds_known ≤ moment
    → LeavesOutOld moment entries (chosen query entries)
leaves-old first moment query entries asks order old =
    leaves-out moment entries (chosen query entries) (λ channel.
    let all = entries_on channel entries in
    let cut = cut-at first all (order channel) in
    let kept = filter (is_late first) all in
    let is_chosen : chosen query entries ≡ filter (admits query) entries =
    ap (λ b. chosen_so (λ (one : MarkedCopy). one) b
    (admitted_by (λ (one : MarkedCopy). one) query entries)) asks.not_last in
    let b = last-behind moment cut.front kept
    (All-weaker (λ (it : MemoryEntry). it.moment < first) (IsOldAt moment)
    (λ it early. omega (arith, early, old)) cut.front cut.early) in
    record {
      front = b.front;
      split = ap (last_of most_entries) cut.split ∙ b.split
          ∙ ap (λ es. b.front ++ last_of most_entries es)
          (sym (ap (entries_on channel) is_chosen
          ∙ filter-admitted first query channel entries asks));
      old = b.old;
    })
