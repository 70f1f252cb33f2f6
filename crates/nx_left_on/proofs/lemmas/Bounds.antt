-- Each bound of what a message is asked for that stands in the log once, from both sides.
use Rattle.std.proofs.Common.{◌≡◌, ℕ, zero, suc, ◌+◌, ◌<◌, ◌≤◌, Bool, true, false, List, [], ◌∷◌, ◌++◌}
use Rattle.std.proofs.Common.{length, map, replicate, refl, sym, ap, ap₂, ◌∙◌, subst, arith, append-nil}
use Rattle.std.proofs.Common.{length-append, lit<, lit≤, ◌-◌, not, ◌&&◌, ◌||◌, cond, nat_lt}
use Rattle.std.specs.List.{All, Contains}
use Rattle.std.proofs.lemmas.Bool.{and_right, le-ltb, true≢false}
use Rattle.std.proofs.lemmas.List.{length-replicate}
use Rattle.std.proofs.lemmas.List.Elements.{All-append, All-cons, All-drop, All-head, All-nil}
use Rattle.std.proofs.lemmas.List.Elements.{All-tail, All-weaker}
use Rattle.nx_envelope.specs.declared.found.How.TheVariants.{Full}
use Rattle.nx_envelope.proofs.lemmas.headers.Identities.{same_itself}
use Rattle.nx_fec.specs.declared.air_files.channel.Channel.{Channel}
use Rattle.nx_fec.specs.declared.air_files.channel.Channel.TheVariants.{One, Zero}
use Rattle.nx_log.specs.Logged.{is_memorable, memory_entries, remembered_on}
use Rattle.nx_code.specs.Lists.{last_of}
use Rattle.nx_envelope.specs.Identity.{same_identity}
use Rattle.nx_memory.specs.Memory.{is_known, most_entries, newest_moment, seconds_known}
use Rattle.nx_memory.specs.declared.memories.entry.MemoryEntry.{MemoryEntry}
use Rattle.nx_copies.specs.Events.{Setting, first_setting, setting_at}
use Rattle.nx_copies.specs.copies.FoundCopies.{FoundCopy, TaggedCopy, tagged_copies}
use Rattle.nx_copies.specs.copies.Printing.{copies_of, entries_after, entries_made, entry_made}
use Rattle.nx_copies.specs.copies.Printing.{entry_of, is_entered, is_printed, is_remembered}
use Rattle.nx_copies.specs.laws.Once.{FewBetween, IsUnknownAtFirst}
use Rattle.nx_promises.specs.examples.Chain.{copy_heard, found_on}
use Rattle.nx_promises.specs.examples.Repeats.{eb02, first_copy, heard_at}
use Rattle.nx_promises.proofs.lemmas.examples.Repeats.{made_few}
use Rattle.nx_station.specs.reception.PathExample.{ea01, example_message}
use Rattle.nx_left_on.specs.Bounds.{copies_between, entry_then, other_entries, silent_watch, spaced}
use Rattle.nx_left_on.specs.Bounds.{watch_behind, watches_between}
use Rattle.nx_left_on.specs.Chain.{ClocksAreNear, Watch, all_put, copies_in, events_in, lines_of}
use Rattle.nx_left_on.specs.Chain.{start_in}
use Rattle.nx_left_on.specs.Example.{first_moment, first_watch, one_entry, second_watch, watches_apart}
use Rattle.nx_left_on.specs.LeftOn.{AreFewOver, CutWatch, IsHeardInTimeOver, IsSentIn, IsUnknownOver}
use Rattle.nx_left_on.specs.LeftOn.{JudgedCopy, elements_in, in_force_in, made_before}
use Rattle.nx_left_on.proofs.lemmas.Example.{Hears, copy_then, first-hears, four-hours, hears-all}
use Rattle.nx_left_on.proofs.lemmas.Example.{none-newest, one-remembered, second-hears}
use Rattle.nx_left_on.proofs.lemmas.chains.Chains.{entries-append, entries_on}
use Rattle.nx_left_on.proofs.lemmas.chains.Links.{all-back, put-append}

-- ---- clocks

newest-one : newest_moment (remembered_on Zero one_entry) ≡ first_moment
newest-one = ap newest_moment one-remembered

pub clock-near : ClocksAreNear Zero one_entry (silent_watch 1735454401 [] ∷ [])
clock-near = (omega (arith, newest-one), tt)

pub clock-far : ClocksAreNear Zero one_entry (silent_watch 1735454400 [] ∷ []) → ⊥
clock-far near = omega (arith, newest-one, near.0)

pub put-near : ClocksAreNear Zero []
    (silent_watch first_moment one_entry ∷ silent_watch 1735454401 [] ∷ [])
put-near = (omega (arith, none-newest), (omega (arith, newest-one), tt))

pub put-far : ClocksAreNear Zero []
    (silent_watch first_moment one_entry ∷ silent_watch 1735454400 [] ∷ []) → ⊥
put-far near = omega (arith, newest-one, near.1.0)

other-remembered : remembered_on One one_entry ≡ []
unfolding memory_entries
other-remembered = refl

pub other-near : ClocksAreNear One one_entry (silent_watch 0 [] ∷ [])
other-near = (omega (arith, ap newest_moment other-remembered), tt)

-- ---- sendings that are 66 hours apart

-- 66 hours behind the first
abbrev later_moment : ℕ
later_moment = 1735929600

later-start : (second_watch later_moment).starts.moment ≡ first_moment
unfolding memory_entries is_memorable
later-start = refl

later-hears : Hears (second_watch later_moment).starts (lines_of (second_watch later_moment))
    later_moment
later-hears =
    hears-all (second_watch later_moment).starts later_moment refl
    (subst (λ (m : ℕ). m ≤ later_moment) (sym later-start) (lit≤ tt)) (lit≤ tt)

-- these two are the images of two of a list
record AreOf {A B : Type 0} (image : A → B) (one other : B) (list : List A) : Type 0 where
  first : A
  first_there : Contains list first
  first_is : image first ≡ one
  second : A
  second_there : Contains list second
  second_is : image second ≡ other

two-of : {A B : Type 0} (image : A → B) (one other : B) (list : List A)
    → one ∷ other ∷ [] ≡ map image list → AreOf image one other list
two-of image one other [] e = cc
two-of image one other (first ∷ []) e = cc
two-of image one other (first ∷ second ∷ list) e =
    let a : image first ≡ one = cc in
    let b : image second ≡ other = cc in
    record {
      first = first;
      first_there = (0, omega arith, refl);
      first_is = a;
      second = second;
      second_there = (1, omega arith, refl);
      second_is = b;
    }

module _ (h : IsHeardInTimeOver Zero (watches_apart 237600) example_message) where
  -- the message is sent in a watch that found its copy
  sent-in : (cut : CutWatch) (watch : Watch) (n : ℕ) → Contains h.cuts cut → cut.watch ≡ watch
      → watch.found ≡ found_on → Hears watch.starts (lines_of watch) n
      → IsSentIn Zero h.cuts example_message cut 1189
  sent-in cut watch n among is finds hears =
      let found : cut.watch.found ≡ found_on = ap (λ (w : Watch). w.found) is ∙ finds in
      let there : Contains (cut.watch.found Zero) copy_heard =
      subst (λ (f : Channel → List FoundCopy). Contains (f Zero) copy_heard) (sym found)
      (0, lit< tt, refl) in
      record {
        among = among;
        sent = (h.alone cut copy_heard among there refl).0;
        heard = subst (λ (w : Watch). 1189 < length (elements_in Zero w)) (sym is) hears.long;
      }

  -- its moment is in force there
  force-in : (cut : CutWatch) (watch : Watch) (n : ℕ) → cut.watch ≡ watch
      → Hears watch.starts (lines_of watch) n → (in_force_in Zero cut 1189).moment ≡ n
  force-in cut watch n is hears =
      ap (λ (w : Watch). (setting_at (first_setting (start_in Zero w)) (events_in Zero w)
      1189).moment) is
      ∙ ap (λ (s : Setting). s.moment) hears.force

  pub not-heard : ⊥
  not-heard =
      let c = two-of (λ (cut : CutWatch). cut.watch) first_watch (second_watch later_moment) h.cuts
      h.whole in
      let one = sent-in c.first first_watch first_moment c.first_there c.first_is refl first-hears in
      let other = sent-in c.second (second_watch later_moment) later_moment c.second_there
      c.second_is refl later-hears in
      omega (
        arith,
        h.close c.second c.first 1189 1189 other one,
        force-in c.first first_watch first_moment c.first_is first-hears,
        force-in c.second (second_watch later_moment) later_moment c.second_is later-hears,
      )

-- ---- entries behind an entry

abbrev other_entry : MemoryEntry
other_entry = record { identity = eb02; moment = first_moment }

others-kept : (count : ℕ) → entries_on Zero (other_entries count) ≡ replicate count other_entry
unfolding memory_entries is_memorable
others-kept zero = refl
others-kept (suc count) = ap (λ l. other_entry ∷ l) (others-kept count)

one-kept : entries_on Zero one_entry ≡ entry_of first_copy ∷ []
unfolding memory_entries is_memorable
one-kept = refl

-- the entries that the first two of the watches made
put-between : (count : ℕ) → entries_on Zero (one_entry ++ (other_entries count ++ []))
    ≡ entry_of first_copy ∷ replicate count other_entry
put-between count =
    entries-append Zero one_entry (other_entries count ++ [])
    ∙ ap₂ (λ a b. a ++ b) one-kept
    (ap (entries_on Zero) (append-nil (other_entries count)) ∙ others-kept count)

between-long : (count : ℕ) → length (entries_on Zero (one_entry ++ (other_entries count ++ [])))
    ≡ count + 1
between-long count =
    ap length (put-between count)
    ∙ omega (arith, length-replicate count other_entry)

-- each of the watches judges one copy at most
abbrev JudgesOne : Watch → Type 0
JudgesOne watch = length (copies_in Zero watch) ≤ 1

judge-one : (count : ℕ) → All JudgesOne (watches_between count)
unfolding tagged_copies
judge-one count =
    let rest = silent_watch first_moment (other_entries count) ∷ second_watch 1735706400 ∷ [] in
    All-cons JudgesOne first_watch rest (lit≤ tt)
    (All-cons JudgesOne (silent_watch first_moment (other_entries count))
    (second_watch 1735706400 ∷ []) (lit≤ tt)
    (All-cons JudgesOne (second_watch 1735706400) [] (lit≤ tt) (All-nil JudgesOne)))

pub few-between : AreFewOver Zero (watches_between 199) ea01
few-between later before behind entry named made same =
    let put = entries_on Zero (all_put later.before) in
    let rest = later.watch ∷ later.after in
    let known = later.watch.starts.entries Zero in
    let parts : entries_on Zero (all_put (watches_between 199))
    ≡ put ++ entries_on Zero (all_put rest) =
    ap (λ l. entries_on Zero (all_put l)) later.among
    ∙ ap (entries_on Zero) (put-append later.before rest)
    ∙ entries-append Zero (all_put later.before) (all_put rest) in
    let here = All-head JudgesOne later.watch later.after
    (all-back JudgesOne later.before rest (subst (All JudgesOne) later.among (judge-one 199))) in
    omega (
      arith,
      between-long 199,
      ap length parts ∙ length-append put (entries_on Zero (all_put rest)),
      here,
      ap length later.judged ∙ length-append later.earlier (later.copy ∷ later.later),
      made_few known later.earlier,
      sym (length-append put (entries_made known later.earlier)) ∙ ap length made
          ∙ length-append before (entry ∷ behind),
    )

-- the copy of the last of the watches
last-judged : JudgedCopy Zero (watches_between 200)
last-judged = record {
  before = first_watch ∷ silent_watch first_moment (other_entries 200) ∷ [];
  watch = second_watch 1735706400;
  after = [];
  among = refl;
  earlier = [];
  copy = copy_then 1735706400;
  later = [];
  judged = (second-hears 1735706400 four-hours).copies;
}

last-made : made_before last-judged ≡ [] ++ entry_of first_copy ∷ replicate 200 other_entry
unfolding entries_made last-judged
last-made =
    append-nil (entries_on Zero (one_entry ++ (other_entries 200 ++ []))) ∙ put-between 200

pub not-few : AreFewOver Zero (watches_between 200) ea01 → ⊥
unfolding last-judged
not-few few =
    omega (
      arith,
      few last-judged [] (replicate 200 other_entry) (entry_of first_copy) (same_itself ea01)
          last-made refl,
      length-replicate 200 other_entry,
    )

-- ---- an entry that is 66 hours old

-- a list of one has no parts but itself
one-part : {A : Type 0} (x y : A) (front back : List A) → x ∷ [] ≡ front ++ y ∷ back
    → (front ≡ []) × (y ≡ x)
one-part x y [] back e =
    let head : y ≡ x = cc in (refl, head)
one-part x y (a ∷ []) back e = cc
one-part x y (a ∷ b ∷ front) back e = cc

module _ (moment : ℕ) (starts : (watch_behind moment).starts.entries Zero ≡ entry_then moment ∷ [])
    (low : (watch_behind moment).starts.moment ≤ first_moment) where
  abbrev behind : Watch
  behind = watch_behind moment

  hears : Hears behind.starts (lines_of behind) first_moment
  hears = hears-all behind.starts first_moment refl low (lit≤ tt)

  -- the copy that the watch judges is the first of its identity
  abbrev judged-first : JudgedCopy Zero (behind ∷ [])
  judged-first = record {
    before = [];
    watch = behind;
    after = [];
    among = refl;
    earlier = [];
    copy = first_copy;
    later = [];
    judged = hears.copies;
  }

  known-behind : (first : JudgedCopy Zero (behind ∷ []))
      → is_remembered (entries_after (first.watch.starts.entries Zero) first.earlier) first.copy
      ≡ is_remembered (entry_then moment ∷ []) first_copy
  unfolding entries_made
  known-behind first =
      let among = one-part behind first.watch first.before first.after first.among in
      let copies : first_copy ∷ [] ≡ first.earlier ++ first.copy ∷ first.later =
      sym hears.copies ∙ ap (copies_in Zero) (sym among.1) ∙ first.judged in
      let parts = one-part first_copy first.copy first.earlier first.later copies in
      ap (λ (w : Watch). is_remembered (entries_after (w.starts.entries Zero) first.earlier)
      first.copy) among.1
      ∙ ap (λ (es : List MemoryEntry). is_remembered (entries_after es first.earlier) first.copy)
      starts
      ∙ ap₂ (λ (cs : List TaggedCopy) (c : TaggedCopy).
      is_remembered (entries_after (entry_then moment ∷ []) cs) c) parts.0 parts.1

old-starts : (watch_behind 1735454400).starts.entries Zero ≡ entry_then 1735454400 ∷ []
unfolding memory_entries is_memorable
old-starts = refl

old-low : (watch_behind 1735454400).starts.moment ≤ first_moment
unfolding memory_entries is_memorable
old-low = lit≤ tt

old-gone : is_remembered (entry_then 1735454400 ∷ []) first_copy ≡ false
old-gone = refl

pub old-unknown : IsUnknownOver Zero (watch_behind 1735454400 ∷ []) ea01
old-unknown first named none = known-behind 1735454400 old-starts old-low first ∙ old-gone

young-starts : (watch_behind 1735454401).starts.entries Zero ≡ entry_then 1735454401 ∷ []
unfolding memory_entries is_memorable
young-starts = refl

young-low : (watch_behind 1735454401).starts.moment ≤ first_moment
unfolding memory_entries is_memorable
young-low = lit≤ tt

young-stays : is_remembered (entry_then 1735454401 ∷ []) first_copy ≡ true
young-stays = refl

pub young-known : IsUnknownOver Zero (watch_behind 1735454401 ∷ []) ea01 → ⊥
unfolding copies_of
young-known unknown =
    let first = judged-first 1735454401 young-starts young-low in
    true≢false (sym (known-behind 1735454401 young-starts young-low first ∙ young-stays)
    ∙ unknown first (same_itself ea01) refl)

-- ---- one receiver

pub old-at-first : IsUnknownAtFirst (entry_then 1735454400 ∷ []) ea01 (first_copy ∷ [])
unfolding entries_made
old-at-first before after first e none named =
    let parts = one-part first_copy first before after e in
    ap₂ (λ (cs : List TaggedCopy) (c : TaggedCopy).
    is_remembered (entries_after (entry_then 1735454400 ∷ []) cs) c) parts.0 parts.1 ∙ old-gone

pub young-at-first : IsUnknownAtFirst (entry_then 1735454401 ∷ []) ea01 (first_copy ∷ []) → ⊥
unfolding entries_made copies_of
young-at-first unknown =
    true≢false (sym young-stays ∙ unknown [] [] first_copy refl refl (same_itself ea01))

spaced-long : (moment count : ℕ) → length (spaced moment count) ≡ count
spaced-long moment zero = refl
spaced-long moment (suc count) = omega (arith, spaced-long (moment + seconds_known) count)

between-count : (count : ℕ) → length (copies_between count) ≡ count + 2
between-count count =
    omega (
      arith,
      length-append (spaced (first_moment + seconds_known) count) (first_copy ∷ []),
      spaced-long (first_moment + seconds_known) count,
    )

pub few-at-first : FewBetween [] ea01 (copies_between 199)
few-at-first before between after first later e none named again =
    let made = entries_after [] (before ++ first ∷ []) in
    omega (
      arith,
      between-count 199,
      ap length e ∙ length-append before (first ∷ (between ++ later ∷ after)),
      length-append between (later ∷ after),
      made_few made between,
    )

-- an entry is 66 hours old or more at this moment
abbrev IsOld : ℕ → MemoryEntry → Type 0
IsOld moment entry = entry.moment + seconds_known ≤ moment

-- so none of them is live
none-known : (moment : ℕ) (entries : List MemoryEntry) → All (IsOld moment) entries
    → is_known eb02 moment entries ≡ false
none-known moment [] all = refl
none-known moment (entry ∷ entries) all =
    let old = All-head (IsOld moment) entry entries all in
    let aged : nat_lt (moment - entry.moment) seconds_known ≡ false =
    le-ltb (moment - entry.moment) seconds_known (omega (arith, old)) in
    ap₂ (λ a b. a || b)
    (and_right (same_identity entry.identity eb02) (nat_lt (moment - entry.moment) seconds_known)
    aged)
    (none-known moment entries (All-tail (IsOld moment) entry entries all))

abbrev other_at : ℕ → MemoryEntry
other_at moment = record { identity = eb02; moment = moment }

made-old : (moment : ℕ) (entries : List MemoryEntry) → All (IsOld moment) entries
    → entry_made entries (heard_at moment eb02 Full []) ≡ other_at moment ∷ []
unfolding entry_made is_entered is_printed
made-old moment entries all =
    let last = last_of most_entries entries in
    let new : is_known eb02 moment last ≡ false =
    none-known moment last (All-drop (IsOld moment) (length entries - most_entries) entries all) in
    ap (λ b. cond (((true && (false || not b)) && true) && true) (other_at moment ∷ []) []) new

later-old : (moment : ℕ) (entries : List MemoryEntry) → All (IsOld moment) entries
    → All (IsOld (moment + seconds_known)) (entries ++ other_at moment ∷ [])
later-old moment entries all =
    All-append (IsOld (moment + seconds_known)) entries (other_at moment ∷ [])
    (All-weaker (IsOld moment) (IsOld (moment + seconds_known)) (λ e old. omega (arith, old))
    entries all)
    (All-cons (IsOld (moment + seconds_known)) (other_at moment) [] (omega arith)
    (All-nil (IsOld (moment + seconds_known))))

spaced-made : (moment count : ℕ) (entries : List MemoryEntry) → All (IsOld moment) entries
    → length (entries_made entries (spaced moment count)) ≡ count
unfolding entries_made
spaced-made moment zero entries all = refl
spaced-made moment (suc count) entries all =
    let rest = spaced (moment + seconds_known) count in
    let next = spaced-made (moment + seconds_known) count (entries ++ other_at moment ∷ [])
    (later-old moment entries all) in
    ap (λ (made : List MemoryEntry). length (made ++ entries_made (entries ++ made) rest))
    (made-old moment entries all)
    ∙ omega (arith, next)

one-made : entries_after [] (first_copy ∷ []) ≡ entry_of first_copy ∷ []
unfolding entries_made entry_made is_entered is_printed
one-made = refl

pub many-at-first : FewBetween [] ea01 (copies_between 200) → ⊥
unfolding copies_of
many-at-first few =
    let between = spaced (first_moment + seconds_known) 200 in
    let made = entries_after [] (first_copy ∷ []) in
    let old : All (IsOld (first_moment + seconds_known)) made =
    subst (All (IsOld (first_moment + seconds_known))) (sym one-made)
    (All-cons (IsOld (first_moment + seconds_known)) (entry_of first_copy) [] (lit≤ tt)
    (All-nil (IsOld (first_moment + seconds_known)))) in
    omega (
      arith,
      few [] between [] first_copy first_copy refl refl (same_itself ea01) (same_itself ea01),
      spaced-made (first_moment + seconds_known) 200 made old,
    )
