-- An entry of an identity, behind which no other of it and none from before it stands, stays known
-- where a watch starts.
use Rattle.std.proofs.Common.{◌≡◌, ℕ, ◌+◌, ◌-◌, ◌<◌, ◌≤◌, Bool, true, false, not, ◌&&◌, ◌||◌, cond, List}
use Rattle.std.proofs.Common.{[], ◌∷◌, ◌++◌, length, drop, refl, sym, ap, ap₂, ◌∙◌, subst, arith, lt-ltb}
use Rattle.std.proofs.Common.{nat_le, nat_lt, append_assoc}
use Rattle.std.specs.Prelude.{filter}
use Rattle.std.specs.List.{All, list_any}
use Rattle.std.proofs.lemmas.Bool.{and_from, le-leb}
use Rattle.std.proofs.lemmas.List.{drop-append-le, length-append}
use Rattle.std.proofs.lemmas.List.Elements.{All-filter, All-head, All-tail, filter-append}
use Rattle.std.proofs.lemmas.List.Sums.{count_by-le-length, length-filter}
use Rattle.nx_code.specs.Lists.{last_of}
use Rattle.nx_envelope.specs.Identity.{same_identity}
use Rattle.nx_memory.specs.Memory.{most_entries, newest_moment, seconds_known}
use Rattle.nx_memory.specs.declared.memories.entry.MemoryEntry.{MemoryEntry}
use Rattle.nx_memory.proofs.lemmas.Content.{newest_behind}
use Rattle.nx_memory.specs.Content.{is_last_known, passing, renews}
use Rattle.nx_watch.specs.Start.{is_in_order, is_near, remembered_at}
use Rattle.nx_memory.proofs.lemmas.Renewed.{All-passing, length-passing}

-- an entry of another identity than this one, and not from before it
pub record IsBehind (entry other : MemoryEntry) : Type 0 where
  pub apart : same_identity entry.identity other.identity ≡ false
  pub late : entry.moment ≤ other.moment

-- the entry stands in the list, with so many behind it, or fewer, and all of them such
pub record Stands (entry : MemoryEntry) (count : ℕ) (entries : List MemoryEntry) : Type 0 where
  pub front : List MemoryEntry
  pub behind : List MemoryEntry
  pub whole : entries ≡ front ++ entry ∷ behind
  pub all : All (IsBehind entry) behind
  pub few : length behind ≤ count

-- ---- the newest entry

pub newest-append : (front behind : List MemoryEntry) (entry : MemoryEntry)
    → newest_moment (front ++ entry ∷ behind) ≡ newest_moment (entry ∷ behind)
newest-append [] behind entry = refl
newest-append (x ∷ []) behind entry = newest_behind x entry behind
newest-append (x ∷ y ∷ front) behind entry =
    newest_behind x y (front ++ entry ∷ behind) ∙ newest-append (y ∷ front) behind entry

newest-late : (m : ℕ) (entry : MemoryEntry) (behind : List MemoryEntry) → m ≤ entry.moment
    → All (λ other. m ≤ other.moment) behind → m ≤ newest_moment (entry ∷ behind)
newest-late m entry [] low late = low
newest-late m entry (next ∷ behind) low late =
    subst (λ (n : ℕ). m ≤ n) (sym (newest_behind entry next behind))
    (newest-late m next behind (All-head (λ (it : MemoryEntry). m ≤ it.moment) next behind late)
    (All-tail (λ (it : MemoryEntry). m ≤ it.moment) next behind late))

all-late : (entry : MemoryEntry) (behind : List MemoryEntry) → All (IsBehind entry) behind
    → All (λ other. entry.moment ≤ other.moment) behind
all-late entry behind all k d below = (all k d below).late

pub stands-newest : (entry : MemoryEntry) (count : ℕ) (entries : List MemoryEntry)
    → Stands entry count entries → entry.moment ≤ newest_moment entries
stands-newest entry count entries s =
    let itself : entry.moment ≤ entry.moment = omega arith in
    subst (λ (n : ℕ). entry.moment ≤ n)
    (sym (ap newest_moment s.whole ∙ newest-append s.front s.behind entry))
    (newest-late entry.moment entry s.behind itself (all-late entry s.behind s.all))

-- ---- what a start leaves out

stands-last : (entry : MemoryEntry) (count : ℕ) (entries : List MemoryEntry)
    → count < most_entries → Stands entry count entries
    → Stands entry count (last_of most_entries entries)
stands-last entry count entries small s =
    let tail = entry ∷ s.behind in
    let long = length-append s.front tail in
    let n = length (s.front ++ tail) - most_entries in
    let within : n ≤ length s.front = omega (arith, long, s.few, small) in
    record {
      front = drop n s.front;
      behind = s.behind;
      whole = ap (last_of most_entries) s.whole ∙ drop-append-le n s.front tail within;
      all = s.all;
      few = s.few;
    }

stands-near : (moment : ℕ) (entry : MemoryEntry) (count : ℕ) (entries : List MemoryEntry)
    → newest_moment entries < moment + seconds_known → Stands entry count entries
    → Stands entry count (filter (is_near moment) entries)
stands-near moment entry count entries near s =
    let newest = stands-newest entry count entries s in
    let kept : filter (is_near moment) (entry ∷ s.behind)
    ≡ entry ∷ filter (is_near moment) s.behind =
    ap (λ b. cond b (entry ∷ filter (is_near moment) s.behind) (filter (is_near moment) s.behind))
    (lt-ltb (entry.moment - moment) seconds_known (omega (arith, near, newest))) in
    record {
      front = filter (is_near moment) s.front;
      behind = filter (is_near moment) s.behind;
      whole = ap (filter (is_near moment)) s.whole
          ∙ filter-append (is_near moment) s.front (entry ∷ s.behind)
          ∙ ap (λ l. filter (is_near moment) s.front ++ l) kept;
      all = All-filter (is_near moment) (IsBehind entry) s.behind s.all;
      few = omega (
        arith,
        s.few,
        length-filter (is_near moment) s.behind,
        count_by-le-length (is_near moment) s.behind,
      );
    }

-- those that pass of a list and more
passing-append : (test : MemoryEntry → List MemoryEntry → Bool) (front back : List MemoryEntry)
    → (kept : List MemoryEntry) × (passing test (front ++ back) ≡ kept ++ passing test back)
passing-append test [] back = ([], refl)
passing-append test (x ∷ front) back =
    let rest = passing-append test front back in
    let head = cond (test x (front ++ back)) (x ∷ []) [] in (
      head ++ rest.0,
      ap (λ l. head ++ l) rest.1
          ∙ sym (append_assoc head rest.0 (passing test back)),
    )

stands-passing : (test : MemoryEntry → List MemoryEntry → Bool) (entry : MemoryEntry) (count : ℕ)
    (entries : List MemoryEntry)
    → ((behind : List MemoryEntry) → All (IsBehind entry) behind → test entry behind ≡ true)
    → Stands entry count entries → Stands entry count (passing test entries)
stands-passing test entry count entries passes s =
    let kept = passing-append test s.front (entry ∷ s.behind) in
    record {
      front = kept.0;
      behind = passing test s.behind;
      whole = ap (passing test) s.whole ∙ kept.1
          ∙ ap (λ b. kept.0 ++ (cond b (entry ∷ []) [] ++ passing test s.behind))
          (passes s.behind s.all);
      all = All-passing (IsBehind entry) test s.behind s.all;
      few = omega (arith, s.few, length-passing test s.behind);
    }

order-passes : (entry : MemoryEntry) (behind : List MemoryEntry) → All (IsBehind entry) behind
    → is_in_order entry behind ≡ true
order-passes entry [] all = refl
order-passes entry (next ∷ behind) all =
    and_from (nat_le entry.moment next.moment) (is_in_order entry behind)
    (le-leb entry.moment next.moment (All-head (IsBehind entry) next behind all).late)
    (order-passes entry behind (All-tail (IsBehind entry) next behind all))

none-renews : (entry : MemoryEntry) (behind : List MemoryEntry) → All (IsBehind entry) behind
    → list_any (λ other. renews entry other) behind ≡ false
none-renews entry [] all = refl
none-renews entry (next ∷ behind) all =
    ap₂ (λ a b. a || b)
    (ap (λ b. b && nat_lt (next.moment - entry.moment) seconds_known)
    (All-head (IsBehind entry) next behind all).apart)
    (none-renews entry behind (All-tail (IsBehind entry) next behind all))

-- so the entry is known where a watch starts
pub stands-remembered : (moment : ℕ) (entry : MemoryEntry) (count : ℕ) (entries : List MemoryEntry)
    → count < most_entries
    → newest_moment (last_of most_entries entries) < moment + seconds_known
    → Stands entry count entries
    → Stands entry count (remembered_at moment (last_of most_entries entries))
stands-remembered moment entry count entries small near s =
    let last = last_of most_entries entries in
    let close = filter (is_near moment) last in
    stands-passing is_last_known entry count (passing is_in_order close)
    (λ behind all. ap not (none-renews entry behind all))
    (stands-passing is_in_order entry count close (order-passes entry)
    (stands-near moment entry count last near (stands-last entry count entries small s)))
