-- The lines of a channel: what a further line has to be.
use Rattle.std.proofs.Common.{◌≡◌, ◌≢◌, ℕ, ◌+◌, ◌-◌, ◌/◌, ◌%◌, ◌<◌, ◌≤◌, Bool, true, false, not}
use Rattle.std.proofs.Common.{◌&&◌, List, [], ◌∷◌, ◌++◌, length, map, get_or, drop, eqb, leb, refl}
use Rattle.std.proofs.Common.{sym, ap, ◌∙◌, subst, append_assoc, arith}
use Rattle.std.specs.List.{AllByRecursion}
use Rattle.std.specs.Fmt.{decimal}
use Rattle.std.specs.FinSet as set
use Rattle.std.proofs.lemmas.Bool.{and_parts, and_from, eq-eqb, ltb-true, lt-ltb, leb-true, le-leb}
use Rattle.std.proofs.lemmas.Bool.{true≢false, not-true}
use Rattle.std.proofs.lemmas.Bool.Decides.{Decides-eqb}
use Rattle.std.proofs.lemmas.Fmt.{decimal_injective}
use Rattle.std.proofs.lemmas.List.{append-nil, length-append, map_push, nil_from_length}
use Rattle.std.proofs.lemmas.List.Elements.{All-from_recursion, recursion_from_All}
use Rattle.nx_envelope.specs.declared.identity.Identity.{Identity}
use Rattle.nx_envelope.specs.Moment.{last_moment}
use Rattle.nx_envelope.proofs.lemmas.headers.Identities.{same_from_bytes}
use Rattle.nx_memory.specs.declared.memories.entry.MemoryEntry.{MemoryEntry}
use Rattle.nx_memory.specs.declared.state.saved_line.SavedLine.{SavedLine}
use Rattle.nx_memory.specs.declared.state.saved_line.SavedLine.TheVariants.{Station, Subject, Entry}
use Rattle.nx_code.specs.Reading.{IsCapital}
use Rattle.nx_code.proofs.lemmas.Each.{each_append, each_left, each_right}
use Rattle.nx_memory.specs.Content.{IsLater, AreInTurn, IsContent}
use Rattle.nx_memory.specs.Memory.{most_entries, newest_moment, content_after, is_known}
use Rattle.nx_memory.specs.Selection.{is_vital}
use Rattle.nx_memory.specs.Saved.{SavedState, IsSavedState}
use Rattle.nx_memory.specs.StateText.{spelling, rising, said, section}
use Rattle.nx_memory.specs.private.StateReading.{IsSpelled, IsRefused, is_behind, takes, with_line}
use Rattle.nx_memory.proofs.lemmas.Content.{none_later, newest_behind, content_after-IsContent}
use Rattle.nx_memory.proofs.lemmas.Letters.{letters_only-insert, without_vital-insert}
use Rattle.nx_memory.proofs.lemmas.Loading.{newest_within, unknown_within}
use Rattle.nx_memory.proofs.lemmas.Rising.{IsRising, rising-rises, rising-from_a, rising-to_z}
use Rattle.nx_memory.proofs.lemmas.Rising.{rising-contains, rising-push}

pub each_map : {X Y : Type 0} (P : Y → Type 0) (f : X → Y) (xs : List X)
    → AllByRecursion (λ x. P (f x)) xs → AllByRecursion P (map f xs)
each_map P f [] all = tt
each_map P f (x ∷ xs) all = (all.0, each_map P f xs all.1)

pub each_of_map : {X Y : Type 0} (P : Y → Type 0) (f : X → Y) (xs : List X)
    → AllByRecursion P (map f xs) → AllByRecursion (λ x. P (f x)) xs
each_of_map P f [] all = tt
each_of_map P f (x ∷ xs) all = (all.0, each_of_map P f xs all.1)

pub each_weaker : {X : Type 0} (P Q : X → Type 0) → ((x : X) → P x → Q x) → (xs : List X)
    → AllByRecursion P xs → AllByRecursion Q xs
each_weaker P Q gives [] all = tt
each_weaker P Q gives (x ∷ xs) all = (gives x all.0, each_weaker P Q gives xs all.1)

pub each_both : {X : Type 0} (P Q : X → Type 0) (xs : List X) → AllByRecursion P xs
    → AllByRecursion Q xs → AllByRecursion (λ x. P x × Q x) xs
each_both P Q [] ps qs = tt
each_both P Q (x ∷ xs) ps qs = ((ps.0, qs.0), each_both P Q xs ps.1 qs.1)

pub each : {X : Type 0} (P : X → Type 0) → ((x : X) → P x) → (xs : List X) → AllByRecursion P xs
each P all [] = tt
each P all (x ∷ xs) = (all x, each P all xs)

-- two entries that are spelled alike are one
same_entry : (a b : MemoryEntry) → a.moment ≤ last_moment → b.moment ≤ last_moment
    → spelling (Entry a) ≡ spelling (Entry b) → a ≡ b
same_entry a b small_a small_b e =
    let station : a.identity.b1.byte ≡ b.identity.b1.byte = ap (λ l. get_or l 0 0) e in
    let subject : a.identity.b2.byte ≡ b.identity.b2.byte = ap (λ l. get_or l 1 0) e in
    let tens : 48 + a.identity.number / 10 ≡ 48 + b.identity.number / 10 =
    ap (λ l. get_or l 2 0) e in
    let units : 48 + a.identity.number % 10 ≡ 48 + b.identity.number % 10 =
    ap (λ l. get_or l 3 0) e in
    let number : a.identity.number ≡ b.identity.number = omega arith in
    let identity = same_from_bytes a.identity b.identity station subject number in
    let digits : decimal a.moment ≡ decimal b.moment = ap (drop 5) e in
    let moment : a.moment ≡ b.moment =
    decimal_injective a.moment b.moment (omega arith) (omega arith) digits in
    ap (λ (i : Identity). record { identity = i; moment = a.moment }) identity
    ∙ ap (λ (m : ℕ). record { identity = b.identity; moment = m }) moment

-- so are two lines
pub same_line : (a b : SavedLine) → IsSpelled a → IsSpelled b → spelling a ≡ spelling b → a ≡ b
same_line (Station x) (Station y) a b e = ap Station (ap (λ l. get_or l 3 0) e)
same_line (Station x) (Subject y) a b e =
    absurd (omega (arith, ap (λ (l : List ℕ). get_or l 1 0) e))
same_line (Station x) (Entry y) a b e = absurd (omega (arith, ap (λ (l : List ℕ). get_or l 2 0) e))
same_line (Subject x) (Station y) a b e =
    absurd (omega (arith, ap (λ (l : List ℕ). get_or l 1 0) e))
same_line (Subject x) (Subject y) a b e = ap Subject (ap (λ l. get_or l 3 0) e)
same_line (Subject x) (Entry y) a b e = absurd (omega (arith, ap (λ (l : List ℕ). get_or l 2 0) e))
same_line (Entry x) (Station y) a b e = absurd (omega (arith, ap (λ (l : List ℕ). get_or l 2 0) e))
same_line (Entry x) (Subject y) a b e = absurd (omega (arith, ap (λ (l : List ℕ). get_or l 2 0) e))
same_line (Entry x) (Entry y) a b e = ap Entry (same_entry x y a b e)

-- what one line says may stand before what another says
abbrev pub Precedes : SavedLine → SavedLine → Type 0
Precedes (Station a) (Station b) = a < b
Precedes (Station a) (Subject b) = Unit {0}
Precedes (Station a) (Entry b) = Unit {0}
Precedes (Subject a) (Station b) = ⊥
Precedes (Subject a) (Subject b) = a < b
Precedes (Subject a) (Entry b) = Unit {0}
Precedes (Entry a) (Station b) = ⊥
Precedes (Entry a) (Subject b) = ⊥
Precedes (Entry a) (Entry b) = IsLater a b

-- it may stand anywhere
abbrev pub IsGood : SavedLine → Type 0
IsGood (Station a) = (64 < a) × (a < 91)
IsGood (Subject a) = (64 < a) × (a < 91) × (is_vital a ≡ false)
IsGood (Entry e) = (0 < e.identity.number) × (e.moment ≤ last_moment)

abbrev pub StandInTurn : List SavedLine → Type 0
StandInTurn [] = Unit {0}
StandInTurn (x ∷ xs) = AllByRecursion (Precedes x) xs × StandInTurn xs

-- those before a line precede it
before_in_turn : (xs : List SavedLine) (x : SavedLine) (more : List SavedLine)
    → StandInTurn (xs ++ x ∷ more) → AllByRecursion (λ y. Precedes y x) xs
before_in_turn [] x more turn = tt
before_in_turn (y ∷ ys) x more turn =
    ((each_right (Precedes y) ys (x ∷ more) turn.0).0, before_in_turn ys x more turn.1)

turn_append : (xs ys : List SavedLine) → StandInTurn xs → StandInTurn ys
    → AllByRecursion (λ x. AllByRecursion (Precedes x) ys) xs → StandInTurn (xs ++ ys)
turn_append [] ys left right cross = right
turn_append (x ∷ xs) ys left right cross =
    (each_append (Precedes x) xs ys left.0 cross.0, turn_append xs ys left.1 right cross.1)

stations_in_turn : (xs : List ℕ) → IsRising xs → StandInTurn (map Station xs)
stations_in_turn [] rises = tt
stations_in_turn (x ∷ xs) rises =
    (each_map (Precedes (Station x)) Station xs rises.0, stations_in_turn xs rises.1)

subjects_in_turn : (xs : List ℕ) → IsRising xs → StandInTurn (map Subject xs)
subjects_in_turn [] rises = tt
subjects_in_turn (x ∷ xs) rises =
    (each_map (Precedes (Subject x)) Subject xs rises.0, subjects_in_turn xs rises.1)

entries_in_turn : (xs : List MemoryEntry) → AreInTurn xs → StandInTurn (map Entry xs)
entries_in_turn [] turn = tt
entries_in_turn (x ∷ xs) turn = (
  each_map (Precedes (Entry x)) Entry xs (recursion_from_All (IsLater x) xs turn.0),
  entries_in_turn xs turn.1,
)

said_in_turn : (saved : SavedState) → IsSavedState saved → StandInTurn (said saved)
said_in_turn saved is =
    let stations = rising saved.refused.stations in
    let subjects = rising saved.refused.subjects in
    let entries = saved.entries in
    let later = turn_append (map Subject subjects) (map Entry entries)
    (subjects_in_turn subjects (rising-rises saved.refused.subjects))
    (entries_in_turn entries is.entries.content.in_turn)
    (each_map (λ x. AllByRecursion (Precedes x) (map Entry entries)) Subject subjects
    (each _ (λ x. each_map (Precedes (Subject x)) Entry entries (each _ (λ _. tt) entries))
    subjects)) in
    turn_append (map Station stations) (map Subject subjects ++ map Entry entries)
    (stations_in_turn stations (rising-rises saved.refused.stations)) later
    (each_map (λ x. AllByRecursion (Precedes x) (map Subject subjects ++ map Entry entries)) Station
    stations (each _ (λ x.
    each_append (Precedes (Station x)) (map Subject subjects) (map Entry entries)
    (each_map (Precedes (Station x)) Subject subjects (each _ (λ _. tt) subjects))
    (each_map (Precedes (Station x)) Entry entries (each _ (λ _. tt) entries))) stations))

-- a subject that is refused isn't vital
not_vital : (saved : SavedState) → IsSavedState saved → (x : ℕ)
    → set.contains saved.refused.subjects x ≡ true → is_vital x ≡ false
not_vital saved is x there = elim (is_vital x) as (λ b. is_vital x ≡ b → b ≡ false) [
  | true ↦ λ vital. absurd (true≢false (sym there ∙ is.refused.without_vital x vital))
  | false ↦ λ _. refl
] refl

pub said_good : (saved : SavedState) → IsSavedState saved → AllByRecursion IsGood (said saved)
said_good saved is =
    let stations = rising saved.refused.stations in
    let subjects = rising saved.refused.subjects in
    let entries = saved.entries in
    each_append IsGood (map Station stations) (map Subject subjects ++ map Entry entries)
    (each_map IsGood Station stations
    (each_both (λ x. 64 < x) (λ x. x < 91) stations (rising-from_a saved.refused.stations)
    (rising-to_z saved.refused.stations)))
    (each_append IsGood (map Subject subjects) (map Entry entries)
    (each_map IsGood Subject subjects
    (good_subjects saved is subjects (rising-from_a saved.refused.subjects)
    (rising-to_z saved.refused.subjects) (rising-contains saved.refused.subjects)))
    (each_map IsGood Entry entries
    (each_both (λ (e : MemoryEntry). 0 < e.identity.number)
    (λ (e : MemoryEntry). e.moment ≤ last_moment) entries
    (recursion_from_All (λ (e : MemoryEntry). 0 < e.identity.number) entries
    is.entries.content.numbered)
    (recursion_from_All (λ (e : MemoryEntry). e.moment ≤ last_moment) entries
    (none_later entries last_moment is.entries.content.in_turn is.entries.in_range)))))
  where
    good_subjects : (saved : SavedState) → IsSavedState saved → (xs : List ℕ)
        → AllByRecursion (λ x. 64 < x) xs → AllByRecursion (λ x. x < 91) xs
        → AllByRecursion (λ x. set.contains saved.refused.subjects x ≡ true) xs
        → AllByRecursion (λ x. (64 < x) × (x < 91) × (is_vital x ≡ false)) xs
    good_subjects saved is [] low high there = tt
    good_subjects saved is (x ∷ xs) low high there = (
      (low.0, high.0, not_vital saved is x there.0),
      good_subjects saved is xs low.1 high.1
          there.1,
    )

good_spelled : (x : SavedLine) → IsGood x → IsSpelled x
good_spelled (Station x) good = tt
good_spelled (Subject x) good = tt
good_spelled (Entry e) good = good.1

pub said_spelled : (saved : SavedState) → IsSavedState saved → AllByRecursion IsSpelled (said saved)
said_spelled saved is = each_weaker IsGood IsSpelled good_spelled (said saved) (said_good saved is)

-- how many are entries
entries_among : List SavedLine → ℕ
entries_among [] = 0
entries_among (Station x ∷ xs) = entries_among xs
entries_among (Subject x ∷ xs) = entries_among xs
entries_among (Entry e ∷ xs) = 1 + entries_among xs

unfolding_among : (xs ys : List SavedLine)
    → entries_among (xs ++ ys) ≡ entries_among xs + entries_among ys
unfolding entries_among
unfolding_among [] ys = omega arith
unfolding_among (Station x ∷ xs) ys = unfolding_among xs ys
unfolding_among (Subject x ∷ xs) ys = unfolding_among xs ys
unfolding_among (Entry e ∷ xs) ys = omega (arith, unfolding_among xs ys)

no_stations : (xs : List ℕ) → entries_among (map Station xs) ≡ 0
unfolding entries_among
no_stations [] = refl
no_stations (x ∷ xs) = no_stations xs

no_subjects : (xs : List ℕ) → entries_among (map Subject xs) ≡ 0
unfolding entries_among
no_subjects [] = refl
no_subjects (x ∷ xs) = no_subjects xs

all_entries : (xs : List MemoryEntry) → entries_among (map Entry xs) ≡ length xs
unfolding entries_among
all_entries [] = refl
all_entries (x ∷ xs) = omega (arith, all_entries xs)

entries_said : (saved : SavedState) → entries_among (said saved) ≡ length saved.entries
entries_said saved =
    unfolding_among (map Station (rising saved.refused.stations))
    (map Subject (rising saved.refused.subjects) ++ map Entry saved.entries)
    ∙ omega (
      arith,
      no_stations (rising saved.refused.stations),
      unfolding_among
          (map Subject (rising saved.refused.subjects)) (map Entry saved.entries),
      no_subjects
          (rising saved.refused.subjects),
      all_entries saved.entries,
    )

entries_at : (e : MemoryEntry) (more : List SavedLine) → 0 < entries_among (Entry e ∷ more)
unfolding entries_among
entries_at e more = omega arith

-- these precede a station, or a subject: so there is no entry, and no subject before a station
no_entry : (P : SavedLine → Type 0) → ((e : MemoryEntry) → ¬ P (Entry e))
    → (entries : List MemoryEntry) → AllByRecursion P (map Entry entries) → entries ≡ []
no_entry P none [] all = refl
no_entry P none (e ∷ entries) all = absurd (none e all.0)

no_subject : (P : SavedLine → Type 0) → ((x : ℕ) → ¬ P (Subject x)) → (subjects : List ℕ)
    → AllByRecursion P (map Subject subjects) → subjects ≡ []
no_subject P none [] all = refl
no_subject P none (x ∷ subjects) all = absurd (none x all.0)

all_behind : (letter : ℕ) (letters : List ℕ) → AllByRecursion (λ x. x < letter) letters
    → is_behind letter letters ≡ true
all_behind letter [] all = refl
all_behind letter (x ∷ letters) all =
    and_from _ _ (lt-ltb x letter all.0) (all_behind letter letters all.1)

upper : (x : ℕ) → 64 < x → x < 91 → (leb 65 x && leb x 90) ≡ true
upper x low high = and_from _ _ (le-leb 65 x (omega arith)) (le-leb x 90 (omega arith))

-- what stands next in what can be saved is taken
pub takes_next : (saved later : SavedState) (line : SavedLine) (more : List SavedLine)
    → IsSavedState later → said later ≡ said saved ++ line ∷ more → takes saved line ≡ true
unfolding takes
takes_next saved later (Station x) more is next =
    let stations = rising saved.refused.stations in
    let subjects = rising saved.refused.subjects in
    let before = before_in_turn (said saved) (Station x) more
    (subst StandInTurn next (said_in_turn later is)) in
    let good = (each_right IsGood (said saved) (Station x ∷ more)
    (subst (AllByRecursion IsGood) next (said_good later is))).0 in
    let P = λ (y : SavedLine). Precedes y (Station x) in
    let behind = each_right P (map Station stations)
    (map Subject subjects ++ map Entry saved.entries) before in
    let none : saved.entries ≡ [] =
    no_entry P (λ e no. no) saved.entries
    (each_right P (map Subject subjects) (map Entry saved.entries) behind) in
    let no_subjects : subjects ≡ [] =
    no_subject P (λ y no. no) subjects
    (each_left P (map Subject subjects) (map Entry saved.entries) behind) in
    and_from _ _ (upper x good.0 good.1)
    (and_from _ _ (ap (λ (l : List MemoryEntry). eqb (length l) 0) none)
    (and_from _ _ (ap (λ (l : List ℕ). eqb (length l) 0) no_subjects)
    (all_behind x stations (each_of_map P Station stations
    (each_left P (map Station stations) (map Subject subjects ++ map Entry saved.entries)
    before)))))
takes_next saved later (Subject x) more is next =
    let stations = rising saved.refused.stations in
    let subjects = rising saved.refused.subjects in
    let before = before_in_turn (said saved) (Subject x) more
    (subst StandInTurn next (said_in_turn later is)) in
    let good = (each_right IsGood (said saved) (Subject x ∷ more)
    (subst (AllByRecursion IsGood) next (said_good later is))).0 in
    let P = λ (y : SavedLine). Precedes y (Subject x) in
    let behind = each_right P (map Station stations)
    (map Subject subjects ++ map Entry saved.entries) before in
    let none : saved.entries ≡ [] =
    no_entry P (λ e no. no) saved.entries
    (each_right P (map Subject subjects) (map Entry saved.entries) behind) in
    and_from _ _ (upper x good.0 good.1)
    (and_from _ _ (ap not good.2)
    (and_from _ _ (ap (λ (l : List MemoryEntry). eqb (length l) 0) none)
    (all_behind x subjects (each_of_map P Subject subjects
    (each_left P (map Subject subjects) (map Entry saved.entries) behind)))))
takes_next saved later (Entry e) more is next =
    let stations = rising saved.refused.stations in
    let subjects = rising saved.refused.subjects in
    let before = before_in_turn (said saved) (Entry e) more
    (subst StandInTurn next (said_in_turn later is)) in
    let good = (each_right IsGood (said saved) (Entry e ∷ more)
    (subst (AllByRecursion IsGood) next (said_good later is))).0 in
    let P = λ (y : SavedLine). Precedes y (Entry e) in
    let behind = each_right P (map Station stations)
    (map Subject subjects ++ map Entry saved.entries) before in
    let earlier = All-from_recursion (λ (y : MemoryEntry). IsLater y e) saved.entries
    (each_of_map P Entry saved.entries
    (each_right P (map Subject subjects) (map Entry saved.entries) behind)) in
    let count : length later.entries ≡ length saved.entries + entries_among (Entry e ∷ more) =
    sym (entries_said later) ∙ ap entries_among next
    ∙ unfolding_among (said saved) (Entry e ∷ more)
    ∙ ap (λ n. n + entries_among (Entry e ∷ more)) (entries_said saved) in
    let bounded = is.entries.content.bounded in
    let some = entries_at e more in
    and_from _ _ (lt-ltb (length saved.entries) most_entries (omega arith))
    (and_from _ _ (lt-ltb 0 e.identity.number good.0)
    (and_from _ _ (le-leb (newest_moment saved.entries) e.moment
    (newest_within saved.entries e earlier)) (ap not (unknown_within saved.entries e earlier))))

-- a line that lines of what can be saved begin with says something that is spelled so
pub record SaysNext (xs ys : List SavedLine) (line : List ℕ) : Type 0 where
  pub one : SavedLine
  pub rest : List SavedLine
  pub spelled : line ≡ spelling one
  pub is_spelled : IsSpelled one
  pub next : xs ≡ ys ++ one ∷ rest

pub says_next : (xs ys : List SavedLine) (line : List ℕ) (more : List (List ℕ))
    → AllByRecursion IsSpelled xs → AllByRecursion IsSpelled ys
    → map spelling xs ≡ map spelling ys ++ line ∷ more → SaysNext xs ys line
says_next [] [] line more all before e = absurd (omega (arith, ap length e))
says_next [] (y ∷ ys) line more all before e = absurd (omega (arith, ap length e))
says_next (x ∷ xs) [] line more all before e =
    record { one = x; rest = xs; spelled = cc; is_spelled = all.0; next = refl }
says_next (x ∷ xs) (y ∷ ys) line more all before e =
    let head : spelling x ≡ spelling y = cc in
    let tail : map spelling xs ≡ map spelling ys ++ line ∷ more = cc in
    let same : x ≡ y = same_line x y all.0 before.0 head in
    let rest = says_next xs ys line more all.1 before.1 tail in
    record {
      one = rest.one;
      rest = rest.rest;
      spelled = rest.spelled;
      is_spelled = rest.is_spelled;
      next = ap (λ (l : List SavedLine). x ∷ l) rest.next
          ∙ ap (λ (it : SavedLine). it ∷ (ys ++ rest.one ∷ rest.rest)) same;
    }

-- a line that says nothing, or something that isn't taken, is refused
pub refused_unsaid : (saved : SavedState) (line : List ℕ) → IsSavedState saved
    → ((it : SavedLine) → IsSpelled it → line ≢ spelling it) → IsRefused saved line
refused_unsaid saved line is unsaid later more sound e =
    let next = says_next (said later) (said saved) line more (said_spelled later sound)
    (said_spelled saved is) e in
    unsaid next.one next.is_spelled next.spelled

pub refused_untaken : (saved : SavedState) (it : SavedLine) (line : List ℕ) → IsSavedState saved
    → line ≡ spelling it → IsSpelled it → takes saved it ≡ false → IsRefused saved line
refused_untaken saved it line is spelled can untaken later more sound e =
    let next = says_next (said later) (said saved) line more (said_spelled later sound)
    (said_spelled saved is) e in
    let same : it ≡ next.one =
    same_line it next.one can next.is_spelled (sym spelled ∙ next.spelled) in
    let taken = takes_next saved later next.one next.rest sound next.next in
    true≢false (sym taken ∙ ap (takes saved) (sym same) ∙ untaken)

-- a line that is taken stands behind those so far, and what is then said can be saved
pub record IsTaken (saved : SavedState) (it : SavedLine) : Type 0 where
  pub said_more : said (with_line saved it) ≡ said saved ++ it ∷ []
  pub sound : IsSavedState (with_line saved it)

upper_low : (x : ℕ) → (leb 65 x && leb x 90) ≡ true → 65 ≤ x
upper_low x h = leb-true 65 x (and_parts (leb 65 x) (leb x 90) h).0

upper_high : (x : ℕ) → (leb 65 x && leb x 90) ≡ true → x ≤ 90
upper_high x h = leb-true x 90 (and_parts (leb 65 x) (leb x 90) h).1

nothing : {X : Type 0} (xs : List X) → eqb (length xs) 0 ≡ true → xs ≡ []
nothing xs h = nil_from_length xs ((Decides-eqb (length xs) 0).0 h)

newest_pushed : (entries : List MemoryEntry) (e : MemoryEntry)
    → newest_moment (entries ++ e ∷ []) ≡ e.moment
newest_pushed [] e = refl
newest_pushed (x ∷ []) e = refl
newest_pushed (x ∷ y ∷ entries) e =
    newest_behind x y (entries ++ e ∷ []) ∙ newest_pushed (y ∷ entries) e

pub is_taken : (saved : SavedState) (it : SavedLine) → IsSavedState saved → IsSpelled it
    → takes saved it ≡ true → IsTaken saved it
unfolding takes
is_taken saved (Station x) is spelled taken =
    let stations = rising saved.refused.stations in
    let subjects = rising saved.refused.subjects in
    let one = and_parts _ _ taken in
    let two = and_parts _ _ one.1 in
    let three = and_parts _ _ two.1 in
    let low = upper_low x one.0 in
    let high = upper_high x one.0 in
    let pushed : rising (set.insert saved.refused.stations x) ≡ stations ++ x ∷ [] =
    rising-push saved.refused.stations x low high three.1 in
    let no_subjects : subjects ≡ [] = nothing subjects three.0 in
    let no_entries : saved.entries ≡ [] = nothing saved.entries two.0 in
    let rest : map Subject subjects ++ map Entry saved.entries ≡ [] =
    rw (no_subjects, no_entries) refl in
    record {
      said_more =
          ap (λ (l : List ℕ). map Station l ++ (map Subject subjects ++ map Entry saved.entries))
          pushed
          ∙ ap (λ (l : List SavedLine). map Station (stations ++ x ∷ []) ++ l) rest
          ∙ append-nil (map Station (stations ++ x ∷ []))
          ∙ map_push Station stations x
          ∙ ap (λ (l : List SavedLine). l ++ Station x ∷ [])
          (sym (append-nil (map Station stations))
          ∙ ap (λ (l : List SavedLine). map Station stations ++ l) (sym rest));
      sound = record {
        refused = record {
          stations = letters_only-insert saved.refused.stations x is.refused.stations (low, high);
          subjects = is.refused.subjects;
          without_vital = is.refused.without_vital;
        };
        entries = is.entries;
      };
    }
is_taken saved (Subject x) is spelled taken =
    let stations = rising saved.refused.stations in
    let subjects = rising saved.refused.subjects in
    let one = and_parts _ _ taken in
    let two = and_parts _ _ one.1 in
    let three = and_parts _ _ two.1 in
    let low = upper_low x one.0 in
    let high = upper_high x one.0 in
    let pushed : rising (set.insert saved.refused.subjects x) ≡ subjects ++ x ∷ [] =
    rising-push saved.refused.subjects x low high three.1 in
    let no_entries : saved.entries ≡ [] = nothing saved.entries three.0 in
    record {
      said_more =
          ap (λ (l : List ℕ). map Station stations ++ (map Subject l ++ map Entry saved.entries))
          pushed
          ∙ ap (λ (l : List MemoryEntry). map Station stations
          ++ (map Subject (subjects ++ x ∷ []) ++ map Entry l)) no_entries
          ∙ ap (λ (l : List SavedLine). map Station stations ++ l)
          (append-nil (map Subject (subjects ++ x ∷ [])) ∙ map_push Subject subjects x)
          ∙ sym (append_assoc (map Station stations) (map Subject subjects) (Subject x ∷ []))
          ∙ ap (λ (l : List SavedLine). (map Station stations ++ l) ++ Subject x ∷ [])
          (sym (append-nil (map Subject subjects))
          ∙ ap (λ (l : List MemoryEntry). map Subject subjects ++ map Entry l)
          (sym no_entries));
      sound = record {
        refused = record {
          stations = is.refused.stations;
          subjects = letters_only-insert saved.refused.subjects x is.refused.subjects (low, high);
          without_vital = without_vital-insert saved.refused.subjects x is.refused.without_vital
              (not-true (is_vital x) two.0);
        };
        entries = is.entries;
      };
    }
is_taken saved (Entry e) is spelled taken =
    let stations = rising saved.refused.stations in
    let subjects = rising saved.refused.subjects in
    let one = and_parts _ _ taken in
    let two = and_parts _ _ one.1 in
    let three = and_parts _ _ two.1 in
    let few = ltb-true (length saved.entries) most_entries one.0 in
    let numbered = ltb-true 0 e.identity.number two.0 in
    let newest = leb-true (newest_moment saved.entries) e.moment three.0 in
    let unknown = not-true (is_known e.identity e.moment saved.entries) three.1 in
    let content = content_after-IsContent saved.entries e.identity e.moment is.entries.content
    newest unknown numbered in
    let none : length (saved.entries ++ e ∷ []) - most_entries ≡ 0 =
    omega (arith, length-append saved.entries (e ∷ [])) in
    let whole : content_after saved.entries e.identity e.moment ≡ saved.entries ++ e ∷ [] =
    ap (λ n. drop n (saved.entries ++ e ∷ [])) none in
    record {
      said_more =
          ap (λ (l : List SavedLine). map Station stations ++ (map Subject subjects ++ l))
          (map_push Entry saved.entries e)
          ∙ ap (λ (l : List SavedLine). map Station stations ++ l)
          (sym (append_assoc (map Subject subjects) (map Entry saved.entries) (Entry e ∷ [])))
          ∙ sym (append_assoc (map Station stations)
          (map Subject subjects ++ map Entry saved.entries) (Entry e ∷ []));
      sound = record {
        refused = is.refused;
        entries = record {
          content = subst IsContent whole content;
          in_range = subst (λ n. n ≤ last_moment) (sym (newest_pushed saved.entries e)) spelled;
        };
      };
    }

-- so the lines are those so far and this one
pub section_more : (saved later : SavedState) (it : SavedLine) (line : List ℕ)
    → later ≡ with_line saved it → IsTaken saved it → line ≡ spelling it
    → section later ≡ section saved ++ line ∷ []
section_more saved later it line made is spelled =
    ap section made ∙ ap (map spelling) is.said_more ∙ map_push spelling (said saved) it
    ∙ ap (λ (l : List ℕ). section saved ++ l ∷ []) (sym spelled)

-- what a line that is taken is
pub taken_station : (saved : SavedState) (line : SavedLine) (x : ℕ) → line ≡ Station x
    → takes saved line ≡ true → IsCapital x
unfolding takes
taken_station saved line x is taken =
    let one = and_parts _ _ (sym (ap (takes saved) is) ∙ taken) in
    (upper_low x one.0, upper_high x one.0)

pub taken_subject : (saved : SavedState) (line : SavedLine) (x : ℕ) → line ≡ Subject x
    → takes saved line ≡ true → IsCapital x × (is_vital x ≡ false)
unfolding takes
taken_subject saved line x is taken =
    let one = and_parts _ _ (sym (ap (takes saved) is) ∙ taken) in
    let two = and_parts _ _ one.1 in
    ((upper_low x one.0, upper_high x one.0), not-true (is_vital x) two.0)

pub taken_entry : (saved : SavedState) (line : SavedLine) (e : MemoryEntry) → line ≡ Entry e
    → takes saved line ≡ true → length saved.entries < most_entries
unfolding takes
taken_entry saved line e is taken =
    ltb-true (length saved.entries) most_entries
    (and_parts _ _ (sym (ap (takes saved) is) ∙ taken)).0

-- whether it is taken or not, what is saved can be saved
pub sound_after : (saved later : SavedState) (it : SavedLine) (result : Bool) → IsSavedState saved
    → IsSpelled it → result ≡ takes saved it → (result ≡ true → later ≡ with_line saved it)
    → (result ≡ false → later ≡ saved) → IsSavedState later
sound_after saved later it true sound spelled taken added unchanged =
    subst IsSavedState (sym (added refl)) (is_taken saved it sound spelled (sym taken)).sound
sound_after saved later it false sound spelled taken added unchanged =
    subst IsSavedState (sym (unchanged refl)) sound
