-- A text of a state stands for one state, and no text begins another.
use Rattle.std.proofs.Common.{◌≡◌, ◌≢◌, ℕ, ◌+◌, ◌<◌, ◌≤◌, zero, suc, Bool, true, false, ◌||◌, cond}
use Rattle.std.proofs.Common.{List, [], ◌∷◌, ◌++◌, length, map, codes, eqb, inl, inr, refl, sym, ap}
use Rattle.std.proofs.Common.{◌∙◌, subst, append_assoc, arith}
use Rattle.std.specs.List.{AllByRecursion, filter, list_any, range_with_len}
use Rattle.std.specs.Fmt.{decimal}
use Rattle.std.specs.FinSet as set
use Rattle.std.specs.Ordering.{nat_cmp}
use Rattle.std.specs.Cmp.{both_ways, nat_cmp_total}
use Rattle.std.specs.Str.Parse.{AllDigits}
use Rattle.std.proofs.lemmas.Bool.{true≢false, cases_eq, eq-eqb, ne_eqb}
use Rattle.std.proofs.lemmas.Fmt.{decimal_is_IsNumeral, length-decimal-le}
use Rattle.std.proofs.lemmas.List.{append-nil}
use Rattle.std.proofs.lemmas.List.Elements.{recursion_from_All, All-from_get_or}
use Rattle.std.proofs.lemmas.Str.Parse.{digit_at}
use Rattle.nx_memory.specs.declared.memories.entry.MemoryEntry.{MemoryEntry}
use Rattle.nx_memory.specs.declared.state.saved_line.SavedLine.{SavedLine}
use Rattle.nx_memory.specs.declared.state.saved_line.SavedLine.TheVariants.{Station, Subject, Entry}
use Rattle.nx_memory.specs.Letters.{HasLettersOnly}
use Rattle.nx_memory.specs.Saved.{SavedState, SavedStates, IsSavedState, AreSavedStates}
use Rattle.nx_memory.specs.Saved.{on_channel_0}
use Rattle.nx_memory.specs.StateText.{spelling, rising, said, section, last_line, text_1, text_2}
use Rattle.nx_memory.specs.StateText.{IsText1, IsText2, IsStateText, IsShortLine}
use Rattle.nx_memory.specs.private.StateReading.{IsSpelled}
use Rattle.nx_memory.proofs.lemmas.Rising.{rising-contains}
use Rattle.nx_code.proofs.lemmas.Each.{each_append}
use Rattle.nx_memory.proofs.lemmas.StateLines.{IsGood, same_line, said_good, said_spelled}
use Rattle.nx_memory.proofs.lemmas.StateLines.{each_map, each_weaker}
use Rattle.nx_memory.proofs.lemmas.StateTexts.{section_long, split, versions_differ}

-- lines that are spelled alike are the same
same_said : (xs ys : List SavedLine) → AllByRecursion IsSpelled xs → AllByRecursion IsSpelled ys
    → map spelling xs ≡ map spelling ys → xs ≡ ys
same_said [] [] all_x all_y e = refl
same_said [] (y ∷ ys) all_x all_y e = absurd (omega (arith, ap length e))
same_said (x ∷ xs) [] all_x all_y e = absurd (omega (arith, ap length e))
same_said (x ∷ xs) (y ∷ ys) all_x all_y e =
    let head : spelling x ≡ spelling y = cc in
    let tail : map spelling xs ≡ map spelling ys = cc in
    ap (λ (it : SavedLine). it ∷ xs) (same_line x y all_x.0 all_y.0 head)
    ∙ ap (λ (them : List SavedLine). y ∷ them) (same_said xs ys all_x.1 all_y.1 tail)

-- what lines say of stations, of subjects and of entries
abbrev stations_among : List SavedLine → List ℕ
stations_among [] = []
stations_among (Station x ∷ lines) = x ∷ stations_among lines
stations_among (Subject x ∷ lines) = stations_among lines
stations_among (Entry e ∷ lines) = stations_among lines

abbrev subjects_among : List SavedLine → List ℕ
subjects_among [] = []
subjects_among (Station x ∷ lines) = subjects_among lines
subjects_among (Subject x ∷ lines) = x ∷ subjects_among lines
subjects_among (Entry e ∷ lines) = subjects_among lines

abbrev entries_of : List SavedLine → List MemoryEntry
entries_of [] = []
entries_of (Station x ∷ lines) = entries_of lines
entries_of (Subject x ∷ lines) = entries_of lines
entries_of (Entry e ∷ lines) = e ∷ entries_of lines

stations_of : (xs ys : List ℕ) (es : List MemoryEntry)
    → stations_among (map Station xs ++ (map Subject ys ++ map Entry es)) ≡ xs
stations_of (x ∷ xs) ys es = ap (λ (l : List ℕ). x ∷ l) (stations_of xs ys es)
stations_of [] (y ∷ ys) es = stations_of [] ys es
stations_of [] [] (e ∷ es) = stations_of [] [] es
stations_of [] [] [] = refl

subjects_of : (xs ys : List ℕ) (es : List MemoryEntry)
    → subjects_among (map Station xs ++ (map Subject ys ++ map Entry es)) ≡ ys
subjects_of (x ∷ xs) ys es = subjects_of xs ys es
subjects_of [] (y ∷ ys) es = ap (λ (l : List ℕ). y ∷ l) (subjects_of [] ys es)
subjects_of [] [] (e ∷ es) = subjects_of [] [] es
subjects_of [] [] [] = refl

entries_said : (xs ys : List ℕ) (es : List MemoryEntry)
    → entries_of (map Station xs ++ (map Subject ys ++ map Entry es)) ≡ es
entries_said (x ∷ xs) ys es = entries_said xs ys es
entries_said [] (y ∷ ys) es = entries_said [] ys es
entries_said [] [] (e ∷ es) = ap (λ (l : List MemoryEntry). e ∷ l) (entries_said [] [] es)
entries_said [] [] [] = refl

-- a letter that is picked is among those that are
among : ℕ → List ℕ → Bool
among q xs = list_any (eqb q) xs

among_picked : (p : ℕ → Bool) (q first n : ℕ) → first ≤ q → q < first + n → p q ≡ true
    → among q (filter p (range_with_len first n)) ≡ true
unfolding among
among_picked p q first zero low high there = absurd (omega arith)
among_picked p q first (suc n) low high there = elim (cases_eq q first) [
  | inl here ↦
      let picked : p first ≡ true = sym (ap p here) ∙ there in
      ap (λ b. list_any (eqb q)
      (cond b (first ∷ filter p (range_with_len (first + 1) n))
      (filter p (range_with_len (first + 1) n)))) picked
      ∙ ap (λ b. b || list_any (eqb q) (filter p (range_with_len (first + 1) n)))
      (eq-eqb q first here)
  | inr other ↦
      let rest = among_picked p q (first + 1) n (omega arith) (omega arith) there in
      elim (p first) as (λ b. list_any (eqb q)
      (cond b (first ∷ filter p (range_with_len (first + 1) n))
      (filter p (range_with_len (first + 1) n))) ≡ true) [
        | true ↦ ap (λ b. b || list_any (eqb q) (filter p (range_with_len (first + 1) n)))
            (ne_eqb q first other) ∙ rest
        | false ↦ rest
      ]
]

each_among : (P : ℕ → Type 0) (q : ℕ) (xs : List ℕ) → AllByRecursion P xs → among q xs ≡ true → P q
unfolding among
each_among P q [] all there = absurd (true≢false (sym there))
each_among P q (x ∷ xs) all there = elim (cases_eq q x) [
  | inl here ↦ subst P (sym here) all.0
  | inr other ↦ each_among P q xs all.1
      (sym (ap (λ b. b || list_any (eqb q) xs) (ne_eqb q x other)) ∙ there)
]

-- sets of letters that list the same letters are the same
listed_in : (s t : set.FinSet nat_cmp) → HasLettersOnly s → rising s ≡ rising t → (q : ℕ)
    → set.contains s q ≡ true → set.contains t q ≡ true
unfolding rising
listed_in s t letters same q there =
    let capital = letters q there in
    each_among (λ y. set.contains t y ≡ true) q (filter (set.contains t) (range_with_len 65 26))
    (rising-contains t)
    (subst (λ (l : List ℕ). among q l ≡ true) same
    (among_picked (set.contains s) q 65 26 capital.0 (omega (arith, capital.1)) there))

same_letters : (s t : set.FinSet nat_cmp) → HasLettersOnly s → HasLettersOnly t
    → rising s ≡ rising t → s ≡ t
same_letters s t letters_s letters_t same =
    set.same_set nat_cmp_total set.nat_cmp-IsAntisymmetric s t
    (λ q. both_ways (set.contains s q) (set.contains t q) (listed_in s t letters_s same q)
    (listed_in t s letters_t (sym same) q))

-- the lines of a channel stand for one thing
pub same_section : (a b : SavedState) → IsSavedState a → IsSavedState b → section a ≡ section b
    → a ≡ b
same_section a b is_a is_b e =
    let lines : said a ≡ said b =
    same_said (said a) (said b) (said_spelled a is_a) (said_spelled b is_b) e in
    let stations : a.refused.stations ≡ b.refused.stations =
    same_letters a.refused.stations b.refused.stations is_a.refused.stations is_b.refused.stations
    (sym (stations_of (rising a.refused.stations) (rising a.refused.subjects) a.entries)
    ∙ ap stations_among lines
    ∙ stations_of (rising b.refused.stations) (rising b.refused.subjects) b.entries) in
    let subjects : a.refused.subjects ≡ b.refused.subjects =
    same_letters a.refused.subjects b.refused.subjects is_a.refused.subjects is_b.refused.subjects
    (sym (subjects_of (rising a.refused.stations) (rising a.refused.subjects) a.entries)
    ∙ ap subjects_among lines
    ∙ subjects_of (rising b.refused.stations) (rising b.refused.subjects) b.entries) in
    let entries : a.entries ≡ b.entries =
    sym (entries_said (rising a.refused.stations) (rising a.refused.subjects) a.entries)
    ∙ ap entries_of lines ∙ entries_said (rising b.refused.stations) (rising b.refused.subjects)
    b.entries in
    ap (λ (s : set.FinSet nat_cmp). record
    { refused = record { stations = s; subjects = a.refused.subjects }; entries = a.entries })
    stations
    ∙ ap (λ (s : set.FinSet nat_cmp). record
    { refused = record { stations = b.refused.stations; subjects = s }; entries = a.entries })
    subjects
    ∙ ap (λ (l : List MemoryEntry). record { refused = b.refused; entries = l }) entries

-- the parts of two texts of which one begins the other
pub begins_1 : (a b : SavedState) (more : List (List ℕ)) → text_1 b ≡ text_1 a ++ more
    → (section a ≡ section b) × (more ≡ [])
begins_1 a b more e =
    let rest : section b ++ last_line ≡ (section a ++ last_line) ++ more = cc in
    let one = split (section b) (section a) (codes "END") (codes "END") [] more (section_long b)
    (section_long a) (omega arith) (omega arith)
    (rest ∙ append_assoc (section a) last_line more) in
    (sym one.0, one.2)

-- the lines behind those of version and channel 0
behind_heads : (xs ys : List (List ℕ))
    → codes "STATE 2" ∷ codes "C0" ∷ xs ≡ codes "STATE 2" ∷ codes "C0" ∷ ys → xs ≡ ys
behind_heads xs ys e = cc

regrouped : (a : SavedStates) (more : List (List ℕ))
    → (section a.on_0 ++ codes "C1"
    ∷ (section a.on_1 ++ codes "C2" ∷ (section a.on_2 ++ last_line))) ++ more
    ≡ section a.on_0 ++ codes "C1"
    ∷ (section a.on_1 ++ codes "C2" ∷ (section a.on_2 ++ codes "END" ∷ more))
regrouped a more =
    append_assoc (section a.on_0)
    (codes "C1" ∷ (section a.on_1 ++ codes "C2" ∷ (section a.on_2 ++ last_line))) more
    ∙ ap (λ (l : List (List ℕ)). section a.on_0 ++ codes "C1" ∷ l)
    (append_assoc (section a.on_1) (codes "C2" ∷ (section a.on_2 ++ last_line)) more
    ∙ ap (λ (l : List (List ℕ)). section a.on_1 ++ codes "C2" ∷ l)
    (append_assoc (section a.on_2) last_line more))

pub begins_2 : (a b : SavedStates) (more : List (List ℕ)) → text_2 b ≡ text_2 a ++ more
    → (section a.on_0 ≡ section b.on_0) × (section a.on_1 ≡ section b.on_1)
    × (section a.on_2 ≡ section b.on_2) × (more ≡ [])
begins_2 a b more e =
    let rest = behind_heads _ _ e ∙ regrouped a more in
    let one = split (section b.on_0) (section a.on_0) (codes "C1") (codes "C1") _ _
    (section_long b.on_0) (section_long a.on_0) (omega arith) (omega arith) rest in
    let two = split (section b.on_1) (section a.on_1) (codes "C2") (codes "C2") _ _
    (section_long b.on_1) (section_long a.on_1) (omega arith) (omega arith) (sym one.2) in
    let three = split (section b.on_2) (section a.on_2) (codes "END") (codes "END") [] more
    (section_long b.on_2) (section_long a.on_2) (omega arith) (omega arith) (sym two.2) in
    (sym one.0, sym two.0, sym three.0, three.2)

-- no text begins another
pub none_begins : (lines more : List (List ℕ)) (a b : SavedStates) → IsStateText lines a
    → IsStateText (lines ++ more) b → more ≡ []
none_begins lines more a b is_a is_b = elim is_a [
  | inl one ↦ elim is_b [
    | inl other ↦ (begins_1 one.saved other.saved more
        (sym other.spelled ∙ ap (λ (l : List (List ℕ)). l ++ more) one.spelled)).1
    | inr other ↦ absurd (versions_differ _ _
        (sym (ap (λ (l : List (List ℕ)). l ++ more) one.spelled) ∙ other.spelled))
  ]
  | inr one ↦ elim is_b [
    | inl other ↦ absurd (versions_differ _ _
        (sym other.spelled ∙ ap (λ (l : List (List ℕ)). l ++ more) one.spelled))
    | inr other ↦ (begins_2 a b more
        (sym other.spelled ∙ ap (λ (l : List (List ℕ)). l ++ more) one.spelled)).3
  ]
]

-- a text stands for one state
pub one_state : (lines : List (List ℕ)) (a b : SavedStates) → IsStateText lines a
    → IsStateText lines b → a ≡ b
one_state lines a b is_a is_b = elim is_a [
  | inl one ↦ elim is_b [
    | inl other ↦
        let same = same_section one.saved other.saved one.sound other.sound
        (begins_1 one.saved other.saved []
        (sym other.spelled ∙ one.spelled ∙ sym (append-nil (text_1 one.saved)))).0 in
        one.stands_for ∙ ap on_channel_0 same ∙ sym other.stands_for
    | inr other ↦ absurd (versions_differ _ _ (sym one.spelled ∙ other.spelled))
  ]
  | inr one ↦ elim is_b [
    | inl other ↦ absurd (versions_differ _ _ (sym other.spelled ∙ one.spelled))
    | inr other ↦
        let same = begins_2 a b []
        (sym other.spelled ∙ one.spelled ∙ sym (append-nil (text_2 a))) in
        ap (λ (s : SavedState). record { on_0 = s; on_1 = a.on_1; on_2 = a.on_2 })
        (same_section a.on_0 b.on_0 one.sound.on_0 other.sound.on_0 same.0)
        ∙ ap (λ (s : SavedState). record { on_0 = b.on_0; on_1 = s; on_2 = a.on_2 })
        (same_section a.on_1 b.on_1 one.sound.on_1 other.sound.on_1 same.1)
        ∙ ap (λ (s : SavedState). record { on_0 = b.on_0; on_1 = b.on_1; on_2 = s })
        (same_section a.on_2 b.on_2 one.sound.on_2 other.sound.on_2 same.2)
  ]
]

-- of one version a state has one text
pub one_text : (lines others : List (List ℕ)) (states : SavedStates)
    → (IsText1 lines states → IsText1 others states → lines ≡ others)
    × (IsText2 lines states → IsText2 others states → lines ≡ others)
one_text lines others states = (
  λ a b. a.spelled ∙ ap text_1 (ap (λ (s : SavedStates). s.on_0) (sym a.stands_for ∙ b.stands_for))
      ∙ sym b.spelled,
  λ a b. a.spelled ∙ sym b.spelled,
)

-- the lines are short
digits_one_line : (ds : List ℕ) → AllDigits 10 ds → AllByRecursion (λ byte. byte ≢ 10) ds
digits_one_line ds digits =
    recursion_from_All (λ byte. byte ≢ 10) ds
    (All-from_get_or (λ byte. byte ≢ 10) ds 0
    (λ i below e. let digit = digit_at ds i digits below in omega (arith, digit, e)))

good_short : (it : SavedLine) → IsGood it → IsShortLine (spelling it)
good_short (Station x) good =
    record {
      short = omega arith;
      one_line = (
        λ e. omega arith,
        (
          λ e. omega arith,
          (λ e. omega arith, (λ e. omega (arith, good.0), tt)),
        ),
      );
    }
good_short (Subject x) good =
    record {
      short = omega arith;
      one_line = (
        λ e. omega arith,
        (
          λ e. omega arith,
          (λ e. omega arith, (λ e. omega (arith, good.0), tt)),
        ),
      );
    }
good_short (Entry it) good =
    let small = good.1 in
    let digits : length (decimal it.moment) ≤ 11 =
    length-decimal-le 11 it.moment (omega arith) (omega arith) (omega arith) in
    let station = it.identity.b1.in_range in
    let subject = it.identity.b2.in_range in
    record {
      short = omega (arith, digits);
      one_line = (
        λ e. omega (arith, station, e),
        (
          λ e. omega (arith, subject, e),
          (
            λ e. omega arith,
            (
              λ e. omega arith,
              (
                λ e. omega arith,
                digits_one_line (decimal it.moment)
                    (decimal_is_IsNumeral it.moment (omega arith)).0.1,
              ),
            ),
          ),
        ),
      );
    }

section_short : (saved : SavedState) → IsSavedState saved
    → AllByRecursion IsShortLine (section saved)
section_short saved is = each_map IsShortLine spelling (said saved)
    (each_weaker IsGood (λ it. IsShortLine (spelling it)) good_short (said saved)
    (said_good saved is))

pub words_short : IsShortLine (codes "STATE 1") × IsShortLine (codes "STATE 2")
    × IsShortLine (codes "C0") × IsShortLine (codes "C1") × IsShortLine (codes "C2")
    × IsShortLine (codes "END")
words_short = (
  record {
    short = omega arith;
    one_line = (
      λ e. omega arith,
      (
        λ e. omega arith,
        (
          λ e. omega arith,
          (
            λ e. omega arith,
            (λ e. omega arith, (λ e. omega arith, (λ e. omega arith, tt))),
          ),
        ),
      ),
    );
  },
  record {
    short = omega arith;
    one_line = (
      λ e. omega arith,
      (
        λ e. omega arith,
        (
          λ e. omega arith,
          (
            λ e. omega arith,
            (λ e. omega arith, (λ e. omega arith, (λ e. omega arith, tt))),
          ),
        ),
      ),
    );
  },
  record { short = omega arith; one_line = (λ e. omega arith, (λ e. omega arith, tt)) },
  record { short = omega arith; one_line = (λ e. omega arith, (λ e. omega arith, tt)) },
  record { short = omega arith; one_line = (λ e. omega arith, (λ e. omega arith, tt)) },
  record {
    short = omega arith;
    one_line =
        (λ e. omega arith, (λ e. omega arith, (λ e. omega arith, tt)));
  },
)

short_1 : (saved : SavedState) → IsSavedState saved → AllByRecursion IsShortLine (text_1 saved)
short_1 saved is = (
  words_short.0,
  each_append IsShortLine (section saved) last_line
      (section_short saved is) (words_short.5, tt),
)

short_2 : (states : SavedStates) → AreSavedStates states
    → AllByRecursion IsShortLine (text_2 states)
short_2 states are = (
  words_short.1,
  (
    words_short.2,
    each_append IsShortLine (section states.on_0)
        (codes "C1" ∷ (section states.on_1 ++ codes "C2" ∷ (section states.on_2 ++ last_line)))
        (section_short states.on_0 are.on_0) (
          words_short.3,
          each_append IsShortLine (section states.on_1)
              (codes "C2" ∷ (section states.on_2 ++ last_line))
              (section_short states.on_1 are.on_1) (
                words_short.4,
                each_append IsShortLine (section states.on_2) last_line
                    (section_short states.on_2 are.on_2) (words_short.5, tt),
              ),
        ),
  ),
)

pub text_short : (lines : List (List ℕ)) (states : SavedStates) → IsStateText lines states
    → AllByRecursion IsShortLine lines
text_short lines states is = elim is [
  | inl one ↦ subst (AllByRecursion IsShortLine) (sym one.spelled) (short_1 one.saved one.sound)
  | inr one ↦ subst (AllByRecursion IsShortLine) (sym one.spelled) (short_2 states one.sound)
]
