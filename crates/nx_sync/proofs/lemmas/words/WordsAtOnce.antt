-- Words heard at once: what is held after them, and what was brought, is what one word after the
-- other makes of it.
use Rattle.std.proofs.Common.{◌≡◌, ℕ, zero, suc, ◌+◌, ◌-◌, ◌*◌, ◌/◌, ◌^◌, ◌<◌, ◌≤◌, ◌==◌}
use Rattle.std.proofs.Common.{nat_le, List, [], ◌∷◌, ◌++◌, length, take, get_or, Bool, true}
use Rattle.std.proofs.Common.{false, not, ◌&&◌, ◌||◌, cond, count_by, refl, sym, ap, ap₂, subst}
use Rattle.std.proofs.Common.{subst₂, ◌∙◌, arith, IsTrue, Option, Some, None, append_assoc, append-nil}
use Rattle.std.specs.Prelude.{slice_index}
use Rattle.std.specs.List.{flat_map}
use Rattle.std.proofs.lemmas.Bool.{eqb-true, ne_eqb, eq-eqb, lt-leb, leb-true, or_from}
use Rattle.std.proofs.lemmas.Grind.{get_or_default_zero}
use Rattle.std.proofs.lemmas.List.{length-take-le}
use Rattle.std.proofs.lemmas.List.Sums.{sum_by_push, sum_by-take-drop}
use Rattle.circular_buffer.specs.Buffer.{keep_last}
use Rattle.nx_code.specs.Table.{phasing_1}
use Rattle.nx_code.specs.Classes.{class_of}
use Rattle.nx_code.specs.Word.{elements, number_of, weight, is_wrong}
use Rattle.nx_code.proofs.lemmas.Class.{weight-class_of}
use Rattle.nx_code.proofs.lemmas.Word.{number_of-elements}
use Rattle.nx_sync.specs.declared.step.Role.{Role}
use Rattle.nx_sync.specs.declared.step.Role.TheVariants.{Dx}
use Rattle.nx_sync.specs.declared.track.Track.{Track}
use Rattle.nx_sync.specs.Words.{marked_words, losing_count, other_role, is_dx}
use Rattle.nx_sync.specs.Words.{role_of}
use Rattle.nx_sync.specs.private.Windows.{next_word_window}
use Rattle.nx_sync.specs.private.Calls.{track_from, track_after, fills_releasing_word, Completes}
use Rattle.nx_sync.specs.private.Eight.{wrong_ones, marks_after_words}
use Rattle.nx_sync.specs.private.Eight.{window_after_words, after_words}
use Rattle.nx_sync.specs.Steps.{step, IsWordStep, AreQuietWords}
use Rattle.nx_sync.specs.Synchroniser.{Held, StandsAfter, awaits_free_dx}
use Rattle.nx_sync.specs.Synchroniser.{has_dx_phasing_1, keeps_lock}
use Rattle.nx_code.proofs.lemmas.WordCounts.{one_if-le}
use Rattle.nx_code.proofs.lemmas.Packed.{length-elements}
use Rattle.nx_sync.proofs.lemmas.words.WholeWords.{word_stands, word_step}
use Rattle.nx_sync.proofs.lemmas.words.Computed.{is_dx-role}

-- eight items by their places
pub eight_items : (xs : List ℕ) → length xs ≡ 8
    → xs ≡ slice_index xs 0 ∷ slice_index xs 1 ∷ slice_index xs 2 ∷ slice_index xs 3
    ∷ slice_index xs 4 ∷ slice_index xs 5 ∷ slice_index xs 6 ∷ slice_index xs 7 ∷ []
eight_items [] l = absurd (omega arith)
eight_items (a ∷ []) l = absurd (omega arith)
eight_items (a ∷ b ∷ []) l = absurd (omega arith)
eight_items (a ∷ b ∷ c ∷ []) l = absurd (omega arith)
eight_items (a ∷ b ∷ c ∷ d ∷ []) l = absurd (omega arith)
eight_items (a ∷ b ∷ c ∷ d ∷ e ∷ []) l = absurd (omega arith)
eight_items (a ∷ b ∷ c ∷ d ∷ e ∷ f ∷ []) l = absurd (omega arith)
eight_items (a ∷ b ∷ c ∷ d ∷ e ∷ f ∷ g ∷ []) l = absurd (omega arith)
eight_items (a ∷ b ∷ c ∷ d ∷ e ∷ f ∷ g ∷ h ∷ []) l = refl
eight_items (a ∷ b ∷ c ∷ d ∷ e ∷ f ∷ g ∷ h ∷ i ∷ xs) l = absurd (omega arith)

or_none : (a : Bool) → a ≡ (a || false)
or_none true = refl
or_none false = refl

or_assoc : (a b c : Bool) → (a || (b || c)) ≡ ((a || b) || c)
or_assoc true b c = refl
or_assoc false b c = refl

-- whether a DX word among the first pairs of words is phasing signal 1, with one pair more
pub dx_phasing_1-more : (n : ℕ) (xs : List ℕ) → 2 * n + 1 < length xs
    → has_dx_phasing_1 (take (2 * (n + 1)) xs)
    ≡ (has_dx_phasing_1 (take (2 * n) xs) || (slice_index xs (2 * n) == phasing_1))
unfolding has_dx_phasing_1
dx_phasing_1-more n [] h = absurd (omega arith)
dx_phasing_1-more n (a ∷ []) h = absurd (omega arith)
dx_phasing_1-more zero (a ∷ b ∷ xs) h = sym (or_none (a == phasing_1))
dx_phasing_1-more (suc n) (a ∷ b ∷ xs) h =
    let e : 2 * (suc n + 1) ≡ suc (suc (2 * (n + 1))) = omega arith in
    let f : suc (suc (2 * n)) ≡ 2 * suc n = omega arith in
    let all : List ℕ = a ∷ b ∷ xs in
    ap (λ k. has_dx_phasing_1 (take k all)) e
    ∙ ap (λ o. (a == phasing_1) || o) (dx_phasing_1-more n xs (omega arith))
    ∙ or_assoc (a == phasing_1) (has_dx_phasing_1 (take (2 * n) xs))
    (slice_index xs (2 * n) == phasing_1)
    ∙ ap (λ k. has_dx_phasing_1 (take k all) || (slice_index all k == phasing_1)) f

-- whether a word is wrong
pub wrong_by : (word : ℕ) (right : Bool)
    → (right ≡ true → weight word ≡ 4) × (weight word ≡ 4 → right ≡ true)
    → not right ≡ is_wrong word
wrong_by word true both = rw (eq-eqb _ _ (both.0 refl)) refl
wrong_by word false both = rw (ne_eqb _ _ (λ e. let t : false ≡ true = both.1 e in cc)) refl

not_twice : (b : Bool) → b ≡ not (not b)
not_twice true = refl
not_twice false = refl

-- whether a word of a list is wrong, by its class
pub record Judged (xs : List ℕ) (k : ℕ) (class : ℕ) : Type 0 where
  pub is : (class == 0) ≡ is_wrong (slice_index xs k)

pub judged : (xs : List ℕ) (k x class : ℕ) → length xs ≡ 8 → k < 8 → slice_index xs k < 128
    → x ≡ get_or xs k x → class ≡ class_of x → Judged xs k class
judged xs k x class l h small at is =
    let same : x ≡ slice_index xs k = at ∙ get_or_default_zero xs k x (omega arith) in
    let weighed = weight-class_of (slice_index xs k) small in
    record { is = rw (is, same, weighed) (not_twice (class_of (slice_index xs k) == 0)) }

-- the marks of eight words
pub wrong_ones-eight : (xs : List ℕ) (a b c d e f g h : ℕ) → length xs ≡ 8
    → Judged xs 0 a → Judged xs 1 b → Judged xs 2 c → Judged xs 3 d
    → Judged xs 4 e → Judged xs 5 f → Judged xs 6 g → Judged xs 7 h
    → (a == 0) ∷ (b == 0) ∷ (c == 0) ∷ (d == 0) ∷ (e == 0) ∷ (f == 0) ∷ (g == 0) ∷ (h == 0) ∷ []
    ≡ wrong_ones xs
wrong_ones-eight xs a b c d e f g h l ja jb jc jd je jf jg jh =
    rw (ja.is, jb.is, jc.is, jd.is, je.is, jf.is, jg.is, jh.is)
    (sym (ap wrong_ones (eight_items xs l)))

-- what is held after words of a lock, where none of them brings a change
unfoldable track_after_words : Track → List ℕ → Track
track_after_words track [] = track
track_after_words track (word ∷ words) = track_after_words (track_after track word) words

abbrev tracked_words : Held → Track → List ℕ → Held
tracked_words held track words =
    record (after_words held words) { track = Some (track_after_words track words) }

-- the window after four words, whatever was before
four_words : (r a b c d : ℕ) → r < 2 ^ 28 → a < 128 → b < 128 → c < 128
    → next_word_window (next_word_window (next_word_window (next_word_window r a) b) c) d
    ≡ a + 2 ^ 7 * b + 2 ^ 14 * c + 2 ^ 21 * d
four_words r a b c d h ha hb hc =
    let one : (r / 2 ^ 7 + 2 ^ 21 * a) / 2 ^ 7 ≡ r / 2 ^ 14 + 2 ^ 14 * a = omega arith in
    let two : (r / 2 ^ 14 + 2 ^ 14 * a + 2 ^ 21 * b) / 2 ^ 7 ≡ r / 2 ^ 21 + 2 ^ 7 * a + 2 ^ 14 * b =
    omega arith in
    let three : (r / 2 ^ 21 + 2 ^ 7 * a + 2 ^ 14 * b + 2 ^ 21 * c) / 2 ^ 7
    ≡ a + 2 ^ 7 * b + 2 ^ 14 * c = omega arith in
    rw (one, two, three) refl

-- the window after one word more, and the marks
pub window_after_words-more : (k : ℕ) (xs : List ℕ) (r : ℕ) → k < length xs
    → window_after_words r (take (k + 1) xs)
    ≡ next_word_window (window_after_words r (take k xs)) (slice_index xs k)
unfolding window_after_words
window_after_words-more k [] r h = absurd (omega arith)
window_after_words-more zero (x ∷ xs) r h = refl
window_after_words-more (suc k) (x ∷ xs) r h =
    let e : suc k + 1 ≡ suc (k + 1) = omega arith in
    ap (λ n. window_after_words r (take n (x ∷ xs))) e
    ∙ window_after_words-more k xs (next_word_window r x) (omega arith)

pub marks_after_words-more : (k : ℕ) (xs : List ℕ) (marks : List Bool) → k < length xs
    → marks_after_words marks (take (k + 1) xs)
    ≡ keep_last marked_words
    (marks_after_words marks (take k xs) ++ is_wrong (slice_index xs k) ∷ [])
unfolding marks_after_words
marks_after_words-more k [] marks h = absurd (omega arith)
marks_after_words-more zero (x ∷ xs) marks h = refl
marks_after_words-more (suc k) (x ∷ xs) marks h =
    let e : suc k + 1 ≡ suc (k + 1) = omega arith in
    ap (λ n. marks_after_words marks (take n (x ∷ xs))) e
    ∙ marks_after_words-more k xs (keep_last marked_words (marks ++ is_wrong x ∷ [])) (omega arith)

-- the window that has the words 4 to 7 of eight
abbrev last_four : List ℕ → ℕ
last_four words =
    slice_index words 4 + 2 ^ 7 * slice_index words 5 + 2 ^ 14 * slice_index words 6
    + 2 ^ 21 * slice_index words 7

pub window_after_eight : (xs : List ℕ) (r : ℕ) → length xs ≡ 8 → r < 2 ^ 28
    → ((k : ℕ) → k < 8 → slice_index xs k < 128) → window_after_words r xs ≡ last_four xs
unfolding window_after_words
window_after_eight xs r l h small =
    let a : ℕ = slice_index xs 0 in
    let b : ℕ = slice_index xs 1 in
    let c : ℕ = slice_index xs 2 in
    let d : ℕ = slice_index xs 3 in
    let first = four_words r a b c d h (small 0 (omega arith)) (small 1 (omega arith))
    (small 2 (omega arith)) in
    let within : a + 2 ^ 7 * b + 2 ^ 14 * c + 2 ^ 21 * d < 2 ^ 28 =
    omega (
      arith,
      small 0 (omega arith),
      small 1 (omega arith),
      small 2 (omega arith),
      small 3 (omega arith),
    ) in
    let second = four_words (a + 2 ^ 7 * b + 2 ^ 14 * c + 2 ^ 21 * d) (slice_index xs 4)
    (slice_index xs 5) (slice_index xs 6) (slice_index xs 7) within (small 4 (omega arith))
    (small 5 (omega arith)) (small 6 (omega arith)) in
    ap (window_after_words r) (eight_items xs l)
    ∙ (ap (λ w. next_word_window (next_word_window (next_word_window (next_word_window w
    (slice_index xs 4)) (slice_index xs 5)) (slice_index xs 6)) (slice_index xs 7)) first
    ∙ second)

or_false : (a b : Bool) → (a || b) ≡ false → (a ≡ false) × (b ≡ false)
or_false false false h = (refl, refl)
or_false false true h = absurd (cc)
or_false true b h = absurd (cc)

-- where none of these words brings a change, none of the first of them does
has_none_first : (n : ℕ) (words : List ℕ) → has_dx_phasing_1 words ≡ false
    → has_dx_phasing_1 (take n words) ≡ false
unfolding has_dx_phasing_1
has_none_first zero words free = refl
has_none_first (suc n) [] free = refl
has_none_first (suc zero) (dx ∷ []) free = free
has_none_first (suc (suc n)) (dx ∷ []) free = free
has_none_first (suc zero) (dx ∷ rx ∷ words) free =
    (or_false (dx == phasing_1) (has_dx_phasing_1 words) free).0
has_none_first (suc (suc n)) (dx ∷ rx ∷ words) free =
    let parts = or_false (dx == phasing_1) (has_dx_phasing_1 words) free in
    or_from (dx == phasing_1) (has_dx_phasing_1 (take n words)) parts.0
    (has_none_first n words parts.1)

pub keeps_first : (held : Held) (words : List ℕ) (n : ℕ) → n ≤ length words
    → IsTrue (keeps_lock held words) → IsTrue (keeps_lock held (take n words))
keeps_first held words n within keeps =
    let size : length (take n words) ≡ n = length-take-le n words within in
    let free = has_none_first n words in
    grind (arith, keeps, size, within, free)

-- Pairs of words, of whose DX words none is phasing signal 1, leave the track as it is.
dx_then_rx : (a b : ℕ) → (a == phasing_1) ≡ false
    → track_after (track_after (track_from Dx) a) b ≡ track_from Dx
dx_then_rx a b free = rw free refl

track_after_pairs : (n : ℕ) (xs : List ℕ) → length xs ≡ 2 * n → has_dx_phasing_1 xs ≡ false
    → track_after_words (track_from Dx) xs ≡ track_from Dx
unfolding track_after_words has_dx_phasing_1
track_after_pairs zero [] l free = refl
track_after_pairs zero (a ∷ xs) l free = absurd (omega arith)
track_after_pairs (suc n) [] l free = absurd (omega arith)
track_after_pairs (suc n) (a ∷ []) l free = absurd (omega arith)
track_after_pairs (suc n) (a ∷ b ∷ xs) l free =
    let parts = or_false (a == phasing_1) (has_dx_phasing_1 xs) free in
    ap (λ t. track_after_words t xs) (dx_then_rx a b parts.0)
    ∙ track_after_pairs n xs (omega arith) parts.1

-- none of these words ends the lock
unfoldable NoneEnds : Track → List ℕ → Type 0
NoneEnds track [] = Unit {0}
NoneEnds track (word ∷ words) =
    (fills_releasing_word track ≡ false) × NoneEnds (track_after track word) words

-- words that go on after others
record RunsOn (held : Held) (track : Track) (before : List Bool) (words : List ℕ) : Type 0 where
  stands : StandsAfter (tracked_words held track words) (before ++ flat_map elements words)
  steps : AreQuietWords before track.role words

-- one mark more
count_marks : (marks : List Bool) (b : Bool)
    → count_by (λ b. b) (keep_last marked_words (marks ++ b ∷ [])) ≤ count_by (λ b. b) marks + 1
count_marks marks b =
    let xs : List Bool = marks ++ b ∷ [] in
    let parts = sum_by-take-drop (λ b. cond b 1 0) xs (length xs - marked_words) in
    let one = sum_by_push (λ b. cond b 1 0) marks b in
    omega (arith, parts, one, one_if-le b)

-- the word of the last seven elements
last_seven : (r w : ℕ) → r < 2 ^ 28 → w < 128 → next_word_window r w / 2 ^ 21 ≡ w
last_seven r w h l = omega arith

-- one word that brings no change
module _ (held : Held) (track : Track) (word : ℕ) (within : held.recent < 2 ^ 28)
    (small : word < 128) (goes_on : fills_releasing_word track ≡ false)
    (few : count_by (λ b. b) held.wrong + 1 < losing_count) where
  abbrev next : Held
  next = record held {
    recent = next_word_window held.recent word;
    track = Some (track_after track word);
    wrong = keep_last marked_words (held.wrong ++ is_wrong word ∷ []);
  }

  one_word : Completes
      (record held { recent = next_word_window held.recent (number_of (elements word)) }) track next
      (step (Some (word, track.role)) None)
  one_word =
      let n : number_of (elements word) ≡ word = number_of-elements word small in
      let last : next_word_window held.recent (number_of (elements word)) / 2 ^ 21 ≡ word =
      ap (λ w. next_word_window held.recent w / 2 ^ 21) n
      ∙ last_seven held.recent word within small in
      let kept : nat_le losing_count (count_by (λ b. b) next.wrong) ≡ false =
      lt-leb losing_count (count_by (λ b. b) next.wrong)
      (omega (arith, few, count_marks held.wrong (is_wrong word))) in
      record {
        recent = ap (next_word_window held.recent) (sym n);
        seen = refl;
        marks = ap (λ w. keep_last marked_words (held.wrong ++ is_wrong w ∷ [])) (sym last);
        change = sym (rw (goes_on, kept) refl);
        word = ap (λ (w : ℕ). Some (w, track.role)) (sym last);
        goes_on = λ h. ap (λ w. Some (track_after track w)) (sym last);
        over = λ how h. absurd (cc);
      }

  next_stands : (before : List Bool) → StandsAfter held before → held.track ≡ Some track
      → held.seen ≡ 28 → track.filled ≡ 0 → StandsAfter next (before ++ elements word)
  next_stands before a is full limit =
      word_stands held before (elements word) track a is full limit (length-elements word) next
      (step (Some (word, track.role)) None) one_word

  next_step : (before : List Bool) → StandsAfter held before → held.track ≡ Some track
      → held.seen ≡ 28 → track.filled ≡ 0
      → IsWordStep before (elements word) (step (Some (word, track.role)) None)
  next_step before a is full limit =
      word_step held before (elements word) track a is full limit (length-elements word) next
      (step (Some (word, track.role)) None) one_word

-- the role of a later word, from the next one on
role_of-after : (first : Role) (k : ℕ) → role_of (other_role first) k ≡ role_of first (suc k)
unfolding role_of
role_of-after first zero = refl
role_of-after first (suc k) = ap other_role (role_of-after first k)

-- one word and then others
quiet_after : (before : List Bool) (role : Role) (word : ℕ) (words : List ℕ)
    → IsWordStep before (elements word) (step (Some (word, role)) None)
    → AreQuietWords (before ++ elements word) (other_role role) words
    → AreQuietWords before role (word ∷ words)
unfolding role_of
quiet_after before role word words one rest zero h =
    subst (λ xs. IsWordStep xs (elements word) (step (Some (word, role)) None))
    (sym (append-nil before)) one
quiet_after before role word words one rest (suc k) h =
    subst (λ xs. IsWordStep xs (elements (slice_index words k))
    (step (Some (slice_index words k, role_of role (suc k))) None))
    (append_assoc before (elements word) (flat_map elements (take k words)))
    (subst (λ r. IsWordStep ((before ++ elements word) ++ flat_map elements (take k words))
    (elements (slice_index words k)) (step (Some (slice_index words k, r)) None))
    (role_of-after role k) (rest k (omega arith)))

-- the first of them, and the others
pub quiet_first : (before : List Bool) (role : Role) (word : ℕ) (words : List ℕ)
    → AreQuietWords before role (word ∷ words)
    → IsWordStep before (elements word) (step (Some (word, role)) None)
unfolding role_of
quiet_first before role word words all =
    subst (λ xs. IsWordStep xs (elements word) (step (Some (word, role)) None))
    (append-nil before) (all 0 (omega arith))

pub quiet_rest : (before : List Bool) (role : Role) (word : ℕ) (words : List ℕ)
    → AreQuietWords before role (word ∷ words)
    → AreQuietWords (before ++ elements word) (other_role role) words
unfolding role_of
quiet_rest before role word words all k h =
    subst (λ xs. IsWordStep xs (elements (slice_index words k))
    (step (Some (slice_index words k, role_of (other_role role) k)) None))
    (sym (append_assoc before (elements word) (flat_map elements (take k words))))
    (subst (λ r. IsWordStep (before ++ (elements word ++ flat_map elements (take k words)))
    (elements (slice_index words k)) (step (Some (slice_index words k, r)) None))
    (sym (role_of-after role k)) (all (suc k) (omega arith)))

runs_on : (words : List ℕ) (held : Held) (track : Track) (before : List Bool)
    → StandsAfter held before → held.track ≡ Some track → held.seen ≡ 28 → track.filled ≡ 0
    → held.recent < 2 ^ 28 → NoneEnds track words
    → ((k : ℕ) → k < length words → slice_index words k < 128)
    → count_by (λ b. b) held.wrong + length words < losing_count → RunsOn held track before words
unfolding NoneEnds window_after_words track_after_words marks_after_words
runs_on [] held track before a is full limit within goes_on small few = record {
  stands = subst₂ StandsAfter (ap (λ t. record held { track = t }) is) (sym (append-nil before)) a;
  steps = λ k h. absurd (omega arith);
}
runs_on (word ∷ words) held track before a is full limit within goes_on small few =
    let low : word < 128 = small 0 (omega arith) in
    let enough : count_by (λ b. b) held.wrong + 1 < losing_count = omega arith in
    let after : Held = next held track word within low goes_on.0 enough in
    let marks = count_marks held.wrong (is_wrong word) in
    let rest = runs_on words after (track_after track word) (before ++ elements word)
    (next_stands held track word within low goes_on.0 enough before a is full limit) refl full refl
    (omega arith) goes_on.1 (λ k h. small (suc k) (omega arith)) (omega (arith, few, marks)) in
    record {
      stands = subst (λ xs. StandsAfter (tracked_words held track (word ∷ words)) xs)
          (append_assoc before (elements word) (flat_map elements words)) rest.stands;
      steps = quiet_after before track.role word words
          (next_step held track word within low goes_on.0 enough before a is full limit) rest.steps;
    }

-- what the test of several words says
pub record Kept (held : Held) (words : List ℕ) : Type 0 where
  pub is : held.track ≡ Some (track_from Dx)
  pub free : has_dx_phasing_1 words ≡ false
  pub few : count_by (λ b. b) held.wrong + length words < losing_count

all_true : (a b c : Bool) → (a && b && c) ≡ true → (a ≡ true) × (b ≡ true) × (c ≡ true)
all_true true true true h = (refl, refl, refl)
all_true true true false h = absurd (cc)
all_true true false c h = absurd (cc)
all_true false b c h = absurd (cc)

three_true : (a b c : Bool) → (a && not b && c) ≡ true → (a ≡ true) × (b ≡ false) × (c ≡ true)
three_true true false true h = (refl, refl, refl)
three_true true false false h = absurd (cc)
three_true true true c h = absurd (cc)
three_true false b c h = absurd (cc)

awaits_dx : (track : Option Track) → awaits_free_dx track ≡ true → track ≡ Some (track_from Dx)
awaits_dx None h = absurd (cc)
awaits_dx (Some track) h =
    let free = all_true (track.filled == 0) (is_dx track.role) (track.was_p1 == 0) h in
    let plain : ℕ → ℕ → Track = λ f p. record { role = Dx; filled = f; was_p1 = p } in
    ap Some (ap (λ r. record { role = r; filled = track.filled; was_p1 = track.was_p1 })
    (is_dx-role track.role free.1)
    ∙ ap₂ plain (eqb-true track.filled 0 free.0) (eqb-true track.was_p1 0 free.2))

pub kept : (held : Held) (words : List ℕ) → keeps_lock held words ≡ true → Kept held words
kept held words h =
    let all = three_true (awaits_free_dx held.track) (has_dx_phasing_1 words)
    (nat_le (count_by (λ b. b) held.wrong + length words + 1) losing_count) h in
    record {
      is = awaits_dx held.track all.0;
      free = all.1;
      few = let e = leb-true (count_by (λ b. b) held.wrong + length words + 1) losing_count all.2 in
          omega arith;
    }

-- none of pairs of words ends the lock, of whose DX words none is phasing signal 1
pairs_go_on : (n : ℕ) (xs : List ℕ) → length xs ≡ 2 * n → has_dx_phasing_1 xs ≡ false
    → NoneEnds (track_from Dx) xs
unfolding NoneEnds has_dx_phasing_1
pairs_go_on zero [] l free = tt
pairs_go_on zero (a ∷ xs) l free = absurd (omega arith)
pairs_go_on (suc n) [] l free = absurd (omega arith)
pairs_go_on (suc n) (a ∷ []) l free = absurd (omega arith)
pairs_go_on (suc n) (a ∷ b ∷ xs) l free =
    let parts = or_false (a == phasing_1) (has_dx_phasing_1 xs) free in
    let one : fills_releasing_word (track_after (track_from Dx) a) ≡ false = rw parts.0 refl in
    let rest = pairs_go_on n xs (omega arith) parts.1 in
    (refl, (one, subst (λ t. NoneEnds t xs) (sym (dx_then_rx a b parts.0)) rest))

pub record WordsHeard (held : Held) (words : List ℕ) (before : List Bool) (new : Held)
    : Type 0 where
  pub stands : StandsAfter new (before ++ flat_map elements words)
  pub steps : AreQuietWords before Dx words

-- pairs of words that keep the lock
pub words_heard : (n : ℕ) (held : Held) (words : List ℕ) (before : List Bool) (new : Held)
    → StandsAfter held before → held.seen ≡ 28 → held.recent < 2 ^ 28
    → keeps_lock held words ≡ true → length words ≡ 2 * n
    → ((k : ℕ) → k < length words → slice_index words k < 128) → new ≡ after_words held words
    → WordsHeard held words before new
words_heard n held words before new a full within keeps l small e =
    let k : Kept held words = kept held words keeps in
    let runs = runs_on words held (track_from Dx) before a k.is full refl within
    (pairs_go_on n words l k.free) small k.few in
    let after : tracked_words held (track_from Dx) words ≡ new =
    ap (λ t. record (after_words held words) { track = t })
    (ap Some (track_after_pairs n words l k.free) ∙ sym k.is) ∙ sym e in
    record {
      stands = subst (λ s. StandsAfter s (before ++ flat_map elements words)) after runs.stands;
      steps = runs.steps;
    }
