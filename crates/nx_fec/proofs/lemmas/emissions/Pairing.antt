-- What the words of the table count as, and the latest three of more words.
use Rattle.std.proofs.Common.{inl, inr, ◌≡◌, ℕ, ◌+◌, ◌-◌, ◌<◌, ◌≤◌, refl, sym, ap, ◌∙◌, subst}
use Rattle.std.proofs.Common.{nat_lt, if◌then◌else◌, Bool, true, false, eqb, Option, Some, None}
use Rattle.std.proofs.Common.{List, [], ◌∷◌, ◌++◌, length, get_or, drop, arith, length-append}
use Rattle.std.proofs.lemmas.Bool.{agree_below_at, cases_lt, eqb-true}
use Rattle.std.proofs.lemmas.Bool.Decides.{nat_tests}
use Rattle.std.proofs.lemmas.List.{drop-append-le, drop-drop, get_or-drop}
use Rattle.std.proofs.lemmas.List.Quantifiers.{position-Some}
use Rattle.std.specs.Option.{option_map_or}
use Rattle.nx_code.specs.declared.signals.Signal.{Signal}
use Rattle.nx_code.specs.declared.signals.Signal.TheVariants.{Traffic, Alpha, Beta, Repeat}
use Rattle.nx_code.specs.Word.{weight, elements, elements_from}
use Rattle.nx_code.specs.Table.{table, words, place_of}
use Rattle.nx_code.specs.Signal.{number_of_signal}
use Rattle.nx_fec.specs.declared.emissions.diversity.Heard.TheVariants.{Intact}
use Rattle.nx_code.specs.Classes.{class_at, class_of, paired, reception_of_class}
use Rattle.nx_fec.specs.emissions.Pairing.{Counted, IsLatest, traffic, idle_signal, nothing, counts_as}
use Rattle.nx_fec.specs.emissions.Pairing.{heard_as, pairing, third_last}
use Rattle.nx_fec.specs.private.WordClasses.{counted_by}

-- whether two words count alike
abbrev is_alike : Counted → Counted → Bool
is_alike (traffic m) (traffic n) = eqb m n
is_alike (traffic m) idle_signal = false
is_alike (traffic m) nothing = false
is_alike idle_signal (traffic n) = false
is_alike idle_signal idle_signal = true
is_alike idle_signal nothing = false
is_alike nothing (traffic n) = false
is_alike nothing idle_signal = false
is_alike nothing nothing = true

is_alike-true : (a b : Counted) → is_alike a b ≡ true → a ≡ b
is_alike-true (traffic m) (traffic n) h = ap traffic (eqb-true m n h)
is_alike-true (traffic m) idle_signal h = cc
is_alike-true (traffic m) nothing h = cc
is_alike-true idle_signal (traffic n) h = cc
is_alike-true idle_signal idle_signal h = refl
is_alike-true idle_signal nothing h = cc
is_alike-true nothing (traffic n) h = cc
is_alike-true nothing idle_signal h = cc
is_alike-true nothing nothing h = refl

-- what the word at a place of the table counts as
abbrev counts_at : ℕ → Counted
counts_at place = if nat_lt place 32 then traffic (place + 1) else idle_signal

pub counts_as-words : (at : ℕ) → at < 35 → counts_as (get_or words at 0) ≡ counts_at at
unfolding table words place_of counts_as
counts_as-words at h =
    is_alike-true (counts_as (get_or words at 0)) (counts_at at)
    (agree_below_at (λ k. is_alike (counts_as (get_or words k 0)) (counts_at k)) (λ _. true) 35
    at refl h)

-- the word of a combination counts as it
pub counts_as-combination : (number : ℕ) → 1 ≤ number → number ≤ 32
    → counts_as (get_or words (number - 1) 0) ≡ traffic number
unfolding table words place_of counts_as
counts_as-combination number low high =
    let e : number - 1 + 1 ≡ number = omega arith in
    subst (λ n. counts_as (get_or words (number - 1) 0) ≡ traffic n) e
    (is_alike-true (counts_as (get_or words (number - 1) 0)) (traffic (number - 1 + 1))
    (agree_below_at (λ k. is_alike (counts_as (get_or words k 0)) (traffic (k + 1))) (λ _. true)
    32 (number - 1) refl (omega arith)))

-- the word of a signal counts as the signal does
pub counts_as-number_of_signal : (signal : Signal)
    → counts_as (number_of_signal signal) ≡ heard_as (Intact signal)
counts_as-number_of_signal (Traffic comb) =
    counts_as-combination comb.number comb.from_one comb.to_thirty_two
counts_as-number_of_signal Alpha = counts_as-words 32 (omega arith)
counts_as-number_of_signal Beta = counts_as-words 33 (omega arith)
counts_as-number_of_signal Repeat = counts_as-words 34 (omega arith)

-- the words of the table have weight four
pub weight-words : (at : ℕ) → at < 35 → weight (get_or words at 0) ≡ 4
unfolding table words weight elements elements_from
weight-words at h = eqb-true (weight (get_or words at 0)) 4
    (agree_below_at (λ k. eqb (weight (get_or words k 0)) 4) (λ _. true) 35 at refl h)

-- a word that is found in the table has weight four
pub weight-found : (word at : ℕ) → place_of word ≡ Some at → weight word ≡ 4
unfolding table words place_of
weight-found word at h =
    let found = position-Some (λ n. eqb n word) words at 0 h in
    subst (λ n. weight n ≡ 4) (eqb-true (get_or words at 0) word found.1) (weight-words at found.0)

counts_at-none : (word : ℕ) (found : Option ℕ) → place_of word ≡ found → (weight word ≡ 4 → ⊥)
    → option_map_or counts_at found nothing ≡ nothing
counts_at-none word (Some at) h wrong = absurd (wrong (weight-found word at h))
counts_at-none word None h wrong = refl

-- a word of a wrong weight counts as nothing
pub counts_as-wrong : (word : ℕ) → (weight word ≡ 4 → ⊥) → counts_as word ≡ nothing
unfolding counts_as
counts_as-wrong word wrong = counts_at-none word (place_of word) refl wrong

-- of the latest three and one more word the latest three are those of all words and this one
pub latest-push : (latest words : List Counted) (x : Counted)
    → latest ≡ drop (length words) (nothing ∷ nothing ∷ nothing ∷ words)
    → drop 1 latest ++ x ∷ []
    ≡ drop (length (words ++ x ∷ [])) (nothing ∷ nothing ∷ nothing ∷ (words ++ x ∷ []))
latest-push latest words x old =
    let front = nothing ∷ nothing ∷ nothing ∷ words in
    let more : length words + 1 ≡ length (words ++ x ∷ []) = simp length-append (omega arith) in
    ap (λ l. drop 1 l ++ x ∷ []) old
    ∙ ap (λ l. l ++ x ∷ []) (drop-drop 1 (length words) front)
    ∙ sym (drop-append-le (length words + 1) front (x ∷ []) (omega arith))
    ∙ ap (λ n. drop n (front ++ x ∷ [])) more

pub third_last-early : (words : List Counted) → length words < 3 → third_last words ≡ nothing
third_last-early words h = grind (arith, nat_tests)

pub third_last-late : (words : List Counted) → 3 ≤ length words
    → third_last words ≡ get_or words (length words - 3) nothing
third_last-late words h = grind (arith, nat_tests)

front-early : (words : List Counted) → length words < 3
    → get_or (nothing ∷ nothing ∷ nothing ∷ words) (length words) nothing ≡ nothing
front-early [] h = refl
front-early (a ∷ []) h = refl
front-early (a ∷ b ∷ []) h = refl
front-early (a ∷ b ∷ c ∷ words) h = absurd (omega arith)

-- the oldest of the latest three is the third last of the words
pub latest-first : (latest words : List Counted)
    → latest ≡ drop (length words) (nothing ∷ nothing ∷ nothing ∷ words)
    → get_or latest 0 nothing ≡ third_last words
latest-first latest words h =
    let front = nothing ∷ nothing ∷ nothing ∷ words in
    let at : length words + 0 ≡ length words = omega arith in
    ap (λ l. get_or l 0 nothing) h ∙ get_or-drop (length words) front 0 nothing
    ∙ ap (λ n. get_or front n nothing) at
    ∙ elim (cases_lt (length words) 3) [
      | inl early ↦ front-early words early ∙ sym (third_last-early words early)
      | inr late ↦
          let back : length words ≡ 3 + (length words - 3) = omega arith in
          ap (λ n. get_or front n nothing) back
          ∙ sym (get_or-drop 3 front (length words - 3) nothing)
          ∙ sym (third_last-late words (omega arith))
    ]

-- ---- classes

class_at-counts : (found : Option ℕ)
    → counted_by (class_at found) ≡ option_map_or counts_at found nothing
class_at-counts None = refl
class_at-counts (Some place) = grind (arith, nat_tests)

-- a word counts as its class says
pub class_of-counts : (word : ℕ) → counted_by (class_of word) ≡ counts_as word
unfolding class_of counts_as
class_of-counts word = class_at-counts (place_of word)

-- what is taken of two classes is the pairing of what they count as
pub paired-pairing : (dx rx : ℕ)
    → reception_of_class (paired dx rx) ≡ pairing (counted_by dx) (counted_by rx)
paired-pairing dx rx = grind (arith, nat_tests)

-- a word given as its class is given as what it counts as
pub latest-of-class : (latest words : List Counted) (word class : ℕ) → class ≡ class_of word
    → IsLatest latest (words ++ counted_by class ∷ [])
    → IsLatest latest (words ++ counts_as word ∷ [])
latest-of-class latest words word class e =
    subst (λ x. IsLatest latest (words ++ x ∷ [])) (ap counted_by e ∙ class_of-counts word)

-- what is taken of the oldest of the latest three and a word
pub paired-first : (latest words : List Counted) (dx rx result : ℕ) (word : Counted)
    → IsLatest latest words → get_or latest 0 nothing ≡ counted_by dx → counted_by rx ≡ word
    → result ≡ paired dx rx
    → reception_of_class result ≡ pairing (third_last words) word
paired-first latest words dx rx result word h first heard e =
    ap reception_of_class e ∙ paired-pairing dx rx
    ∙ ap (λ x. pairing x (counted_by rx)) (sym first ∙ latest-first latest words h)
    ∙ ap (pairing (third_last words)) heard
