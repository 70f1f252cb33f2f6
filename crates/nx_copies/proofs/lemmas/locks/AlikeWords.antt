-- The two words of a position: whether they count alike, by classes, and at which words of a lock.
use Rattle.std.proofs.Common.{zero, suc, ◌++◌, ◌≡◌, ℕ, ◌+◌, ◌<◌, ◌==◌, Bool, true, false, Option}
use Rattle.std.proofs.Common.{Some, None, refl, sym, ap}
use Rattle.std.proofs.Common.{◌∙◌, cond, ltb, arith, List, [], ◌∷◌, not, ◌&&◌}
use Rattle.std.proofs.lemmas.Bool.Decides.{nat_tests}
use Rattle.std.specs.Option.{option_map, option_map_or, option_to_list}
use Rattle.nx_code.specs.Classes.{class_at, class_of, reception_of_class, service_class}
use Rattle.nx_code.specs.Reading.{Reception, combination, idle, lost}
use Rattle.nx_code.specs.Table.{combination_count, place_of}
use Rattle.nx_fec.specs.emissions.Pairing.{Counted, counts_as, five_before, idle_signal, nothing}
use Rattle.nx_fec.specs.emissions.Pairing.{pairing, third_last, traffic, IsLatest}
use Rattle.nx_sync.specs.Words.{is_dx, role_of}
use Rattle.nx_sync.specs.declared.step.Role.{Role}
use Rattle.nx_sync.specs.declared.step.Role.TheVariants.{Dx, Rx}
use Rattle.nx_copies.specs.ReadPositions.{IsPositionAt}
use Rattle.nx_copies.specs.copies.AlikeWords.{alike, alike_at, count_alike}
use Rattle.nx_copies.specs.copies.LockText.{dx_words, taken_at}
use Rattle.nx_copies.specs.private.AlikeClasses.{are_alike_by, is_lost}
use Rattle.nx_copies.specs.declared.lock_printer.ReadPosition.{ReadPosition}
use Rattle.nx_copies.proofs.lemmas.locks.ReaderWords.{third_last-dx_words}
use Rattle.nx_copies.proofs.lemmas.locks.Texts.{five_before-same}

abbrev is_nothing : Counted → Bool
is_nothing (traffic m) = false
is_nothing idle_signal = false
is_nothing nothing = true

-- a class that is 0 is lost
lost_by : (class : ℕ) (none service : Bool) → (class == 0) ≡ none
    → is_lost (cond none lost (cond service idle (combination class))) ≡ none
lost_by class true service h = refl
lost_by class false true h = refl
lost_by class false false h = refl

lost_class : (class : ℕ) → is_lost (reception_of_class class) ≡ (class == 0)
lost_class class = lost_by class (class == 0) (class == service_class) refl

not_zero : (n : ℕ) → 0 < n → (n == 0) ≡ false
not_zero n some = grind (arith, nat_tests)

-- and a word of class 0 counts as nothing
nothing_at : (place : Option ℕ)
    → is_nothing (option_map_or
    (λ place. cond (ltb place combination_count) (traffic (place + 1)) idle_signal) place nothing)
    ≡ (class_at place == 0)
nothing_at None = refl
nothing_at (Some place) = by_place place (ltb place combination_count)
  where
    by_place : (place : ℕ) (is : Bool)
        → is_nothing (cond is (traffic (place + 1)) idle_signal)
        ≡ (cond is (place + 1) service_class == 0)
    by_place place true = sym (not_zero (place + 1) (omega arith))
    by_place place false = refl

nothing_class : (word : ℕ) → is_nothing (counts_as word) ≡ (class_of word == 0)
unfolding counts_as class_of
nothing_class word = nothing_at (place_of word)

by_pairing : (dx rx : Counted)
    → (not (is_lost (pairing dx rx)) && (not (is_nothing rx) && not (is_lost (pairing dx nothing))))
    ≡ count_alike dx rx
by_pairing (traffic m) (traffic n) = same (m == n)
  where
    same : (is : Bool) → (not (is_lost (cond is (combination m) lost)) && true) ≡ is
    same true = refl
    same false = refl
by_pairing (traffic m) idle_signal = refl
by_pairing (traffic m) nothing = refl
by_pairing idle_signal (traffic n) = refl
by_pairing idle_signal idle_signal = refl
by_pairing idle_signal nothing = refl
by_pairing nothing (traffic n) = refl
by_pairing nothing idle_signal = refl
by_pairing nothing nothing = refl

pub alike_by_classes : (dx : Counted) (word class : ℕ) (alone : Reception)
    → reception_of_class class ≡ pairing dx (counts_as word) → alone ≡ pairing dx nothing
    → are_alike_by class (class_of word) alone ≡ count_alike dx (counts_as word)
alike_by_classes dx word class alone pair one =
    let rx = counts_as word in
    let both : (class == 0) ≡ is_lost (pairing dx rx) = sym (lost_class class) ∙ ap is_lost pair in
    ap (λ x. not x && (not (class_of word == 0) && not (is_lost alone))) both
    ∙ ap (λ x. not (is_lost (pairing dx rx)) && (not x && not (is_lost alone)))
    (sym (nothing_class word))
    ∙ ap (λ x. not (is_lost (pairing dx rx)) && (not (is_nothing rx) && not (is_lost x))) one
    ∙ by_pairing dx rx

abbrev pub if_rx : {A : Type 0} → Role → A → List A
if_rx role one = cond (is_dx role) [] (one ∷ [])

-- a DX word completes no position
pub no_position : (first : Role) (words : ℕ → ℕ) (n : ℕ) → Dx ≡ role_of first n
    → IsPositionAt first words n None
unfolding taken_at alike_at
no_position first words n dx = record {
  taken = ap (λ r. if_rx r (pairing (five_before words n) (counts_as (words n)))) dx;
  alike = ap (λ r. if_rx r (count_alike (five_before words n) (counts_as (words n)))) dx;
}

-- and an RX word completes this one
pub one_position : (first : Role) (words : ℕ → ℕ) (n word class : ℕ) (is_alike : Bool)
    → Rx ≡ role_of first n → words n ≡ word
    → reception_of_class class ≡ pairing (third_last (dx_words first words n)) (counts_as word)
    → is_alike ≡ count_alike (third_last (dx_words first words n)) (counts_as word)
    → IsPositionAt first words n (Some (record { class = class; is_alike = is_alike }))
unfolding taken_at alike_at
one_position first words n word class is_alike rx is taken alike =
    let dx = third_last-dx_words first words n (sym rx) in
    let one : reception_of_class class ≡ pairing (five_before words n) (counts_as (words n)) =
    taken ∙ ap (λ d. pairing d (counts_as word)) dx
    ∙ ap (λ w. pairing (five_before words n) (counts_as w)) (sym is) in
    let two : is_alike ≡ count_alike (five_before words n) (counts_as (words n)) =
    alike ∙ ap (λ d. count_alike d (counts_as word)) dx
    ∙ ap (λ w. count_alike (five_before words n) (counts_as w)) (sym is) in
    record {
      taken = ap (λ p. p ∷ []) one
          ∙ ap (λ r. if_rx r (pairing (five_before words n) (counts_as (words n)))) rx;
      alike = ap (λ p. p ∷ []) two
          ∙ ap (λ r. if_rx r (count_alike (five_before words n) (counts_as (words n)))) rx;
    }

-- words that are the same up to a word have the same positions with two words alike
pub alike-same : (first : Role) (f g : ℕ → ℕ) (n : ℕ) → ((j : ℕ) → j < n → f j ≡ g j)
    → alike first f n ≡ alike first g n
unfolding alike alike_at
alike-same first f g zero same = refl
alike-same first f g (suc n) same =
    ap (λ xs. xs ++ alike_at first f n) (alike-same first f g n (λ j h. same j (omega arith)))
    ∙ ap (λ c. alike first g n ++ if_rx (role_of first n) (count_alike c (counts_as (f n))))
    (five_before-same f g n (λ j h. same j (omega arith)))
    ∙ ap (λ w. alike first g n
    ++ if_rx (role_of first n) (count_alike (five_before g n) (counts_as w)))
    (same n (omega arith))
