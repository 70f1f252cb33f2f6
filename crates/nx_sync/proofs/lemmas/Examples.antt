-- The definitions of the locks, evaluated on worked examples.
use Rattle.std.proofs.Common.{◌≡◌, ◌==◌, ◌||◌, [], ◌∷◌, ◌++◌, ℕ, Bool, is_some, true, false, refl}
use Rattle.std.proofs.Common.{inl, arith, Some, if◌then◌else◌}
use Rattle.std.proofs.lemmas.Bool.{agree_below, agree_below_at}
use Rattle.nx_code.specs.Table.{phasing_1, phasing_2, elements_of_phasing_1, elements_of_phasing_2}
use Rattle.nx_code.specs.Word.{number_of, weight, elements, elements_from, is_wrong, wrong_in}
use Rattle.nx_sync.specs.declared.step.Role.TheVariants.{Dx, Rx}
use Rattle.nx_sync.specs.declared.step.Role.{Role}
use Rattle.nx_sync.specs.declared.step.Change.{Change}
use Rattle.nx_sync.specs.declared.step.Change.TheVariants.{Ended, LostLock}
use Rattle.nx_sync.specs.Words.{word_of_lock, first_role, role_of, wrong_until, lock_words}
use Rattle.nx_sync.specs.Locks.{before_dx, before_rx, IsPattern, Finds, IsEarlier}
use Rattle.nx_sync.specs.private.Releases.{releases_as_ended, change_at}
use Rattle.nx_sync.proofs.lemmas.words.Computed.{earlier-from, none_from}
use Rattle.nx_sync.specs.Windows.{is_lock_window}

-- P2 P1 P2 P1 gives a lock after 28 bits, whose word 0 is a DX word; P1 P2 P1 P2 one whose word 0
-- is an RX word
pub pattern_found : IsPattern (before_dx ++ true ∷ false ∷ []) 28
unfolding before_dx elements elements_from
pattern_found = record { enough = omega arith; heard = omega arith; pattern = inl refl }

pub found_at_28 : Finds (before_dx ++ true ∷ false ∷ []) 0 28
unfolding before_dx elements elements_from
found_at_28 = record {
  after = omega arith;
  here = pattern_found;
  least =
      λ s after before here. omega (arith, here.enough);
}

pub first_is_dx : first_role before_dx 28 ≡ Dx
unfolding first_role before_dx number_of elements elements_from
first_is_dx = refl

pub first_is_rx : first_role before_rx 28 ≡ Rx
unfolding first_role before_rx number_of elements elements_from
first_is_rx = refl

-- the words after a pattern, with their roles
pub two_words : lock_words (before_dx ++ elements_of_phasing_2 ++ elements_of_phasing_1) 28 2
    ≡ (phasing_2, Dx) ∷ (phasing_1, Rx) ∷ []
unfolding lock_words word_of_lock first_role role_of before_dx number_of elements elements_from
two_words = refl

-- a phasing signal and BYBYBYB have the right weight; six B have not
pub right_weights : (is_wrong 0x0F ≡ false) × (is_wrong 0x66 ≡ false) × (is_wrong 0x55 ≡ false)
unfolding weight elements elements_from
right_weights = (refl, refl, refl)

pub wrong_weight : is_wrong 0x7E ≡ true
unfolding weight elements elements_from
wrong_weight = refl

-- the rule's word, by computing what each word to it would bring
abbrev no_change_below : Role → (ℕ → ℕ) → ℕ → Bool
no_change_below first words w = agree_below (λ k. is_some (change_at first words k)) (λ _. false) w

by_computing : (first : Role) (words : ℕ → ℕ) (w : ℕ) (how : Change)
    → change_at first words w ≡ Some how → no_change_below first words w ≡ true
    → IsEarlier first words w how
by_computing first words w how here quiet =
    earlier-from first words w how here
    (λ j below. none_from (change_at first words j)
    (agree_below_at (λ k. is_some (change_at first words k)) (λ _. false) w j quiet below))

-- where each word is wrong, 39 are after word 38 and 40 after word 39, and never more than 64
abbrev pub all_wrong : ℕ → ℕ
all_wrong k = 0

pub one_too_few : wrong_until all_wrong 38 ≡ 39
unfolding wrong_in weight elements elements_from
one_too_few = refl

pub lost_where_all_are_wrong : IsEarlier Dx all_wrong 39 LostLock
unfolding change_at releases_as_ended role_of wrong_in weight elements elements_from
lost_where_all_are_wrong = by_computing Dx all_wrong 39 LostLock refl refl

pub sixty_four : wrong_until all_wrong 100 ≡ 64
unfolding wrong_in weight elements elements_from
sixty_four = refl

-- words 2 and 4, which are DX words, are phasing signal 1: word 7 releases the lock, and with word
-- 0 as RX none does
abbrev pub end_at_four : ℕ → ℕ
end_at_four k = if k == 2 || k == 4 then 0x0F else 0x66

pub ended_at_seven : IsEarlier Dx end_at_four 7 Ended
unfolding change_at releases_as_ended role_of wrong_in weight elements elements_from
ended_at_seven = by_computing Dx end_at_four 7 Ended refl refl

pub not_with_rx : releases_as_ended Rx end_at_four 7 ≡ false
unfolding releases_as_ended role_of
not_with_rx = refl

-- ended and lost at one word: it is Ended
abbrev pub end_and_loss : ℕ → ℕ
end_and_loss k = if k == 36 || k == 38 then 0x0F else 0

pub lost_there : wrong_until end_and_loss 41 ≡ 40
unfolding wrong_in weight elements elements_from
lost_there = refl

pub ended_where_lost : IsEarlier Dx end_and_loss 41 Ended
unfolding change_at releases_as_ended role_of wrong_in weight elements elements_from
ended_where_lost = by_computing Dx end_and_loss 41 Ended refl refl

-- the patterns as windows, and a window that is none
pub windows : (is_lock_window 0x1F987E6 ≡ true) × (is_lock_window 0xCC3F30F ≡ true)
    × (is_lock_window 0x1F987E7 ≡ false)
windows = (refl, refl, refl)
