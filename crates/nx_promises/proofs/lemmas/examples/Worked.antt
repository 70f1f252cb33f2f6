-- The worked emission through the definitions, from its elements to the log.
use Rattle.std.proofs.Common.{◌≡◌, ℕ, ◌+◌, ◌-◌, ◌*◌, ◌<◌, ◌≤◌, true, false, cond, List, []}
use Rattle.std.proofs.Common.{length, get_or, refl, sym, ap, ◌∙◌, arith, inl, lit≤, lit<, zero-add}
use Rattle.std.proofs.Common.{nat_le, Some, None, ltb}
use Rattle.std.specs.Prelude.{codes, ◌==◌}
use Rattle.std.proofs.lemmas.Bool.{agree_below, agree_below_at, ltb-true, lt-leb}
use Rattle.nx_code.specs.Table.{phasing_1, table, words, place_of, row_of}
use Rattle.nx_code.specs.Word.{elements, elements_from, weight, word_from, wrong_in}
use Rattle.nx_code.specs.Reading.{text, character_of}
use Rattle.nx_code.specs.declared.shifts.Shift.TheVariants.{Letters}
use Rattle.nx_fec.specs.emissions.Aligned.{word_in}
use Rattle.nx_fec.specs.emissions.Emission.{bits_of, AreWords}
use Rattle.nx_fec.specs.emissions.Pairing.{counts_as}
use Rattle.nx_fec.proofs.lemmas.emissions.Aligned.{get_or-words_of}
use Rattle.nx_fec.proofs.lemmas.emissions.RoundTrip.{length-bits_of, words_of-bits_of}
use Rattle.nx_station.specs.reception.Path.{phasing_words}
use Rattle.nx_station.specs.reception.PathExample.{damaged_in, example_words, heard_half}
use Rattle.nx_sync.specs.Words.{word_of_lock, first_role, role_of, wrong_until, losing_count}
use Rattle.nx_sync.specs.Words.{whole_words}
use Rattle.nx_sync.specs.Locks.{before_dx, last_elements, Past, IsLocked}
use Rattle.nx_sync.specs.private.Releases.{releases_as_ended, change_at}
use Rattle.nx_sync.proofs.lemmas.words.Computed.{holds-to}
use Rattle.nx_sync.specs.declared.step.Role.TheVariants.{Dx, Rx}
use Rattle.nx_sync.specs.declared.step.Change.TheVariants.{Ended, LostLock}
use Rattle.nx_code.proofs.lemmas.WordCounts.{wrong_in-add}
use Rattle.nx_sync.proofs.lemmas.states.KeptPast.{change_at-same}
use Rattle.nx_copies.specs.copies.LockText.{taken_at, positions, lock_text, bytes_of, text_by}
use Rattle.nx_promises.specs.examples.Emission.{worked_words, damaged_words}
use Rattle.nx_copies.proofs.lemmas.locks.Texts.{positions-same, bytes_are_reading, text_by-same}

-- word k of a lock at bit 28, by the words that were heard
abbrev pub lock_word : List ℕ → ℕ → ℕ
lock_word sent k = get_or sent (k + 4) 0

-- what is computed of words, word by word: so many are words of a lock at bit 28, behind the four
-- of its pattern, and print these bytes
pub record Computed (sent : List ℕ) (n : ℕ) (bytes : List ℕ) : Type 0 where
  pub long : length sent ≡ n + 4
  pub are_words : agree_below (λ k. ltb (get_or sent k 0) 128) (λ _. true) (n + 4) ≡ true
  pub pattern : last_elements (bits_of sent) 28 ≡ before_dx
  pub before : get_or sent 3 0 ≡ phasing_1
  pub no_end : agree_below (releases_as_ended Dx (lock_word sent)) (λ _. false) n ≡ true
  pub few_wrong : wrong_in (lock_word sent) 0 n ≤ 30
  pub reads : text (positions Dx (lock_word sent) n) Letters ≡ bytes

-- what the worked emission prints
abbrev pub worked_text : List ℕ
worked_text = codes "ZCZC EA01\nTEST\nNNNN\n\n"

pub sent_computed : Computed worked_words 199 worked_text
unfolding positions taken_at role_of counts_as place_of words table character_of row_of worked_words
    example_words phasing_words before_dx bits_of elements elements_from wrong_in weight
    releases_as_ended
sent_computed = record {
  long = refl;
  are_words = refl;
  pattern = refl;
  before = refl;
  no_end =
      refl;
  few_wrong = lit≤ tt;
  reads = refl;
}

pub damaged_computed : Computed damaged_words 199 worked_text
unfolding positions taken_at role_of counts_as place_of words table character_of row_of
    damaged_words heard_half damaged_in example_words phasing_words before_dx bits_of elements
    elements_from wrong_in weight releases_as_ended
damaged_computed = record {
  long = refl;
  are_words = refl;
  pattern = refl;
  before = refl;
  no_end = refl;
  few_wrong =
      lit≤ tt;
  reads = refl;
}

module _ (sent : List ℕ) {n : ℕ} {bytes : List ℕ} (is : Computed sent n bytes) where
  pub are_words : AreWords sent
  are_words k h = ltb-true (get_or sent k 0) 128
      (agree_below_at (λ k. ltb (get_or sent k 0) 128) (λ _. true) (n + 4) k is.are_words
      (omega (arith, is.long)))

  bit_count : length (bits_of sent) ≡ 28 + 7 * n
  bit_count = length-bits_of sent ∙ omega (arith, is.long)

  -- the words in the bits are those that were heard
  word_is : (slot : ℕ) → slot < n + 4 → word_from (bits_of sent) (7 * slot) ≡ get_or sent slot 0
  unfolding word_in
  word_is slot h =
      sym (get_or-words_of (bits_of sent) slot (omega (arith, bit_count)))
      ∙ ap (λ ws. get_or ws slot 0) (words_of-bits_of sent are_words)

  lock_word_is : (k : ℕ) → k < n → word_of_lock (bits_of sent) 28 k ≡ lock_word sent k
  unfolding word_of_lock
  lock_word_is k h = ap (word_from (bits_of sent)) (at k) ∙ word_is (k + 4) (omega arith)
    where
      at : (k : ℕ) → 28 + 7 * k ≡ 7 * (k + 4)
      at k = omega arith

  role_is : first_role (bits_of sent) 28 ≡ Dx
  unfolding first_role
  role_is = ap (λ w. cond (w == phasing_1) Dx Rx) (word_is 3 (omega arith) ∙ is.before)

  -- of any words of the lock, at most 30 are wrong
  part_wrong : (i m : ℕ) → i + m ≤ n → wrong_in (lock_word sent) i m ≤ 30
  part_wrong i m h =
      let rest : ℕ = n - (i + m) in
      let all : n ≡ i + (m + rest) = omega arith in
      let sum : wrong_in (lock_word sent) 0 n
      ≡ wrong_in (lock_word sent) 0
      i + (wrong_in (lock_word sent) i m + wrong_in (lock_word sent) (i + m) rest) =
      ap (wrong_in (lock_word sent) 0) all ∙ wrong_in-add (lock_word sent) 0 i (m + rest)
      ∙ ap (λ x. wrong_in (lock_word sent) 0 i + wrong_in (lock_word sent) x (m + rest))
      (zero-add i) ∙ ap (λ x. wrong_in (lock_word sent) 0 i + x)
      (wrong_in-add (lock_word sent) i m rest) in
      omega (arith, is.few_wrong)

  quiet : (k : ℕ) → k < n → change_at Dx (lock_word sent) k ≡ None
  unfolding change_at
  quiet k h =
      let few = part_wrong (k + 1 - 64) (k + 1 - (k + 1 - 64)) (omega arith) in
      ap (λ b. cond b (Some Ended)
      (cond (nat_le losing_count (wrong_until (lock_word sent) k)) (Some LostLock) None))
      (agree_below_at (releases_as_ended Dx (lock_word sent)) (λ _. false) n k is.no_end h)
      ∙ ap (λ b. cond b (Some LostLock) None)
      (lt-leb losing_count (wrong_until (lock_word sent) k) (omega (arith, few)))

  pub stands : IsLocked (bits_of sent) [] 0 28
  unfolding Past
  stands = record {
    past = refl;
    found = record {
      after = lit< tt;
      here = record {
        enough = lit≤ tt;
        heard = omega (arith, bit_count);
        pattern =
            inl is.pattern;
      };
      least = λ s after before here. absurd (omega (arith, before, here.enough));
    };
    holds = holds-to (bits_of sent) 28
        (λ k h. ap (λ first. change_at first (word_of_lock (bits_of sent) 28) k) role_is
        ∙ change_at-same Dx (word_of_lock (bits_of sent) 28) (lock_word sent) k
        (λ j le. lock_word_is j (omega (arith, bit_count))) ∙ quiet k (omega (arith, bit_count)));
  }

  count_is : whole_words (bits_of sent) 28 ≡ n
  count_is = omega (arith, bit_count)

  -- the text of the lock, each byte with its place, and its positions
  pub text_same : lock_text (bits_of sent) 28 (whole_words (bits_of sent) 28)
      ≡ text_by Dx (lock_word sent) 28 n
  text_same =
      ap (λ m. lock_text (bits_of sent) 28 m) count_is
      ∙ ap (λ first. text_by first (word_of_lock (bits_of sent) 28) 28 n) role_is
      ∙ text_by-same Dx (word_of_lock (bits_of sent) 28) (lock_word sent) 28 n lock_word_is

  pub positions_same : positions (first_role (bits_of sent) 28) (word_of_lock (bits_of sent) 28)
      (whole_words (bits_of sent) 28) ≡ positions Dx (lock_word sent) n
  positions_same =
      ap (positions (first_role (bits_of sent) 28) (word_of_lock (bits_of sent) 28)) count_is
      ∙ ap (λ first. positions first (word_of_lock (bits_of sent) 28) n) role_is
      ∙ positions-same Dx (word_of_lock (bits_of sent) 28) (lock_word sent) n lock_word_is

  -- its bytes
  pub text_is : bytes_of (lock_text (bits_of sent) 28 (whole_words (bits_of sent) 28)) ≡ bytes
  text_is =
      bytes_are_reading (first_role (bits_of sent) 28) (word_of_lock (bits_of sent) 28) 28
      (whole_words (bits_of sent) 28)
      ∙ ap (λ ps. text ps Letters) positions_same
      ∙ is.reads
