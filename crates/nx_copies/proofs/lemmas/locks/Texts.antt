-- The text of a lock: more bits and more words leave it as it is, and add to its end.
use Rattle.std.proofs.Common.{◌≡◌, ℕ, zero, suc, ◌+◌, ◌-◌, ◌*◌, ◌<◌, ◌≤◌, Bool, true, false, cond}
use Rattle.std.proofs.Common.{ltb, List, [], ◌∷◌, ◌++◌, map, length, lt-ltb, add-suc, refl, sym, ap}
use Rattle.std.proofs.Common.{◌∙◌, subst, arith, inl, inr, append_assoc, append-nil, add-zero}
use Rattle.std.proofs.lemmas.List.{map-append}
use Rattle.std.proofs.lemmas.Bool.{cases_lt}
use Rattle.nx_code.specs.Reading.{text, shift_after_all}
use Rattle.nx_code.specs.declared.shifts.Shift.TheVariants.{Letters}
use Rattle.nx_code.proofs.lemmas.Reading.{text-append}
use Rattle.nx_fec.specs.emissions.Pairing.{counts_as, pairing, nothing, five_before}
use Rattle.nx_sync.specs.Words.{word_of_lock, first_role, role_of, is_dx}
use Rattle.nx_sync.specs.Locks.{IsPattern}
use Rattle.nx_sync.specs.declared.step.Role.{Role}
use Rattle.nx_sync.proofs.lemmas.states.KeptPast.{word_at-more, first_role-more}
use Rattle.nx_copies.specs.private.ReaderWords.{word_place}
use Rattle.nx_copies.specs.copies.LockText.{taken_at, positions, PlacedByte, printed_by, text_by}
use Rattle.nx_copies.specs.copies.LockText.{lock_text, bytes_of}

-- words that are the same up to a word give the same text up to there
pub five_before-same : (f g : ℕ → ℕ) (k : ℕ) → ((j : ℕ) → j < k → f j ≡ g j)
    → five_before f k ≡ five_before g k
five_before-same f g k same =
    elim (cases_lt k 5) [
      | inl early ↦ cc (lt-ltb k 5 early)
      | inr late ↦ ap (λ w. cond (ltb k 5) nothing (counts_as w)) (same (k - 5) (omega arith))
    ]

taken_at-same : (first : Role) (f g : ℕ → ℕ) (k : ℕ) → ((j : ℕ) → j < k + 1 → f j ≡ g j)
    → taken_at first f k ≡ taken_at first g k
unfolding taken_at
taken_at-same first f g k same =
    ap (λ p. cond (is_dx (role_of first k)) [] (p ∷ []))
    (ap (λ c. pairing c (counts_as (f k)))
    (five_before-same f g k (λ j h. same j (omega arith)))
    ∙ ap (λ w. pairing (five_before g k) (counts_as w)) (same k (omega arith)))

pub positions-same : (first : Role) (f g : ℕ → ℕ) (n : ℕ) → ((j : ℕ) → j < n → f j ≡ g j)
    → positions first f n ≡ positions first g n
unfolding positions
positions-same first f g zero same = refl
positions-same first f g (suc n) same =
    ap (λ xs. xs ++ taken_at first f n) (positions-same first f g n (λ j h. same j (omega arith)))
    ∙ ap (λ ys. positions first g n ++ ys)
    (taken_at-same first f g n (λ j h. same j (omega arith)))

printed_by-same : (first : Role) (f g : ℕ → ℕ) (t k : ℕ) → ((j : ℕ) → j < k + 1 → f j ≡ g j)
    → printed_by first f t k ≡ printed_by first g t k
unfolding printed_by
printed_by-same first f g t k same =
    ap (map (λ b. record { byte = b; place = word_place t k }))
    (ap (λ ps. text (taken_at first f k) (shift_after_all ps Letters))
    (positions-same first f g k (λ j h. same j (omega arith)))
    ∙ ap (λ taken. text taken (shift_after_all (positions first g k) Letters))
    (taken_at-same first f g k same))

pub text_by-same : (first : Role) (f g : ℕ → ℕ) (t n : ℕ) → ((j : ℕ) → j < n → f j ≡ g j)
    → text_by first f t n ≡ text_by first g t n
unfolding text_by
text_by-same first f g t zero same = refl
text_by-same first f g t (suc n) same =
    ap (λ xs. xs ++ printed_by first f t n)
    (text_by-same first f g t n (λ j h. same j (omega arith)))
    ∙ ap (λ ys. text_by first g t n ++ ys)
    (printed_by-same first f g t n (λ j h. same j (omega arith)))

-- more bits leave the text of the words that were heard whole
pub lock_text-more : (bits more : List Bool) (t n : ℕ) → IsPattern bits t → t + 7 * n ≤ length bits
    → lock_text (bits ++ more) t n ≡ lock_text bits t n
lock_text-more bits more t n here h =
    ap (λ first. text_by first (word_of_lock (bits ++ more) t) t n)
    (first_role-more bits more t here.enough here.heard)
    ∙ text_by-same (first_role bits t) (word_of_lock (bits ++ more) t) (word_of_lock bits t) t n
    (λ j lt. word_at-more bits more t j (omega arith))

-- a list that goes on
pub record GoesOnAs {A : Type 0} (xs ys : List A) : Type 0 where
  pub rest : List A
  pub whole : ys ≡ xs ++ rest

pub goes_on_as_is : {A : Type 0} (xs : List A) → GoesOnAs xs xs
goes_on_as_is xs = record { rest = []; whole = sym (append-nil xs) }

pub goes_on_twice : {A : Type 0} (xs ys zs : List A) → GoesOnAs xs ys → GoesOnAs ys zs
    → GoesOnAs xs zs
goes_on_twice xs ys zs g h =
    record {
      rest = g.rest ++ h.rest;
      whole =
          h.whole ∙ ap (λ l. l ++ h.rest) g.whole ∙ append_assoc xs g.rest h.rest;
    }

-- more words add to the text
text_by-on : (first : Role) (f : ℕ → ℕ) (t n m : ℕ)
    → GoesOnAs (text_by first f t n) (text_by first f t (n + m))
unfolding text_by
text_by-on first f t n zero = rw (add-zero n) (goes_on_as_is (text_by first f t n))
text_by-on first f t n (suc m) =
    let before = text_by-on first f t n m in
    record {
      rest = before.rest ++ printed_by first f t (n + m);
      whole = ap (text_by first f t) (add-suc n m)
          ∙ ap (λ xs. xs ++ printed_by first f t (n + m)) before.whole
          ∙ append_assoc (text_by first f t n) before.rest (printed_by first f t (n + m));
    }

pub text_by-grows : (first : Role) (f : ℕ → ℕ) (t n k : ℕ) → n ≤ k
    → GoesOnAs (text_by first f t n) (text_by first f t k)
text_by-grows first f t n k h =
    let e : n + (k - n) ≡ k = omega arith in
    subst (λ (m : ℕ). GoesOnAs (text_by first f t n) (text_by first f t m)) e
    (text_by-on first f t n (k - n))

-- the bytes of a text are what is read of the positions, from letters
pub bytes_of-append : (xs ys : List PlacedByte) → bytes_of (xs ++ ys) ≡ bytes_of xs ++ bytes_of ys
unfolding bytes_of
bytes_of-append xs ys = map-append (λ b. b.byte) xs ys

pub bytes-placed : (place : ℕ) (bs : List ℕ)
    → map (λ (p : PlacedByte). p.byte) (map (λ b. record { byte = b; place = place }) bs) ≡ bs
bytes-placed place [] = refl
bytes-placed place (b ∷ bs) = ap (λ xs. b ∷ xs) (bytes-placed place bs)

pub one_taken : (first : Role) (f : ℕ → ℕ) (k : ℕ) → length (taken_at first f k) ≤ 1
unfolding taken_at
one_taken first f k = elim (is_dx (role_of first k)) as (λ b. length
    (cond b [] (pairing (five_before f k) (counts_as (f k)) ∷ [])) ≤ 1) [
      | true ↦
          omega arith
      | false ↦ omega arith
    ]

pub bytes_are_reading : (first : Role) (f : ℕ → ℕ) (t n : ℕ)
    → bytes_of (text_by first f t n) ≡ text (positions first f n) Letters
unfolding text_by positions printed_by bytes_of
bytes_are_reading first f t zero = refl
bytes_are_reading first f t (suc n) =
    bytes_of-append (text_by first f t n) (printed_by first f t n)
    ∙ ap (λ xs. xs ++ bytes_of (printed_by first f t n)) (bytes_are_reading first f t n)
    ∙ ap (λ ys. text (positions first f n) Letters ++ ys)
    (bytes-placed (word_place t n) _)
    ∙ sym (text-append (positions first f n) (taken_at first f n) Letters)

pub goes_on_then : {A : Type 0} (xs ys zs : List A) → GoesOnAs xs ys → GoesOnAs xs (ys ++ zs)
goes_on_then xs ys zs g =
    record { rest = g.rest ++ zs; whole = ap (λ l. l ++ zs) g.whole ∙ append_assoc xs g.rest zs }

pub goes_on_behind : {A : Type 0} (zs xs ys : List A) → GoesOnAs xs ys
    → GoesOnAs (zs ++ xs) (zs ++ ys)
goes_on_behind zs xs ys g =
    record { rest = g.rest; whole = ap (λ l. zs ++ l) g.whole ∙ sym (append_assoc zs xs g.rest) }
