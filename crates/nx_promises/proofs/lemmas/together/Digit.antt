-- Behind a header whose digit a word prints stand the positions that the words behind it complete.
use Rattle.std.proofs.Common.{◌≡◌, ℕ, zero, suc, ◌+◌, ◌-◌, ◌*◌, ◌<◌, ◌≤◌, false, List, [], ◌∷◌}
use Rattle.std.proofs.Common.{◌++◌, length, map, take, get_or, Some, slice_get, refl, sym, ap}
use Rattle.std.proofs.Common.{◌∙◌, subst, arith, inl, inr, append_assoc, append-nil, add-zero, add-suc}
use Rattle.std.proofs.Common.{cond, ltb}
use Rattle.std.specs.List.{All}
use Rattle.std.proofs.lemmas.Bool.{cases_lt, le-leb, lt-leb}
use Rattle.std.proofs.lemmas.Bool.Decides.{nat_tests}
use Rattle.std.proofs.lemmas.List.{get_or_at, get_or_append_left, get_or-append_right, length-append}
use Rattle.std.proofs.lemmas.List.{take-append-le, take_at}
use Rattle.std.proofs.lemmas.List.Elements.{All-append, All-cons, All-get_or, All-nil}
use Rattle.std.proofs.lemmas.Option.{slice_get-get_or}
use Rattle.nx_code.specs.Reading.{Reception, lost, shift_after_all, text}
use Rattle.nx_code.specs.declared.shifts.Shift.TheVariants.{Letters}
use Rattle.nx_fec.specs.emissions.Pairing.{counts_as, five_before, nothing, pairing}
use Rattle.nx_sync.specs.Words.{is_dx, other_role, role_of}
use Rattle.nx_sync.specs.declared.step.Role.{Role}
use Rattle.nx_sync.specs.declared.step.Role.TheVariants.{Dx, Rx}
use Rattle.nx_sync.proofs.lemmas.words.Roles.{role_of-even}
use Rattle.nx_copies.specs.copies.FoundCopies.{place_in}
use Rattle.nx_copies.specs.copies.LockText.{PlacedByte, positions, printed_by, taken_at, text_by}
use Rattle.nx_copies.proofs.lemmas.locks.Found.{length-bytes_of, place_in-get_or, text_placed}
use Rattle.nx_copies.proofs.lemmas.locks.Texts.{bytes_are_reading}
use Rattle.nx_combine.specs.CopyPositions.{positions_for}
use Rattle.nx_combine.specs.private.laws.PositionsFor.{first-is, first_prints, prints_enough}

-- bytes at a place stand at no earlier one
all_from : (low place : ℕ) → low ≤ place → (bs : List ℕ)
    → All (λ (b : PlacedByte). low ≤ b.place) (map (λ b. record { byte = b; place = place }) bs)
all_from low place le [] = All-nil (λ (b : PlacedByte). low ≤ b.place)
all_from low place le (b ∷ bs) =
    All-cons (λ (b : PlacedByte). low ≤ b.place) (record { byte = b; place = place })
    (map (λ b. record { byte = b; place = place }) bs) le (all_from low place le bs)

module _ (first : Role) (words : ℕ → ℕ) where
  -- ---- the positions that are completed from a DX word on

  role_at : (w j : ℕ) → role_of first w ≡ Dx → role_of first (w + 5 + 2 * j) ≡ Rx
  unfolding role_of
  role_at w j dx =
      let at : w + 5 + 2 * j ≡ suc (w + 2 * (j + 2)) = omega arith in
      ap (role_of first) at ∙ ap other_role (role_of-even first w (j + 2) ∙ dx)

  -- what an RX word completes
  rx_takes : (w j : ℕ) → role_of first w ≡ Dx
      → taken_at first words (w + 5 + 2 * j)
      ≡ pairing (counts_as (words (w + 2 * j))) (counts_as (words (w + 2 * j + 5))) ∷ []
  unfolding taken_at
  rx_takes w j dx =
      let k : ℕ = w + 5 + 2 * j in
      let late : ltb (w + 5 + 2 * j) 5 ≡ false = grind (arith, nat_tests) in
      let back : w + 5 + 2 * j - 5 ≡ w + 2 * j = omega arith in
      let here : w + 5 + 2 * j ≡ w + 2 * j + 5 = omega arith in
      ap (λ r. cond (is_dx r) []
      (pairing (five_before words (w + 5 + 2 * j)) (counts_as (words (w + 5 + 2 * j))) ∷ []))
      (role_at w j dx)
      ∙ ap (λ b. pairing (cond b nothing (counts_as (words (w + 5 + 2 * j - 5))))
      (counts_as (words (w + 5 + 2 * j))) ∷ []) late
      ∙ ap (λ i. pairing (counts_as (words i)) (counts_as (words (w + 5 + 2 * j))) ∷ []) back
      ∙ ap (λ i. pairing (counts_as (words (w + 2 * j))) (counts_as (words i)) ∷ []) here

  -- the DX word behind it completes nothing
  pub dx_takes : (w j : ℕ) → role_of first w ≡ Dx → taken_at first words (suc (w + 5 + 2 * j)) ≡ []
  unfolding taken_at role_of
  dx_takes w j dx =
      let k : ℕ = suc (w + 5 + 2 * j) in
      ap (λ r. cond (is_dx r) []
      (pairing (five_before words (suc (w + 5 + 2 * j)))
      (counts_as (words (suc (w + 5 + 2 * j)))) ∷ []))
      (ap other_role (role_at w j dx))

  next_positions : (k : ℕ) (x : Reception) → taken_at first words k ≡ x ∷ []
      → positions first words (suc k) ≡ positions first words k ++ x ∷ []
  unfolding positions
  next_positions k x e = ap (λ l. positions first words k ++ l) e

  pub same_positions : (k : ℕ) → taken_at first words k ≡ []
      → positions first words (suc k) ≡ positions first words k
  unfolding positions
  same_positions k e = ap (λ l. positions first words k ++ l) e
      ∙ append-nil (positions first words k)

  -- so many positions are complete before each of these RX words
  pub count_at : (w j : ℕ) → role_of first w ≡ Dx
      → length (positions first words (w + 5 + 2 * j)) ≡ length (positions first words (w + 5)) + j
  count_at w zero dx =
      let e : w + 5 + 2 * 0 ≡ w + 5 = omega arith in
      ap (λ k. length (positions first words k)) e ∙ omega arith
  count_at w (suc j) dx =
      let e : w + 5 + 2 * suc j ≡ suc (suc (w + 5 + 2 * j)) = omega arith in
      let x : Reception = pairing (counts_as (words (w + 2 * j)))
      (counts_as (words (w + 2 * j + 5)))
      in
      let long = length-append (positions first words (w + 5 + 2 * j)) (x ∷ []) in
      let before = count_at w j dx in
      ap (λ k. length (positions first words k)) e
      ∙ ap length (same_positions (suc (w + 5 + 2 * j)) (dx_takes w j dx))
      ∙ ap length (next_positions (w + 5 + 2 * j) x (rx_takes w j dx))
      ∙ omega (arith, long, before)

  -- more words complete more positions behind these
  pub record More (n m : ℕ) : Type 0 where
    pub rest : List Reception
    pub whole : positions first words m ≡ positions first words n ++ rest

  more_by : (n k : ℕ) → More n (n + k)
  unfolding positions
  more_by n zero = record {
    rest = [];
    whole = ap (positions first words) (add-zero n) ∙ sym (append-nil (positions first words n));
  }
  more_by n (suc k) =
      let before = more_by n k in
      record {
        rest = before.rest ++ taken_at first words (n + k);
        whole = ap (positions first words) (add-suc n k)
            ∙ ap (λ l. l ++ taken_at first words (n + k)) before.whole
            ∙ append_assoc (positions first words n) before.rest (taken_at first words (n + k));
      }

  pub more : (n m : ℕ) → n ≤ m → More n m
  more n m le = let e : n + (m - n) ≡ m = omega arith in subst (More n) e (more_by n (m - n))

  -- the position of an RX word among all that the first n words complete
  pub position_at_word : (w j n : ℕ) → role_of first w ≡ Dx → w + 5 + 2 * j < n
      → slice_get (positions first words n) (length (positions first words (w + 5)) + j)
      ≡ Some (pairing (counts_as (words (w + 2 * j))) (counts_as (words (w + 2 * j + 5))))
  position_at_word w j n dx lt =
      let x : Reception = pairing (counts_as (words (w + 2 * j)))
      (counts_as (words (w + 2 * j + 5)))
      in
      let front : List Reception = positions first words (w + 5 + 2 * j) in
      let on = more (suc (w + 5 + 2 * j)) n (omega (arith, lt)) in
      let whole : positions first words n ≡ front ++ x ∷ on.rest =
      on.whole ∙ ap (λ l. l ++ on.rest) (next_positions (w + 5 + 2 * j) x (rx_takes w j dx))
      ∙ append_assoc front (x ∷ []) on.rest in
      let long : length (front ++ x ∷ on.rest) ≡ length front + suc (length on.rest) =
      length-append front (x ∷ on.rest) in
      let at : length (positions first words (w + 5)) + j ≡ length front =
      sym (count_at w j dx) in
      ap (λ k. slice_get (positions first words n) k) at
      ∙ ap (λ l. slice_get l (length front)) whole
      ∙ slice_get-get_or (front ++ x ∷ on.rest) (length front) lost (omega (arith, long))
      ∙ ap Some (get_or_at front x on.rest lost (length front) refl)

  -- ---- the places of the bytes

  record Later (t n m : ℕ) : Type 0 where
    rest : List PlacedByte
    whole : text_by first words t m ≡ text_by first words t n ++ rest
    each : All (λ (b : PlacedByte). t + 7 * n + 6 ≤ b.place) rest

  later_by : (t n k : ℕ) → Later t n (n + k)
  unfolding text_by printed_by
  later_by t n zero = record {
    rest = [];
    whole = ap (text_by first words t) (add-zero n) ∙ sym (append-nil (text_by first words t n));
    each = All-nil (λ (b : PlacedByte). t + 7 * n + 6 ≤ b.place);
  }
  later_by t n (suc k) =
      let before = later_by t n k in
      let bytes : List ℕ = text (taken_at first words (n + k))
      (shift_after_all (positions first words (n + k)) Letters) in
      record {
        rest = before.rest ++ printed_by first words t (n + k);
        whole = ap (text_by first words t) (add-suc n k)
            ∙ ap (λ l. l ++ printed_by first words t (n + k)) before.whole
            ∙ append_assoc (text_by first words t n) before.rest
            (printed_by first words t (n + k));
        each = All-append (λ (b : PlacedByte). t + 7 * n + 6 ≤ b.place) before.rest
            (printed_by first words t (n + k)) before.each
            (all_from (t + 7 * n + 6) (t + 7 * (n + k) + 6) (omega arith) bytes);
      }

  later : (t n m : ℕ) → n ≤ m → Later t n m
  later t n m le = let e : n + (m - n) ≡ m = omega arith in subst (Later t n) e
      (later_by t n (m - n))

  pub long_text : (t n : ℕ) → length (text_by first words t n)
      ≡ length (text (positions first words n) Letters)
  long_text t n = sym (length-bytes_of (text_by first words t n))
      ∙ ap length (bytes_are_reading first words t n)

  -- the byte of this index stands before word K, or at a later word, or at word K
  not_early : (t n K i : ℕ) → K ≤ n → place_in (text_by first words t n) i ≡ t + 7 * K + 6
      → i < length (text_by first words t n) → length (text_by first words t K) ≤ i
  not_early t n K i le at lt = elim (cases_lt i (length (text_by first words t K))) [
    | inr late ↦ late
    | inl early ↦
        let d : PlacedByte = record { byte = 0; place = 0 } in
        let l = later t K n le in
        let same : place_in (text_by first words t n) i
        ≡ (get_or (text_by first words t K) i d).place =
        place_in-get_or (text_by first words t n) i d lt
        ∙ ap (λ l. (get_or l i d).place) l.whole
        ∙ ap (λ b. b.place) (get_or_append_left (text_by first words t K) l.rest d i early) in
        let within = All-get_or (λ (b : PlacedByte). (t ≤ b.place) × (b.place < t + 7 * K))
        (text_by first words t K) i d early (text_placed first words t K) in
        absurd (omega (arith, at, same, within.1))
  ]

  not_late : (t n K i : ℕ) → suc K ≤ n → place_in (text_by first words t n) i ≡ t + 7 * K + 6
      → i < length (text_by first words t n) → i < length (text_by first words t (suc K))
  not_late t n K i le at lt = elim (cases_lt i (length (text_by first words t (suc K)))) [
    | inl early ↦ early
    | inr late ↦
        let d : PlacedByte = record { byte = 0; place = 0 } in
        let l = later t (suc K) n le in
        let front : List PlacedByte = text_by first words t (suc K) in
        let long = ap length l.whole ∙ length-append front l.rest in
        let same : place_in (text_by first words t n) i
        ≡ (get_or l.rest (i - length front) d).place =
        place_in-get_or (text_by first words t n) i d lt
        ∙ ap (λ l. (get_or l i d).place) l.whole
        ∙ ap (λ b. b.place) (get_or-append_right front l.rest (length front) i d refl late) in
        let within = All-get_or (λ (b : PlacedByte). t + 7 * suc K + 6 ≤ b.place) l.rest
        (i - length front) d (omega (arith, long, lt, late)) l.each in
        absurd (omega (arith, at, same, within))
  ]

  -- a byte that a word prints stands at its last bit
  pub place_at_word : (t n K i : ℕ) → suc K ≤ n → length (text_by first words t K) ≤ i
      → i < length (text_by first words t (suc K)) → place_in (text_by first words t n) i
      ≡ t + 7 * K + 6
  place_at_word t n K i le low high =
      let d : PlacedByte = record { byte = 0; place = 0 } in
      let front : List PlacedByte = text_by first words t K in
      let here : List PlacedByte = text_by first words t (suc K) in
      let l = later t (suc K) n le in
      let own = later t K (suc K) (omega arith) in
      let long = ap length l.whole ∙ length-append here l.rest in
      let long_here = ap length own.whole ∙ length-append front own.rest in
      let in_here : place_in (text_by first words t n) i ≡ (get_or here i d).place =
      place_in-get_or (text_by first words t n) i d (omega (arith, long, high))
      ∙ ap (λ l. (get_or l i d).place) l.whole
      ∙ ap (λ b. b.place) (get_or_append_left here l.rest d i high) in
      let in_own : (get_or here i d).place ≡ (get_or own.rest (i - length front) d).place =
      ap (λ l. (get_or l i d).place) own.whole
      ∙ ap (λ b. b.place) (get_or-append_right front own.rest (length front) i d refl low) in
      let above = All-get_or (λ (b : PlacedByte). t + 7 * K + 6 ≤ b.place) own.rest
      (i - length front) d (omega (arith, long_here, low, high)) own.each in
      let below = All-get_or (λ (b : PlacedByte). (t ≤ b.place) × (b.place < t + 7 * suc K)) here i
      d
      high (text_placed first words t (suc K)) in
      omega (arith, in_here, in_own, above, below.1)

  -- So a header whose digit an RX word prints is printed by the positions up to the one that the
  -- word completes.
  pub digit_position : (t w j n behind : ℕ) → role_of first w ≡ Dx → w + 5 + 2 * j < n
      → 1 ≤ behind → behind ≤ length (text (positions first words n) Letters)
      → place_in (text_by first words t n) (behind - 1) ≡ t + 7 * (w + 5 + 2 * j) + 6
      → positions_for (positions first words n) behind
      ≡ length (positions first words (w + 5)) + j + 1
  unfolding positions_for
  digit_position t w j n behind dx lt some within at =
      let K : ℕ = w + 5 + 2 * j in
      let x : Reception = pairing (counts_as (words (w + 2 * j)))
      (counts_as (words (w + 2 * j + 5)))
      in
      let all : List Reception = positions first words n in
      let front : List Reception = positions first words (w + 5 + 2 * j) in
      let here : List Reception = positions first words (suc (w + 5 + 2 * j)) in
      let inside : behind - 1 < length (text_by first words t n) =
      omega (arith, long_text t n, some, within) in
      let early = not_early t n (w + 5 + 2 * j) (behind - 1) (omega (arith, lt)) at inside in
      let late = not_late t n (w + 5 + 2 * j) (behind - 1) (omega (arith, lt)) at inside in
      let long_front = long_text t (w + 5 + 2 * j) in
      let long_here = long_text t (suc (w + 5 + 2 * j)) in
      let count = count_at w j dx in
      let pushed : here ≡ front ++ x ∷ [] =
      next_positions (w + 5 + 2 * j) x (rx_takes w j dx) in
      let long : length here ≡ length front + 1 =
      ap length pushed ∙ length-append front (x ∷ []) in
      let to_front = more (w + 5 + 2 * j) n (omega (arith, lt)) in
      let to_here = more (suc (w + 5 + 2 * j)) n (omega (arith, lt)) in
      let total = ap length to_here.whole ∙ length-append here to_here.rest in
      first-is (prints_enough all behind) (length all)
      (length (positions first words (w + 5)) + j + 1) (record {
        within = omega (arith, total, long, count);
        none = λ i below.
            let cut : take i all ≡ take i front = ap (take i) to_front.whole
            ∙ take-append-le i front to_front.rest (omega (arith, below, count)) in
            let few = first_prints front i in
            let less : length (text (take i all) Letters) < behind =
            omega (arith, ap (λ l. length (text l Letters)) cut, few, early, long_front, some) in
            lt-leb behind (length (text (take i all) Letters)) less;
        here = λ _.
            let cut : take (length (positions first words (w + 5)) + j + 1) all ≡ here =
            ap (take (length (positions first words (w + 5)) + j + 1)) to_here.whole
            ∙ take_at here to_here.rest (length (positions first words (w + 5)) + j + 1)
            (omega (arith, long, count)) in
            let enough : behind
            ≤ length (text (take (length (positions first words (w + 5)) + j + 1) all) Letters) =
            omega (arith, ap (λ l. length (text l Letters)) cut, late, long_here, some) in
            le-leb behind (length (text (take (length (positions first words (w + 5)) + j + 1) all)
            Letters)) enough;
      })
