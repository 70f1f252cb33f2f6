-- What bytes stand for, from their beginning on.
use Rattle.std.proofs.Common.{◌≡◌, ◌≢◌, inl, inr, ⊎_elim, ℕ, zero, suc, ◌+◌, ◌<◌, ◌≤◌, List, [], ◌∷◌, ◌++◌, length, take, drop, refl, sym, ◌∙◌, ap, subst, arith, append_assoc, length-append, take-append-drop}
use Rattle.std.proofs.lemmas.Bool.{cases_lt, cases_order}
use Rattle.std.proofs.lemmas.List.{append-nil, take-take}
use Rattle.nx_kept.specs.Kept.{closed_gate, IsBehindOpenGates, IsTail, StandsFor, IsKeptLog, CanBeKeptLog, IsDamaged, IsDamagedBehind, line_behind}
use Rattle.nx_kept.proofs.lemmas.Pieces.{beginning, take_past}

module _ (is_record : List ℕ → Type 0) (longest : ℕ) where
  -- the beginning of a tail is a tail
  pub tail_begins : (n : ℕ) (tail : List ℕ) → IsTail longest tail → IsTail longest (take n tail)
  tail_begins zero tail is = tt
  tail_begins (suc n) [] is = tt
  tail_begins (suc zero) (gate ∷ more) is = tt
  tail_begins (suc (suc n)) (gate ∷ []) is = tt
  tail_begins (suc (suc n)) (gate ∷ next ∷ more) is =
      (is.0, omega (arith, is.1, length-take-le n more))
    where
      length-take-le : (n : ℕ) (l : List ℕ) → length (take n l) ≤ length l
      length-take-le zero l = omega arith
      length-take-le (suc n) [] = omega arith
      length-take-le (suc n) (x ∷ l) = omega (arith, length-take-le n l)

  -- a byte or none is a tail
  pub short_tail : (tail : List ℕ) → length tail ≤ 1 → IsTail longest tail
  short_tail [] short = tt
  short_tail (gate ∷ []) short = tt
  short_tail (gate ∷ next ∷ more) short = absurd (omega arith)

  -- a closed gate and not too many bytes
  pub closed_tail : (more : List ℕ) → length more ≤ longest + 1
      → IsTail longest (closed_gate ∷ more)
  closed_tail [] short = tt
  closed_tail (next ∷ more) short = (refl, short)

  -- and none that is longer
  pub tail_short : (tail : List ℕ) → IsTail longest tail → length tail ≤ longest + 2
  tail_short [] is = omega arith
  tail_short (gate ∷ []) is = omega arith
  tail_short (gate ∷ next ∷ more) is = omega (arith, is.1)

  pub only_tail : (tail : List ℕ) → IsTail longest tail → StandsFor is_record longest [] tail
  only_tail tail is = record { front = []; tail = tail; kept = refl; end = is; split = refl }

  -- one record more before the others
  pub one_before : (gate : ℕ) (first : List ℕ) (records : List (List ℕ)) (rest : List ℕ)
      → gate ≢ closed_gate → is_record first
      → StandsFor is_record longest records rest
      → StandsFor is_record longest (first ∷ records) (gate ∷ (first ++ rest))
  one_before gate first records rest is_open is_one stands = record {
    front = gate ∷ (first ++ stands.front);
    tail = stands.tail;
    kept = (gate, stands.front, is_open, is_one, refl, stands.kept);
    end = stands.end;
    split = ap (λ (l : List ℕ). gate ∷ (first ++ l)) stands.split
        ∙ ap (λ (l : List ℕ). gate ∷ l) (sym (append_assoc first stands.front stands.tail));
  }

  -- records behind open gates, and behind them what stands for others
  pub more_behind : (found records : List (List ℕ)) (front rest : List ℕ)
      → IsBehindOpenGates is_record found front
      → StandsFor is_record longest records rest
      → StandsFor is_record longest (found ++ records) (front ++ rest)
  more_behind [] records front rest kept stands =
      subst (λ (l : List ℕ). StandsFor is_record longest records (l ++ rest)) (sym kept) stands
  more_behind (first ∷ found) records front rest kept stands =
      let inner = one_before kept.0 first (found ++ records) (kept.1 ++ rest) kept.2 kept.3
      (more_behind found records kept.1 rest kept.5 stands) in
      let same : kept.0 ∷ (first ++ (kept.1 ++ rest)) ≡ front ++ rest =
      ap (λ (l : List ℕ). kept.0 ∷ l) (sym (append_assoc first kept.1 rest))
      ∙ ap (λ (l : List ℕ). l ++ rest) (sym kept.4) in
      subst (StandsFor is_record longest (first ∷ (found ++ records))) same inner

  -- one record more behind the others
  pub one_behind : (records : List (List ℕ)) (front : List ℕ) (gate : ℕ) (last : List ℕ)
      → IsBehindOpenGates is_record records front
      → gate ≢ closed_gate → is_record last
      → IsBehindOpenGates is_record (records ++ last ∷ []) (front ++ gate ∷ last)
  one_behind [] front gate last kept is_open is_one = (
    gate,
    [],
    is_open,
    is_one,
    ap (λ (l : List ℕ). l ++ gate ∷ last) kept
        ∙ ap (λ (l : List ℕ). gate ∷ l) (sym (append-nil last)),
    refl,
  )
  one_behind (first ∷ records) front gate last kept is_open is_one = (
    kept.0,
    kept.1 ++ gate ∷ last,
    kept.2,
    kept.3,
    ap (λ (l : List ℕ). l ++ gate ∷ last) kept.4
        ∙ ap (λ (l : List ℕ). kept.0 ∷ l) (append_assoc first kept.1 (gate ∷ last)),
    one_behind records kept.1 gate last kept.5 is_open is_one,
  )

  module _ (some : (bytes : List ℕ) → is_record bytes → 0 < length bytes)
      (one : (bytes more : List ℕ) → is_record bytes → is_record (bytes ++ more) → more ≡ []) where
    -- two records that begin one list are the same
    pub same_record : (a b x y : List ℕ) → is_record a → is_record b → a ++ x ≡ b ++ y → (a ≡ b)
        × (x ≡ y)
    same_record a b x y is_a is_b same = elim (cases_lt (length b) (length a)) [
      | inl shorter ↦
          let parts = beginning b a y x (sym same) (omega arith) in
          let none = one b parts.0 is_b (subst is_record parts.1 is_a) in (
            parts.1 ∙ ap (λ (l : List ℕ). b ++ l) none ∙ append-nil b,
            sym (parts.2 ∙ ap (λ (l : List ℕ). l ++ x) none),
          )
      | inr longer ↦
          let parts = beginning a b x y same longer in
          let none = one a parts.0 is_a (subst is_record parts.1 is_b) in (
            sym (parts.1 ∙ ap (λ (l : List ℕ). a ++ l) none ∙ append-nil a),
            parts.2
                ∙ ap (λ (l : List ℕ). l ++ y) none,
          )
    ]

    pub not_a_tail : (gate : ℕ) (first rest : List ℕ) → gate ≢ closed_gate → 0 < length first
        → IsTail longest (gate ∷ (first ++ rest)) → ⊥
    not_a_tail gate [] rest is_open long is = absurd (omega arith)
    not_a_tail gate (next ∷ more) rest is_open long is = is_open is.0

    -- What begins with an open gate and a record stands for it, and for what the rest stands for.
    pub peeled : (records : List (List ℕ)) (gate : ℕ) (first rest : List ℕ) → gate ≢ closed_gate
        → is_record first
        → StandsFor is_record longest records (gate ∷ (first ++ rest))
        → (later : List (List ℕ)) × (records ≡ first ∷ later)
        × StandsFor is_record longest later rest
    peeled [] gate first rest is_open is_one stands =
        let none : gate ∷ (first ++ rest) ≡ stands.tail = stands.split
        ∙ ap (λ (l : List ℕ). l ++ stands.tail) stands.kept in
        absurd (not_a_tail gate first rest is_open (some first is_one)
        (subst (IsTail longest) (sym none) stands.end))
    peeled (other ∷ later) gate first rest is_open is_one stands =
        let kept = stands.kept in
        let same : gate ∷ (first ++ rest) ≡ kept.0 ∷ (other ++ (kept.1 ++ stands.tail)) =
        stands.split ∙ ap (λ (l : List ℕ). l ++ stands.tail) kept.4
        ∙ ap (λ (l : List ℕ). kept.0 ∷ l) (append_assoc other kept.1 stands.tail) in
        let tails : first ++ rest ≡ other ++ (kept.1 ++ stands.tail) = cc in
        let both = same_record first other rest (kept.1 ++ stands.tail) is_one kept.3 tails in (
          later,
          ap (λ (r : List ℕ). r ∷ later) (sym both.0),
          record {
            front = kept.1;
            tail = stands.tail;
            kept = kept.5;
            end = stands.end;
            split = both.1;
          },
        )

    -- bytes stand for at most one list of records
    pub one_list : (a b : List (List ℕ)) (bytes : List ℕ) → StandsFor is_record longest a bytes
        → StandsFor is_record longest b bytes → a ≡ b
    one_list [] [] bytes in_a in_b = refl
    one_list [] (first ∷ b) bytes in_a in_b =
        let kept = in_b.kept in
        let whole : bytes ≡ kept.0 ∷ (first ++ (kept.1 ++ in_b.tail)) =
        in_b.split ∙ ap (λ (l : List ℕ). l ++ in_b.tail) kept.4
        ∙ ap (λ (l : List ℕ). kept.0 ∷ l) (append_assoc first kept.1 in_b.tail) in
        let parts = peeled [] kept.0 first (kept.1 ++ in_b.tail) kept.2 kept.3
        (subst (StandsFor is_record longest []) whole in_a) in
        absurd (no_first parts.0 parts.1)
      where
        no_first : (later : List (List ℕ)) → [] ≡ first ∷ later → ⊥
        no_first later same = cc
    one_list (first ∷ a) b bytes in_a in_b =
        let kept = in_a.kept in
        let whole : bytes ≡ kept.0 ∷ (first ++ (kept.1 ++ in_a.tail)) =
        in_a.split ∙ ap (λ (l : List ℕ). l ++ in_a.tail) kept.4
        ∙ ap (λ (l : List ℕ). kept.0 ∷ l) (append_assoc first kept.1 in_a.tail) in
        let parts = peeled b kept.0 first (kept.1 ++ in_a.tail) kept.2 kept.3
        (subst (StandsFor is_record longest b) whole in_b) in
        let rest : StandsFor is_record longest a (kept.1 ++ in_a.tail) =
        record {
          front = kept.1;
          tail = in_a.tail;
          kept = kept.5;
          end = in_a.end;
          split = refl;
        } in
        ap (λ (l : List (List ℕ)). first ∷ l)
        (one_list a parts.0 (kept.1 ++ in_a.tail) rest parts.2) ∙ sym parts.1

    -- what stands behind records behind open gates stands for something, where the whole does
    pub behind_is_kept : (found : List (List ℕ)) (front rest : List ℕ)
        → IsBehindOpenGates is_record found front
        → IsKeptLog is_record longest (front ++ rest) → IsKeptLog is_record longest rest
    behind_is_kept [] front rest kept is =
        subst (λ (l : List ℕ). IsKeptLog is_record longest (l ++ rest)) kept is
    behind_is_kept (first ∷ found) front rest kept is =
        let whole : front ++ rest ≡ kept.0 ∷ (first ++ (kept.1 ++ rest)) =
        ap (λ (l : List ℕ). l ++ rest) kept.4
        ∙ ap (λ (l : List ℕ). kept.0 ∷ l) (append_assoc first kept.1 rest) in
        let parts = peeled is.0 kept.0 first (kept.1 ++ rest) kept.2 kept.3
        (subst (StandsFor is_record longest is.0) whole is.1) in
        behind_is_kept found kept.1 rest kept.5 (parts.0, parts.2)

    -- the damage of what stands behind them is that of the whole
    pub damaged_behind : (found : List (List ℕ)) (front rest : List ℕ) (place : ℕ)
        → IsBehindOpenGates is_record found front
        → IsDamagedBehind is_record longest place rest
        → IsDamagedBehind is_record longest (length front + place) (front ++ rest)
    damaged_behind found front rest place kept damage = record {
      within = omega (arith, damage.within, length-append front rest);
      good_before =
          let good = damage.good_before in
          let whole : front ++ (take place rest ++ good.0) ≡ take (length front + place)
          (front ++ rest) ++ good.0 =
          sym (append_assoc front (take place rest) good.0)
          ∙ ap (λ (l : List ℕ). l ++ good.0) (sym (take_past front rest place)) in (
            good.0,
            (
              found ++ good.1.0,
              subst (StandsFor is_record longest (found ++ good.1.0)) whole
                  (more_behind found good.1.0 front (take place rest ++ good.0) kept good.1.1),
            ),
          );
      not_with_it =
          λ inside good. damage.not_with_it (omega (arith, inside, length-append front rest))
          (still good);
      not_as_they_are = λ is. damage.not_as_they_are (behind_is_kept found front rest kept is);
    }
      where
        still : CanBeKeptLog is_record longest (take (length front + place + 1) (front ++ rest))
            → CanBeKeptLog is_record longest (take (place + 1) rest)
        still good =
            let at : length front + place + 1 ≡ length front + (place + 1) = omega arith in
            let whole : take (length front + place + 1) (front ++ rest) ++ good.0 ≡ front
            ++ (take (place + 1) rest ++ good.0) =
            ap (λ (n : ℕ). take n (front ++ rest) ++ good.0) at
            ∙ ap (λ (l : List ℕ). l ++ good.0) (take_past front rest (place + 1))
            ∙ append_assoc front (take (place + 1) rest) good.0 in (
              good.0,
              behind_is_kept found front (take (place + 1) rest ++ good.0) kept
                  (good.1.0, subst (StandsFor is_record longest good.1.0) whole good.1.1),
            )

-- What can be a kept log can be one up to any place, so the place of a damage is one.
module _ (is_record : List ℕ → Type 0) (longest : ℕ) where
  can_be_up_to : (m n : ℕ) (bytes : List ℕ) → m ≤ n → CanBeKeptLog is_record longest (take n bytes)
      → CanBeKeptLog is_record longest (take m bytes)
  can_be_up_to m n bytes le good =
      let rest = drop m (take n bytes) in
      let split : take n bytes ++ good.0 ≡ take m bytes ++ (rest ++ good.0) =
      ap (λ (l : List ℕ). l ++ good.0) (sym (take-append-drop m (take n bytes))
      ∙ ap (λ (l : List ℕ). l ++ rest) (take-take m n bytes le))
      ∙ append_assoc (take m bytes) rest good.0 in
      (rest ++ good.0, (good.1.0, subst (StandsFor is_record longest good.1.0) split good.1.1))

  not_before : (a b : ℕ) (bytes : List ℕ) → IsDamagedBehind is_record longest a bytes
      → IsDamagedBehind is_record longest b bytes → a < b → ⊥
  not_before a b bytes first second lt = first.not_with_it (omega (arith, second.within))
      (can_be_up_to (a + 1) b bytes (omega arith) second.good_before)

  pub one_place : (a b : ℕ) (bytes : List ℕ) → IsDamagedBehind is_record longest a bytes
      → IsDamagedBehind is_record longest b bytes → a ≡ b
  one_place a b bytes first second = elim (cases_order a b) [
    | inl same ↦ same
    | inr apart ↦ ⊎_elim (λ lt. absurd (not_before a b bytes first second lt))
        (λ lt. absurd (not_before b a bytes second first lt)) apart
  ]

  pub one_line : (a b : ℕ) (bytes : List ℕ) → IsDamaged is_record longest a bytes
      → IsDamaged is_record longest b bytes → a ≡ b
  one_line a b bytes first second =
      first.2 ∙ ap (λ (n : ℕ). line_behind (take n bytes))
      (one_place first.0 second.0 bytes first.1 second.1) ∙ sym second.2
