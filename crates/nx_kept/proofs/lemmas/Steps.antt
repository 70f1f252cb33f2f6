-- What stands from a gate on.
use Rattle.std.proofs.Common.{◌≡◌, ◌≢◌, inl, inr, ℕ, suc, ◌+◌, ◌-◌, ◌<◌, ◌≤◌, List, [], ◌∷◌, ◌++◌, length, take, drop, get_or, refl, sym, ◌∙◌, ap, subst, arith, append_assoc, length-append, length-take, take-append-drop}
use Rattle.std.proofs.lemmas.Bool.{cases_lt}
use Rattle.std.proofs.lemmas.List.{append-nil, take-take, take_all, take_at}
use Rattle.nx_kept.specs.Kept.{closed_gate, IsTail, StandsFor, CanBeKeptLog, IsDamagedBehind}
use Rattle.nx_kept.specs.Record.{IsUnfinished}
use Rattle.nx_kept.specs.private.Scan.{IsAtRecord}
use Rattle.nx_kept.proofs.lemmas.Pieces.{beginning, take_past, take_short}
use Rattle.nx_kept.proofs.lemmas.KeptLaws.{closed_tail, tail_short, only_tail, one_before}

-- of two parts of nothing the second is nothing
pub nil_right : (a b : List ℕ) → a ++ b ≡ [] → b ≡ []
nil_right [] b same = same
nil_right (x ∷ a) b same = absurd (cc)

module _ (is_record : List ℕ → Type 0) (longest : ℕ) (some : (bytes : List ℕ) → is_record bytes
    → 0 < length bytes) (bounded : (bytes : List ℕ) → is_record bytes → length bytes ≤ longest)
    (one : (bytes more : List ℕ) → is_record bytes → is_record (bytes ++ more) → more ≡ []) where
  -- a buffer that isn't full shows all
  pub all_shown : (buffer all : List ℕ) → buffer ≡ take (longest + 3) all
      → length buffer < longest + 3 → all ≡ buffer
  all_shown buffer all is short =
      sym (is ∙ take_short (longest + 3) all (omega (arith, ap length is)))

  -- what stands for records and begins with a closed gate is a tail
  closed_is_tail : (records : List (List ℕ)) (bytes : List ℕ)
      → StandsFor is_record longest records (closed_gate ∷ bytes) → length bytes ≤ longest + 1
  closed_is_tail [] bytes stands =
      omega (
        arith,
        tail_short is_record longest stands.tail stands.end,
        ap length (stands.split ∙ ap (λ (l : List ℕ). l ++ stands.tail) stands.kept),
      )
  closed_is_tail (first ∷ records) bytes stands =
      let kept = stands.kept in
      let same : closed_gate ∷ bytes ≡ kept.0 ∷ ((first ++ kept.1) ++ stands.tail) = stands.split
      ∙ ap (λ (l : List ℕ). l ++ stands.tail) kept.4 in
      let gates : closed_gate ≡ kept.0 = cc in
      absurd (kept.2 (sym gates))

  -- a tail that is too long
  pub long_tail : (all bytes : List ℕ) → all ≡ closed_gate ∷ bytes → longest + 2 ≤ length bytes
      → IsDamagedBehind is_record longest (longest + 2) all
  long_tail all bytes is long =
      subst (IsDamagedBehind is_record longest (longest + 2)) (sym is) (record {
        within = omega arith;
        good_before =
            let begin = take (longest + 1) bytes in
            let short : length begin ≤ longest + 1 =
            omega (arith, length-take (longest + 1) bytes) in
            let split : (closed_gate ∷ begin) ++ [] ≡ take (longest + 2) (closed_gate ∷ bytes)
            ++ [] = ap (λ (n : ℕ). take n (closed_gate ∷ bytes) ++ []) more_by_one in (
              [],
              (
                [],
                subst (StandsFor is_record longest []) (sym (append-nil (closed_gate ∷ begin))
                    ∙ split) (only_tail is_record longest (closed_gate ∷ begin)
                    (closed_tail is_record longest begin short)),
              ),
            );
        not_with_it = λ inside good. too_long good;
        not_as_they_are = λ is_log. absurd (omega (arith, closed_is_tail is_log.0 bytes is_log.1));
      })
    where
      more_by_one : suc (longest + 1) ≡ longest + 2
      more_by_one = omega arith

      two_more : longest + 2 + 1 ≡ suc (longest + 2)
      two_more = omega arith

      too_long : CanBeKeptLog is_record longest (take (longest + 2 + 1) (closed_gate ∷ bytes)) → ⊥
      too_long good =
          let whole : take (longest + 2 + 1) (closed_gate ∷ bytes) ++ good.0 ≡ closed_gate
          ∷ (take (longest + 2) bytes ++ good.0) =
          ap (λ (n : ℕ). take n (closed_gate ∷ bytes) ++ good.0) two_more in
          let bound = closed_is_tail good.1.0 (take (longest + 2) bytes ++ good.0)
          (subst (StandsFor is_record longest good.1.0) whole good.1.1) in
          absurd (omega (
            arith,
            bound,
            length-append (take (longest + 2) bytes) good.0,
            length-take (longest + 2) bytes,
          ))

  -- a tail that is too long for a buffer
  pub long_tail_shown : (n : ℕ) (buffer all : List ℕ) → n ≡ longest + 2
      → buffer ≡ take (longest + 3) all → get_or buffer 0 0 ≡ closed_gate
      → longest + 3 ≤ length buffer → IsDamagedBehind is_record longest n all
  long_tail_shown n buffer [] at shown head long =
      absurd (omega (arith, ap length shown, length-take {A = ℕ} (longest + 3) []))
  long_tail_shown n buffer (g ∷ bytes) at shown head long =
      let next : longest + 3 ≡ suc (longest + 2) = omega arith in
      let same : buffer ≡ g ∷ take (longest + 2) bytes = shown
      ∙ ap (λ (k : ℕ). take k (g ∷ bytes)) next in
      let gate : g ≡ closed_gate = sym (ap (λ (l : List ℕ). get_or l 0 0) same) ∙ head in
      let size : longest + 2 ≤ length bytes =
      omega (arith, long, ap length same, length-take (longest + 2) bytes) in
      subst (λ (k : ℕ). IsDamagedBehind is_record longest k (g ∷ bytes)) (sym at)
      (long_tail (g ∷ bytes) bytes (ap (λ (x : ℕ). x ∷ bytes) gate) size)

  -- a record behind an open gate
  pub at_record : (gate n : ℕ) (buffer behind all : List ℕ) → buffer ≡ gate ∷ behind
      → buffer ≡ take (longest + 3) all → gate ≢ closed_gate
      → n ≤ length behind → is_record (take n behind) → IsAtRecord is_record longest n all
  at_record gate n buffer behind [] is_buffer shown is_open within is_one =
      absurd (nothing (sym is_buffer ∙ shown))
    where
      nothing : gate ∷ behind ≡ take (longest + 3) [] → ⊥
      nothing same = absurd (omega (arith, ap length same, length-take {A = ℕ} (longest + 3) []))
  at_record gate n buffer behind (g ∷ bytes) is_buffer shown is_open within is_one =
      let next : longest + 3 ≡ suc (longest + 2) = omega arith in
      let same : gate ∷ behind ≡ g ∷ take (longest + 2) bytes = sym is_buffer ∙ shown
      ∙ ap (λ (k : ℕ). take k (g ∷ bytes)) next in
      let gates : gate ≡ g = cc in
      let begin : behind ≡ take (longest + 2) bytes = cc in
      let inside : n ≤ longest + 2 =
      omega (arith, within, ap length begin, length-take (longest + 2) bytes) in
      let first : take n behind ≡ take n bytes = ap (λ (l : List ℕ). take n l) begin
      ∙ take-take n (longest + 2) bytes inside in
      record {
        gate = g;
        first = take n bytes;
        rest = drop n bytes;
        is_open = λ closed. is_open (gates ∙ closed);
        is_one = subst is_record first is_one;
        split = ap (λ (l : List ℕ). g ∷ l) (sym (take-append-drop n bytes));
        size = omega (arith, ap length first, length-take n behind, within);
      }

  not_tail : (gate : ℕ) (bytes : List ℕ) → gate ≢ closed_gate → 0 < length bytes
      → IsTail longest (gate ∷ bytes) → ⊥
  not_tail gate [] is_open long is_tail = absurd (omega arith)
  not_tail gate (next ∷ bytes) is_open long is_tail = is_open is_tail.0

  -- what stands for records and begins with an open gate and a byte has a record there
  record_first : (records : List (List ℕ)) (gate : ℕ) (bytes : List ℕ) → gate ≢ closed_gate
      → 0 < length bytes → StandsFor is_record longest records (gate ∷ bytes)
      → (first : List ℕ) × (rest : List ℕ) × is_record first × (bytes ≡ first ++ rest)
  record_first [] gate bytes is_open long stands =
      let same : gate ∷ bytes ≡ stands.tail = stands.split
      ∙ ap (λ (l : List ℕ). l ++ stands.tail) stands.kept in
      absurd (not_tail gate bytes is_open long (subst (IsTail longest) (sym same) stands.end))
  record_first (first ∷ records) gate bytes is_open long stands =
      let kept = stands.kept in
      let same : gate ∷ bytes ≡ kept.0 ∷ (first ++ (kept.1 ++ stands.tail)) =
      stands.split ∙ ap (λ (l : List ℕ). l ++ stands.tail) kept.4
      ∙ ap (λ (l : List ℕ). kept.0 ∷ l) (append_assoc first kept.1 stands.tail) in
      let tails : bytes ≡ first ++ (kept.1 ++ stands.tail) = cc in
      (first, kept.1 ++ stands.tail, kept.3, tails)

  -- a record doesn't begin a record that lacks bytes
  not_within : (first rest bytes : List ℕ) → is_record first → bytes ≡ first ++ rest
      → IsUnfinished is_record bytes → ⊥
  not_within first rest bytes is_one same unfinished =
      let whole : bytes ++ unfinished.0 ≡ first ++ (rest ++ unfinished.0) =
      ap (λ (l : List ℕ). l ++ unfinished.0) same ∙ append_assoc first rest unfinished.0 in
      unfinished.2
      (nil_right rest unfinished.0
      (one first (rest ++ unfinished.0) is_one (subst is_record whole unfinished.1)))

  -- what begins a record that lacks bytes can go on
  can_go_on : (gate : ℕ) (bytes : List ℕ) → gate ≢ closed_gate → IsUnfinished is_record bytes
      → CanBeKeptLog is_record longest (gate ∷ bytes)
  can_go_on gate bytes is_open unfinished =
      let whole = bytes ++ unfinished.0 in
      let last : StandsFor is_record longest (whole ∷ []) (gate ∷ (whole ++ [])) =
      one_before is_record longest gate whole [] [] is_open unfinished.1
      (only_tail is_record longest [] tt) in (
        unfinished.0,
        (
          whole ∷ [],
          subst (StandsFor is_record longest (whole ∷ []))
              (ap (λ (l : List ℕ). gate ∷ l) (append-nil whole)) last,
        ),
      )

  -- a record that the end of the bytes cuts
  pub ends_early : (gate : ℕ) (behind all : List ℕ) → all ≡ gate ∷ behind → gate ≢ closed_gate
      → 0 < length behind → IsUnfinished is_record behind
      → IsDamagedBehind is_record longest (length all) all
  ends_early gate behind all is is_open some_bytes unfinished = record {
    within = omega arith;
    good_before =
        subst (CanBeKeptLog is_record longest) (sym (take_all (length all) all (omega arith) ∙ is))
        (can_go_on gate behind is_open unfinished);
    not_with_it = λ inside good. absurd (omega arith);
    not_as_they_are = λ is_log.
        let parts = record_first is_log.0 gate behind is_open some_bytes
        (subst (StandsFor is_record longest is_log.0) is is_log.1) in
        not_within parts.0 parts.1 behind parts.2 parts.3 unfinished;
  }

  -- with one byte more no record goes on so
  goes_no_further : (place : ℕ) (bytes : List ℕ) → place < length bytes
      → IsUnfinished is_record (take place bytes) → (is_record (take (place + 1) bytes) → ⊥)
      → (IsUnfinished is_record (take (place + 1) bytes) → ⊥) → (first rest more : List ℕ)
      → is_record first → take (place + 1) bytes ++ more ≡ first ++ rest → ⊥
  goes_no_further place bytes within before no_record no_begin first rest more is_one same =
      let begin = take (place + 1) bytes in
      let size : length begin ≡ place + 1 = omega (arith, length-take (place + 1) bytes) in
      elim (cases_lt (length begin) (length first)) [
        | inl longer ↦
            let parts = beginning begin first more rest same (omega arith) in
            no_begin (
              parts.0,
              subst is_record parts.1 is_one,
              λ none. not_longer begin first
                  parts.0 longer parts.1 none,
            )
        | inr shorter ↦
            let parts = beginning first begin rest more (sym same) shorter in
            elim (cases_lt (length first) (place + 1)) [
              | inl inside ↦
                  let front : take place bytes ≡ take place begin =
                  sym (take-take place (place + 1) bytes (omega arith)) in
                  let le : length first ≤ place = omega arith in
                  let at : place ≡ length first + (place - length first) = omega arith in
                  let split : take place bytes ≡ first ++ take (place - length first) parts.0 =
                  front ∙ ap (λ (l : List ℕ). take place l) parts.1
                  ∙ ap (λ (k : ℕ). take k (first ++ parts.0)) at
                  ∙ take_past first parts.0 (place - length first) in
                  not_within first (take (place - length first) parts.0) (take place bytes) is_one
                  split before
              | inr all_of ↦ no_record
                  (subst is_record
                  (sym (all_same begin first parts.0 parts.1 (omega (arith, size))))
                  is_one)
            ]
      ]
    where
      not_longer : (a b m : List ℕ) → length a < length b → b ≡ a ++ m → m ≡ [] → ⊥
      not_longer a b m lt is none =
          absurd (omega (arith, ap length is, length-append a m, ap length none))

      all_same : (a b m : List ℕ) → a ≡ b ++ m → length a ≤ length b → a ≡ b
      all_same a b m is le = is
          ∙ ap (λ (l : List ℕ). b ++ l) (nil m (omega (arith, ap length is, length-append b m)))
          ∙ append-nil b
        where
          nil : (l : List ℕ) → length l ≤ 0 → l ≡ []
          nil [] le = refl
          nil (x ∷ l) le = absurd (omega arith)

  -- a byte with which no record can begin
  pub breaks : (gate : ℕ) (bytes all : List ℕ) (place : ℕ) → all ≡ gate ∷ bytes → gate ≢ closed_gate
      → place < length bytes → IsUnfinished is_record (take place bytes)
      → (is_record (take (place + 1) bytes) → ⊥)
      → (IsUnfinished is_record (take (place + 1) bytes) → ⊥)
      → IsDamagedBehind is_record longest (place + 1) all
  breaks gate bytes all place is is_open within before no_record no_begin =
      subst (IsDamagedBehind is_record longest (place + 1)) (sym is) (record {
        within = omega arith;
        good_before =
            subst (CanBeKeptLog is_record longest) (ap (λ (n : ℕ). take n (gate ∷ bytes)) one_more)
            (can_go_on gate (take place bytes) is_open before);
        not_with_it = λ inside good. no_more good;
        not_as_they_are =
            λ is_log. no_more (
              drop (place + 1 + 1) (gate ∷ bytes),
              (
                is_log.0,
                subst (StandsFor is_record longest is_log.0)
                    (sym (take-append-drop (place + 1 + 1) (gate ∷ bytes))) is_log.1,
              ),
            );
      })
    where
      one_more : suc place ≡ place + 1
      one_more = omega arith

      two_more : place + 1 + 1 ≡ suc (place + 1)
      two_more = omega arith

      no_more : CanBeKeptLog is_record longest (take (place + 1 + 1) (gate ∷ bytes)) → ⊥
      no_more good =
          let whole : take (place + 1 + 1) (gate ∷ bytes) ++ good.0 ≡ gate
          ∷ (take (place + 1) bytes ++ good.0) =
          ap (λ (n : ℕ). take n (gate ∷ bytes) ++ good.0) two_more in
          let parts = record_first good.1.0 gate (take (place + 1) bytes ++ good.0) is_open
          (omega (
            arith,
            length-append (take (place + 1) bytes) good.0,
            length-take (place + 1)
                bytes,
          )) (subst (StandsFor is_record longest good.1.0) whole good.1.1) in
          goes_no_further place bytes within before no_record no_begin parts.0 parts.1 good.0
          parts.2 parts.3

  -- what is told of a buffer behind a gate holds of all the bytes behind it
  pub breaks_shown : (gate : ℕ) (buffer behind all : List ℕ) (place : ℕ) → buffer ≡ gate ∷ behind
      → buffer ≡ take (longest + 3) all → gate ≢ closed_gate → place < length behind
      → IsUnfinished is_record (take place behind) → (is_record (take (place + 1) behind) → ⊥)
      → (IsUnfinished is_record (take (place + 1) behind) → ⊥)
      → IsDamagedBehind is_record longest (place + 1) all
  breaks_shown gate buffer behind [] place is_buffer shown is_open within before no_record
      no_begin = absurd
      (omega (arith, ap length (sym is_buffer ∙ shown), length-take {A = ℕ} (longest + 3) []))
  breaks_shown gate buffer behind (g ∷ bytes) place is_buffer shown is_open within before no_record
      no_begin =
      let next : longest + 3 ≡ suc (longest + 2) = omega arith in
      let same : gate ∷ behind ≡ g ∷ take (longest + 2) bytes = sym is_buffer ∙ shown
      ∙ ap (λ (k : ℕ). take k (g ∷ bytes)) next in
      let gates : gate ≡ g = cc in
      let begin : behind ≡ take (longest + 2) bytes = cc in
      let inside : place + 1 ≤ longest + 2 =
      omega (arith, within, ap length begin, length-take (longest + 2) bytes) in
      let far : place < length bytes =
      omega (arith, within, ap length begin, length-take (longest + 2) bytes) in
      let less : place ≤ longest + 2 = omega arith in
      let to_place : take place behind ≡ take place bytes = ap (λ (l : List ℕ). take place l) begin
      ∙ take-take place (longest + 2) bytes less in
      let to_next : take (place + 1) behind ≡ take (place + 1) bytes =
      ap (λ (l : List ℕ). take (place + 1) l) begin
      ∙ take-take (place + 1) (longest + 2) bytes inside in
      breaks g bytes (g ∷ bytes) place refl (λ closed. is_open (gates ∙ closed)) far
      (subst (IsUnfinished is_record) to_place before)
      (λ is. no_record (subst is_record (sym to_next) is))
      (λ is. no_begin (subst (IsUnfinished is_record) (sym to_next) is))

  pub record_fits : (n : ℕ) (all : List ℕ) → IsAtRecord is_record longest n all → n + 1 ≤ length all
  record_fits n all at = omega (arith, at.size, ap length at.split, length-append at.first at.rest)

  pub record_there : (n : ℕ) (all : List ℕ) → IsAtRecord is_record longest n all
      → is_record (take n (drop 1 all))
  record_there n all at =
      subst is_record
      (sym (ap (λ (l : List ℕ). take n (drop 1 l)) at.split ∙ take_at at.first at.rest n
      (sym at.size))) at.is_one

-- the first byte and those behind it
pub first_and_rest : (bytes : List ℕ) → 0 < length bytes → bytes ≡ get_or bytes 0 0 ∷ drop 1 bytes
first_and_rest [] some = absurd (omega arith)
first_and_rest (x ∷ bytes) some = refl
