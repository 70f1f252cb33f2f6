-- Where a watch over a log that was shortened stops.
use Rattle.std.proofs.Common.{◌≡◌, inl, inr, ℕ, suc, ◌+◌, ◌-◌, ◌<◌, ◌≤◌, ◌&&◌, nat_le, nat_lt, max, Bool, true, false, not, cond, List, [], ◌∷◌}
use Rattle.std.proofs.Common.{◌++◌, length, Option, Some, None, get_or, take, refl, sym, ap, ap₂, ◌∙◌, subst, arith, append-nil, append_assoc}
use Rattle.std.specs.Prelude.{◌↔◌}
use Rattle.std.proofs.lemmas.Bool.{and_right, cases_lt, le-leb, lt-leb, true≢false}
use Rattle.std.proofs.lemmas.List.Elements.{All-cons, All-nil}
use Rattle.nx_envelope.specs.Moment.{last_moment}
use Rattle.nx_fec.specs.air_files.AirFile.{Line, accept_station, accept_subject, elements, moment}
use Rattle.nx_fec.specs.air_files.AirFile.{refuse_station, refuse_subject}
use Rattle.nx_memory.specs.Memory.{seconds_known}
use Rattle.nx_copies.specs.copies.Shares.{MarkedCopy}
use Rattle.nx_watch.specs.Acting.{acts, effects, ends_watch, goes_on, goes_on_behind, in_force, is_far_back}
use Rattle.nx_watch.specs.Acting.{moment_said, moments_behind, moments_said, went_far_back, with_start}
use Rattle.nx_watch.specs.AnyLines.{cut_line}
use Rattle.nx_watch.specs.LineRun.{StopsBehind}
use Rattle.nx_watch.specs.Watch.{HasRead, Stop, at_end, back, moments_at, starts_at, unread, unwritten}
use Rattle.nx_watch.specs.declared.lines.line_effects.StartMoments.{StartMoments}
use Rattle.nx_left_on.specs.Shortened.{HearsFrom, LeavesOutOld}
use Rattle.nx_left_on.proofs.lemmas.shortened.Acting.{AreLate, acts-same, first, force-same, in-range}
use Rattle.nx_left_on.proofs.lemmas.shortened.Acting.{late-head, said-first, second, starts-same, unsaid-first}
use Rattle.nx_left_on.proofs.lemmas.shortened.Printing.{newest-stays, no-later}
use Rattle.nx_left_on.proofs.lemmas.shortened.Starting.{moments-agree}

some-said : (n : ℕ) (moments : List ℕ) → n ∷ moments ≡ [] → ⊥
some-said n moments e = cc

-- ---- two starts that stop alike

-- of each beginning of these lines
pub record StopAlike (a b : StartMoments) (lines : List (Option Line)) : Type 0 where
  pub on : (before rest : List (Option Line)) → lines ≡ before ++ rest
      → goes_on b before ≡ goes_on a before
  pub ends : (before rest : List (Option Line)) (line : Option Line) → lines ≡ before ++ rest
      → ends_watch b.newest (moments_behind b before) line
      ≡ ends_watch a.newest (moments_behind a before) line
  pub force : (before rest : List (Option Line)) (line : Option Line) → lines ≡ before ++ rest
      → ends_watch a.newest (moments_behind a before) line ≡ true
      → in_force b.newest (moments_behind b before) ≡ in_force a.newest (moments_behind a before)

pub alike-itself : (a : StartMoments) (lines : List (Option Line)) → StopAlike a a lines
alike-itself a lines = record {
  on = λ before rest e. refl;
  ends = λ before rest line e. refl;
  force = λ before rest line e ends. refl;
}

pub alike-back : (a b : StartMoments) (lines : List (Option Line)) → StopAlike a b lines
    → StopAlike b a lines
alike-back a b lines h = record {
  on = λ before rest e. sym (h.on before rest e);
  ends = λ before rest line e. sym (h.ends before rest line e);
  force = λ before rest line e ends.
      sym (h.force before rest line e (sym (h.ends before rest line e) ∙ ends));
}

stops-too : (a b : StartMoments) (lines before : List (Option Line)) (bytes : List ℕ)
    (last : Line) → StopAlike a b lines → lines ≡ before ++ Some last ∷ []
    → StopsBehind a bytes before last → StopsBehind b bytes before last
stops-too a b lines before bytes last h e s = record {
  front = s.front;
  more = s.more;
  whole = s.whole;
  are = s.are;
  on = h.on before (Some last ∷ []) e ∙ s.on;
}

pub reads-too : (AtEnd : Type 0) (a b : StartMoments) (stop : Stop) (bytes : List ℕ)
    (lines : List (Option Line)) → StopAlike a b lines → HasRead AtEnd a stop bytes lines
    → HasRead AtEnd b stop bytes lines
reads-too AtEnd a b at_end bytes lines h r =
    (r.0, r.1, r.2, r.3, r.4, h.on r.1 (cut_line r.2) r.4 ∙ r.5)
reads-too AtEnd a b (back line last to) bytes lines h r =
    let rest = Some (moment to) ∷ [] in (
      r.0,
      r.1,
      stops-too a b lines r.0 bytes (moment to) h r.1 r.2,
      h.ends r.0 rest (Some (moment to)) r.1 ∙ r.3,
      r.4,
      r.5 ∙ sym (h.force r.0 rest (Some (moment to)) r.1 r.3),
    )
reads-too AtEnd a b unread bytes lines h r =
    (r.0, r.1, h.on lines [] (sym (append-nil lines)) ∙ r.2)
reads-too AtEnd a b unwritten bytes lines h r =
    (r.0, r.1, r.2, stops-too a b lines r.0 bytes r.1 h r.2 r.3)

-- ---- where the first moment comes behind all that is remembered

-- behind no moment nothing ends a watch
ends-none : (newest : ℕ) (line : Option Line) → ends_watch newest [] line ≡ false
ends-none newest None = refl
ends-none newest (Some (moment n)) =
    and_right (nat_le n last_moment && is_far_back newest [] n) (went_far_back newest []) refl
ends-none newest (Some (elements mark bits)) = refl
ends-none newest (Some (refuse_station mark letter)) = refl
ends-none newest (Some (accept_station mark letter)) = refl
ends-none newest (Some (refuse_subject mark letter)) = refl
ends-none newest (Some (accept_subject mark letter)) = refl

is-late : (floor n : ℕ) (moments : List ℕ) → floor ≤ n → AreLate floor (n ∷ moments)
is-late floor n moments late =
    All-cons (λ (n : ℕ). floor ≤ n) n [] late (All-nil (λ (n : ℕ). floor ≤ n))

module _ (now one other floor : ℕ) (less : other ≤ one) (below : one < floor) where
  abbrev ours : StartMoments
  ours = first now one other floor less below

  abbrev theirs : StartMoments
  theirs = second now one other floor less below

  went-one : (newest n : ℕ) → newest < n → went_far_back newest (n ∷ []) ≡ false
  went-one newest n lt = lt-leb (n + seconds_known) newest (omega arith)

  went-same : (n : ℕ) (moments : List ℕ) → floor ≤ n
      → went_far_back other (n ∷ moments) ≡ went_far_back one (n ∷ moments)
  went-same n [] late = went-one other n (omega arith) ∙ sym (went-one one n (omega arith))
  went-same n (m ∷ moments) late =
      let all = n ∷ m ∷ moments in
      let count : length all - 1 ≡ suc (length moments) = omega arith in
      let said = get_or all (length all - 1) 0 in
      let test : ℕ → List ℕ → Bool =
      λ newest front. nat_lt 0 (length all) && nat_le (said + seconds_known) (in_force newest front)
      in
      ap (λ (k : ℕ). test other (take k all)) count
      ∙ ap (λ (f : ℕ). nat_lt 0 (length all) && nat_le (said + seconds_known) f)
      (force-same now one other floor less below n (take (length moments) (m ∷ moments)) late)
      ∙ ap (λ (k : ℕ). test one (take k all)) (sym count)

  ends-same : (moments : List ℕ) (line : Option Line) → AreLate floor moments
      → ends_watch other moments line ≡ ends_watch one moments line
  ends-same [] line late = ends-none other line ∙ sym (ends-none one line)
  ends-same (n ∷ moments) None late = refl
  ends-same (n ∷ moments) (Some (moment m)) late =
      let here = late-head floor n moments late in
      ap₂ (λ (f : ℕ) b. nat_le m last_moment && nat_le (m + seconds_known) f && b)
      (force-same now one other floor less below n moments here) (went-same n moments here)
  ends-same (n ∷ moments) (Some (elements mark bits)) late = refl
  ends-same (n ∷ moments) (Some (refuse_station mark letter)) late = refl
  ends-same (n ∷ moments) (Some (accept_station mark letter)) late = refl
  ends-same (n ∷ moments) (Some (refuse_subject mark letter)) late = refl
  ends-same (n ∷ moments) (Some (accept_subject mark letter)) late = refl

  on-behind : (n : ℕ) (moments : List ℕ) (lines : List (Option Line)) → floor ≤ n
      → goes_on_behind other (n ∷ moments) lines ≡ goes_on_behind one (n ∷ moments) lines
  on-behind n moments [] late = refl
  on-behind n moments (line ∷ lines) late =
      ap₂ (λ b rest. not b && rest) (ends-same (n ∷ moments) line (is-late floor n moments late))
      (on-behind n (moments ++ moment_said line) lines late)

  -- one line in front, behind no moment
  on-first : (newest : ℕ) (line : Option Line) (lines : List (Option Line))
      → goes_on_behind newest [] (line ∷ lines) ≡ goes_on_behind newest (moment_said line) lines
  on-first newest line lines =
      ap (λ b. not b && goes_on_behind newest (moment_said line) lines) (ends-none newest line)

  -- where it says no moment in range
  on-silent : (line : Option Line) (lines : List (Option Line)) → moment_said line ≡ []
      → goes_on_behind other [] lines ≡ goes_on_behind one [] lines
      → goes_on_behind other [] (line ∷ lines) ≡ goes_on_behind one [] (line ∷ lines)
  on-silent line lines none rest =
      on-first other line lines ∙ ap (λ ms. goes_on_behind other ms lines) none ∙ rest
      ∙ ap (λ ms. goes_on_behind one ms lines) (sym none) ∙ sym (on-first one line lines)

  on-none : (lines : List (Option Line)) → AreLate floor (moments_said lines)
      → goes_on_behind other [] lines ≡ goes_on_behind one [] lines
  on-none [] late = refl
  on-none (None ∷ lines) late = on-silent None lines refl (on-none lines late)
  on-none (Some (moment n) ∷ lines) late =
      elim (nat_le n last_moment) as (λ b. nat_le n last_moment ≡ b
      → goes_on_behind other [] (Some (moment n) ∷ lines)
      ≡ goes_on_behind one [] (Some (moment n) ∷ lines)) [
        | true ↦ λ is.
            let said : moment_said (Some (moment n)) ≡ n ∷ [] = ap (λ b. cond b (n ∷ []) []) is in
            let here = late-head floor n (moments_said lines)
            (subst (AreLate floor) (said-first n lines (in-range n is)) late) in
            on-first other (Some (moment n)) lines
            ∙ ap (λ ms. goes_on_behind other ms lines) said
            ∙ on-behind n [] lines here
            ∙ ap (λ ms. goes_on_behind one ms lines) (sym said)
            ∙ sym (on-first one (Some (moment n)) lines)
        | false ↦ λ is.
            on-silent (Some (moment n)) lines (ap (λ b. cond b (n ∷ []) []) is)
            (on-none lines (subst (AreLate floor) (unsaid-first n lines is) late))
      ] refl
  on-none (Some (elements mark bits) ∷ lines) late =
      on-silent (Some (elements mark bits)) lines refl (on-none lines late)
  on-none (Some (refuse_station mark letter) ∷ lines) late =
      on-silent (Some (refuse_station mark letter)) lines refl (on-none lines late)
  on-none (Some (accept_station mark letter) ∷ lines) late =
      on-silent (Some (accept_station mark letter)) lines refl (on-none lines late)
  on-none (Some (refuse_subject mark letter) ∷ lines) late =
      on-silent (Some (refuse_subject mark letter)) lines refl (on-none lines late)
  on-none (Some (accept_subject mark letter) ∷ lines) late =
      on-silent (Some (accept_subject mark letter)) lines refl (on-none lines late)

  -- the moment that is set is in range
  module _ (high : max one now ≤ last_moment) where
    -- a beginning of lines whose first moment is late
    late-front : (before rest : List (Option Line))
        → AreLate floor (moments_behind ours (before ++ rest))
        → AreLate floor (moments_behind ours before)
    late-front [] rest late = All-nil (λ (n : ℕ). floor ≤ n)
    late-front (None ∷ before) rest late = late-front before rest late
    late-front (Some (moment n) ∷ before) rest late =
        elim (nat_le n last_moment) as (λ b. nat_le n last_moment ≡ b
        → AreLate floor (moments_said (Some (moment n)
        ∷ cond b (before ++ rest) (with_start ours (before ++ rest))))
        → AreLate floor
        (moments_said (Some (moment n) ∷ cond b before (with_start ours before)))) [
          | true ↦ λ is late.
              subst (AreLate floor) (sym (said-first n before (in-range n is)))
              (is-late floor n (moments_said before)
              (late-head floor n (moments_said (before ++ rest))
              (subst (AreLate floor) (said-first n (before ++ rest) (in-range n is)) late)))
          | false ↦ λ is late.
              subst (AreLate floor) (sym (unsaid-first n (with_start ours before) is))
              (late-front before rest
              (subst (AreLate floor) (unsaid-first n (with_start ours (before ++ rest)) is) late))
        ] refl late
    late-front (Some (elements mark bits) ∷ before) rest late =
        let n = max one now in
        let behind = Some (elements mark bits) ∷ before in
        let all = Some (elements mark bits) ∷ (before ++ rest) in
        subst (AreLate floor) (sym (said-first n behind high))
        (is-late floor n (moments_said behind)
        (late-head floor n (moments_said all) (subst (AreLate floor) (said-first n all high) late)))
    late-front (Some (refuse_station mark letter) ∷ before) rest late = late-front before rest late
    late-front (Some (accept_station mark letter) ∷ before) rest late = late-front before rest late
    late-front (Some (refuse_subject mark letter) ∷ before) rest late = late-front before rest late
    late-front (Some (accept_subject mark letter) ∷ before) rest late = late-front before rest late

    moments-same : (lines : List (Option Line)) → AreLate floor (moments_behind ours lines)
        → moments_behind theirs lines ≡ moments_behind ours lines
    moments-same lines late =
        ap moments_said (starts-same now one other floor less below high lines late)

    ends-too : (lines : List (Option Line)) (line : Option Line)
        → AreLate floor (moments_behind ours lines)
        → ends_watch other (moments_behind theirs lines) line
        ≡ ends_watch one (moments_behind ours lines) line
    ends-too lines line late =
        ap (λ ms. ends_watch other ms line) (moments-same lines late)
        ∙ ends-same (moments_behind ours lines) line late

    force-too : (moments : List ℕ) (line : Option Line) → AreLate floor moments
        → ends_watch one moments line ≡ true → in_force other moments ≡ in_force one moments
    force-too [] line late ends = absurd (true≢false (sym ends ∙ ends-none one line))
    force-too (n ∷ moments) line late ends =
        force-same now one other floor less below n moments (late-head floor n moments late)

    pub alike-late : (lines : List (Option Line)) → AreLate floor (moments_behind ours lines)
        → StopAlike ours theirs lines
    alike-late lines late =
        let front : (before rest : List (Option Line)) → lines ≡ before ++ rest
        → AreLate floor (moments_behind ours before) =
        λ before rest e. late-front before rest
        (subst (λ l. AreLate floor (moments_behind ours l)) e late) in
        record {
          on = λ before rest e.
              let so_far = front before rest e in
              ap (goes_on_behind other [])
              (starts-same now one other floor less below high before so_far)
              ∙ on-none (with_start ours before) so_far;
          ends = λ before rest line e. ends-too before line (front before rest e);
          force = λ before rest line e ends.
              let so_far = front before rest e in
              ap (in_force other) (moments-same before so_far)
              ∙ force-too (moments_behind ours before) line so_far ends;
        }

    -- behind lines that say no moment, the first one is said by those behind them
    none-before : (before rest : List (Option Line)) → moments_behind ours before ≡ []
        → moments_behind ours (before ++ rest) ≡ moments_behind ours rest
    none-before [] rest none = refl
    none-before (None ∷ before) rest none = none-before before rest none
    none-before (Some (moment n) ∷ before) rest none =
        elim (nat_le n last_moment) as (λ b. nat_le n last_moment ≡ b
        → moments_said (Some (moment n) ∷ cond b before (with_start ours before)) ≡ []
        → moments_said (Some (moment n)
        ∷ cond b (before ++ rest) (with_start ours (before ++ rest))) ≡ moments_behind ours rest) [
          | true ↦ λ is none.
              absurd (some-said n (moments_said before)
              (sym (said-first n before (in-range n is)) ∙ none))
          | false ↦ λ is none.
              unsaid-first n (with_start ours (before ++ rest)) is
              ∙ none-before before rest
              (sym (unsaid-first n (with_start ours before) is) ∙ none)
        ] refl none
    none-before (Some (elements mark bits) ∷ before) rest none =
        let behind = Some (elements mark bits) ∷ before in
        absurd (some-said (max one now) (moments_said behind)
        (sym (said-first (max one now) behind high) ∙ none))
    none-before (Some (refuse_station mark letter) ∷ before) rest none =
        none-before before rest none
    none-before (Some (accept_station mark letter) ∷ before) rest none =
        none-before before rest none
    none-before (Some (refuse_subject mark letter) ∷ before) rest none =
        none-before before rest none
    none-before (Some (accept_subject mark letter) ∷ before) rest none =
        none-before before rest none

    -- behind none a line acts on both or on neither
    acts-first : (line : Option Line) (rest : List (Option Line))
        → AreLate floor (moments_behind ours (line ∷ rest))
        → acts other [] line ≡ acts one [] line
    acts-first None rest late = refl
    acts-first (Some (moment n)) rest late =
        elim (nat_le n last_moment) as (λ b. nat_le n last_moment ≡ b
        → AreLate floor (moments_said (Some (moment n) ∷ cond b rest (with_start ours rest)))
        → (b && nat_le other n) ≡ (b && nat_le one n)) [
          | true ↦ λ is late.
              let here = late-head floor n (moments_said rest)
              (subst (AreLate floor) (said-first n rest (in-range n is)) late) in
              le-leb other n (omega arith) ∙ sym (le-leb one n (omega arith))
          | false ↦ λ is late. refl
        ] refl late
    acts-first (Some (elements mark bits)) rest late = refl
    acts-first (Some (refuse_station mark letter)) rest late = refl
    acts-first (Some (accept_station mark letter)) rest late = refl
    acts-first (Some (refuse_subject mark letter)) rest late = refl
    acts-first (Some (accept_subject mark letter)) rest late = refl

    acts-behind : (before rest : List (Option Line)) (line : Option Line) (moments : List ℕ)
        → moments_behind ours before ≡ moments
        → AreLate floor (moments_behind ours (before ++ line ∷ rest))
        → acts other moments line ≡ acts one moments line
    acts-behind before rest line [] is late =
        acts-first line rest (subst (AreLate floor) (none-before before (line ∷ rest) is) late)
    acts-behind before rest line (n ∷ moments) is late =
        let so_far = subst (AreLate floor) is (late-front before (line ∷ rest) late) in
        acts-same now one other floor less below n moments line (late-head floor n moments so_far)

    pub effects-same : (before lines : List (Option Line))
        → AreLate floor (moments_behind ours (before ++ lines))
        → effects theirs before lines ≡ effects ours before lines
    effects-same before [] late = refl
    effects-same before (line ∷ lines) late =
        let moments = moments_behind ours before in
        let next = before ++ line ∷ [] in
        ap₂ (λ b bs. b ∷ bs)
        (ap (λ ms. acts other ms line) (moments-same before (late-front before (line ∷ lines) late))
        ∙ acts-behind before lines line moments refl late)
        (effects-same next lines
        (subst (λ l. AreLate floor (moments_behind ours l))
        (sym (append_assoc before (line ∷ []) lines)) late))

-- ---- a watch over a shortened log

module _ (floor now : ℕ) (whole shorter : List MarkedCopy) (lines : List (Option Line))
    (left : LeavesOutOld floor whole shorter)
    (hears : HearsFrom floor (moments_at now (starts_at now whole)) lines) where
  abbrev at_whole : StartMoments
  at_whole = moments_at now (starts_at now whole)

  abbrev at_shorter : StartMoments
  at_shorter = moments_at now (starts_at now shorter)

  both : StopAlike at_whole at_shorter lines
  both = elim (cases_lt (starts_at now whole).moment floor) [
    | inl below ↦ of below hears
    | inr near ↦
        subst (λ (m : ℕ). StopAlike at_whole (record { newest = m; started = now }) lines)
        (sym (newest-stays floor now whole shorter lines left hears near))
        (alike-itself at_whole lines)
  ]
    where
      of : (starts_at now whole).moment < floor → HearsFrom floor at_whole lines
          → StopAlike at_whole at_shorter lines
      of below (inl near) = absurd (omega (arith, below, near))
      of below (inr late) =
          alike-late now (starts_at now whole).moment (starts_at now shorter).moment floor
          (no-later floor now whole shorter lines left hears
          (moments-agree floor now whole shorter left)) below late.0 lines late.1

  pub reads : (AtEnd : Type 0) (stop : Stop) (bytes : List ℕ)
      → HasRead AtEnd at_whole stop bytes lines ↔ HasRead AtEnd at_shorter stop bytes lines
  reads AtEnd stop bytes = (
    reads-too AtEnd at_whole at_shorter stop bytes lines both,
    reads-too AtEnd at_shorter at_whole stop bytes lines
        (alike-back at_whole at_shorter lines both),
  )

  pub tells : effects at_shorter [] lines ≡ effects at_whole [] lines
  tells = elim (cases_lt (starts_at now whole).moment floor) [
    | inl below ↦ of below hears
    | inr near ↦
        ap (λ (m : ℕ). effects (record { newest = m; started = now }) [] lines)
        (newest-stays floor now whole shorter lines left hears near)
  ]
    where
      of : (starts_at now whole).moment < floor → HearsFrom floor at_whole lines
          → effects at_shorter [] lines ≡ effects at_whole [] lines
      of below (inl near) = absurd (omega (arith, below, near))
      of below (inr late) =
          effects-same now (starts_at now whole).moment (starts_at now shorter).moment floor
          (no-later floor now whole shorter lines left hears
          (moments-agree floor now whole shorter left)) below late.0 [] lines late.1
