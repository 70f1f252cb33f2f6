-- Hunting: what the windows of a block say of its elements, how blocks follow on each other, and
-- that the elements which a hunt hears are those whose pushes bring nothing.
use Rattle.std.proofs.Common.{◌≡◌, ℕ, suc, ◌+◌, ◌-◌, ◌<◌, ◌≤◌, min, List, [], ◌∷◌, ◌++◌, length}
use Rattle.std.proofs.Common.{take, drop, get_or, Bool, true, false, not, is_some, refl, sym, ap}
use Rattle.std.proofs.Common.{subst, subst₂, ◌∙◌, inl, inr, arith, Some, None, Option, append_assoc}
use Rattle.std.proofs.Common.{append-nil, length-take, length-drop, get_or-take, take-take}
use Rattle.std.proofs.lemmas.Bool.{cases_lt, cases_eq, both_ways, ne_eqb, eq-eqb}
use Rattle.std.proofs.lemmas.List.{take_more}
use Rattle.nx_sync.specs.declared.step.Role.{Role}
use Rattle.nx_sync.specs.declared.step.Role.TheVariants.{Dx, Rx}
use Rattle.nx_sync.specs.declared.step.Change.TheVariants.{Locked}
use Rattle.nx_sync.specs.declared.track.Track.{Track}
use Rattle.nx_sync.specs.Windows.{window_before_dx, window_before_rx, is_lock_window}
use Rattle.nx_sync.specs.private.Windows.{IsBeforeLock, role_after, window_after}
use Rattle.nx_sync.specs.Steps.{step, IsStep, HuntsThrough}
use Rattle.nx_sync.specs.Synchroniser.{Held, is_hunting, StandsAfter}
use Rattle.nx_sync.specs.private.Calls.{track_from, heard_one, heard_all, IsQuiet, EndsPattern}
use Rattle.nx_sync.specs.private.Calls.{Passes, Skips, SkipsSome, SkipsEarly}
use Rattle.nx_sync.proofs.lemmas.hunting.Patterns.{role_after-dx, role_after-rx, role_after-none}
use Rattle.nx_sync.proofs.lemmas.states.Hearing.{window_after-one, same_parts, heard_all-none, heard_all-append}
use Rattle.nx_sync.proofs.lemmas.states.Hearing.{heard_all-add, heard_all-more}
use Rattle.nx_sync.proofs.lemmas.states.Pushes.{IsGood, push_hunting}

-- the role after a window, by whether it is a pattern
pub quiet_window : (window : ℕ) → is_lock_window window ≡ false → role_after window ≡ None
quiet_window window h = elim (cases_eq window window_before_dx) [
  | inl d ↦ let e = eq-eqb window window_before_dx d in absurd (both_ways _ h (rw e refl))
  | inr nd ↦ elim (cases_eq window window_before_rx) [
    | inl r ↦ let e = ne_eqb window window_before_dx nd in let f =
        eq-eqb window window_before_rx r in absurd (both_ways _ h (rw (e, f) refl))
    | inr nr ↦ role_after-none window nd nr
  ]
]

pub lock_role : (window : ℕ) → is_lock_window window ≡ true
    → (role : Role) × (role_after window ≡ Some role)
lock_role window h = elim (cases_eq window window_before_dx) [
  | inl d ↦ (Dx, role_after-dx window d)
  | inr nd ↦ elim (cases_eq window window_before_rx) [
    | inl r ↦ (Rx, role_after-rx window r)
    | inr nr ↦ absurd (both_ways _
        (rw (ne_eqb window window_before_dx nd, ne_eqb window window_before_rx nr) refl) h)
  ]
]

-- how many of the first n windows come before the first pattern
pub record Counted (windows : List ℕ) (n count : ℕ) : Type 0 where
  pub within : count ≤ n
  pub clear : (k : ℕ) → k < count → is_lock_window (get_or windows k 0) ≡ false
  pub here : count < n → is_lock_window (get_or windows count 0) ≡ true

pub counted_by : (windows : List ℕ) (n count : ℕ) → n ≤ length windows
    → IsBeforeLock (take n windows) count → Counted windows n count
counted_by windows n count room b =
    let l : length (take n windows) ≡ n = simp length-take (omega arith) in
    let within : count ≤ n = omega (arith, b.within) in
    record {
      within = within;
      clear = λ k h. ap is_lock_window (sym (get_or-take n windows k 0 (omega arith)))
          ∙ b.clear k h;
      here = λ h. ap is_lock_window (sym (get_or-take n windows count 0 h)) ∙ b.here (omega arith);
    }

-- the elements of a block, by its windows
pub skips_by_windows : (held : Held) (block : List Bool) (windows : List ℕ) (count : ℕ) (new : Held)
    → 27 ≤ held.seen
    → ((k : ℕ) → k < length block
    → get_or windows k 0 ≡ window_after held.recent (take (k + 1) block))
    → Counted windows (length block) count
    → new ≡ heard_all held (take count block)
    → Skips held block count new
skips_by_windows held block windows count new late values n e =
    let within = n.within in
    record {
      within = within;
      held = e;
      quiet = λ k h. inr (quiet_window (window_after held.recent (take (k + 1) block))
          (ap is_lock_window (sym (values k (omega arith))) ∙ n.clear k h));
      stops = λ h.
          let l : length (take (count + 1) block) ≡ count + 1 = simp length-take (omega arith) in
          let role = lock_role (window_after held.recent (take (count + 1) block))
          (ap is_lock_window (sym (values count h)) ∙ n.here h) in
          record { enough = omega (arith, l); role = role.0; here = role.1 };
    }

-- what is held at an element of a later part, by the whole list
module _ (old : Held) (bits : List Bool) (at n : ℕ) where
  later : (j : ℕ) → j ≤ n → heard_all (heard_all old (take at bits))
      (take j (take n (drop at bits))) ≡ heard_all old (take (at + j) bits)
  later j h = ap (heard_all (heard_all old (take at bits))) (take-take j n (drop at bits) h)
      ∙ heard_all-add old bits at j

  -- a part that follows on elements that were heard
  pub passes_on : (m : ℕ) (mid new : Held) → Passes old bits at mid
      → Passes mid (take n (drop at bits)) m new → at + n ≤ length bits
      → Passes old bits (at + m) new
  passes_on m mid new before s room =
      let l : length (take n (drop at bits)) ≡ n = simp (length-take, length-drop) (omega arith) in
      let within = s.within in
      let moved : (j : ℕ) → j ≤ n → heard_all mid (take j (take n (drop at bits)))
      ≡ heard_all old (take (at + j) bits) =
      λ j h. ap (λ held. heard_all held (take j (take n (drop at bits)))) before.held
      ∙ later j h in
      record {
        within = omega (arith, l);
        held = s.held ∙ moved m (omega (arith, l));
        quiet = λ k h. elim (cases_lt k at) [
          | inl early ↦ before.quiet k early
          | inr late ↦
              let i : at + (k - at + 1) ≡ k + 1 = omega arith in
              subst IsQuiet (moved (k - at + 1) (omega (arith, l))
              ∙ ap (λ i. heard_all old (take i bits)) i) (s.quiet (k - at) (omega arith))
        ];
      }

  pub part_stops : (m : ℕ) (mid new : Held) → mid ≡ heard_all old (take at bits)
      → Skips mid (take n (drop at bits)) m new → m < n → at + n ≤ length bits
      → EndsPattern (heard_all old (take (at + m + 1) bits))
  part_stops m mid new e s short room =
      let l : length (take n (drop at bits)) ≡ n = simp (length-take, length-drop) (omega arith) in
      let i : at + (m + 1) ≡ at + m + 1 = omega arith in
      let f = ap (λ h. heard_all h (take (m + 1) (take n (drop at bits)))) e
      ∙ (later (m + 1) (omega arith) ∙ ap (λ i. heard_all old (take i bits)) i) in
      subst EndsPattern f (s.stops (omega arith))

  pub stops_on : (m : ℕ) (mid new : Held) → Passes old bits at mid
      → SkipsSome mid (take n (drop at bits)) m new → m ≡ 0 → 0 < n → at + n ≤ length bits
      → Skips old bits at new
  stops_on m mid new before s none some room =
      let here : at + m ≡ at = omega arith in
      let p : Passes old bits at new = subst (λ k. Passes old bits k new) here
      (passes_on m mid new before s.passes room) in
      record {
        within = p.within;
        held = p.held;
        quiet = p.quiet;
        stops = λ h. subst EndsPattern
            (ap (λ held. heard_all held (take 1 (take n (drop at bits)))) before.held
            ∙ later 1 (omega arith)) (s.stops none);
      }

-- nothing heard
pub passes_none : (old : Held) (bits : List Bool) → old.seen ≤ 28 → Passes old bits 0 old
passes_none old bits seen = record {
  within = omega arith;
  held = sym (heard_all-none old seen);
  quiet = λ k h. absurd (omega arith);
}

pub passes_of : (old : Held) (bits : List Bool) (n : ℕ) (new : Held) → Skips old bits n new
    → Passes old bits n new
passes_of old bits n new s = record { within = s.within; held = s.held; quiet = s.quiet }

pub skips_of : (old : Held) (bits : List Bool) (n : ℕ) (new : Held) → Passes old bits n new
    → (n < length bits → EndsPattern (heard_all old (take (n + 1) bits))) → Skips old bits n new
skips_of old bits n new s stops = record {
  within = s.within;
  held = s.held;
  quiet = s.quiet;
  stops = stops;
}

-- elements that come too early to be the last of 28
pub passes_early : (old : Held) (bits : List Bool) (n : ℕ) (new : Held) → SkipsEarly old bits n new
    → Passes old bits n new
passes_early old bits n new s = record {
  within = s.within;
  held = s.held;
  quiet = λ k h.
      let l : length (take (k + 1) bits) ≤ k + 1 = simp length-take (omega arith) in
      inl (omega (arith, s.early (omega arith), l));
}

-- where the next one is not too early
pub late_after : (old : Held) (bits : List Bool) (n : ℕ) (new : Held) → Passes old bits n new
    → 27 ≤ old.seen + n → 27 ≤ new.seen
late_after old bits n new s late =
    let l : length (take n bits) ≡ n = simp length-take (omega (arith, s.within)) in
    omega (arith, ap (λ h. h.seen) s.held, l)

-- the first elements of more
passes_first : (old : Held) (bits : List Bool) (few n : ℕ) (new : Held) → few ≤ length bits
    → Passes old (take few bits) n new → Passes old bits n new
passes_first old bits few n new room s =
    let l : length (take few bits) ≡ few = simp length-take (omega arith) in
    let within = s.within in
    record {
      within = omega (arith, l);
      held = s.held ∙ ap (heard_all old) (take-take n few bits (omega (arith, l)));
      quiet = λ k h. subst (λ xs. IsQuiet (heard_all old xs))
          (take-take (k + 1) few bits (omega (arith, l))) (s.quiet k h);
    }

pub some_of_passes : (old : Held) (bits : List Bool) (few n : ℕ) (new : Held) → 0 < n
    → few ≤ length bits → Passes old (take few bits) n new → SkipsSome old bits n new
some_of_passes old bits few n new some room s = record {
  passes = passes_first old bits few n new room s;
  stops = λ none. absurd (omega arith);
}

pub some_of_first : (old : Held) (bits : List Bool) (few n : ℕ) (new : Held) → 0 < few
    → few ≤ length bits → Skips old (take few bits) n new → SkipsSome old bits n new
some_of_first old bits few n new some room s =
    let l : length (take few bits) ≡ few = simp length-take (omega arith) in
    record {
      passes = passes_first old bits few n new room (passes_of old (take few bits) n new s);
      stops = λ none.
          let i : n + 1 ≡ 1 = omega arith in
          subst (λ xs. EndsPattern (heard_all old xs))
          (ap (λ i. take i (take few bits)) i ∙ take-take 1 few bits (omega arith))
          (s.stops (omega (arith, l)));
    }

-- what is held where hunting goes on, and what was brought, for these elements that come after
-- others
record RunsOn (held : Held) (before bits : List Bool) : Type 0 where
  pub stands : StandsAfter (heard_all held bits) (before ++ bits)
  pub quiet : (k : ℕ) → k < length bits → IsStep (before ++ take (k + 1) bits) (step None None)

pub heard_all-one : (held : Held) (b : Bool) → heard_all held (b ∷ []) ≡ heard_one held b
heard_all-one held b = ap (λ w. record held { recent = w; seen = min (held.seen + 1) 28 })
    (window_after-one held.recent b)

-- one quiet element
quiet_push : (held : Held) (before : List Bool) (b : Bool) → StandsAfter held before
    → held.track ≡ None → IsQuiet (heard_one held b)
    → IsGood (heard_one held b) (before ++ b ∷ []) (step None None)
quiet_push held before b a none (inl early) =
    push_hunting held before b a (heard_one held b) (step None None) none (λ h. (refl, refl))
    (λ h. (refl, refl)) (λ role late h. absurd (omega arith))
quiet_push held before b a none (inr quiet) =
    push_hunting held before b a (heard_one held b) (step None None) none (λ h. (refl, refl))
    (λ h. (refl, refl)) (λ role late h. let e : Some role ≡ None = sym h ∙ quiet in cc)

-- an element and then more
heard_all-front : (held : Held) (b : Bool) (bits : List Bool)
    → heard_all (heard_one held b) bits ≡ heard_all held (b ∷ bits)
heard_all-front held b bits =
    ap (λ h. heard_all h bits) (sym (heard_all-one held b)) ∙ heard_all-append held (b ∷ []) bits

-- many quiet elements
runs_on : (bits : List Bool) (held : Held) (before : List Bool) → StandsAfter held before
    → held.track ≡ None
    → ((k : ℕ) → k < length bits → IsQuiet (heard_all held (take (k + 1) bits)))
    → RunsOn held before bits
runs_on [] held before a none quiet =
    let seen : held.seen ≤ 28 = omega (arith, a.seen) in
    record {
      stands = subst₂ StandsAfter (sym (heard_all-none held seen)) (sym (append-nil before)) a;
      quiet = λ k h. absurd (omega arith);
    }
runs_on (b ∷ bits) held before a none quiet =
    let one = quiet_push held before b a none
    (subst IsQuiet (heard_all-one held b) (quiet 0 (omega arith))) in
    let next : (k : ℕ) → k + 1 + 1 ≡ suc (k + 1) = λ k. omega arith in
    let rest = runs_on bits (heard_one held b) (before ++ b ∷ []) one.stands none
    (λ k h. subst IsQuiet (ap (λ i. heard_all held (take i (b ∷ bits))) (next k)
    ∙ sym (heard_all-front held b (take (k + 1) bits))) (quiet (k + 1) (omega arith))) in
    record {
      stands = subst₂ StandsAfter (heard_all-front held b bits) (append_assoc before (b ∷ []) bits)
          rest.stands;
      quiet = λ k h. elim (cases_lt 0 k) [
        | inr first ↦ let z : 0 ≡ k = omega arith in
            subst (λ k. IsStep (before ++ take (k + 1) (b ∷ bits)) (step None None)) z one.step
        | inl after ↦
            let j : ℕ = k - 1 in
            let i : suc (j + 1) ≡ k + 1 = omega arith in
            subst (λ xs. IsStep xs (step None None))
            (append_assoc before (b ∷ []) (take (j + 1) bits)
            ∙ ap (λ i. before ++ take i (b ∷ bits)) i) (rest.quiet j (omega arith))
      ];
    }

-- an element that ends a pattern
locking_push : (held : Held) (before : List Bool) (b : Bool) → StandsAfter held before
    → held.track ≡ None → EndsPattern (heard_one held b)
    → IsStep (before ++ b ∷ []) (step None (Some Locked))
locking_push held before b a none ends =
    let enough = ends.enough in
    (push_hunting held before b a
    (record (heard_one held b) { track = Some (track_from ends.role); wrong = [] })
    (step None (Some Locked)) none
    (λ h. absurd (omega arith))
    (λ h. let e : Some ends.role ≡ None = sym ends.here ∙ h in cc)
    (λ role late h.
    let e : Some ends.role ≡ Some role = sym ends.here ∙ h in
    let same : ends.role ≡ role = cc in (
      ap (λ role. record (heard_one held b) { track = Some (track_from role); wrong = [] }) same,
      refl,
    ))).step

-- so what a hunt heard is what its pushes say
module _ (old new : Held) (before bits : List Bool) (n : ℕ) (a : StandsAfter old before)
    (none : old.track ≡ None) (s : Skips old bits n new) where
  length-heard : length (take n bits) ≡ n
  length-heard = simp length-take (omega (arith, s.within))

  heard_on : RunsOn old before (take n bits)
  heard_on = runs_on (take n bits) old before a none
      (λ k h. subst (λ xs. IsQuiet (heard_all old xs))
      (sym (take-take (k + 1) n bits (omega (arith, length-heard))))
      (s.quiet k (omega (arith, length-heard))))

  pub hunted_stands : StandsAfter new (before ++ take n bits)
  hunted_stands = subst (λ h. StandsAfter h (before ++ take n bits)) (sym s.held) heard_on.stands

  pub hunted_pushes : HuntsThrough before bits n
  hunted_pushes = record {
    within = s.within;
    quiet = λ k h. subst (λ xs. IsStep (before ++ xs) (step None None))
        (take-take (k + 1) n bits (omega arith)) (heard_on.quiet k (omega (arith, length-heard)));
    locks = λ h.
        let b : Bool = get_or bits n false in
        let ends = subst EndsPattern (sym (heard_all-more old bits n h)) (s.stops h) in
        let last = locking_push (heard_all old (take n bits)) (before ++ take n bits) b
        heard_on.stands none ends in
        subst (λ xs. IsStep xs (step None (Some Locked)))
        (append_assoc before (take n bits) (b ∷ [])
        ∙ ap (λ xs. before ++ xs) (sym (take_more bits n false h))) last;
  }

-- what is held after all elements of a block, by its last window
pub moved : (held : Held) (block : List Bool) (count window : ℕ) → 0 < count → count ≤ length block
    → 27 ≤ held.seen → window ≡ window_after held.recent (take count block)
    → record held { recent = window; seen = 28 } ≡ heard_all held (take count block)
moved held block count window some within late e =
    let l : length (take count block) ≡ count = simp length-take (omega arith) in
    same_parts held window (window_after held.recent (take count block)) 28
    (min (held.seen + length (take count block)) 28) e (omega (arith, l))

-- where hunting goes on, no word is filled
none_there : (track : Option Track) → not (is_some track) ≡ true → track ≡ None
none_there None h = refl
none_there (Some track) h = absurd (both_ways _ refl h)

pub no_track : (held : Held) → is_hunting held ≡ true → held.track ≡ None
no_track held h = none_there held.track h
