-- Something stands after every list of bits, and how it goes on when more bits come.
use Rattle.std.proofs.Common.{◌≡◌, ℕ, ◌+◌, ◌-◌, ◌*◌, ◌/◌, ◌⊎◌, List, [], ◌∷◌, ◌++◌, length, Bool}
use Rattle.std.proofs.Common.{refl, sym, ap, subst, subst₂, ◌∙◌, inl, inr, arith, Some, None}
use Rattle.std.proofs.Common.{Option, append_assoc, append-nil}
use Rattle.std.proofs.lemmas.List.{length_push}
use Rattle.std.proofs.lemmas.Bool.{cases_lt, cases_eq}
use Rattle.nx_sync.specs.declared.step.Change.{Change}
use Rattle.nx_sync.specs.private.Releases.{release}
use Rattle.nx_sync.specs.Locks.{last_elements, IsPattern, Lock, Past, Now, hunting, locked, IsLocked}
use Rattle.nx_sync.specs.Locks.{IsNow}
use Rattle.nx_sync.specs.Laws.{WhatStands, Extends, same, newer, GoesOn, hunts_on, finds_one}
use Rattle.nx_sync.specs.Laws.{stands_still, found_and_past, is_past, Stood, OneMore, still_hunts}
use Rattle.nx_sync.specs.Laws.{now_finds, still_stands, now_over}
use Rattle.nx_sync.proofs.lemmas.hunting.Patterns.{dx, rx, neither, which, length-last_elements}
use Rattle.nx_sync.proofs.lemmas.states.UniqueStates.{locks-unique, now-unique}
use Rattle.nx_sync.proofs.lemmas.states.OneBit as one

-- whether a pattern ends at t
pattern_or_not : (bits : List Bool) (t : ℕ) → IsPattern bits t ⊎ (IsPattern bits t → ⊥)
pattern_or_not bits t = elim (cases_lt t 28) [
  | inl early ↦ inr (λ here. absurd (omega (arith, here.enough)))
  | inr enough ↦ elim (cases_lt (length bits) t) [
    | inl past ↦ inr (λ here. absurd (omega (arith, here.heard)))
    | inr heard ↦ elim (which (last_elements bits t) (length-last_elements bits t enough heard)) [
      | dx e _ ↦ inl (record { enough = enough; heard = heard; pattern = inl e })
      | rx e _ ↦ inl (record { enough = enough; heard = heard; pattern = inr e })
      | neither not _ ↦ inr (λ here.
          elim here.pattern [ inl d ↦ not.not_dx d | inr r ↦ not.not_rx r ])
    ]
  ]
]

-- whether the bit count n is the end of a word after t
word_or_not : (n t : ℕ) → ((k : ℕ) × (n ≡ t + 7 * (k + 1))) ⊎ ((k : ℕ) → n ≡ t + 7 * (k + 1) → ⊥)
word_or_not n t =
    let k : ℕ = (n - t) / 7 - 1 in
    elim (cases_eq n (t + 7 * (k + 1))) [
      | inl e ↦ inl (k, e)
      | inr ne ↦ inr (λ j h. ne (let d : (n - t) / 7 ≡ j + 1 = omega arith in omega arith))
    ]

-- what one bit more makes of what stood
record Onward (bits : List Bool) (locks : List Lock) (now : Now) : Type 0 where
  standing : WhatStands bits
  one : OneMore bits locks now standing.locks standing.now

onward_locked : (bits : List Bool) (b : Bool) (locks : List Lock) (p t k : ℕ)
    → IsLocked bits locks p t → length bits + 1 ≡ t + 7 * (k + 1) → (how : Option Change)
    → release (bits ++ b ∷ []) t k ≡ how → Onward (bits ++ b ∷ []) locks (locked p t)
onward_locked bits b locks p t k now e (Some how) h =
    let lock : Lock = record { from = p; at = t; last = k; how = how } in
    record {
      standing = record {
        locks = lock ∷ locks;
        now = hunting (length bits + 1);
        stands = one.ends_now bits b locks p t k how now e h;
      };
      one = now_over lock refl refl (length_push bits b);
    }
onward_locked bits b locks p t k now e None h = record {
  standing = record {
    locks = locks;
    now = locked p t;
    stands = one.stands_on bits b locks p t now
        (λ j f. let d : j ≡ k = omega arith in ap (release (bits ++ b ∷ []) t) d ∙ h);
  };
  one = still_stands;
}

onward : (bits : List Bool) (b : Bool) (locks : List Lock) (now : Now) → IsNow bits locks now
    → Onward (bits ++ b ∷ []) locks now
onward bits b locks (hunting p) n = elim (pattern_or_not (bits ++ b ∷ []) (length bits + 1)) [
  | inl here ↦ record {
    standing = record {
      locks = locks;
      now = locked p (length bits + 1);
      stands =
          one.locks_now bits b locks p n here;
    };
    one = now_finds (length_push bits b);
  }
  | inr absent ↦ record {
    standing = record {
      locks = locks;
      now = hunting p;
      stands =
          one.hunts_on bits b locks p n absent;
    };
    one = still_hunts;
  }
]
onward bits b locks (locked p t) n = elim (word_or_not (length bits + 1) t) [
  | inl w ↦ onward_locked bits b locks p t w.0 n w.1 (release (bits ++ b ∷ []) t w.0) refl
  | inr none ↦ record {
    standing = record {
      locks = locks;
      now = locked p t;
      stands =
          one.stands_on bits b locks p t n (λ k e. absurd (none k e));
    };
    one = still_stands;
  }
]

-- what one more bit makes of what stood, for whatever stands after it
pub one_more : (bits : List Bool) (b : Bool) (ls ks : List Lock) (m n : Now) → IsNow bits ls m
    → IsNow (bits ++ b ∷ []) ks n → OneMore (bits ++ b ∷ []) ls m ks n
one_more bits b ls ks m n a c =
    let way = onward bits b ls m a in
    let locks = locks-unique (bits ++ b ∷ []) way.standing.locks ks way.standing.now n
    way.standing.stands c in
    let now = now-unique (bits ++ b ∷ []) way.standing.locks ks way.standing.now n
    way.standing.stands c in
    subst₂ (λ ks n. OneMore (bits ++ b ∷ []) ls m ks n) locks now way.one

pub GoesOn-one : (bits : List Bool) {ls ks : List Lock} {m n : Now} → OneMore bits ls m ks n
    → GoesOn ls m ks n
GoesOn-one bits still_hunts = hunts_on
GoesOn-one bits (now_finds e) = finds_one
GoesOn-one bits still_stands = stands_still
GoesOn-one bits (now_over lock e f g) = is_past lock e f same

-- what stood goes on to what stands after these bits
record From (locks : List Lock) (now : Now) (bits : List Bool) : Type 0 where
  standing : WhatStands bits
  goes : GoesOn locks now standing.locks standing.now

pub Extends-trans : {a b c : List Lock} → Extends a b → Extends b c → Extends a c
Extends-trans same f = f
Extends-trans (newer e) f = newer (Extends-trans e f)

-- past locks stay past
pub GoesOn-extends : {ls ks : List Lock} {m n : Now} → GoesOn ls m ks n → Extends ks ls
GoesOn-extends hunts_on = same
GoesOn-extends finds_one = same
GoesOn-extends stands_still = same
GoesOn-extends (found_and_past lock e f) = Extends-trans f (newer same)
GoesOn-extends (is_past lock e h f) = Extends-trans f (newer same)

pub GoesOn-trans : {ls ks js : List Lock} {l m n : Now} → GoesOn ls l ks m → GoesOn ks m js n
    → GoesOn ls l js n
GoesOn-trans hunts_on g = g
GoesOn-trans stands_still g = g
GoesOn-trans finds_one stands_still = finds_one
GoesOn-trans finds_one (is_past lock e h f) = found_and_past lock e f
GoesOn-trans (found_and_past lock e f) g =
    found_and_past lock e (Extends-trans (GoesOn-extends g) f)
GoesOn-trans (is_past lock e h f) g = is_past lock e h (Extends-trans (GoesOn-extends g) f)

pub GoesOn-same : (ls : List Lock) (n : Now) → GoesOn ls n ls n
GoesOn-same ls (hunting p) = hunts_on
GoesOn-same ls (locked p t) = stands_still

-- any more bits
more_bits : (more bits : List Bool) (locks : List Lock) (now : Now) → IsNow bits locks now
    → From locks now (bits ++ more)
more_bits [] bits locks now n =
    subst (From locks now) (sym (append-nil bits)) (record {
      standing = record { locks = locks; now = now; stands = n };
      goes = GoesOn-same locks now;
    })
more_bits (b ∷ more) bits locks now n =
    let step = onward bits b locks now n in
    let rest = more_bits more (bits ++ b ∷ []) step.standing.locks step.standing.now
    step.standing.stands in
    subst (From locks now) (append_assoc bits (b ∷ []) more) (record {
      standing = rest.standing;
      goes = GoesOn-trans (GoesOn-one (bits ++ b ∷ []) step.one) rest.goes;
    })

-- hunting stands at the beginning
pub first_hunt : IsNow [] [] (hunting 0)
unfolding Past
first_hunt = record {
  past = refl;
  none = λ s after here. absurd (omega (arith, here.enough, here.heard));
}

-- something stands after every list of bits
pub standing_after : (bits : List Bool) → WhatStands bits
standing_after bits = (more_bits bits [] [] (hunting 0) first_hunt).standing

-- what stands after more bits goes on from what stood
pub goes-on : (bits more : List Bool) (ls ks : List Lock) (m n : Now) → IsNow bits ls m
    → IsNow (bits ++ more) ks n → GoesOn ls m ks n
goes-on bits more ls ks m n a b =
    let way = more_bits more bits ls m a in
    let locks = locks-unique (bits ++ more) way.standing.locks ks way.standing.now n
    way.standing.stands b in
    let now = now-unique (bits ++ more) way.standing.locks ks way.standing.now n way.standing.stands
    b in
    subst₂ (λ ks n. GoesOn ls m ks n) locks now way.goes

-- what stood after the first of these bits
pub stood_before : (bits more : List Bool) (locks : List Lock) (now : Now)
    → IsNow (bits ++ more) locks now → Stood bits locks now
stood_before bits more locks now n =
    let a = standing_after bits in
    record {
      older = a.locks;
      was = a.now;
      stood = a.stands;
      goes_on = goes-on bits more a.locks locks a.now now a.stands n;
    }
