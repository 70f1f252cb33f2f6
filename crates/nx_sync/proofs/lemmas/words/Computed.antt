-- What a word of a lock would bring, by computation, and the rule of its release: they are the
-- same, both ways.
use Rattle.std.proofs.Common.{◌≡◌, ℕ, zero, suc, ◌+◌, ◌-◌, ◌*◌, ◌<◌, ◌≤◌, nat_le, List, length}
use Rattle.std.proofs.Common.{Bool, true, false, is_some, refl, sym, ap, subst, ◌∙◌, inl, inr}
use Rattle.std.proofs.Common.{arith, Some, None, Option, eqb-true, eq-eqb}
use Rattle.std.proofs.lemmas.Bool.{cases_lt, cases_order, cases_Bool, both_ways, and_parts}
use Rattle.std.proofs.lemmas.Bool.{and_from, le-leb, lt-leb, leb-true, leb-false}
use Rattle.std.proofs.lemmas.Bool.{false_from_ne_true}
use Rattle.nx_sync.specs.declared.step.Role.{Role}
use Rattle.nx_sync.specs.declared.step.Role.TheVariants.{Dx, Rx}
use Rattle.nx_sync.specs.declared.step.Change.{Change}
use Rattle.nx_sync.specs.declared.step.Change.TheVariants.{Locked, Ended, LostLock}
use Rattle.nx_code.specs.Table.{phasing_1}
use Rattle.nx_sync.specs.Words.{losing_count, is_dx, role_of, wrong_until, word_of_lock, first_role}
use Rattle.nx_sync.specs.private.Releases.{releases_as_ended, change_at, release}
use Rattle.nx_sync.specs.Locks.{IsSecondPhasing1, EndedAt, LostAt, IsEarlier, ended, lost}
use Rattle.nx_sync.specs.Locks.{IsReleased}
use Rattle.nx_sync.specs.Laws.{Holds}

-- the least number that passes a test, if one below n does
pub data Least (f : ℕ → Bool) (n : ℕ) : Type 0 where
  none : ((j : ℕ) → j < n → f j ≡ false) → Least f n
  some : (v : ℕ) → v < n → f v ≡ true → ((j : ℕ) → j < v → f j ≡ false) → Least f n

pub least_true : (f : ℕ → Bool) (n : ℕ) → Least f n
least_true f zero = none (λ j h. absurd (omega arith))
least_true f (suc n) = elim (least_true f n) [
  | some v h t before ↦ some v (omega arith) t before
  | none before ↦ elim (cases_Bool (f n)) [
    | inl t ↦ some n (omega arith) t before
    | inr e ↦ none (λ j h. elim (cases_lt j n) [
      | inl below ↦ before j below
      | inr at ↦ let same : j ≡ n = omega arith in ap f same ∙ e
    ])
  ]
]

pub is_dx-role : (role : Role) → is_dx role ≡ true → role ≡ Dx
is_dx-role Dx h = refl
is_dx-role Rx h = absurd (cc)

module _ (first : Role) (words : ℕ → ℕ) where
  -- the test for the end is the definition's
  pub IsSecondPhasing1-from : (k : ℕ) → releases_as_ended first words k ≡ true
      → (5 ≤ k) × IsSecondPhasing1 first words (k - 3)
  unfolding releases_as_ended
  IsSecondPhasing1-from k h =
      let p = and_parts _ _ h in
      let q = and_parts _ _ p.0 in
      let r = and_parts _ _ q.0 in
      let five : 5 ≤ k = leb-true 5 k r.0 in
      let e : k - 3 - 2 ≡ k - 5 = omega arith in (
        five,
        record {
          two = omega arith;
          dx = is_dx-role (role_of first (k - 3)) r.1;
          this = eqb-true _ phasing_1 q.1;
          before = ap words e ∙ eqb-true _ phasing_1 p.1;
        },
      )

  pub IsSecondPhasing1-to : (k : ℕ) → 3 ≤ k → IsSecondPhasing1 first words (k - 3)
      → releases_as_ended first words k ≡ true
  unfolding releases_as_ended
  IsSecondPhasing1-to k late h =
      let e : k - 5 ≡ k - 3 - 2 = omega arith in
      and_from _ _ (and_from _ _ (and_from _ _ (le-leb 5 k (omega (arith, h.two))) (ap is_dx h.dx))
      (eq-eqb _ phasing_1 h.this)) (eq-eqb _ phasing_1 (ap words e ∙ h.before))

  is_lost : ℕ → Bool
  is_lost k = nat_le losing_count (wrong_until words k)

  -- what a word brings, by the two tests
  pub change-ended : (k : ℕ) → releases_as_ended first words k ≡ true
      → change_at first words k ≡ Some Ended
  unfolding change_at
  change-ended k h = rw h refl

  pub change-lost : (k : ℕ) → releases_as_ended first words k ≡ false
      → losing_count ≤ wrong_until words k → change_at first words k ≡ Some LostLock
  unfolding change_at
  change-lost k h l = rw (h, le-leb losing_count (wrong_until words k) l) refl

  pub change-none : (k : ℕ) → releases_as_ended first words k ≡ false
      → wrong_until words k < losing_count → change_at first words k ≡ None
  unfolding change_at
  change-none k h l = rw (h, lt-leb losing_count (wrong_until words k) l) refl

  -- and back
  pub data ByTests (k : ℕ) : Option Change → Type 0 where
    by_end : releases_as_ended first words k ≡ true → ByTests k (Some Ended)
    by_loss : releases_as_ended first words k ≡ false → losing_count ≤ wrong_until words k
        → ByTests k (Some LostLock)
    by_none : releases_as_ended first words k ≡ false → wrong_until words k < losing_count
        → ByTests k None

  pub by_tests : (k : ℕ) → ByTests k (change_at first words k)
  by_tests k = elim (cases_Bool (releases_as_ended first words k)) [
    | inl e ↦ subst (ByTests k) (sym (change-ended k e)) (by_end e)
    | inr n ↦ elim (cases_lt (wrong_until words k) losing_count) [
      | inl few ↦ subst (ByTests k) (sym (change-none k n few)) (by_none n few)
      | inr many ↦ subst (ByTests k) (sym (change-lost k n many)) (by_loss n many)
    ]
  ]

  pub at_none : (k : ℕ) → change_at first words k ≡ None
      → (releases_as_ended first words k ≡ false) × (wrong_until words k < losing_count)
  at_none k h = elim (subst (ByTests k) h (by_tests k)) [ by_none e l ↦ (e, l) ]

  pub at_ended : (k : ℕ) → change_at first words k ≡ Some Ended
      → releases_as_ended first words k ≡ true
  at_ended k h = elim (subst (ByTests k) h (by_tests k)) [ by_end e ↦ e ]

  pub at_lost : (k : ℕ) → change_at first words k ≡ Some LostLock
      → (releases_as_ended first words k ≡ false) × (losing_count ≤ wrong_until words k)
  at_lost k h = elim (subst (ByTests k) h (by_tests k)) [ by_loss e l ↦ (e, l) ]

  -- the least word that brings a change is the earlier of the two words
  pub earlier-from : (w : ℕ) (how : Change) → change_at first words w ≡ Some how
      → ((j : ℕ) → j < w → change_at first words j ≡ None) → IsEarlier first words w how
  earlier-from w Locked h least = elim (subst (ByTests w) h (by_tests w)) [ ]
  earlier-from w Ended h least =
      let end = IsSecondPhasing1-from w (at_ended w h) in
      ended (record {
        late = omega (arith, end.0);
        here = end.1;
        least = λ k below at.
            let e : k + 3 - 3 ≡ k = omega arith in
            both_ways _ (at_none (k + 3) (least (k + 3) (omega arith))).0
            (IsSecondPhasing1-to (k + 3) (omega arith)
            (subst (IsSecondPhasing1 first words) (sym e) at));
      }) (λ v at. elim (cases_lt v w) [
        | inl before ↦ absurd (omega (arith, at.here, (at_none v (least v before)).1))
        | inr after ↦ after
      ])
  earlier-from w LostLock h least =
      let loss = at_lost w h in
      lost (record { here = loss.1; least = λ k below. (at_none k (least k below)).1 })
      (λ v at. elim (cases_lt w v) [
        | inl after ↦ after
        | inr before ↦ elim (cases_lt v w) [
          | inl below ↦ absurd (both_ways _ (at_none v (least v below)).0
              (IsSecondPhasing1-to v at.late at.here))
          | inr same ↦ let e : v ≡ w = omega arith in
              absurd (both_ways _ loss.0
              (subst (λ x. releases_as_ended first words x ≡ true) e
              (IsSecondPhasing1-to v at.late at.here)))
        ]
      ])

  -- below both words nothing happens
  no_loss_before : (w : ℕ) → ((v : ℕ) → LostAt words v → w ≤ v) → (j : ℕ) → j < w
      → wrong_until words j < losing_count
  unfolding is_lost
  no_loss_before w after j below = elim (least_true is_lost (j + 1)) [
    | none few ↦ leb-false losing_count (wrong_until words j) (few j (omega arith))
    | some v h t before ↦
        let at : LostAt words v =
        record {
          here = leb-true losing_count (wrong_until words v) t;
          least =
              λ k b. leb-false losing_count (wrong_until words k) (before k b);
        } in
        absurd (omega (arith, after v at))
  ]

  no_end_before : (w : ℕ) → ((v : ℕ) → EndedAt first words v → w ≤ v) → (j : ℕ) → j < w
      → releases_as_ended first words j ≡ false
  no_end_before w after j below = elim (least_true (releases_as_ended first words) (j + 1)) [
    | none few ↦ few j (omega arith)
    | some v h t before ↦
        let end = IsSecondPhasing1-from v t in
        let at : EndedAt first words v = record {
          late = omega (arith, end.0);
          here = end.1;
          least = λ k b at. let e : k + 3 - 3 ≡ k = omega arith in
              both_ways _ (before (k + 3) (omega arith))
              (IsSecondPhasing1-to (k + 3) (omega arith)
              (subst (IsSecondPhasing1 first words) (sym e) at));
        } in
        absurd (omega (arith, after v at))
  ]

  pub earlier-to : (w : ℕ) (how : Change) → IsEarlier first words w how
      → (change_at first words w ≡ Some how) × ((j : ℕ) → j < w → change_at first words j ≡ None)
  earlier-to w Locked h = elim h [ ]
  earlier-to w Ended (ended at after) = (
    change-ended w (IsSecondPhasing1-to w at.late at.here),
    λ j below. change-none j
        (false_from_ne_true _ (λ t. let end = IsSecondPhasing1-from j t in
        at.least (j - 3) (omega (arith, end.0)) end.1))
        (no_loss_before w after j below),
  )
  earlier-to w LostLock (lost at after) =
      let none : (j : ℕ) → j < w + 1 → releases_as_ended first words j ≡ false =
      no_end_before (w + 1) (λ v e. omega (arith, after v e)) in (
        change-lost w (none w (omega arith)) at.here,
        λ j below. change-none j (none j (omega arith)) (at.least j below),
      )

pub none_from : (change : Option Change) → is_some change ≡ false → change ≡ None
none_from None h = refl
none_from (Some how) h = absurd (both_ways _ h refl)

pub some_from : (change : Option Change) → is_some change ≡ true
    → (how : Change) × (change ≡ Some how)
some_from None h = absurd (both_ways _ refl h)
some_from (Some how) h = (how, refl)

module _ (bits : List Bool) (t : ℕ) where
  -- a release by the computed word: it is the least word that brings a change
  pub record Computed (w : ℕ) (how : Change) : Type 0 where
    pub heard : t + 7 * (w + 1) ≤ length bits
    pub here : release bits t w ≡ Some how
    pub least : (j : ℕ) → j < w → release bits t j ≡ None

  pub released-from : (w : ℕ) (how : Change) → IsReleased bits t w how → Computed w how
  released-from w how r =
      let both = earlier-to (first_role bits t) (word_of_lock bits t) w how r.earlier in
      record { heard = r.heard; here = both.0; least = both.1 }

  pub released-to : (w : ℕ) (how : Change) → t + 7 * (w + 1) ≤ length bits
      → release bits t w ≡ Some how
      → ((j : ℕ) → j < w → release bits t j ≡ None) → IsReleased bits t w how
  released-to w how heard here least = record {
    heard = heard;
    earlier = earlier-from (first_role bits t) (word_of_lock bits t) w how here least;
  }

  -- where a word brings a change, there is a least one, which releases the lock
  pub least_released : (k : ℕ) (how : Change) → t + 7 * (k + 1) ≤ length bits
      → release bits t k ≡ Some how
      → (w : ℕ) × (w ≤ k) × ((by : Change) × IsReleased bits t w by)
  least_released k how heard change = elim (least_true (λ j. is_some (release bits t j)) (k + 1)) [
    | none few ↦ absurd (both_ways _ (few k (omega arith)) (ap is_some change))
    | some w h here before ↦
        let by = some_from (release bits t w) here in (
          w,
          omega arith,
          (
            by.0,
            released-to w by.0 (omega arith) by.1
                (λ j below. none_from (release bits t j) (before j below)),
          ),
        )
  ]

  -- a lock holds where no word that was heard whole brings a change
  pub holds-from : Holds bits t → (k : ℕ) → t + 7 * (k + 1) ≤ length bits → release bits t k ≡ None
  holds-from held k heard = brings_none (release bits t k) refl
    where
      brings_none : (change : Option Change) → release bits t k ≡ change → release bits t k ≡ None
      brings_none None e = e
      brings_none (Some how) e =
          let least = least_released k how heard e in
          absurd (held least.0 least.2.0 least.2.1)

  pub holds-to : ((k : ℕ) → t + 7 * (k + 1) ≤ length bits → release bits t k ≡ None) → Holds bits t
  holds-to quiet w how r =
      let a : release bits t w ≡ None = quiet w r.heard in
      let b : release bits t w ≡ Some how = (released-from w how r).here in
      cc

  -- one word releases a lock, in one way
  pub released-word : (v w : ℕ) (how other : Change) → IsReleased bits t v how
      → IsReleased bits t w other → v ≡ w
  released-word v w how other r q =
      let x = released-from v how r in
      let y = released-from w other q in
      elim (cases_order v w) [
        | inl e ↦ e
        | inr (inl before) ↦ let a = x.here in let b = y.least v before in cc
        | inr (inr before) ↦ let a = y.here in let b = x.least w before in cc
      ]

  pub released-how : (v w : ℕ) (how other : Change) → IsReleased bits t v how
      → IsReleased bits t w other → how ≡ other
  released-how v w how other r q =
      let e = released-word v w how other r q in
      let a : release bits t v ≡ Some how = (released-from v how r).here in
      let b : release bits t w ≡ Some other = (released-from w other q).here in
      let c : release bits t v ≡ release bits t w = ap (release bits t) e in
      cc

  -- a lock holds where no word that was heard whole is the word of Ended or of Lost
  pub held-neither : Holds bits t → (w : ℕ) → t + 7 * (w + 1) ≤ length bits
      → (EndedAt (first_role bits t) (word_of_lock bits t) w → ⊥)
      × (LostAt (word_of_lock bits t) w → ⊥)
  held-neither held w heard =
      let quiet = at_none (first_role bits t) (word_of_lock bits t) w (holds-from held w heard) in (
        λ at. both_ways _ quiet.0
            (IsSecondPhasing1-to (first_role bits t) (word_of_lock bits t) w at.late at.here),
        λ at. omega (arith, at.here, quiet.1),
      )

  pub neither-held : ((w : ℕ) → t + 7 * (w + 1) ≤ length bits
      → (EndedAt (first_role bits t) (word_of_lock bits t) w → ⊥)
      × (LostAt (word_of_lock bits t) w → ⊥)) → Holds bits t
  neither-held quiet = λ w how r. by_kind w how r.heard r.earlier
    where
      by_kind : (w : ℕ) (how : Change) → t + 7 * (w + 1) ≤ length bits
          → IsEarlier (first_role bits t) (word_of_lock bits t) w how → ⊥
      by_kind w Locked heard e = elim e [ ]
      by_kind w Ended heard (ended at after) = (quiet w heard).0 at
      by_kind w LostLock heard (lost at after) = (quiet w heard).1 at
