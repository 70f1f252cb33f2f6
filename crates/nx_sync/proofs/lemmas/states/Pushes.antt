-- What a synchroniser holds after one more bit is what stands then.
use Rattle.std.specs.Prelude.{◌↔◌, IsTrue}
use Rattle.std.proofs.Common.{◌≡◌, ℕ, suc, ◌+◌, ◌-◌, ◌*◌, ◌/◌, ◌^◌, ◌<◌, ◌≤◌, ◌==◌, min, ◌⊎◌, List}
use Rattle.std.proofs.Common.{[], ◌∷◌, ◌++◌, length, take, drop, replicate, Bool, true, false}
use Rattle.std.proofs.Common.{◌&&◌, is_some, refl, sym, ap, ap₂, subst, subst₂, ◌∙◌, inl, inr, arith}
use Rattle.std.proofs.Common.{Some, None, Option}
use Rattle.std.proofs.lemmas.List.{length_push}
use Rattle.std.proofs.lemmas.Bool.{cases_lt}
use Rattle.circular_buffer.specs.Buffer.{keep_last}
use Rattle.nx_code.specs.Word.{number_of, value_of, is_wrong}
use Rattle.nx_sync.specs.declared.step.Role.{Role}
use Rattle.nx_sync.specs.declared.step.Role.TheVariants.{Dx, Rx}
use Rattle.nx_sync.specs.declared.step.Change.{Change}
use Rattle.nx_sync.specs.declared.step.Change.TheVariants.{Locked}
use Rattle.nx_sync.specs.declared.step.Step.{Step}
use Rattle.nx_sync.specs.declared.track.Track.{Track}
use Rattle.nx_code.specs.Table.{phasing_1}
use Rattle.nx_sync.specs.Words.{marked_words, other_role, is_dx, word_of_lock, first_role, role_of}
use Rattle.nx_sync.specs.private.Releases.{release}
use Rattle.nx_sync.specs.Locks.{before_dx, before_rx, last_elements, IsPattern, Lock, Now, hunting}
use Rattle.nx_sync.specs.Locks.{locked, IsHunting, IsLocked, IsNow}
use Rattle.nx_sync.specs.Steps.{LockStands, step, found, word, inside, over, hunts, IsStep}
use Rattle.nx_sync.specs.Synchroniser.{Held, wrong_marks, p1_marks, Follows, Tracks, StandsAfter}
use Rattle.nx_sync.specs.private.Windows.{next_window, role_after}
use Rattle.nx_sync.specs.private.Calls.{heard_one, track_from, track_after, BeginsLock, Fills}
use Rattle.nx_sync.specs.private.Calls.{Completes}
use Rattle.nx_sync.proofs.lemmas.states.Lists.{padded-push, length-padded}
use Rattle.nx_sync.proofs.lemmas.hunting.Numbers.{number_of-next}
use Rattle.nx_sync.proofs.lemmas.states.KeptPast.{word_at-more, first_role-more, Past-within}
use Rattle.nx_sync.proofs.lemmas.states.OneBit.{hunts_on, locks_now, stands_on, ends_now}
use Rattle.nx_sync.proofs.lemmas.hunting.Patterns.{length-last_elements, IsNeither, Which, dx, rx, neither, which}
use Rattle.nx_sync.proofs.lemmas.hunting.Patterns.{first_role-dx, first_role-rx, window-heard, newest_word}
use Rattle.nx_sync.proofs.lemmas.words.Marks.{wrong_marks-same, p1_marks-same, p1_number-next, p1_number-none}
use Rattle.nx_sync.proofs.lemmas.words.Marks.{wrong_marks-next, change_of-change_at}
use Rattle.nx_sync.proofs.lemmas.states.UniqueStates.{now-unique}

-- whether a track is there says whether a lock stands
track_iff : (bits : List Bool) (locks : List Lock) (now : Now) (wrong : List Bool)
    (track : Option Track) → IsNow bits locks now → Tracks bits now wrong track
    → (is_some track ≡ true → LockStands bits) × (LockStands bits → is_some track ≡ true)
track_iff bits locks (hunting p) wrong track n t = (
  λ h. let e : is_some track ≡ false = ap is_some t in cc,
  λ l. let e : hunting p ≡ locked l.p l.t =
      now-unique bits locks l.locks (hunting p) (locked l.p l.t) n l.stands in cc,
)
track_iff bits locks (locked p t) wrong track n f =
    (λ h. record { locks = locks; p = p; t = t; stands = n }, λ l. ap is_some f.is)

-- an answer that says whether a track is there says whether a lock stands
pub locked_by : (s : Held) (answer : Bool) → answer ≡ is_some s.track → (bits : List Bool)
    → StandsAfter s bits → (IsTrue answer ↔ LockStands bits)
locked_by s answer e bits a =
    let lock = track_iff bits a.locks a.now s.wrong s.track a.stands a.tracks in
    (λ h. lock.0 (sym e ∙ h), λ l. e ∙ lock.1 l)

pub record IsGood (s : Held) (bits : List Bool) (r : Step) : Type 0 where
  pub stands : StandsAfter s bits
  pub step : IsStep bits r

good_at : (s x : Held) (bits : List Bool) (r y : Step) → s ≡ x → r ≡ y → IsGood x bits y
    → IsGood s bits r
good_at s x bits r y e h good = subst₂ (λ s r. IsGood s bits r) (sym e) (sym h) good

module _ (s : Held) (bits : List Bool) (b : Bool) (a : StandsAfter s bits) where
  pub recent_heard : (heard_one s b).recent
      ≡ number_of (keep_last 28 (replicate 28 false ++ (bits ++ b ∷ [])))
  recent_heard =
      let xs : List Bool = keep_last 28 (replicate 28 false ++ bits) in
      ap (λ n. next_window n b) a.recent
      ∙ (sym (number_of-next 27 xs b (length-padded 28 bits))
      ∙ ap number_of (padded-push 28 bits b (omega arith)))

  seen_heard : (heard_one s b).seen ≡ min 28 (length (bits ++ b ∷ []))
  seen_heard = omega (arith, a.seen, length_push bits b)

  -- hunting goes on
  hunts_still : (locks : List Lock) (p : ℕ) → s.track ≡ None → IsHunting (bits ++ b ∷ []) locks p
      → p ≤ length bits → IsGood (heard_one s b) (bits ++ b ∷ []) (step None None)
  hunts_still locks p none now within = record {
    stands = record {
      locks = locks;
      now = hunting p;
      stands = now;
      recent = recent_heard;
      seen = seen_heard;
      tracks = none;
    };
    step = record {
      locks = locks;
      now = hunting p;
      stands = now;
      brings = hunts (omega (arith, length_push bits b)) refl;
    };
  }

  -- a lock is found
  finds : (locks : List Lock) (p : ℕ) (role : Role)
      → IsLocked (bits ++ b ∷ []) locks p (length bits + 1)
      → first_role (bits ++ b ∷ []) (length bits + 1) ≡ role
      → IsGood (record (heard_one s b) { track = Some (track_from role); wrong = [] })
      (bits ++ b ∷ []) (step None (Some Locked))
  unfolding role_of wrong_marks
  finds locks p role now first = record {
    stands = record {
      locks = locks;
      now = locked p (length bits + 1);
      stands = now;
      recent = recent_heard;
      seen = seen_heard;
      tracks = record {
        one = track_from role;
        is = refl;
        follows = record {
          whole = 0;
          place = omega (arith, length_push bits b);
          short = omega arith;
          role = sym first;
          phasing = sym (p1_number-none (first_role (bits ++ b ∷ []) (length bits + 1))
              (word_of_lock (bits ++ b ∷ []) (length bits + 1)));
          marks = refl;
        };
      };
    };
    step = record {
      locks = locks;
      now = locked p (length bits + 1);
      stands = now;
      brings = found (length_push bits b) refl;
    };
  }

  -- no pattern ends with the bit where the last 28 bits are neither
  no_pattern : 28 ≤ length (bits ++ b ∷ [])
      → IsNeither (last_elements (bits ++ b ∷ []) (length (bits ++ b ∷ [])))
      → IsPattern (bits ++ b ∷ []) (length bits + 1) → ⊥
  no_pattern enough not here =
      let at : IsPattern (bits ++ b ∷ []) (length (bits ++ b ∷ [])) =
      subst (λ t. IsPattern (bits ++ b ∷ []) t) (sym (length_push bits b)) here in
      elim at.pattern [ inl d ↦ not.not_dx d | inr r ↦ not.not_rx r ]

  -- a pattern ends with the bit
  a_pattern : 28 ≤ length (bits ++ b ∷ [])
      → (last_elements (bits ++ b ∷ []) (length (bits ++ b ∷ [])) ≡ before_dx)
      ⊎ (last_elements (bits ++ b ∷ []) (length (bits ++ b ∷ [])) ≡ before_rx)
      → IsPattern (bits ++ b ∷ []) (length bits + 1)
  a_pattern enough pattern =
      subst (λ t. IsPattern (bits ++ b ∷ []) t) (length_push bits b)
      (record { enough = enough; heard = omega arith; pattern = pattern })

  -- a push while hunting, where 28 bits were heard
  hunts_at : (x : Held) (r : Step) (locks : List Lock) (p : ℕ) → s.track ≡ None
      → IsHunting bits locks p → p ≤ length bits → 28 ≤ length (bits ++ b ∷ [])
      → (role_after (heard_one s b).recent ≡ None → (x ≡ heard_one s b) × (r ≡ step None None))
      → ((role : Role) → 28 ≤ (heard_one s b).seen → role_after (heard_one s b).recent ≡ Some role
      → BeginsLock (heard_one s b) role x r)
      → Which (last_elements (bits ++ b ∷ []) (length (bits ++ b ∷ [])))
      → IsGood x (bits ++ b ∷ []) r
  hunts_at x r locks p none now within enough quiet finding (neither not e) =
      let window = recent_heard ∙ ap number_of (window-heard (bits ++ b ∷ []) enough) in
      let result = quiet (ap role_after window ∙ e) in
      good_at x (heard_one s b) (bits ++ b ∷ []) r (step None None) result.0 result.1
      (hunts_still locks p none (hunts_on bits b locks p now (no_pattern enough not)) within)
  hunts_at x r locks p none now within enough quiet finding (dx d e) =
      let window = recent_heard ∙ ap number_of (window-heard (bits ++ b ∷ []) enough) in
      let result = finding Dx (omega (arith, seen_heard)) (ap role_after window ∙ e) in
      let first = first_role-dx (bits ++ b ∷ []) (length (bits ++ b ∷ [])) enough (omega arith) d in
      let first' : first_role (bits ++ b ∷ []) (length bits + 1) ≡ Dx =
      subst (λ t. first_role (bits ++ b ∷ []) t ≡ Dx) (length_push bits b) first in
      good_at x (record (heard_one s b) { track = Some (track_from Dx); wrong = [] })
      (bits ++ b ∷ []) r (step None (Some Locked)) result.0 result.1
      (finds locks p Dx (locks_now bits b locks p now (a_pattern enough (inl d))) first')
  hunts_at x r locks p none now within enough quiet finding (rx d e) =
      let window = recent_heard ∙ ap number_of (window-heard (bits ++ b ∷ []) enough) in
      let result = finding Rx (omega (arith, seen_heard)) (ap role_after window ∙ e) in
      let first = first_role-rx (bits ++ b ∷ []) (length (bits ++ b ∷ [])) enough (omega arith) d in
      let first' : first_role (bits ++ b ∷ []) (length bits + 1) ≡ Rx =
      subst (λ t. first_role (bits ++ b ∷ []) t ≡ Rx) (length_push bits b) first in
      good_at x (record (heard_one s b) { track = Some (track_from Rx); wrong = [] })
      (bits ++ b ∷ []) r (step None (Some Locked)) result.0 result.1
      (finds locks p Rx (locks_now bits b locks p now (a_pattern enough (inr d))) first')

  hunts_by : (x : Held) (r : Step) (locks : List Lock) (now : Now) → IsNow bits locks now
      → Tracks bits now s.wrong s.track → s.track ≡ None
      → ((heard_one s b).seen < 28 → (x ≡ heard_one s b) × (r ≡ step None None))
      → (role_after (heard_one s b).recent ≡ None → (x ≡ heard_one s b) × (r ≡ step None None))
      → ((role : Role) → 28 ≤ (heard_one s b).seen → role_after (heard_one s b).recent ≡ Some role
      → BeginsLock (heard_one s b) role x r)
      → IsGood x (bits ++ b ∷ []) r
  hunts_by x r locks (locked p t) n f none early quiet finding = let is = f.is in absurd (cc)
  hunts_by x r locks (hunting p) n f none early quiet finding =
      let within = Past-within bits locks p n.past in
      elim (cases_lt (length (bits ++ b ∷ [])) 28) [
        | inl few ↦
            let result = early (omega (arith, seen_heard)) in
            good_at x (heard_one s b) (bits ++ b ∷ []) r (step None None) result.0 result.1
            (hunts_still locks p none
            (hunts_on bits b locks p n
            (λ here. absurd (omega (arith, here.enough, length_push bits b)))) within)
        | inr enough ↦ hunts_at x r locks p none n within enough quiet finding
            (which (last_elements (bits ++ b ∷ []) (length (bits ++ b ∷ [])))
            (length-last_elements (bits ++ b ∷ []) (length (bits ++ b ∷ [])) enough (omega arith)))
      ]

  -- a push while hunting
  pub push_hunting : (x : Held) (r : Step) → s.track ≡ None
      → ((heard_one s b).seen < 28 → (x ≡ heard_one s b) × (r ≡ step None None))
      → (role_after (heard_one s b).recent ≡ None → (x ≡ heard_one s b) × (r ≡ step None None))
      → ((role : Role) → 28 ≤ (heard_one s b).seen → role_after (heard_one s b).recent ≡ Some role
      → BeginsLock (heard_one s b) role x r)
      → IsGood x (bits ++ b ∷ []) r
  push_hunting x r none early quiet finding =
      hunts_by x r a.locks a.now a.stands a.tracks none early quiet finding

  -- a push inside a word
  goes_inside : (locks : List Lock) (p t : ℕ) (track : Track) → IsLocked bits locks p t
      → Follows bits t s.wrong track → track.filled + 1 < 7
      → IsGood (record (heard_one s b)
      { track = Some (record track { filled = track.filled + 1 }) }) (bits ++ b ∷ [])
      (step None None)
  goes_inside locks p t track now f short =
      let low = now.found.here.enough in
      let within = now.found.here.heard in
      let place = f.place in
      let now' : IsLocked (bits ++ b ∷ []) locks p t =
      stands_on bits b locks p t now (λ k e. absurd (omega (arith, f.place))) in
      let words : (j : ℕ) → j < f.whole
      → word_of_lock bits t j ≡ word_of_lock (bits ++ b ∷ []) t j =
      λ j h. sym (word_at-more bits (b ∷ []) t j (omega (arith, f.place))) in
      record {
        stands = record {
          locks = locks;
          now = locked p t;
          stands = now';
          recent = recent_heard;
          seen = seen_heard;
          tracks = record {
            one = record track { filled = track.filled + 1 };
            is = refl;
            follows = record {
              whole = f.whole;
              place = omega (arith, f.place, length_push bits b);
              short = short;
              role = f.role ∙ ap (λ first. role_of first f.whole)
                  (sym (first_role-more bits (b ∷ []) t low within));
              phasing = f.phasing ∙ ap number_of
                  (p1_marks-same (first_role bits t) (word_of_lock bits t)
                  (word_of_lock (bits ++ b ∷ []) t) f.whole words
                  ∙ ap (λ first. p1_marks first (word_of_lock (bits ++ b ∷ []) t) f.whole)
                  (sym (first_role-more bits (b ∷ []) t low within)));
              marks = f.marks ∙ ap (keep_last marked_words)
                  (wrong_marks-same (word_of_lock bits t) (word_of_lock (bits ++ b ∷ []) t) f.whole
                  words);
            };
          };
        };
        step = record {
          locks = locks;
          now = locked p t;
          stands = now';
          brings = inside f.whole (track.filled + 1) (omega (arith, f.place, length_push bits b))
              (omega arith) short refl;
        };
      }

  -- the number of the word that the bit completes
  word_heard : (t k : ℕ) → 28 ≤ t → length bits + 1 ≡ t + 7 * (k + 1)
      → (heard_one s b).recent / 2 ^ 21 ≡ word_of_lock (bits ++ b ∷ []) t k
  unfolding word_of_lock
  word_heard t k low e =
      let enough : 28 ≤ length (bits ++ b ∷ []) = omega (arith, length_push bits b) in
      let i : length (bits ++ b ∷ []) - 7 ≡ t + 7 * k = omega (arith, length_push bits b) in
      ap (λ n. n / 2 ^ 21) recent_heard
      ∙ (newest_word (bits ++ b ∷ []) enough
      ∙ ap (λ j. number_of (take 7 (drop j (bits ++ b ∷ [])))) i)

  -- a push that completes a word
  module _ (locks : List Lock) (p t : ℕ) (track : Track) (now : IsLocked bits locks p t)
      (f : Follows bits t s.wrong track) (last : track.filled ≡ 6) (x : Held) (r : Step)
      (c : Completes (heard_one s b) track x r) where
    place_after : length bits + 1 ≡ t + 7 * (f.whole + 1)
    place_after = omega (arith, f.place)

    words_same : (j : ℕ) → j < f.whole → word_of_lock bits t j ≡ word_of_lock (bits ++ b ∷ []) t j
    words_same j h = sym (word_at-more bits (b ∷ []) t j (omega (arith, f.place)))

    first_same : first_role bits t ≡ first_role (bits ++ b ∷ []) t
    first_same = sym (first_role-more bits (b ∷ []) t now.found.here.enough now.found.here.heard)

    number_is : (heard_one s b).recent / 2 ^ 21 ≡ word_of_lock (bits ++ b ∷ []) t f.whole
    number_is = word_heard t f.whole now.found.here.enough place_after

    role_is : track.role ≡ role_of (first_role (bits ++ b ∷ []) t) f.whole
    role_is = f.role ∙ ap (λ first. role_of first f.whole) first_same

    phasing_is : track.was_p1 ≡ number_of (p1_marks (first_role (bits ++ b ∷ []) t)
        (word_of_lock (bits ++ b ∷ []) t) f.whole)
    phasing_is = f.phasing ∙ ap number_of
        (p1_marks-same (first_role bits t) (word_of_lock bits t)
        (word_of_lock (bits ++ b ∷ []) t) f.whole words_same
        ∙ ap (λ first. p1_marks first (word_of_lock (bits ++ b ∷ []) t) f.whole) first_same)

    marks_are : x.wrong ≡ keep_last marked_words
        (wrong_marks (word_of_lock (bits ++ b ∷ []) t) (f.whole + 1))
    marks_are =
        c.marks
        ∙ (ap (λ xs. keep_last marked_words (xs ++ is_wrong ((heard_one s b).recent / 2 ^ 21) ∷ []))
        (f.marks ∙ ap (keep_last marked_words)
        (wrong_marks-same (word_of_lock bits t) (word_of_lock (bits ++ b ∷ []) t) f.whole
        words_same))
        ∙ (ap (λ w. keep_last marked_words
        (keep_last marked_words (wrong_marks (word_of_lock (bits ++ b ∷ []) t) f.whole)
        ++ is_wrong w ∷ [])) number_is
        ∙ wrong_marks-next (word_of_lock (bits ++ b ∷ []) t) f.whole))

    change_is : r.change ≡ release (bits ++ b ∷ []) t f.whole
    change_is = c.change ∙ change_of-change_at (first_role (bits ++ b ∷ []) t)
        (word_of_lock (bits ++ b ∷ []) t) f.whole track x.wrong phasing_is marks_are

    word_is : r.word ≡ Some (
      word_of_lock (bits ++ b ∷ []) t f.whole,
      role_of
          (first_role (bits ++ b ∷ []) t) f.whole,
    )
    word_is =
        c.word
        ∙ (ap (λ (w : ℕ). Some (w, track.role)) number_is
        ∙ ap (λ (q : Role). Some (word_of_lock (bits ++ b ∷ []) t f.whole, q)) role_is)

    step_is : (how : Option Change) → r.change ≡ how
        → r ≡ step (Some (
          word_of_lock (bits ++ b ∷ []) t f.whole,
          role_of
              (first_role (bits ++ b ∷ []) t) f.whole,
        )) how
    step_is how h = ap₂ step word_is h

    recent_after : x.recent ≡ number_of (keep_last 28 (replicate 28 false ++ (bits ++ b ∷ [])))
    recent_after = c.recent ∙ recent_heard

    seen_after : x.seen ≡ min 28 (length (bits ++ b ∷ []))
    seen_after = c.seen ∙ seen_heard

    completes_by : (how : Option Change) → r.change ≡ how → IsGood x (bits ++ b ∷ []) r
    unfolding role_of
    completes_by None quiet =
        let none : release (bits ++ b ∷ []) t f.whole ≡ None = sym change_is ∙ quiet in
        let now' : IsLocked (bits ++ b ∷ []) locks p t =
        stands_on bits b locks p t now
        (λ k e. let same : k ≡ f.whole = omega (arith, place_after) in
        ap (release (bits ++ b ∷ []) t) same ∙ none) in
        let e : f.whole + 1 ≡ suc f.whole = omega arith in
        record {
          stands = record {
            locks = locks;
            now = locked p t;
            stands = now';
            recent = recent_after;
            seen = seen_after;
            tracks = record {
              one = track_after track ((heard_one s b).recent / 2 ^ 21);
              is = c.goes_on quiet;
              follows = record {
                whole = f.whole + 1;
                place = omega (arith, place_after, length_push bits b);
                short = omega arith;
                role = ap other_role role_is ∙ ap (role_of (first_role (bits ++ b ∷ []) t)) (sym e);
                phasing = ap₂ (λ n w. n / 2
                    + 2 ^ 4 * value_of (is_dx track.role && (w == phasing_1))) phasing_is number_is
                    ∙ (ap (λ role. number_of (p1_marks (first_role (bits ++ b ∷ []) t)
                    (word_of_lock (bits ++ b ∷ []) t) f.whole) / 2 + 2 ^ 4 * value_of
                    (is_dx role && (word_of_lock (bits ++ b ∷ []) t f.whole == phasing_1)))
                    role_is
                    ∙ p1_number-next (first_role (bits ++ b ∷ []) t)
                    (word_of_lock (bits ++ b ∷ []) t) f.whole);
                marks = marks_are;
              };
            };
          };
          step = record {
            locks = locks;
            now = locked p t;
            stands = now';
            brings = word f.whole (length_push bits b ∙ place_after) (step_is None quiet);
          };
        }
    completes_by (Some how) over_is =
        let some : release (bits ++ b ∷ []) t f.whole ≡ Some how = sym change_is ∙ over_is in
        let now' = ends_now bits b locks p t f.whole how now place_after some in
        record {
          stands = record {
            locks = record { from = p; at = t; last = f.whole; how = how } ∷ locks;
            now = hunting (length bits + 1);
            stands = now';
            recent = recent_after;
            seen = seen_after;
            tracks = c.over how over_is;
          };
          step = record {
            locks = record { from = p; at = t; last = f.whole; how = how } ∷ locks;
            now = hunting (length bits + 1);
            stands = now';
            brings = over (length_push bits b) (step_is (Some how) over_is);
          };
        }

  follows_by : (x : Held) (r : Step) (track : Track) (locks : List Lock) (now : Now)
      → IsNow bits locks now → Tracks bits now s.wrong s.track → s.track ≡ Some track
      → track.filled < 7
      → (track.filled + 1 < 7 → Fills (heard_one s b) track x r)
      → (track.filled ≡ 6 → Completes (heard_one s b) track x r)
      → IsGood x (bits ++ b ∷ []) r
  follows_by x r track locks (hunting p) n f one short inner whole = absurd (cc)
  follows_by x r track locks (locked p t) n f one short inner whole =
      let same : f.one ≡ track = let e = f.is in cc in
      let g : Follows bits t s.wrong track = subst (λ q. Follows bits t s.wrong q) same f.follows in
      elim (cases_lt (track.filled + 1) 7) [
        | inl more ↦
            let result = inner more in
            good_at x (record (heard_one s b)
            { track = Some (record track { filled = track.filled + 1 }) }) (bits ++ b ∷ []) r
            (step None None) result.0 result.1
            (goes_inside locks p t track n g more)
        | inr full ↦
            let last : track.filled ≡ 6 = omega arith in
            completes_by locks p t track n g last x r (whole last) r.change refl
      ]

  -- a push while a lock stands
  pub push_locked : (x : Held) (r : Step) (track : Track) → s.track ≡ Some track → track.filled < 7
      → (track.filled + 1 < 7 → Fills (heard_one s b) track x r)
      → (track.filled ≡ 6 → Completes (heard_one s b) track x r)
      → IsGood x (bits ++ b ∷ []) r
  push_locked x r track one short inner whole =
      follows_by x r track a.locks a.now a.stands a.tracks one short inner whole

-- what `hunt_on` ensures, from what was held before it
pub record Hunted (y x : Held) (r : Step) : Type 0 where
  pub early : y.seen < 28 → (x ≡ y) × (r ≡ step None None)
  pub quiet : role_after y.recent ≡ None → (x ≡ y) × (r ≡ step None None)
  pub finding : (role : Role) → 28 ≤ y.seen → role_after y.recent ≡ Some role
      → BeginsLock y role x r

-- what `follow` ensures, from what was held before it
pub record Followed (y : Held) (track : Track) (x : Held) (r : Step) : Type 0 where
  pub inner : track.filled + 1 < 7 → Fills y track x r
  pub whole : track.filled ≡ 6 → Completes y track x r

pub good_hunting : (s y x : Held) (bits : List Bool) (b : Bool) (r : Step) → StandsAfter s bits
    → y ≡ heard_one s b → y.track ≡ None → Hunted y x r → IsGood x (bits ++ b ∷ []) r
good_hunting s y x bits b r a e none h =
    let h' : Hunted (heard_one s b) x r = subst (λ y. Hunted y x r) e h in
    let none' : s.track ≡ None = sym (ap (λ y. y.track) e) ∙ none in
    push_hunting s bits b a x r none' h'.early h'.quiet h'.finding

pub good_locked : (s y x : Held) (bits : List Bool) (b : Bool) (r : Step) (track : Track)
    → StandsAfter s bits → y ≡ heard_one s b → y.track ≡ Some track → track.filled < 7
    → Followed y track x r → IsGood x (bits ++ b ∷ []) r
good_locked s y x bits b r track a e one short h =
    let h' : Followed (heard_one s b) track x r = subst (λ y. Followed y track x r) e h in
    let one' : s.track ≡ Some track = sym (ap (λ y. y.track) e) ∙ one in
    push_locked s bits b a x r track one' short h'.inner h'.whole
