-- Seven elements from the end of a word on, heard at once: what is held after them, and what was
-- brought, is what seven pushes make of it.
use Rattle.std.proofs.Common.{◌≡◌, ℕ, suc, ◌+◌, ◌-◌, ◌/◌, ◌^◌, ◌<◌, ◌≤◌, min, List, [], ◌∷◌, ◌++◌}
use Rattle.std.proofs.Common.{length, take, drop, replicate, get_or, Bool, true, false, refl, sym}
use Rattle.std.proofs.Common.{ap, subst, subst₂, ◌∙◌, inl, inr, arith, Some, None, Option}
use Rattle.std.proofs.Common.{append_assoc, append-nil, length-take, take-take}
use Rattle.std.proofs.lemmas.Bool.{cases_lt, eqb-true}
use Rattle.std.proofs.lemmas.List.{take_more, take_all}
use Rattle.circular_buffer.specs.Buffer.{keep_last}
use Rattle.nx_code.specs.Word.{number_of, is_wrong}
use Rattle.nx_sync.specs.declared.step.Step.{Step}
use Rattle.nx_sync.specs.declared.track.Track.{Track}
use Rattle.nx_sync.specs.Words.{marked_words}
use Rattle.nx_sync.specs.private.Windows.{next_word_window, window_after}
use Rattle.nx_sync.specs.Steps.{step, IsStep, IsWordStep}
use Rattle.nx_sync.specs.Synchroniser.{Held, is_at_limit, is_between_words, StandsAfter}
use Rattle.nx_sync.specs.private.Calls.{heard_one, track_after, Completes}
use Rattle.nx_sync.proofs.lemmas.states.Lists.{length-padded, padded-append}
use Rattle.nx_sync.proofs.lemmas.hunting.Numbers.{number_of-next_word}
use Rattle.nx_sync.proofs.lemmas.states.Hearing.{window_after-none}
use Rattle.nx_sync.proofs.lemmas.states.Pushes.{IsGood, push_locked, recent_heard}

-- what is held after elements inside a word
abbrev pub filled_on : Held → Track → List Bool → Held
filled_on held track bits = record held {
  recent = window_after held.recent bits;
  seen = min (held.seen + length bits) 28;
  track = Some (record track { filled = track.filled + length bits });
}

same_filled : (held : Held) (track : Track) (r q m n f g : ℕ) → r ≡ q → m ≡ n → f ≡ g
    → record held { recent = r; seen = m; track = Some (record track { filled = f }) }
    ≡ record held { recent = q; seen = n; track = Some (record track { filled = g }) }
same_filled held track r q m n f g e d h =
    ap (λ r. record held { recent = r; seen = m; track = Some (record track { filled = f }) }) e
    ∙ (ap (λ m. record held { recent = q; seen = m; track = Some (record track { filled = f }) }) d
    ∙ ap (λ f. record held { recent = q; seen = n; track = Some (record track { filled = f }) }) h)

filled_on-none : (held : Held) (track : Track) → held.seen ≤ 28 → held.track ≡ Some track
    → held ≡ filled_on held track []
filled_on-none held track seen is =
    ap (λ t. record held { track = t }) is
    ∙ same_filled held track held.recent (window_after held.recent []) held.seen
    (min (held.seen + 0) 28) track.filled (track.filled + 0)
    (sym (window_after-none held.recent)) (omega arith) (omega arith)

filled_on-front : (held : Held) (track : Track) (b : Bool) (bits : List Bool)
    → filled_on (record (heard_one held b)
    { track = Some (record track { filled = track.filled + 1 }) })
    (record track { filled = track.filled + 1 }) bits ≡ filled_on held track (b ∷ bits)
unfolding window_after
filled_on-front held track b bits =
    same_filled held track (window_after (heard_one held b).recent bits)
    (window_after held.recent (b ∷ bits))
    (min (min (held.seen + 1) 28 + length bits) 28) (min (held.seen + length (b ∷ bits)) 28)
    (track.filled + 1 + length bits) (track.filled + length (b ∷ bits)) refl (omega arith)
    (omega arith)

-- what is held inside a word, and that nothing was brought
pub record RunsInside (held : Held) (track : Track) (before bits : List Bool) : Type 0 where
  pub stands : StandsAfter (filled_on held track bits) (before ++ bits)
  pub quiet : (k : ℕ) → k < length bits → IsStep (before ++ take (k + 1) bits) (step None None)

pub runs_inside : (bits : List Bool) (held : Held) (track : Track) (before : List Bool)
    → StandsAfter held before → held.track ≡ Some track → track.filled + length bits < 7
    → RunsInside held track before bits
runs_inside [] held track before a is short =
    record {
      stands = subst₂ StandsAfter (filled_on-none held track (omega (arith, a.seen)) is)
          (sym (append-nil before)) a;
      quiet = λ k h. absurd (omega arith);
    }
runs_inside (b ∷ bits) held track before a is short =
    let further : Track = record track { filled = track.filled + 1 } in
    let next : Held = record (heard_one held b) { track = Some further } in
    let one : IsGood next (before ++ b ∷ []) (step None None) =
    push_locked held before b a next (step None None) track is (omega arith) (λ h. (refl, refl))
    (λ h. absurd (omega arith)) in
    let rest = runs_inside bits next further (before ++ b ∷ []) one.stands refl (omega arith) in
    record {
      stands = subst₂ StandsAfter (filled_on-front held track b bits)
          (append_assoc before (b ∷ []) bits) rest.stands;
      quiet = λ k h. elim (cases_lt 0 k) [
        | inr first ↦ let z : 0 ≡ k = omega arith in
            subst (λ k. IsStep (before ++ take (k + 1) (b ∷ bits)) (step None None)) z one.step
        | inl after ↦
            let j : ℕ = k - 1 in
            let i : suc (j + 1) ≡ k + 1 = omega arith in
            subst (λ xs. IsStep xs (step None None))
            (append_assoc before (b ∷ []) (take (j + 1) bits)
            ∙ ap (λ i. before ++ take i (b ∷ bits)) i) (rest.quiet j (omega arith))
      ];
    }

-- a word that is complete, by another value that holds the same elements and marks
pub same_word : (held : Held) (recent recent' seen seen' : ℕ) (track : Track) (filled : ℕ)
    (others : Option Track) (x : Held) (r : Step) → recent ≡ recent' → seen ≡ seen'
    → Completes (record held { recent = recent; seen = seen }) track x r
    → Completes (record held { recent = recent'; seen = seen'; track = others })
    (record track { filled = filled }) x r
same_word held recent recent' seen seen' track filled others x r e d c = record {
  recent = c.recent ∙ e;
  seen = c.seen ∙ d;
  marks = c.marks ∙ ap (λ n. keep_last marked_words (held.wrong ++ is_wrong (n / 2 ^ 21) ∷ [])) e;
  change = c.change;
  word = c.word ∙ ap (λ (n : ℕ). Some (n / 2 ^ 21, track.role)) e;
  goes_on = λ h. c.goes_on h ∙ ap (λ n. Some (track_after track (n / 2 ^ 21))) e;
  over = c.over;
}

module _ (old : Held) (before bits : List Bool) (track : Track) (a : StandsAfter old before)
    (is : old.track ≡ Some track) (full : old.seen ≡ 28) (limit : track.filled ≡ 0)
    (seven : length bits ≡ 7) where
  last : Bool
  last = get_or bits 6 false

  length-six : length (take 6 bits) ≡ 6
  length-six = simp length-take (omega arith)

  all-bits : take 6 bits ++ get_or bits 6 false ∷ [] ≡ bits
  all-bits = sym (take_more bits 6 false (omega arith)) ∙ take_all 7 bits (omega arith)

  inside_word : RunsInside old track before (take 6 bits)
  inside_word = runs_inside (take 6 bits) old track before a is (omega (arith, length-six))

  all-heard : (before ++ take 6 bits) ++ get_or bits 6 false ∷ [] ≡ before ++ bits
  all-heard = append_assoc before (take 6 bits) (get_or bits 6 false ∷ [])
      ∙ ap (λ xs. before ++ xs) all-bits

  same_recent : next_word_window old.recent (number_of bits)
      ≡ (heard_one (filled_on old track (take 6 bits)) (get_or bits 6 false)).recent
  same_recent =
      let xs : List Bool = keep_last 28 (replicate 28 false ++ before) in
      ap (λ n. next_word_window n (number_of bits)) a.recent
      ∙ (sym (number_of-next_word xs bits (length-padded 28 before) seven)
      ∙ (ap (λ n. number_of (drop n xs ++ bits)) (sym seven)
      ∙ (ap number_of (padded-append 28 before bits (omega arith))
      ∙ (ap (λ ys. number_of (keep_last 28 (replicate 28 false ++ ys))) (sym all-heard)
      ∙ sym (recent_heard (filled_on old track (take 6 bits)) (before ++ take 6 bits)
      (get_or bits 6 false) inside_word.stands)))))

  last_push : (x : Held) (r : Step)
      → Completes (record old { recent = next_word_window old.recent (number_of bits) }) track x r
      → IsGood x (before ++ bits) r
  last_push x r c =
      let mid : Held = filled_on old track (take 6 bits) in
      let further : Track = record track { filled = track.filled + length (take 6 bits) } in
      let whole : Completes (heard_one mid (get_or bits 6 false)) further x r =
      same_word old (next_word_window old.recent (number_of bits))
      (heard_one mid (get_or bits 6 false)).recent old.seen
      (heard_one mid (get_or bits 6 false)).seen track (track.filled + length (take 6 bits))
      (Some further) x r same_recent (omega (arith, full, length-six)) c in
      subst (λ xs. IsGood x xs r) all-heard
      (push_locked mid (before ++ take 6 bits) (get_or bits 6 false) inside_word.stands x r
      further refl (omega (arith, length-six)) (λ h. absurd (omega (arith, length-six)))
      (λ h. whole))

  pub word_stands : (x : Held) (r : Step)
      → Completes (record old { recent = next_word_window old.recent (number_of bits) }) track x r
      → StandsAfter x (before ++ bits)
  word_stands x r c = (last_push x r c).stands

  pub word_step : (x : Held) (r : Step)
      → Completes (record old { recent = next_word_window old.recent (number_of bits) }) track x r
      → IsWordStep before bits r
  word_step x r c = record {
    inside = λ k h. subst (λ xs. IsStep (before ++ xs) (step None None))
        (take-take (k + 1) 6 bits (omega arith)) (inside_word.quiet k (omega (arith, length-six)));
    last = (last_push x r c).step;
  }

-- between two words, a word is followed and no bit of it was heard
pub between : (held : Held) → is_between_words held ≡ true → (track : Track)
    → held.track ≡ Some track → track.filled ≡ 0
between held h track is = eqb-true track.filled 0 (sym (ap is_at_limit is) ∙ h)
