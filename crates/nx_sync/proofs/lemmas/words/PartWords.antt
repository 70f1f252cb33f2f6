-- Some elements of a word, up to its end at most, heard at once: what is held after them, and what
-- was brought, is what as many pushes make of it.
use Rattle.std.proofs.Common.{◌≡◌, ◌+◌, ◌<◌, List, [], ◌∷◌, ◌++◌, length, Bool}
use Rattle.std.proofs.Common.{refl, sym, ap₂, subst, ◌∙◌, arith, Some, None, ℕ}
use Rattle.std.proofs.Common.{append_assoc, length-append}
use Rattle.std.proofs.lemmas.List.{take-append-le}
use Rattle.nx_sync.specs.declared.step.Step.{Step}
use Rattle.nx_sync.specs.declared.track.Track.{Track}
use Rattle.nx_sync.specs.private.Windows.{window_after}
use Rattle.nx_sync.specs.Steps.{step, IsStep}
use Rattle.nx_sync.specs.Synchroniser.{Held, StandsAfter}
use Rattle.nx_sync.specs.Ahead.{BringsStep}
use Rattle.nx_sync.specs.private.Calls.{heard_one}
use Rattle.nx_sync.proofs.lemmas.states.Hearing.{window_after-append, window_after-one}
use Rattle.nx_sync.proofs.lemmas.states.Pushes.{Followed, IsGood, push_locked}
use Rattle.nx_sync.proofs.lemmas.words.WholeWords.{filled_on, runs_inside, same_word}

-- the track of a word of which so many more elements were heard
abbrev pub filled_by : Track → ℕ → Track
filled_by track n = record track { filled = track.filled + n }

module _ (old : Held) (bits : List Bool) (b : Bool) (track : Track) (is : old.track ≡ Some track)
    (full : old.seen ≡ 28) (short : track.filled + length bits < 7) where
  abbrev last_heard : Held
  last_heard = heard_one (filled_on old track bits) b

  same_recent : window_after old.recent (bits ++ b ∷ []) ≡ last_heard.recent
  same_recent = window_after-append bits (b ∷ []) old.recent
      ∙ window_after-one (window_after old.recent bits) b

  same_seen : old.seen ≡ last_heard.seen
  same_seen = omega (arith, full)

  module _ (x : Held) (r : Step)
      (f : Followed (record old { recent = window_after old.recent (bits ++ b ∷ []) })
      (filled_by track (length bits)) x r) where
    last_push : (before : List Bool) → StandsAfter old before
        → IsGood x ((before ++ bits) ++ b ∷ []) r
    last_push before a =
        let further : Track = filled_by track (length bits) in
        push_locked (filled_on old track bits) (before ++ bits) b
        (runs_inside bits old track before a is short).stands x r further refl
        (omega (arith, short))
        (λ more. (
          (f.inner more).0
              ∙ ap₂ (λ (w s : ℕ). record old {
                recent = w;
                seen = s;
                track = Some (filled_by further 1);
              }) same_recent same_seen,
          (f.inner more).1,
        ))
        (λ last. same_word old (window_after old.recent (bits ++ b ∷ [])) last_heard.recent old.seen
        last_heard.seen further further.filled (Some further) x r same_recent same_seen
        (f.whole last))

    pub part_brings : BringsStep old x (bits ++ b ∷ []) r
    part_brings = record {
      stands = λ before a. subst (StandsAfter x) (append_assoc before bits (b ∷ []))
          (last_push before a).stands;
      brings = λ before a. record {
        quiet = λ k lt.
            let within : k < length bits = omega (arith, lt, length-append bits (b ∷ [])) in
            subst (λ l. IsStep (before ++ l) (step None None))
            (sym (take-append-le (k + 1) bits (b ∷ []) (omega (arith, within))))
            ((runs_inside bits old track before a is short).quiet k within);
        last = subst (λ l. IsStep l r) (append_assoc before bits (b ∷ []))
            (last_push before a).step;
      };
    }
