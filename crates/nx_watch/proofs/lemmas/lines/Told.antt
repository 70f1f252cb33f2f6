-- What was told of lines without effect, and of a put that failed.
use Rattle.std.proofs.Common.{◌≡◌, ◌+◌, ℕ, Bool, true, false, not, ◌&&◌, List, [], ◌∷◌, ◌++◌, length}
use Rattle.std.proofs.Common.{Option, Some, None, refl, sym, ap, ◌∙◌, subst, append_assoc}
use Rattle.std.proofs.Common.{append-nil, inl, inr}
use Rattle.std.specs.Prelude.{◌⊎◌, IsSome}
use Rattle.nx_fec.specs.air_files.AirFile.{Line}
use Rattle.nx_fec.specs.Transfers.{CountedDevice}
use Rattle.nx_watch.specs.Acting.{count_without}
use Rattle.nx_watch.specs.LineRun.{HasTold}
use Rattle.nx_watch.specs.LinesTold.{IsFirstTold, IsReason, IsToldAtEnd, IsToldByRead, line_told}
use Rattle.nx_watch.specs.LinesTold.{number_told, put_told}
use Rattle.nx_watch.specs.declared.lines.line_effects.LineEffects.{LineEffects}
use Rattle.nx_watch.specs.declared.lines.line_effects.StartMoments.{StartMoments}
use Rattle.nx_watch.specs.declared.lines.no_effect.NoEffect.{NoEffect}
use Rattle.nx_watch.specs.private.Effects.{IsKept}
use Rattle.nx_watch.specs.private.Running.{HasToldLines, HasToldSo, IsBeside, IsToldByEnd, TellsFirst}
use Rattle.nx_watch.specs.private.Running.{ToldBefore, ToldBeside}

-- ---- the first line without effect

-- one line more changes nothing
pub first-told : (bytes : List ℕ) (lines : List (Option Line)) (line : Option Line)
    (first : Option ℕ) (one : List ℕ)
    → IsFirstTold bytes lines first one → IsFirstTold bytes (lines ++ line ∷ []) first one
first-told bytes lines line None one h = h
first-told bytes lines line (Some number) one h = (
  h.0,
  record {
    before = h.1.before;
    line = h.1.line;
    later = h.1.later ++ line ∷ [];
    whole = ap (λ l. l ++ line ∷ []) h.1.whole
        ∙ append_assoc h.1.before (h.1.line ∷ h.1.later) (line ∷ []);
    counted = h.1.counted;
    reason = h.1.reason;
  },
  h.2,
)

-- a line that acts is not told
pub tells-acting : (first : StartMoments) (kept now : LineEffects) (old : ToldBeside)
    (new : Option (List ℕ)) (failures : ℕ) (bytes : List ℕ) (lines : List (Option Line))
    (line : Option Line)
    → IsKept first (lines ++ line ∷ []) now → now.first_without ≡ kept.first_without
    → TellsFirst first kept old new failures bytes lines
    → TellsFirst first now old new failures bytes (lines ++ line ∷ [])
tells-acting first kept now old new failures bytes lines line is same h = record {
  kept_so = is;
  one = h.one;
  is = subst (λ o. IsFirstTold bytes (lines ++ line ∷ []) o h.one) (sym same)
      (first-told bytes lines line kept.first_without h.one h.is);
  told = h.told;
  none = λ none. h.none (sym same ∙ none);
}

-- what was told of the lines of bytes is so with more behind them
pub tells-on : (first : StartMoments) (kept : LineEffects) (old : ToldBeside)
    (new : Option (List ℕ)) (failures : ℕ) (bytes piece more : List ℕ)
    (lines : List (Option Line))
    → ((more : List ℕ) → TellsFirst first kept old new failures (bytes ++ more) lines)
    → TellsFirst first kept old new failures ((bytes ++ piece) ++ more) lines
tells-on first kept old new failures bytes piece more lines h =
    subst (λ b. TellsFirst first kept old new failures b lines)
    (sym (append_assoc bytes piece more)) (h (piece ++ more))

apart : (n : ℕ) → Some n ≡ None → ⊥
apart n e = cc

module _ {F : Type 0} (contents : F → Option (List ℕ)) (notices after : CountedDevice F) where
  -- behind what was told this was told too
  abbrev pub TellsToo : List ℕ → Type 0
  TellsToo more = (old : Option (List ℕ)) (text : List ℕ)
      → HasTold old (contents notices.inner) notices.failures text
      → HasTold old (contents after.inner) after.failures (text ++ more)

  -- a line without effect is told where there was none before
  pub tells-idle : (first : StartMoments) (kept now : LineEffects) (old : ToldBeside)
      (bytes : List ℕ) (lines : List (Option Line)) (line : Option Line) (why : NoEffect)
      (before : Option ℕ) (number : ℕ)
      → before ≡ kept.first_without → number ≡ now.lines
      → IsKept first (lines ++ line ∷ []) now → now.lines ≡ length lines + 1
      → (IsSome kept.first_without → now.first_without ≡ kept.first_without)
      → (kept.first_without ≡ None → now.first_without ≡ Some now.lines)
      → IsReason bytes lines line why
      → (IsSome before → after ≡ notices) → (before ≡ None → TellsToo (line_told number why))
      → TellsFirst first kept old (contents notices.inner) notices.failures bytes lines
      → TellsFirst first now old (contents after.inner) after.failures bytes (lines ++ line ∷ [])
  tells-idle first kept now old bytes lines line why before number was counted is size later one
      reason same tells h = so kept.first_without refl
    where
      so : (o : Option ℕ) → kept.first_without ≡ o
          → TellsFirst first now old (contents after.inner) after.failures bytes
          (lines ++ line ∷ [])
      so None none =
          let nothing : h.one ≡ [] =
          subst (λ o. IsFirstTold bytes lines o h.one) none h.is in
          let made = one none in record {
            kept_so = is;
            one = line_told number why;
            is = subst (λ o. IsFirstTold bytes (lines ++ line ∷ []) o (line_told number why))
                (sym made) (
                  why,
                  record {
                    before = lines;
                    line = line;
                    later = [];
                    whole = refl;
                    counted = size;
                    reason = reason;
                  },
                  ap (λ n. line_told n why) counted,
                );
            told = subst (HasTold old.old (contents after.inner) after.failures)
                (ap (λ l. ((old.before ++ h.one) ++ l) ++ line_told number why) (h.none none)
                ∙ ap (λ l. l ++ line_told number why) (append-nil (old.before ++ h.one)
                ∙ ap (λ l. old.before ++ l) nothing ∙ append-nil old.before)
                ∙ sym (append-nil (old.before ++ line_told number why))
                ∙ ap (λ l. (old.before ++ line_told number why) ++ l) (sym (h.none none)))
                (tells (was ∙ none) old.old ((old.before ++ h.one) ++ old.behind) h.told);
            none = λ none. absurd (apart now.lines (sym made ∙ none));
          }
      so (Some n) some =
          let is_some : IsSome kept.first_without = subst IsSome (sym some) refl in
          let kept_on = later is_some in
          record {
            kept_so = is;
            one = h.one;
            is = subst (λ o. IsFirstTold bytes (lines ++ line ∷ []) o h.one) (sym kept_on)
                (first-told bytes lines line kept.first_without h.one h.is);
            told = subst (λ (d : CountedDevice F). HasTold old.old (contents d.inner) d.failures
                ((old.before ++ h.one) ++ old.behind))
                (sym (same (subst IsSome (sym was) is_some))) h.told;
            none = λ none. absurd (apart n (sym some ∙ sym kept_on ∙ none));
          }

  -- it was told that a put failed, where one has and none had before
  pub told-beside : (kept : LineEffects) (base : ToldBefore) (old : ToldBeside) (had has : Bool)
      → IsBeside base had old → (had ≡ true → has ≡ true) → TellsToo (put_told (has && not had))
      → (now : ToldBeside) × IsBeside base has now
      × ((first : StartMoments) (bytes : List ℕ) (lines : List (Option Line))
      → TellsFirst first kept old (contents notices.inner) notices.failures bytes lines
      → TellsFirst first kept now (contents after.inner) after.failures bytes lines)
  told-beside kept base old false false is stays tells = (
    old,
    is,
    λ first bytes lines h. record {
      kept_so = h.kept_so;
      one = h.one;
      is = h.is;
      told = subst (HasTold old.old (contents after.inner) after.failures)
          (append-nil ((old.before ++ h.one) ++ old.behind))
          (tells old.old ((old.before ++ h.one) ++ old.behind) h.told);
      none = h.none;
    },
  )
  told-beside kept base old true true is stays tells = (
    old,
    is,
    λ first bytes lines h. record {
      kept_so = h.kept_so;
      one = h.one;
      is = h.is;
      told = subst (HasTold old.old (contents after.inner) after.failures)
          (append-nil ((old.before ++ h.one) ++ old.behind))
          (tells old.old ((old.before ++ h.one) ++ old.behind) h.told);
      none = h.none;
    },
  )
  told-beside kept base old true false is stays tells =
      let both : false ≡ true = stays refl in cc
  told-beside kept base old false true is stays tells =
      so kept.first_without refl (alone is.sides)
    where
      put : List ℕ
      put = put_told true

      -- nothing was told beside so far
      alone : ((old.before ≡ base.text ++ []) × (old.behind ≡ []))
          ⊎ ((old.before ≡ base.text) × (old.behind ≡ []))
          → (old.before ≡ base.text) × (old.behind ≡ [])
      alone (inl h) = (h.0 ∙ append-nil base.text, h.1)
      alone (inr h) = h

      so : (o : Option ℕ) → kept.first_without ≡ o
          → (old.before ≡ base.text) × (old.behind ≡ [])
          → (now : ToldBeside) × IsBeside base true now
          × ((first : StartMoments) (bytes : List ℕ) (lines : List (Option Line))
          → TellsFirst first kept old (contents notices.inner) notices.failures bytes lines
          → TellsFirst first kept now (contents after.inner) after.failures bytes lines)
      so None none was = (
        record { old = old.old; before = old.before ++ put; behind = [] },
        record { same = is.same; sides = inl (ap (λ l. l ++ put) was.0, refl) },
        λ first bytes lines h.
            let nothing : h.one ≡ [] =
            subst (λ o. IsFirstTold bytes lines o h.one) none h.is in
            record {
              kept_so = h.kept_so;
              one = h.one;
              is = h.is;
              told = subst (HasTold old.old (contents after.inner) after.failures)
                  (ap (λ l. ((old.before ++ h.one) ++ l) ++ put) was.1
                  ∙ ap (λ l. l ++ put) (append-nil (old.before ++ h.one)
                  ∙ ap (λ l. old.before ++ l) nothing ∙ append-nil old.before)
                  ∙ sym (append-nil (old.before ++ put))
                  ∙ ap (λ l. (old.before ++ put) ++ l) (sym nothing)
                  ∙ sym (append-nil ((old.before ++ put) ++ h.one)))
                  (tells old.old ((old.before ++ h.one) ++ old.behind) h.told);
              none = λ none. refl;
            },
      )
      so (Some n) some was = (
        record { old = old.old; before = old.before; behind = put },
        record { same = is.same; sides = inr (was.0, refl) },
        λ first bytes lines h. record {
          kept_so = h.kept_so;
          one = h.one;
          is = h.is;
          told = subst (HasTold old.old (contents after.inner) after.failures)
              (ap (λ l. ((old.before ++ h.one) ++ l) ++ put) was.1
              ∙ ap (λ l. l ++ put) (append-nil (old.before ++ h.one)))
              (tells old.old ((old.before ++ h.one) ++ old.behind) h.told);
          none = λ none. absurd (apart n (sym some ∙ none));
        },
      )

-- ---- all that was told

-- what was told on both sides of one text, behind this one
both-sides : (old : ToldBeside) (base : ToldBefore) (failed : Bool) (one : List ℕ)
    → IsBeside base failed old
    → (text : List ℕ) × ((text ≡ one ++ put_told failed) ⊎ (text ≡ put_told failed ++ one))
    × ((old.before ++ one) ++ old.behind ≡ base.text ++ text)
both-sides old base failed one is = elim is.sides [
  | inl h ↦ (
    put_told failed ++ one,
    inr refl,
    ap (λ l. (old.before ++ one) ++ l) h.1 ∙ append-nil (old.before ++ one)
        ∙ ap (λ l. l ++ one) h.0 ∙ append_assoc base.text (put_told failed) one,
  )
  | inr h ↦ (
    one ++ put_told failed,
    inl refl,
    ap (λ l. (old.before ++ one) ++ l) h.1 ∙ ap (λ l. (l ++ one) ++ put_told failed) h.0
        ∙ append_assoc base.text one (put_told failed),
  )
]

-- by a read
pub by-read : (first : StartMoments) (kept : LineEffects) (base : ToldBefore) (old : ToldBeside)
    (failed : Bool) (new : Option (List ℕ)) (failures : ℕ) (bytes : List ℕ)
    (lines : List (Option Line))
    → IsBeside base failed old → TellsFirst first kept old new failures bytes lines
    → HasToldSo base new failures (IsToldByRead first bytes lines failed)
by-read first kept base old failed new failures bytes lines is h =
    let all = both-sides old base failed h.one is in (
      all.0,
      (
        h.one,
        subst (λ o. IsFirstTold bytes lines o h.one) h.kept_so.first_one h.is,
        all.1,
      ),
      subst (λ o. HasTold o new failures (base.text ++ all.0)) is.same
          (subst (HasTold old.old new failures) all.2 h.told),
    )

-- when the lines were over
pub by-end : (first : StartMoments) (base : ToldBefore) (old : ToldBeside)
    (failed : Bool) (new : Option (List ℕ)) (failures : ℕ) (bytes : List ℕ)
    (lines : List (Option Line))
    → IsBeside base failed old → HasToldLines old new failures first bytes lines
    → HasToldSo base new failures (IsToldByEnd first bytes lines failed)
by-end first base old failed new failures bytes lines is h =
    let all = both-sides old base failed h.one is in
    let number = number_told (count_without first lines) in (
      all.0 ++ number,
      (all.0, (h.one, h.is, all.1), refl),
      subst (λ o. HasTold o new failures (base.text ++ (all.0 ++ number))) is.same
          (subst (HasTold old.old new failures)
          (ap (λ l. l ++ number) all.2 ∙ append_assoc base.text all.0 number) h.told),
    )

-- and nothing behind that
pub at-end : (first : StartMoments) (base : ToldBefore) (failed : Bool) (new : Option (List ℕ))
    (failures : ℕ) (bytes : List ℕ) (lines : List (Option Line))
    → HasToldSo base new failures (IsToldByEnd first bytes lines failed)
    → HasToldSo base new failures (IsToldAtEnd first bytes lines failed)
at-end first base failed new failures bytes lines h = (h.0, inl h.1, h.2)

-- or a put that failed in the closings
pub at-finish : {F : Type 0} (contents : F → Option (List ℕ)) (notices after : CountedDevice F)
    (first : StartMoments) (base : ToldBefore) (had has : Bool) (bytes : List ℕ)
    (lines : List (Option Line))
    → (had ≡ true → has ≡ true) → TellsToo contents notices after (put_told (has && not had))
    → HasToldSo base (contents notices.inner) notices.failures (IsToldByEnd first bytes lines had)
    → HasToldSo base (contents after.inner) after.failures (IsToldAtEnd first bytes lines has)
at-finish contents notices after first base false false bytes lines stays tells h = (
  h.0,
  inl h.1,
  subst (HasTold base.old (contents after.inner) after.failures) (append-nil (base.text ++ h.0))
      (tells base.old (base.text ++ h.0) h.2),
)
at-finish contents notices after first base true true bytes lines stays tells h = (
  h.0,
  inl h.1,
  subst (HasTold base.old (contents after.inner) after.failures) (append-nil (base.text ++ h.0))
      (tells base.old (base.text ++ h.0) h.2),
)
at-finish contents notices after first base true false bytes lines stays tells h =
    let both : false ≡ true = stays refl in cc
at-finish contents notices after first base false true bytes lines stays tells h =
    let number = number_told (count_without first lines) in (
      h.0 ++ put_told true,
      inr (
        h.1.0,
        h.1.1,
        refl,
        ap (λ l. l ++ put_told true) h.1.2 ∙ append_assoc h.1.0 number (put_told true),
      ),
      subst (HasTold base.old (contents after.inner) after.failures)
          (append_assoc base.text h.0 (put_told true))
          (tells base.old (base.text ++ h.0) h.2),
    )
