-- One more line, and what it does.
use Rattle.std.proofs.Common.{◌≡◌, ℕ, ◌+◌, ◌-◌, ◌≤◌, ◌<◌, suc, Bool, true, false, not, cond}
use Rattle.std.proofs.Common.{List, [], ◌∷◌, ◌++◌, length, take, Option, Some, None}
use Rattle.std.proofs.Common.{Result, Ok, Err}
use Rattle.std.proofs.Common.{nat_lt, nat_le, refl, sym, ap, ap₂, ◌∙◌, subst, append_assoc, append-nil}
use Rattle.std.proofs.Common.{arith, length-append, zero-add, add-zero}
use Rattle.std.specs.List.{count_by, position_from}
use Rattle.std.specs.Option.{is_some}
use Rattle.std.proofs.lemmas.Bool.{and_from, and_left, and_right, le-leb, leb-false, leb-true}
use Rattle.std.proofs.lemmas.Bool.Decides.{nat_tests}
use Rattle.std.proofs.lemmas.List.Sums.{sum_by-append}
use Rattle.nx_envelope.specs.Moment.{last_moment}
use Rattle.nx_memory.specs.Memory.{seconds_known}
use Rattle.nx_receiver.specs.Moments.{Refuses}
use Rattle.nx_receiver.specs.declared.fault.MomentFault.{MomentFault}
use Rattle.nx_receiver.specs.declared.fault.MomentFault.TheVariants.{Back, Range}
use Rattle.nx_fec.specs.air_files.AirFile.{Line, moment, elements, refuse_station, accept_station}
use Rattle.nx_fec.specs.air_files.AirFile.{refuse_subject, accept_subject}
use Rattle.nx_fec.specs.air_files.Scanner.{kind_of}
use Rattle.nx_fec.specs.declared.air_files.lines.LineKind.TheVariants.{Moment}
use Rattle.nx_watch.specs.Acting.{acts, effects, given}
use Rattle.nx_watch.specs.Acting.{in_force, is_far_back}
use Rattle.nx_watch.specs.Acting.{moment_said, moments_behind, went_far_back}
use Rattle.nx_watch.specs.declared.lines.line_effects.StartMoments.{StartMoments}
use Rattle.nx_watch.specs.declared.lines.line_effects.LineEffects.{LineEffects}
use Rattle.nx_watch.specs.declared.lines.line_effects.Effect.{Effect}
use Rattle.nx_watch.specs.declared.lines.line_effects.Effect.TheVariants.{Acts, Nothing, Ends}
use Rattle.nx_watch.specs.private.LineRun.{MayAct}
use Rattle.nx_watch.specs.declared.lines.refusal.Refusal.{Refusal}
use Rattle.nx_watch.specs.declared.lines.refusal.Refusal.TheVariants as refusal
use Rattle.nx_watch.specs.private.Effects.{is_acting, IsAnswer, IsEffect, IsKept, KeepsMoments}
use Rattle.nx_watch.specs.private.Effects.{SameCounts, lines_taken, said_behind, sets}
use Rattle.nx_watch.proofs.lemmas.lines.Starting.{moments_behind-more}

-- ---- one more moment

pub said-in : (n : ℕ) → n ≤ last_moment → moment_said (Some (moment n)) ≡ n ∷ []
said-in n h = ap (λ (b : Bool). cond b (n ∷ []) []) (le-leb n last_moment h)

-- nothing changed in what is kept of moments
pub keeps-on : (first : StartMoments) (moments : List ℕ) (old new : LineEffects)
    → KeepsMoments first moments old → new.start ≡ old.start
    → new.has_moment ≡ old.has_moment → new.went_far_back ≡ old.went_far_back
    → KeepsMoments first moments new
keeps-on first moments old new k start has far = record {
  start_is = start ∙ k.start_is;
  has_moment = has ∙ k.has_moment;
  far_back = far ∙ k.far_back;
}

-- ---- what a moment does

-- a moment that isn't before the one in force doesn't go far back
pub taken-near : (first : ℕ) (moments : List ℕ) (n : ℕ) → in_force first moments ≤ n
    → is_far_back first moments n ≡ false
taken-near first moments n h =
    let later : in_force first moments < n + seconds_known = omega (arith, h) in
    grind (arith, nat_tests)

pub far-same : (last given force n : ℕ) → last ≡ force → given ≡ n → n < force
    → not (nat_lt (last - given) seconds_known) ≡ nat_le (n + seconds_known) force
far-same last given force n is at back =
    ap₂ (λ a b. not (nat_lt (a - b) seconds_known)) is at
    ∙ elim (nat_lt (force - n) seconds_known) as (λ b. nat_lt (force - n) seconds_known ≡ b
    → not b ≡ nat_le (n + seconds_known) force) [
      | true ↦ λ e.
          let near : force - n < seconds_known = leb-true (suc (force - n)) seconds_known e in
          let later : force < n + seconds_known = omega (arith, back, near) in
          let out : nat_le (n + seconds_known) force ≡ false = grind (arith, nat_tests) in sym out
      | false ↦ λ e.
          let far : seconds_known < suc (force - n) =
          leb-false (suc (force - n)) seconds_known e in
          let past : n + seconds_known ≤ force = omega (arith, back, far) in
          sym (le-leb (n + seconds_known) force past)
    ] refl

-- a line acts that the receivers take
pub taken-acts : (first : StartMoments) (moments : List ℕ) (line : Line)
    → MayAct (in_force first.newest moments) [] line → IsEffect first moments (Some line) Acts
taken-acts first moments (moment n) h = (
  and_from _ _ (le-leb n last_moment h.1) (le-leb (in_force first.newest moments) n h.0),
  and_left _ _ (and_right _ _ (taken-near first.newest moments n h.0)),
)
taken-acts first moments (elements mark bits) h = (refl, refl)
taken-acts first moments (refuse_station mark letter) h = (refl, refl)
taken-acts first moments (accept_station mark letter) h = (refl, refl)
taken-acts first moments (refuse_subject mark letter) h = (ap not h, refl)
taken-acts first moments (accept_subject mark letter) h = (refl, refl)

pub back-idle : (first : ℕ) (moments : List ℕ) (n : ℕ) → n < in_force first moments
    → acts first moments (Some (moment n)) ≡ false
back-idle first moments n back =
    let early : nat_le (in_force first moments) n ≡ false = grind (arith, nat_tests) in
    and_right _ _ early

refused-idle : (first : ℕ) (moments : List ℕ) (n : ℕ) (fault : MomentFault)
    → Refuses (in_force first moments) n fault → acts first moments (Some (moment n)) ≡ false
refused-idle first moments n (Range at) h =
    let past : last_moment < n = h.1 in
    let out : nat_le n last_moment ≡ false = grind (arith, nat_tests) in and_left _ _ out
refused-idle first moments n (Back from at) h = back-idle first moments n h.3

-- a line acts where the receivers take it, and else not
pub acts-taken : (first : StartMoments) (moments : List ℕ) (line : Line)
    (answer : Result (Unit {0}) Refusal) → IsAnswer (in_force first.newest moments) line answer
    → cond (acts first.newest moments (Some line)) (line ∷ []) [] ≡ lines_taken line answer
acts-taken first moments line (Ok taken) h =
    ap (λ b. cond b (line ∷ []) []) (taken-acts first moments line h).0
acts-taken first moments line (Err (refusal.Moment fault)) h =
    ap (λ b. cond b (line ∷ []) []) (ap (λ l. acts first.newest moments (Some l)) h.1
    ∙ refused-idle first.newest moments h.0 fault h.2)
acts-taken first moments line (Err refusal.Vital) h =
    ap (λ b. cond b (line ∷ []) []) (ap (λ l. acts first.newest moments (Some l)) h.2
    ∙ ap not h.3)

-- an effect says whether a line acts
pub acting-is : (first : StartMoments) (moments : List ℕ) (line : Option Line) (effect : Effect)
    → IsEffect first moments line effect → is_acting effect ≡ acts first.newest moments line
acting-is first moments line Acts h = sym h.0
acting-is first moments line (Nothing why) h = sym h.0
acting-is first moments line (Ends last given) h = sym h.0

-- a line that says a moment is one
pub moment-kind : (line : Line) (n : ℕ) → kind_of line ≡ Moment n → line ≡ moment n
moment-kind (moment m) n h = cc
moment-kind (elements mark bits) n h = cc
moment-kind (refuse_station mark letter) n h = cc
moment-kind (accept_station mark letter) n h = cc
moment-kind (refuse_subject mark letter) n h = cc
moment-kind (accept_subject mark letter) n h = cc

-- a line that doesn't act sets none
pub idle-unset : (first : StartMoments) (moments : List ℕ) (line : Option Line)
    → acts first.newest moments line ≡ false → sets first moments line ≡ false
idle-unset first moments None h = refl
idle-unset first moments (Some (moment n)) h = refl
idle-unset first moments (Some (elements mark bits)) h = cc
idle-unset first moments (Some (refuse_station mark letter)) h = refl
idle-unset first moments (Some (accept_station mark letter)) h = refl
idle-unset first moments (Some (refuse_subject mark letter)) h = refl
idle-unset first moments (Some (accept_subject mark letter)) h = refl

-- ---- one more line

-- what one more line does, behind these first ones and the others
abbrev behind : StartMoments → List (Option Line) → Option Line → Bool
behind first lines line = acts first.newest (moments_behind first lines) line

effects-append : (first : StartMoments) (before lines : List (Option Line)) (line : Option Line)
    → effects first before (lines ++ line ∷ [])
    ≡ effects first before lines ++ behind first (before ++ lines) line ∷ []
effects-append first before [] line =
    ap (λ l. behind first l line ∷ []) (sym (append-nil before))
effects-append first before (l ∷ lines) line =
    ap (λ e. behind first before l ∷ e)
    (effects-append first (before ++ l ∷ []) lines line
    ∙ ap (λ m. effects first (before ++ l ∷ []) lines ++ behind first m line ∷ [])
    (append_assoc before (l ∷ []) lines))

length-effects : (first : StartMoments) (before lines : List (Option Line))
    → length (effects first before lines) ≡ length lines
length-effects first before [] = refl
length-effects first before (line ∷ lines) =
    ap suc (length-effects first (before ++ line ∷ []) lines)

position-yes : (at : ℕ) (es : List Bool) → position_from not at (es ++ true ∷ [])
    ≡ position_from not at es
position-yes at [] = refl
position-yes at (true ∷ es) = position-yes (at + 1) es
position-yes at (false ∷ es) = refl

position-no : (at : ℕ) (es : List Bool) → position_from not at es ≡ None
    → position_from not at (es ++ false ∷ []) ≡ Some (length es + at)
position-no at [] h = ap Some (sym (zero-add at))
position-no at (true ∷ es) h =
    position-no (at + 1) es h ∙ ap Some (omega arith)
position-no at (false ∷ es) h = cc

position-more : (at : ℕ) (es : List Bool) (e : Bool) (n : ℕ) → position_from not at es ≡ Some n
    → position_from not at (es ++ e ∷ []) ≡ Some n
position-more at [] e n h = cc
position-more at (true ∷ es) e n h = position-more (at + 1) es e n h
position-more at (false ∷ es) e n h = h

later-one : (es : List Bool) (o : Option ℕ) → position_from not 1 es ≡ o → is_some o ≡ true
    → position_from not 1 (es ++ false ∷ []) ≡ o
later-one es None h some = cc
later-one es (Some n) h some = position-more 1 es false n h

-- one more line that acts
pub counts-acting : (first : StartMoments) (lines : List (Option Line)) (line : Option Line)
    (before old new : LineEffects)
    → IsKept first lines before → SameCounts before old
    → acts first.newest (moments_behind first lines) line ≡ true
    → KeepsMoments first
    (moments_behind first lines ++ said_behind first (moments_behind first lines) line) new
    → new.lines ≡ old.lines + 1 → new.without_effect ≡ old.without_effect
    → new.first_without ≡ old.first_without
    → IsKept first (lines ++ line ∷ []) new
counts-acting first lines line before old new kept same acting moments more without one =
    let es = effects first [] lines in
    let behind : effects first [] (lines ++ line ∷ []) ≡ es ++ true ∷ [] =
    effects-append first [] lines line ∙ ap (λ e. es ++ e ∷ []) acting in
    record {
      moments = subst (λ l. KeepsMoments first l new) (sym (moments_behind-more first lines line))
          moments;
      counted = more ∙ ap (λ n. n + 1) (same.lines ∙ kept.counted)
          ∙ sym (length-append lines (line ∷ []));
      without = without ∙ same.without ∙ kept.without
          ∙ sym (ap (count_by not) behind ∙ sum_by-append (λ e. cond (not e) 1 0) es (true ∷ [])
          ∙ add-zero (count_by not es));
      first_one = one ∙ same.first_one ∙ kept.first_one
          ∙ sym (ap (position_from not 1) behind ∙ position-yes 1 es);
    }

-- one more line that doesn't
pub counts-idle : (first : StartMoments) (lines : List (Option Line)) (line : Option Line)
    (before old new : LineEffects)
    → IsKept first lines before → SameCounts before old
    → acts first.newest (moments_behind first lines) line ≡ false
    → KeepsMoments first
    (moments_behind first lines ++ said_behind first (moments_behind first lines) line) new
    → new.lines ≡ old.lines + 1 → new.without_effect ≡ old.without_effect + 1
    → (position_from not 1 (effects first [] lines ++ false ∷ []) ≡ new.first_without)
    → IsKept first (lines ++ line ∷ []) new
counts-idle first lines line before old new kept same idle moments more without one =
    let es = effects first [] lines in
    let behind : effects first [] (lines ++ line ∷ []) ≡ es ++ false ∷ [] =
    effects-append first [] lines line ∙ ap (λ e. es ++ e ∷ []) idle in
    record {
      moments = subst (λ l. KeepsMoments first l new) (sym (moments_behind-more first lines line))
          moments;
      counted = more ∙ ap (λ n. n + 1) (same.lines ∙ kept.counted)
          ∙ sym (length-append lines (line ∷ []));
      without = without ∙ ap (λ n. n + 1) (same.without ∙ kept.without)
          ∙ sym (ap (count_by not) behind ∙ sum_by-append (λ e. cond (not e) 1 0) es (false ∷ []));
      first_one = sym (ap (position_from not 1) behind ∙ one);
    }

pub counts-on : (old mid new : LineEffects) → SameCounts old mid → SameCounts mid new
    → SameCounts old new
counts-on old mid new h k = record {
  lines = k.lines ∙ h.lines;
  without = k.without ∙ h.without;
  first_one = k.first_one ∙ h.first_one;
}

-- it is the first one
pub first-idle : (first : StartMoments) (lines : List (Option Line)) (before old : LineEffects)
    → IsKept first lines before → SameCounts before old → old.first_without ≡ None
    → position_from not 1 (effects first [] lines ++ false ∷ []) ≡ Some (old.lines + 1)
first-idle first lines before old kept same none =
    position-no 1 (effects first [] lines)
    (sym (same.first_one ∙ kept.first_one) ∙ none)
    ∙ ap (λ n. Some (n + 1)) (length-effects first [] lines ∙ sym (same.lines ∙ kept.counted))

-- it isn't
pub later-idle : (first : StartMoments) (lines : List (Option Line)) (before old : LineEffects)
    → IsKept first lines before → SameCounts before old → is_some old.first_without ≡ true
    → position_from not 1 (effects first [] lines ++ false ∷ []) ≡ old.first_without
later-idle first lines before old kept same some =
    later-one (effects first [] lines) old.first_without
    (sym (same.first_one ∙ kept.first_one)) some

pub none-is : (o : Option ℕ) → is_some o ≡ false → o ≡ None
none-is None h = refl
none-is (Some n) h = cc
