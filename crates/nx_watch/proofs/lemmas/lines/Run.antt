-- A run over the lines of any bytes.
use Rattle.std.proofs.Common.{◌≡◌, ◌+◌, ℕ, ◌≤◌, ◌<◌, Bool, true, false, not, cond, ◌&&◌, List, Result, Ok}
use Rattle.std.proofs.Common.{[], ◌∷◌, ◌++◌, map, take, drop, Option, Some, None, max}
use Rattle.std.proofs.Common.{option_to_list, nat_le, refl, sym, ap, ◌∙◌, subst, append_assoc}
use Rattle.std.proofs.Common.{append-nil, arith, Err, inl, ap₂}
use Rattle.std.specs.Prelude.{MatchResult}
use Rattle.std.specs.Io.KnownBytes.{Appends}
use Rattle.std.proofs.lemmas.Bool.{and_from, and_parts, and_right, le-leb, leb-false, leb-true}
use Rattle.std.proofs.lemmas.Bool.Decides.{nat_tests}
use Rattle.std.proofs.lemmas.List.{map-append, take-append-drop}
use Rattle.std.proofs.lemmas.List.Concat.{flat_map-append}
use Rattle.nx_envelope.specs.Moment.{last_moment}
use Rattle.nx_fec.specs.air_files.AirFile.{Line, moment, elements, refuse_station, accept_station}
use Rattle.nx_fec.specs.air_files.AirFile.{refuse_subject, accept_subject}
use Rattle.nx_fec.specs.declared.air_files.channel.Channel.{Channel}
use Rattle.nx_memory.specs.Memory.{seconds_known}
use Rattle.nx_receiver.specs.Moments.{Refuses}
use Rattle.nx_receiver.specs.ChannelReceiver.{ReceiverKind}
use Rattle.nx_receiver.specs.Listener.{starts_by}
use Rattle.nx_receiver.specs.declared.fault.MomentFault.{MomentFault}
use Rattle.nx_receiver.specs.declared.fault.MomentFault.TheVariants as MomentFaults
use Rattle.nx_receiver.specs.declared.fault.MomentFault.TheVariants.{Range}
use Rattle.nx_memory.specs.Selection.{is_vital}
use Rattle.nx_watch.specs.Acting.{acting_behind, acting_lines, acts, ends_watch, given, goes_on}
use Rattle.nx_watch.specs.Acting.{goes_on_behind, in_force, is_far_back, moment_said, moments_behind}
use Rattle.nx_watch.specs.Acting.{moments_said, went_far_back, with_start}
use Rattle.nx_watch.specs.declared.lines.line_effects.StartMoments.{StartMoments}
use Rattle.nx_watch.specs.AnyLines.{AreLines, cut_line}
use Rattle.nx_watch.specs.LineRun.{HasTold}
use Rattle.nx_watch.specs.private.LineRun.{AnswersRun, AreCounted, HasTaken, MayAct, RunOverLines}
use Rattle.nx_watch.specs.private.LineRun.{TakerRelation, force_behind}
use Rattle.nx_fec.specs.Transfers.{CountedDevice}
use Rattle.nx_kept.specs.declared.disk.DiskFile.{Ghosts as TellsOfDisk}
use Rattle.nx_watch.specs.LinesTold.{IsFirstTold, IsReason}
use Rattle.nx_watch.specs.declared.lines.no_effect.NoEffect.TheVariants.{GoesBack}
use Rattle.nx_watch.specs.declared.lines.refusal.Refusal.{Refusal}
use Rattle.nx_watch.specs.declared.lines.refusal.Refusal.TheVariants as refusal
use Rattle.nx_watch.specs.declared.lines.line_effects.LinesWatched.{LinesWatched}
use Rattle.nx_watch.specs.declared.line_run.WatchEnd.{WatchEnd}
use Rattle.nx_watch.specs.declared.line_run.WatchEnd.TheVariants.{Read, Back, Write}
use Rattle.nx_watch.specs.private.Effects.{IsAnswer, IsKept, KeepsMoments, acting_and_set, set_by, sets}
use Rattle.nx_watch.specs.declared.lines.line_effects.LineEffects.{LineEffects}
use Rattle.nx_watch.specs.declared.line_run.LineRun.{LineRun}
use Rattle.nx_watch.specs.private.Running.{EndsInput, HasToldLines, IsRunning, TellsFirst, ToldBefore, ToldBeside, beside}
use Rattle.nx_watch.specs.private.Scanning.{IsScanning}
use Rattle.nx_watch.specs.private.LoggingListener.{KeepsLines, LoggingOver, TakesLines, logging_to}
use Rattle.nx_watch.proofs.lemmas.lines.Acting.{idle-unset}
use Rattle.nx_watch.proofs.lemmas.lines.Starting.{is-setting, set-before, set_line, unset-behind}

-- ---- one more line

goes_on-append : (first : ℕ) (moments : List ℕ) (lines : List (Option Line)) (line : Option Line)
    → goes_on_behind first moments lines ≡ true
    → ends_watch first (moments ++ moments_said lines) line ≡ false
    → goes_on_behind first moments (lines ++ line ∷ []) ≡ true
goes_on-append first moments [] line on stays =
    and_from _ _ (ap not (ap (λ m. ends_watch first m line) (sym (append-nil moments)) ∙ stays))
    refl
goes_on-append first moments (l ∷ lines) line on stays =
    let parts = and_parts (not (ends_watch first moments l))
    (goes_on_behind first (moments ++ moment_said l) lines) on in
    and_from _ _ parts.0 (goes_on-append first (moments ++ moment_said l) lines line parts.1
    (ap (λ m. ends_watch first m line) (append_assoc moments (moment_said l) (moments_said lines))
    ∙ stays))

acting-append : (first : ℕ) (moments : List ℕ) (lines : List (Option Line)) (line : Option Line)
    → acting_behind first moments (lines ++ line ∷ [])
    ≡ acting_behind first moments lines
    ++ cond (acts first (moments ++ moments_said lines) line) (option_to_list line) []
acting-append first moments [] line =
    append-nil (cond (acts first moments line) (option_to_list line) [])
    ∙ ap (λ m. cond (acts first m line) (option_to_list line) []) (sym (append-nil moments))
acting-append first moments (l ∷ lines) line =
    let head = cond (acts first moments l) (option_to_list l) [] in
    let rest = acting_behind first (moments ++ moment_said l) lines in
    ap (λ k. head ++ k) (acting-append first (moments ++ moment_said l) lines line
    ∙ ap (λ m. rest ++ cond (acts first m line) (option_to_list line) [])
    (append_assoc moments (moment_said l) (moments_said lines)))
    ∙ sym (append_assoc head rest
    (cond (acts first (moments ++ moments_said (l ∷ lines)) line) (option_to_list line) []))

-- a line that says a moment out of range changes nothing
skipped-acting : (first : ℕ) (moments : List ℕ) (front back : List (Option Line)) (n : ℕ)
    → nat_le n last_moment ≡ false
    → acting_behind first moments (front ++ Some (moment n) ∷ back)
    ≡ acting_behind first moments (front ++ back)
skipped-acting first moments [] back n out =
    ap (λ b. cond (b && nat_le (in_force first moments) n) (moment n ∷ []) []
    ++ acting_behind first (moments ++ cond b (n ∷ []) []) back) out
    ∙ ap (λ m. acting_behind first m back) (append-nil moments)
skipped-acting first moments (line ∷ front) back n out =
    ap (λ l. cond (acts first moments line) (option_to_list line) [] ++ l)
    (skipped-acting first (moments ++ moment_said line) front back n out)

skipped-on : (first : ℕ) (moments : List ℕ) (front back : List (Option Line)) (n : ℕ)
    → nat_le n last_moment ≡ false
    → goes_on_behind first moments (front ++ Some (moment n) ∷ back)
    ≡ goes_on_behind first moments (front ++ back)
skipped-on first moments [] back n out =
    ap (λ b. not (b && is_far_back first moments n && went_far_back first moments)
    && goes_on_behind first (moments ++ cond b (n ∷ []) []) back) out
    ∙ ap (λ m. goes_on_behind first m back) (append-nil moments)
skipped-on first moments (line ∷ front) back n out =
    ap (λ b. not (ends_watch first moments line) && b)
    (skipped-on first (moments ++ moment_said line) front back n out)

-- one more line, behind which no moment is set
acting-unset : (first : StartMoments) (lines : List (Option Line)) (line : Option Line)
    → sets first (moments_behind first lines) line ≡ false
    → acting_lines first (lines ++ line ∷ [])
    ≡ acting_lines first lines
    ++ cond (acts first.newest (moments_behind first lines) line) (option_to_list line) []
acting-unset first lines line unset =
    unset-behind (acting_behind first.newest []) first lines line unset
    (λ out. skipped-acting first.newest [] (with_start first lines) (line ∷ []) (given first) out)
    ∙ acting-append first.newest [] (with_start first lines) line

on-unset : (first : StartMoments) (lines : List (Option Line)) (line : Option Line)
    → sets first (moments_behind first lines) line ≡ false → goes_on first lines ≡ true
    → ends_watch first.newest (moments_behind first lines) line ≡ false
    → goes_on first (lines ++ line ∷ []) ≡ true
on-unset first lines line unset on stays =
    unset-behind (goes_on_behind first.newest []) first lines line unset
    (λ out. skipped-on first.newest [] (with_start first lines) (line ∷ []) (given first) out)
    ∙ goes_on-append first.newest [] (with_start first lines) line on stays

-- the moment that is set acts
set-acts : (first : StartMoments) (lines : List (Option Line)) (line : Option Line)
    → sets first (moments_behind first lines) line ≡ true
    → acts first.newest (moments_behind first lines) (set_line first) ≡ true
set-acts first lines line h =
    let s = is-setting first (moments_behind first lines) line h in
    let low : first.newest ≤ given first = omega arith in
    ap (λ m. acts first.newest m (set_line first)) s.first
    ∙ and_from _ _ s.in_range (le-leb first.newest (given first) low)

-- one more line, before which it is set
acting-set : (first : StartMoments) (lines : List (Option Line)) (line : Line)
    → sets first (moments_behind first lines) (Some line) ≡ true
    → acting_lines first (lines ++ Some line ∷ [])
    ≡ (acting_lines first lines ++ moment (given first) ∷ []) ++ line ∷ []
acting-set first lines line h =
    let whole = with_start first lines in
    let s = is-setting first (moments_behind first lines) (Some line) h in
    let behind = moments_said (whole ++ set_line first ∷ []) in
    let acting : acts first.newest behind (Some line) ≡ true = ap (acts first.newest behind) s.is in
    ap (acting_behind first.newest []) (set-before first lines (Some line) h
    ∙ sym (append_assoc whole (set_line first ∷ []) (Some line ∷ [])))
    ∙ acting-append first.newest [] (whole ++ set_line first ∷ []) (Some line)
    ∙ ap (λ b. acting_behind first.newest [] (whole ++ set_line first ∷ [])
    ++ cond b (line ∷ []) []) acting
    ∙ ap (λ l. l ++ line ∷ []) (acting-append first.newest [] whole (set_line first)
    ∙ ap (λ b. acting_lines first lines ++ cond b (moment (given first) ∷ []) [])
    (set-acts first lines (Some line) h))

on-set : (first : StartMoments) (lines : List (Option Line)) (line : Option Line)
    → sets first (moments_behind first lines) line ≡ true → goes_on first lines ≡ true
    → goes_on first (lines ++ line ∷ []) ≡ true
on-set first lines line h on =
    let whole = with_start first lines in
    let s = is-setting first (moments_behind first lines) line h in
    let quiet : ends_watch first.newest (moments_behind first lines) (set_line first) ≡ false =
    ap (λ m. ends_watch first.newest m (set_line first)) s.first ∙ and_right _ _ refl in
    let stays : ends_watch first.newest (moments_said (whole ++ set_line first ∷ [])) line ≡ false =
    ap (ends_watch first.newest (moments_said (whole ++ set_line first ∷ []))) s.is in
    ap (goes_on_behind first.newest []) (set-before first lines line h
    ∙ sym (append_assoc whole (set_line first ∷ []) (line ∷ [])))
    ∙ goes_on-append first.newest [] (whole ++ set_line first ∷ []) line
    (goes_on-append first.newest [] whole (set_line first) on quiet) stays

-- one more line, which sets a moment before it acts or doesn't
pub acting-one : (first : StartMoments) (lines : List (Option Line)) (line : Line)
    → acting_lines first (lines ++ Some line ∷ [])
    ≡ acting_and_set first lines line
    ++ cond (acts first.newest (moments_behind first lines) (Some line)) (line ∷ []) []
acting-one first lines line =
    elim (sets first (moments_behind first lines) (Some line)) as (λ b.
    sets first (moments_behind first lines) (Some line) ≡ b
    → acting_lines first (lines ++ Some line ∷ [])
    ≡ (acting_lines first lines ++ map moment (cond b (given first ∷ []) []))
    ++ cond (acts first.newest (moments_behind first lines) (Some line)) (line ∷ []) []) [
      | true ↦ λ h.
          acting-set first lines line h
          ∙ ap (λ b. (acting_lines first lines ++ moment (given first) ∷ [])
          ++ cond b (line ∷ []) [])
          (sym (ap (acts first.newest (moments_behind first lines))
          (is-setting first (moments_behind first lines) (Some line) h).is))
      | false ↦ λ h.
          acting-unset first lines (Some line) h
          ∙ ap (λ l. l ++ cond (acts first.newest (moments_behind first lines) (Some line))
          (line ∷ []) []) (sym (append-nil (acting_lines first lines)))
    ] refl

-- the run goes on behind a line that doesn't end it
pub on-one : (first : StartMoments) (lines : List (Option Line)) (line : Option Line)
    → goes_on first lines ≡ true
    → ends_watch first.newest (moments_behind first lines) line ≡ false
    → goes_on first (lines ++ line ∷ []) ≡ true
on-one first lines line on stays =
    elim (sets first (moments_behind first lines) line) as (λ b.
    sets first (moments_behind first lines) line ≡ b
    → goes_on first (lines ++ line ∷ []) ≡ true) [
      | true ↦ λ h. on-set first lines line h on
      | false ↦ λ h. on-unset first lines line h on stays
    ] refl

pub taken-idle : {T : Type 0} (stands : TakerRelation T) (start now : T) (first : StartMoments)
    (lines : List (Option Line)) (line : Option Line)
    → HasTaken stands start now first lines
    → acts first.newest (moments_behind first lines) line ≡ false
    → ends_watch first.newest (moments_behind first lines) line ≡ false
    → HasTaken stands start now first (lines ++ line ∷ [])
taken-idle stands start now first lines line taken idle stays =
    let unset = idle-unset first (moments_behind first lines) line idle in
    record {
      on = on-unset first lines line unset taken.on stays;
      stood = subst (stands start now) (sym (acting-unset first lines line unset
          ∙ ap (λ b. acting_lines first lines ++ cond b (option_to_list line) []) idle
          ∙ append-nil (acting_lines first lines))) taken.stood;
    }

-- ---- a line that acts may act behind those that acted

pub in_force-append : (first : ℕ) (a b : List ℕ)
    → in_force first (a ++ b) ≡ in_force (in_force first a) b
in_force-append first [] b = refl
in_force-append first (n ∷ a) b = in_force-append (max first n) a b

acted-none : (b : Bool) (line : Line) → moment_said (Some line) ≡ []
    → moments_said (map Some (cond b (line ∷ []) [])) ≡ []
acted-none true line none = append-nil (moment_said (Some line)) ∙ none
acted-none false line none = refl

-- by what is tested of a moment
force-moment : (force n : ℕ) (range later : Bool)
    → nat_le n last_moment ≡ range → nat_le force n ≡ later
    → in_force force (moments_said (map Some (cond (range && later) (moment n ∷ []) [])))
    ≡ in_force force (cond range (n ∷ []) [])
force-moment force n true true in_range not_back =
    ap (λ b. in_force force (cond b (n ∷ []) [] ++ [])) in_range
force-moment force n true false in_range back =
    let less : n < force = leb-false force n back in omega arith
force-moment force n false later in_range not_back = refl

force-line : (force : ℕ) (first : ℕ) (moments : List ℕ) (line : Option Line)
    → force ≡ in_force first moments
    → in_force force (moments_said (map Some
    (cond (acts first moments line) (option_to_list line) [])))
    ≡ in_force force (moment_said line)
force-line force first moments None is = refl
force-line force first moments (Some (moment n)) is =
    subst (λ f. in_force force (moments_said (map Some
    (cond (nat_le n last_moment && nat_le f n) (moment n ∷ []) [])))
    ≡ in_force force (moment_said (Some (moment n)))) is
    (force-moment force n (nat_le n last_moment) (nat_le force n) refl refl)
force-line force first moments (Some (elements mark bits)) is =
    ap (in_force force) (acted-none (acts first moments (Some (elements mark bits)))
    (elements mark bits) refl)
force-line force first moments (Some (refuse_station mark letter)) is = refl
force-line force first moments (Some (accept_station mark letter)) is = refl
force-line force first moments (Some (refuse_subject mark letter)) is =
    ap (in_force force) (acted-none (not (is_vital letter)) (refuse_subject mark letter) refl)
force-line force first moments (Some (accept_subject mark letter)) is = refl

force-said : (first : ℕ) (moments : List ℕ) (lines : List (Option Line))
    → in_force (in_force first moments)
    (moments_said (map Some (acting_behind first moments lines)))
    ≡ in_force (in_force first moments) (moments_said lines)
force-said first moments [] = refl
force-said first moments (line ∷ lines) =
    let force = in_force first moments in
    let head = cond (acts first moments line) (option_to_list line) [] in
    let next = moments ++ moment_said line in
    let rest = acting_behind first next lines in
    let after : in_force force (moment_said line) ≡ in_force first next =
    sym (in_force-append first moments (moment_said line)) in
    ap (λ l. in_force force (moments_said l)) (map-append Some head rest)
    ∙ ap (in_force force) (flat_map-append moment_said (map Some head) (map Some rest))
    ∙ in_force-append force (moments_said (map Some head)) (moments_said (map Some rest))
    ∙ ap (λ f. in_force f (moments_said (map Some rest)))
    (force-line force first moments line refl ∙ after)
    ∙ force-said first next lines
    ∙ ap (λ f. in_force f (moments_said lines)) (sym after)
    ∙ sym (in_force-append force (moment_said line) (moments_said lines))

pub may-act : (first : ℕ) (lines : List (Option Line)) (line : Line)
    → acts first (moments_said lines) (Some line) ≡ true
    → MayAct first (acting_behind first [] lines) line
may-act first lines (moment n) h =
    let parts = and_parts (nat_le n last_moment) (nat_le (in_force first (moments_said lines)) n) h
    in (
      subst (λ f. f ≤ n) (sym (force-said first [] lines))
          (leb-true (in_force first (moments_said lines)) n parts.1),
      leb-true n last_moment parts.0,
    )
may-act first lines (elements mark bits) h = tt
may-act first lines (refuse_station mark letter) h = tt
may-act first lines (accept_station mark letter) h = tt
may-act first lines (refuse_subject mark letter) h = not-true (is_vital letter) h
  where
    not-true : (b : Bool) → not b ≡ true → b ≡ false
    not-true true k = cc
    not-true false k = refl
may-act first lines (accept_subject mark letter) h = tt

-- the moment in force behind the lines that acted is that behind all
pub force-acting : (first : StartMoments) (lines : List (Option Line))
    → force_behind first.newest (acting_lines first lines)
    ≡ in_force first.newest (moments_behind first lines)
force-acting first lines = force-said first.newest [] (with_start first lines)

-- what is answered to elements doesn't depend on it
answer-elements : (force other : ℕ) (mark : Option Channel) (bits : List Bool)
    (answer : Result (Unit {0}) Refusal) → IsAnswer force (elements mark bits) answer
    → IsAnswer other (elements mark bits) answer
answer-elements force other mark bits (Ok taken) h = h
answer-elements force other mark bits (Err (refusal.Moment fault)) h =
    let no : elements mark bits ≡ moment h.0 = h.1 in cc
answer-elements force other mark bits (Err refusal.Vital) h = h

-- what the receivers answer to one more line is what they answer behind all lines
pub answer-behind : (first : StartMoments) (lines : List (Option Line)) (line : Line)
    (answer : Result (Unit {0}) Refusal)
    → IsAnswer (force_behind first.newest (acting_and_set first lines line)) line answer
    → IsAnswer (in_force first.newest (moments_behind first lines)) line answer
answer-behind first lines line answer =
    elim (sets first (moments_behind first lines) (Some line)) as (λ b.
    sets first (moments_behind first lines) (Some line) ≡ b
    → IsAnswer (force_behind first.newest
    (acting_lines first lines ++ map moment (cond b (given first ∷ []) []))) line answer
    → IsAnswer (in_force first.newest (moments_behind first lines)) line answer) [
      | true ↦ λ h a.
          let s = is-setting first (moments_behind first lines) (Some line) h in
          let same : line ≡ elements s.mark s.bits = some-same s.is in
          subst (λ l. IsAnswer (in_force first.newest (moments_behind first lines)) l answer)
          (sym same) (answer-elements _ _ s.mark s.bits answer
          (subst (λ l. IsAnswer (force_behind first.newest
          (acting_lines first lines ++ moment (given first) ∷ [])) l answer) same a))
      | false ↦ λ h a.
          subst (λ force. IsAnswer force line answer)
          (ap (force_behind first.newest) (append-nil (acting_lines first lines))
          ∙ force-acting first lines) a
    ] refl
  where
    some-same : {a b : Line} → Some a ≡ Some b → a ≡ b
    some-same e = cc

-- elements come first, and the receivers answer to the moment of the start, by which it is kept or
-- not whether it was set
pub start-answered : {D C : Type 0} (kind : ReceiverKind C) (disk : TellsOfDisk D)
    (start old new : LoggingOver D C)
    (first : StartMoments) (lines : List (Option Line)) (line : Line) (mark : Option Channel)
    (bits : List Bool) (bytes : List ℕ) (n : ℕ) (now : LineEffects)
    (answer : Result (Unit {0}) MomentFault)
    → n ≡ given first → moments_behind first lines ≡ [] → line ≡ elements mark bits
    → (starts_by kind start.listener).moment ≡ first.newest
    → MatchResult answer (λ _. KeepsMoments first (n ∷ []) now) (λ _. KeepsMoments first [] now)
    → MatchResult answer
    (λ _. MayAct (starts_by kind start.listener).moment (acting_lines first lines) (moment n)
    × KeepsLines kind disk start new (acting_lines first lines ++ moment n ∷ []) bytes)
    (λ fault. Refuses (force_behind (starts_by kind start.listener).moment
    (acting_lines first lines)) n
    fault × (new ≡ old))
    → KeepsLines kind disk start old (acting_lines first lines) bytes
    → KeepsMoments first
    (moments_behind first lines ++ set_by first (moments_behind first lines) line) now
    × KeepsLines kind disk start new (acting_and_set first lines line) bytes
start-answered kind disk start old new first lines line mark bits bytes n now answer is none same
    force =
    so answer
  where
    behind : List ℕ
    behind = moments_behind first lines

    setting : sets first behind (Some line) ≡ nat_le (given first) last_moment
    setting = ap₂ (λ m l. sets first m (Some l)) none same

    by : (b : Bool) → nat_le (given first) last_moment ≡ b
        → set_by first behind line ≡ cond b (given first ∷ []) []
    by b e = ap (λ b. cond b (given first ∷ []) []) (setting ∙ e)

    not-set : set_by first behind line ≡ [] → KeepsMoments first [] now → new ≡ old
        → KeepsLines kind disk start old (acting_lines first lines) bytes
        → KeepsMoments first (behind ++ set_by first behind line) now
        × KeepsLines kind disk start new (acting_and_set first lines line) bytes
    not-set e k unchanged s = (
      subst (λ l. KeepsMoments first l now) (sym (ap₂ (λ a b. a ++ b) none e)) k,
      subst (λ l. KeepsLines kind disk start l (acting_and_set first lines line) bytes)
          (sym unchanged)
          (subst (λ l. KeepsLines kind disk start old l bytes)
          (sym (ap (λ m. acting_lines first lines ++ map moment m) e
          ∙ append-nil (acting_lines first lines))) s),
    )

    so : (answer : Result (Unit {0}) MomentFault)
        → MatchResult answer (λ _. KeepsMoments first (n ∷ []) now) (λ _. KeepsMoments first [] now)
        → MatchResult answer
        (λ _. MayAct (starts_by kind start.listener).moment (acting_lines first lines) (moment n)
        × KeepsLines kind disk start new (acting_lines first lines ++ moment n ∷ []) bytes)
        (λ fault. Refuses (force_behind (starts_by kind start.listener).moment
        (acting_lines first lines)) n fault × (new ≡ old))
        → KeepsLines kind disk start old (acting_lines first lines) bytes
        → KeepsMoments first (behind ++ set_by first behind line) now
        × KeepsLines kind disk start new (acting_and_set first lines line) bytes
    so (Ok set) k a s =
        let in_range : given first ≤ last_moment = omega (arith, is, a.0.1) in
        let e : set_by first behind line ≡ n ∷ [] =
        by true (le-leb (given first) last_moment in_range) ∙ ap (λ m. m ∷ []) (sym is) in (
          subst (λ l. KeepsMoments first l now) (sym (ap₂ (λ a b. a ++ b) none e)) k,
          subst (λ m. KeepsLines kind disk start new (acting_lines first lines ++ map moment m)
              bytes)
              (sym e) a.1,
        )
    so (Err (Range at)) k a s =
        let past : last_moment < given first = omega (arith, is, a.0.1) in
        let out : nat_le (given first) last_moment ≡ false = grind (arith, nat_tests) in
        not-set (by false out) k a.1 s
    so (Err (MomentFaults.Back from at)) k a s =
        let now : force_behind (starts_by kind start.listener).moment (acting_lines first lines)
        ≡ first.newest =
        ap (λ m. force_behind m (acting_lines first lines)) force ∙ force-acting first lines
        ∙ ap (in_force first.newest) none in
        absurd (omega (arith, now, a.0.3, is))

-- the moment of the line that ends the watch is in range, so that it goes back
pub ends-reason : (first : ℕ) (moments : List ℕ) (line : Option Line) (n : ℕ)
    → line ≡ Some (moment n) → ends_watch first moments line ≡ true
    → (bytes : List ℕ) (before : List (Option Line)) → IsReason bytes before line GoesBack
ends-reason first moments line n is ends bytes before =
    let said = subst (λ l. ends_watch first moments l ≡ true) is ends in
    let range = (and_parts (nat_le n last_moment) (is_far_back first moments n)
    (and_parts (nat_le n last_moment && is_far_back first moments n) (went_far_back first moments)
    said).0).0 in
    subst (λ l. IsReason bytes before l GoesBack) (sym is) (leb-true n last_moment range)

-- ---- what a scanner's latest line is

-- ---- a run behind more bytes

pub whole-behind : (bytes piece more front tail : List ℕ) (count : ℕ)
    → bytes ++ take count piece ≡ front ++ tail
    → (bytes ++ piece) ++ more ≡ front ++ (tail ++ (drop count piece ++ more))
whole-behind bytes piece more front tail count h =
    ap (λ l. (bytes ++ l) ++ more) (sym (take-append-drop count piece))
    ∙ ap (λ l. l ++ more) (sym (append_assoc bytes (take count piece) (drop count piece)))
    ∙ append_assoc (bytes ++ take count piece) (drop count piece) more
    ∙ ap (λ l. l ++ (drop count piece ++ more)) h
    ∙ append_assoc front tail (drop count piece ++ more)

-- the input ended, with or without a line that it cuts
pub ends-input : (first : StartMoments) (bytes : List ℕ) (lines more : List (Option Line))
    (old : ToldBeside) (new : Option (List ℕ)) (failures : ℕ) (counts : LinesWatched)
    (rest : List ℕ)
    → AreLines bytes lines rest → cut_line rest ≡ more → AreCounted first (lines ++ more) counts
    → HasToldLines old new failures first bytes (lines ++ more)
    → EndsInput first bytes lines old new failures counts
ends-input first bytes lines more old new failures counts rest are cut counted told = record {
  rest = rest;
  are = are;
  counted = subst (λ l. AreCounted first (lines ++ l) counts) (sym cut) counted;
  told = subst (λ l. HasToldLines old new failures first bytes (lines ++ l)) (sym cut) told;
}

-- what is told at an end before that of the input
pub answers-told : {T : Type 0} (before : RunOverLines T) (AtEnd : Type 0)
    (after : List (Option Line) → Type 0) (end : WatchEnd) (bytes : List ℕ)
    → ((lines : List (Option Line)) → before.tells lines → after lines)
    → AnswersRun before (Err end) bytes
    → AnswersRun (record before { AtEnd = AtEnd; tells = after }) (Err end) bytes
answers-told before AtEnd after Read bytes step h = (h.0, h.1, h.2, h.3, step h.0 h.4)
answers-told before AtEnd after (Back line last given) bytes step h =
    (h.0, h.1, h.2, h.3, h.4, h.5, step (h.0 ++ Some (moment given) ∷ []) h.6)
answers-told before AtEnd after Write bytes step h =
    (h.0, h.1, h.2, h.3, step (h.0 ++ Some h.1 ∷ []) h.4)

-- a run of which more was told
pub running-told : {T : Type 0} (stands : TakerRelation T) (start now : T) (first : StartMoments)
    (run : LineRun) (old told : ToldBeside) (new : Option (List ℕ)) (failures : ℕ)
    (after : Option (List ℕ)) (failures_after : ℕ) (bytes : List ℕ)
    → ((bytes : List ℕ) (lines : List (Option Line))
    → TellsFirst first run.effects old new failures bytes lines
    → TellsFirst first run.effects told after failures_after bytes lines)
    → Unit {0} → IsRunning stands start now first run old new failures bytes
    → IsRunning stands start now first run told after failures_after bytes
running-told stands start now first run old told new failures after failures_after bytes step v h =
    record {
      lines = h.lines;
      scans = h.scans;
      taken = h.taken;
      tells = λ more. step (bytes ++ more) h.lines (h.tells more);
    }

-- whatever a run answers, some lines were told of
pub tells-some : {T : Type 0} (r : RunOverLines T) (answer : Result LinesWatched WatchEnd)
    (bytes : List ℕ) → AnswersRun r answer bytes → (lines : List (Option Line)) × r.tells lines
tells-some r (Ok counts) bytes h = (h.1 ++ cut_line h.2, h.6)
tells-some r (Err Read) bytes h = (h.0, h.4)
tells-some r (Err (Back line last given)) bytes h = (h.0 ++ Some (moment given) ∷ [], h.6)
tells-some r (Err Write) bytes h = (h.0 ++ Some h.1 ∷ [], h.4)

pub nothing : (contents : Option (List ℕ)) → Appends contents contents []
nothing None = tt
nothing (Some bytes) = sym (append-nil bytes)

-- the receivers and a writer before the first line
pub none-taken : {D C W : Type 0} (kind : ReceiverKind C) (disk : TellsOfDisk D)
    (contents : W → Option (List ℕ)) (start now : LoggingOver D C) (writer : CountedDevice W)
    → KeepsLines kind disk start now [] [] → writer.failures ≡ 0
    → TakesLines kind disk contents (logging_to start writer) (logging_to now writer) []
none-taken kind disk contents start now writer stood none = (
  [],
  stood,
  record {
    written = inl (none, nothing (contents writer.inner));
    uncalled = λ e. refl;
  },
)

-- a run before its first line
pub run-starts : {T : Type 0} (stands : TakerRelation T) (start now : T) (first : StartMoments)
    (run : LineRun) (old : ToldBefore) (new : Option (List ℕ)) (failures : ℕ)
    → IsScanning run.lines.scanner [] [] → IsKept first [] run.effects → stands start now []
    → HasTold old.old new failures old.text
    → IsRunning stands start now first run (beside old) new failures []
run-starts stands start now first run old new failures scans kept stood told = record {
  lines = [];
  scans = scans;
  taken = record { on = refl; stood = stood };
  tells = λ more. record {
    kept_so = kept;
    one = [];
    is = subst (λ o. IsFirstTold more [] o []) (sym kept.first_one) refl;
    told = subst (HasTold old.old new failures) (sym (append-nil (old.text ++ [])
        ∙ append-nil old.text)) told;
    none = λ none. refl;
  };
}

-- ---- the lines of a run, with a cut one and with the one that ends the watch

pub acting-cut : (first : StartMoments) (lines : List (Option Line)) (rest : List ℕ)
    → acting_lines first (lines ++ cut_line rest) ≡ acting_lines first lines
acting-cut first lines [] = ap (acting_lines first) (append-nil lines)
acting-cut first lines (byte ∷ rest) =
    acting-unset first lines None refl ∙ append-nil (acting_lines first lines)

pub acting-idle : (first : StartMoments) (lines : List (Option Line)) (line : Line)
    → acts first.newest (moments_behind first lines) (Some line) ≡ false
    → acting_lines first (lines ++ Some line ∷ []) ≡ acting_lines first lines
acting-idle first lines line idle =
    acting-unset first lines (Some line)
    (idle-unset first (moments_behind first lines) (Some line) idle)
    ∙ ap (λ b. acting_lines first lines ++ cond b (line ∷ []) []) idle
    ∙ append-nil (acting_lines first lines)

-- the line that ends the watch doesn't act
pub ends-idle : (first : ℕ) (moments : List ℕ) (n : ℕ)
    → ends_watch first moments (Some (moment n)) ≡ true
    → acts first moments (Some (moment n)) ≡ false
ends-idle first moments n ends =
    let far = (and_parts (nat_le n last_moment) (is_far_back first moments n)
    (and_parts (nat_le n last_moment && is_far_back first moments n) (went_far_back first moments)
    ends).0).1 in
    let back : n + seconds_known ≤ in_force first moments =
    leb-true (n + seconds_known) (in_force first moments) far in
    idle (nat_le n last_moment) (nat_le (in_force first moments) n) refl back
  where
    none : (a : Bool) → (a && false) ≡ false
    none true = refl
    none false = refl

    idle : (a b : Bool) → nat_le (in_force first moments) n ≡ b
        → n + seconds_known ≤ in_force first moments → (a && b) ≡ false
    idle a true e back =
        let later : in_force first moments ≤ n = leb-true (in_force first moments) n e in
        absurd (omega arith)
    idle a false e back = none a
