-- What opening and setting a moment answer.
use Rattle.std.proofs.Common.{◌≡◌, ◌<◌, ◌≤◌, inl, inr, ℕ, zero, suc, true, List, [], length, map, slice_get, Some, arith, refl, sym, ap, ◌∙◌, subst}
use Rattle.std.proofs.lemmas.Bool.{cases_lt}
use Rattle.std.proofs.lemmas.Grind.{common_steps}
use Rattle.nx_fec.specs.declared.air_files.channel.Channel.TheVariants.{Zero, One, Two}
use Rattle.nx_envelope.specs.Moment.{last_moment}
use Rattle.nx_copies.specs.Events.{Setting, none_refused, setting_after_all}
use Rattle.nx_copies.specs.copies.Shares.{Given, MarkedCopy, Starts, all_at_zero}
use Rattle.nx_receiver.specs.Listener.{moment_in_force}
use Rattle.nx_receiver.specs.Moments.{Refuses}
use Rattle.nx_receiver.specs.declared.fault.MomentFault.{MomentFault}
use Rattle.nx_receiver.specs.declared.fault.MomentFault.TheVariants.{Back, Range}
use Rattle.nx_handle.specs.Life.{HasHeard}
use Rattle.nx_handle.specs.Opening.{AnswersMoment, AnswersOpening, moment_status, opening_status}
use Rattle.nx_handle.specs.PlaceKinds.{IsPlaceKind, PlaceKind, start_with}
use Rattle.nx_handle.specs.Places.{all_closed, all_hear}
use Rattle.nx_handle.specs.Receivers.{one_on}
use Rattle.nx_handle.specs.Status.{number_of}
use Rattle.nx_handle.specs.private.Moments.{MomentsTaken, RefusesNext}
use Rattle.nx_handle.specs.private.Opening.{HaveBegun, ShutSame, moment_told}
use Rattle.nx_handle.proofs.lemmas.Heard.{moment-in}
use Rattle.nx_handle.proofs.lemmas.Moments.{moments-shut}
use Rattle.nx_handle.proofs.lemmas.New.{all-new, room-stays}
use Rattle.nx_handle.proofs.lemmas.Places.{closed-again, long-kept, room-kept, rooms-same, same-list, some-is, there, within}
use Rattle.nx_handle.proofs.lemmas.Status.{moment-done, moment-not-done, moment-refused}

-- ---- opening

-- no moment is before the first one
first-moment : (moment answer : ℕ) → answer ≡ number_of (moment_status 0 moment)
    → answer ≡ number_of (opening_status true moment)
first-moment moment answer e = grind (arith, common_steps)

-- what has begun at moment 0 has it in force
begun-moment : {P : Type 0} (kind : PlaceKind P) → IsPlaceKind kind → (places : List P)
    → HaveBegun kind places (start_with [] 0 none_refused) → (k : ℕ) (place : P)
    → slice_get places k ≡ Some place → (kind.start_of place).moment ≡ 0
unfolding setting_after_all
begun-moment kind laws places begun k place e =
    let b = begun k place e in
    ap (λ (setting : Setting). setting.moment)
    ((laws.receiver (kind.families place)).in_force (start_with [] 0 none_refused) place [] []
    b.stands)

pub opens : {P : Type 0} (kind : PlaceKind P) → IsPlaceKind kind → (moment : ℕ)
    (old begun new : List P) → all_closed kind old ≡ true → 0 < length old
    → HaveBegun kind begun (start_with [] 0 none_refused) → ShutSame kind old begun
    → MomentsTaken kind moment begun new (length begun) → AnswersOpening kind moment old new 0
opens kind laws moment old begun new closed some h same m =
    let keeps = room-kept kind laws old begun same in
    let long = long-kept kind old begun same in
    let first = there begun 0 (omega (arith, some, long)) in
    let taken = (m.taken 0 (omega (arith, some, long)) first.0 first.1).2 in
    record {
      cause = subst (λ o. 0 ≡ number_of (opening_status o moment)) (sym closed)
          (first-moment moment 0 (moment-done 0 moment (omega arith) taken.in_range));
      done = λ _ held room. moment-in kind laws held all_at_zero begun new [] [] moment m
          (all-new kind laws held begun (omega (arith, some, long))
          (room-stays kind held old begun keeps room) h);
      refused = λ no. absurd (no refl);
      channels = m.channels ∙ long;
      rooms = room-kept kind laws old new
          (moments-shut kind moment begun new (length begun) m ∙ same);
    }

pub opens-not : {P : Type 0} (kind : PlaceKind P) → IsPlaceKind kind → (moment answer : ℕ)
    (old begun mid end : List P) (fault : MomentFault) → all_closed kind old ≡ true
    → HaveBegun kind begun (start_with [] 0 none_refused) → ShutSame kind old begun
    → RefusesNext kind moment begun mid fault → answer ≡ number_of (moment_told fault)
    → end ≡ map kind.shut mid → AnswersOpening kind moment old end answer
opens-not kind laws moment answer old begun mid end fault closed h same r told shut =
    let mids = moments-shut kind moment begun mid r.count r.taken ∙ same in
    let is : end ≡ old = closed-again kind laws old mid end closed mids shut in
    record {
      cause = subst (λ o. answer ≡ number_of (opening_status o moment)) (sym closed)
          (first-moment moment answer (told ∙ ap number_of (moment-refused 0 moment fault
          (subst (λ n. Refuses n moment fault)
          (begun-moment kind laws begun h r.count r.place r.next) r.refuses))));
      done = λ e. absurd (moment-not-done fault (sym told ∙ e));
      refused = λ _. is;
      channels = ap length is;
      rooms = rooms-same kind is;
    }

-- ---- a moment

-- all channels have the moment in force
in-force : {P : Type 0} (kind : PlaceKind P) (held : ℕ) (starts : Starts) (places : List P)
    (given : List Given) (copies : List MarkedCopy) → length places ≤ 3
    → HasHeard kind held starts places given copies → (k : ℕ) (r : P)
    → slice_get places k ≡ Some r
    → (kind.start_of r).moment ≡ moment_in_force starts.moment given
in-force {P} kind held starts places given copies few h zero r e =
    ap (λ (x : P). (kind.start_of x).moment)
    (some-is (sym e ∙ h.hears Zero (within places 0 r e))) ∙ h.heard.moments Zero
in-force {P} kind held starts places given copies few h (suc zero) r e =
    ap (λ (x : P). (kind.start_of x).moment)
    (some-is (sym e ∙ h.hears One (within places 1 r e))) ∙ h.heard.moments One
in-force {P} kind held starts places given copies few h (suc (suc zero)) r e =
    ap (λ (x : P). (kind.start_of x).moment)
    (some-is (sym e ∙ h.hears Two (within places 2 r e))) ∙ h.heard.moments Two
in-force {P} kind held starts places given copies few h (suc (suc (suc k))) r e =
    absurd (omega (arith, few, within places (suc (suc (suc k))) r e))

pub moment-done-in : {P : Type 0} (kind : PlaceKind P) → IsPlaceKind kind → (moment : ℕ)
    (old new : List P) → 0 < length old → length old ≤ 3 → all_hear kind old ≡ true
    → MomentsTaken kind moment old new (length old)
    → AnswersMoment kind moment old new 0 (all_hear kind old)
moment-done-in kind laws moment old new some few hear m =
    subst (λ b. AnswersMoment kind moment old new 0 b) (sym hear)
    (λ held starts given copies h.
    let t = (m.taken 0 some (one_on h.listener Zero) (h.hears Zero some)).2 in record {
      cause = moment-done (moment_in_force starts.moment given) moment
          (subst (λ n. n ≤ moment) (h.heard.moments Zero) t.not_back) t.in_range;
      done = λ e. moment-in kind laws held starts old new given copies moment m h;
      refused = λ no. absurd (no refl);
      channels = m.channels;
      rooms = room-kept kind laws old new (moments-shut kind moment old new (length old) m);
    })

-- what one channel took no other refuses
refuses-none : (moment now : ℕ) (fault : MomentFault) → now ≤ moment → moment ≤ last_moment
    → Refuses now moment fault → ⊥
refuses-none moment now (Range at) le within h = omega (arith, le, within, h.1)
refuses-none moment now (Back from at) le within h = omega (arith, le, within, h.3)

-- the first channel refused it, so each is as it was
pub refused-first : {P : Type 0} (kind : PlaceKind P) (held : ℕ) (starts : Starts)
    (given : List Given) (copies : List MarkedCopy) (moment : ℕ) (old new : List P)
    (fault : MomentFault) → 0 < length old → length old ≤ 3
    → RefusesNext kind moment old new fault → HasHeard kind held starts old given copies
    → new ≡ old
refused-first kind held starts given copies moment old new fault some few r h =
    elim (cases_lt 0 r.count) [
      | inl lt ↦
          let t = (r.taken.taken 0 lt (one_on h.listener Zero) (h.hears Zero some)).2 in
          absurd (refuses-none moment (moment_in_force starts.moment given) fault
          (subst (λ n. n ≤ moment) (h.heard.moments Zero) t.not_back) t.in_range
          (subst (λ n. Refuses n moment fault)
          (in-force kind held starts old given copies few h r.count r.place r.next) r.refuses))
      | inr le ↦ same-list new old (λ k. r.taken.others k (omega (arith, le)))
    ]

pub moment-refused-in : {P : Type 0} (kind : PlaceKind P) → IsPlaceKind kind
    → (moment answer : ℕ) (old new : List P) (fault : MomentFault) → 0 < length old
    → length old ≤ 3 → all_hear kind old ≡ true → RefusesNext kind moment old new fault
    → answer ≡ number_of (moment_told fault)
    → AnswersMoment kind moment old new answer (all_hear kind old)
moment-refused-in kind laws moment answer old new fault some few hear r told =
    subst (λ b. AnswersMoment kind moment old new answer b) (sym hear)
    (λ held starts given copies h. record {
      cause = told ∙ ap number_of
          (moment-refused (moment_in_force starts.moment given) moment fault
          (subst (λ n. Refuses n moment fault)
          (in-force kind held starts old given copies few h r.count r.place r.next) r.refuses));
      done = λ e. absurd (moment-not-done fault (sym told ∙ e));
      refused = λ _. refused-first kind held starts given copies moment old new fault some few r
          h;
      channels = r.taken.channels;
      rooms = room-kept kind laws old new (moments-shut kind moment old new r.count r.taken);
    })
