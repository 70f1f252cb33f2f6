-- What is in force at each element of events that begin late.
use Rattle.std.proofs.Common.{◌≡◌, ℕ, ◌<◌, ◌≤◌, List, [], ◌∷◌, ◌++◌, length, get_or, take}
use Rattle.std.proofs.Common.{refl, sym, ap, ap₂, ◌∙◌, subst, arith}
use Rattle.std.specs.List.{All}
use Rattle.std.proofs.Math.Seq.{take-append_seam}
use Rattle.std.proofs.lemmas.List.{get_or_default}
use Rattle.std.proofs.lemmas.List.Elements.{All-cons, All-head, All-nil, All-tail}
use Rattle.nx_memory.specs.Selection.{Refused}
use Rattle.nx_copies.specs.Events.{Event, Setting, at_moment, command, element}
use Rattle.nx_copies.specs.Events.{refused_after, setting_after, setting_after_all, setting_at, settings}
use Rattle.nx_copies.specs.copies.FoundCopies.{FoundCopy, TaggedCopy, tag, tagged_copies}
use Rattle.nx_copies.proofs.lemmas.printing.Logged.{length-settings, settings-append}
use Rattle.nx_left_on.proofs.lemmas.entries.Climbing.{IsWithin, Rise}
use Rattle.nx_left_on.proofs.lemmas.shortened.Acting.{Begun}
use Rattle.nx_copies.proofs.lemmas.printing.Laws.{all-front}

abbrev IsLate : ℕ → Setting → Type 0
IsLate floor setting = floor ≤ setting.moment

-- From both settings the same is in force at each element, and from this moment on.
pub record AreHeard (floor : ℕ) (one other : Setting) (events : List Event) : Type 0 where
  pub same : settings other events ≡ settings one events
  pub late : All (IsLate floor) (settings one events)

-- where the moments never fall from a late one on, all are late
pub all-late : (floor : ℕ) (now : Setting) (events : List Event) → floor ≤ now.moment
    → Rise now.moment events → All (IsLate floor) (settings now events)
unfolding settings
all-late floor now [] late rise = All-nil (IsLate floor)
all-late floor now (at_moment n ∷ events) late rise =
    all-late floor (setting_after now (at_moment n)) events (omega (arith, late, rise.0)) rise.1
all-late floor now (element bit ∷ events) late rise =
    All-cons (IsLate floor) now (settings now events) late (all-late floor now events late rise)
all-late floor now (command c ∷ events) late rise =
    all-late floor (setting_after now (command c)) events late rise

-- behind the first moment nothing else is told of what was before
pub begun-heard : (floor : ℕ) (one other : Setting) (events : List Event)
    → other.refused ≡ one.refused → Begun floor events → Rise one.moment events
    → AreHeard floor one other events
unfolding settings
begun-heard floor one other [] e begun rise =
    record { same = refl; late = All-nil (IsLate floor) }
begun-heard floor one other (at_moment n ∷ events) e begun rise =
    let now : Refused → Setting = λ refused. record { moment = n; refused = refused } in
    record {
      same = ap (λ r. settings (now r) events) e;
      late = all-late floor (now one.refused) events begun rise.1;
    }
begun-heard floor one other (element bit ∷ events) e begun rise = absurd begun
begun-heard floor one other (command c ∷ events) e begun rise =
    let rest = begun-heard floor (setting_after one (command c)) (setting_after other (command c))
    events (ap (λ r. refused_after r c) e) begun rise in
    record { same = rest.same; late = rest.late }

-- a beginning of them
pub heard-front : (floor : ℕ) (one other : Setting) (front back : List Event)
    → AreHeard floor one other (front ++ back) → AreHeard floor one other front
heard-front floor one other front back h =
    let ours = settings one front in
    let theirs = settings other front in
    let behind = settings (setting_after_all one front) back in
    let beyond = settings (setting_after_all other front) back in
    let long : length theirs ≡ length ours =
    length-settings other front ∙ sym (length-settings one front) in
    let whole : theirs ++ beyond ≡ ours ++ behind =
    sym (settings-append other front back) ∙ h.same ∙ settings-append one front back in
    record {
      same = sym (take-append_seam theirs beyond)
          ∙ ap (λ (n : ℕ). take n (theirs ++ beyond)) long
          ∙ ap (λ l. take (length ours) l) whole
          ∙ take-append_seam ours behind;
      late = all-front (IsLate floor) ours behind
          (subst (All (IsLate floor)) (settings-append one front back) h.late);
    }

-- ---- the copies that are found there

-- The copies bear the same from both, and moments from this one on.
pub record AreTagged (floor : ℕ) (one other : Setting) (events : List Event)
    (copies : List FoundCopy) : Type 0 where
  pub same : tagged_copies other events copies ≡ tagged_copies one events copies
  pub late : All (λ (copy : TaggedCopy). floor ≤ copy.moment) (tagged_copies one events copies)

module _ (floor : ℕ) (one other : Setting) (events : List Event)
    (h : AreHeard floor one other events) where
  setting-same : (copy : FoundCopy) → IsWithin events copy
      → setting_at other events copy.place ≡ setting_at one events copy.place
  setting-same copy within =
      let there : copy.place < length (settings one events) =
      omega (arith, within, length-settings one events) in
      ap (λ those. get_or those copy.place other) h.same
      ∙ get_or_default (settings one events) copy.place other one there

  setting-late : (copy : FoundCopy) → IsWithin events copy
      → floor ≤ (setting_at one events copy.place).moment
  setting-late copy within =
      h.late copy.place one (omega (arith, within, length-settings one events))

  pub tagged : (copies : List FoundCopy) → All (IsWithin events) copies
      → AreTagged floor one other events copies
  unfolding tagged_copies tag
  tagged [] within =
      record { same = refl; late = All-nil (λ (copy : TaggedCopy). floor ≤ copy.moment) }
  tagged (copy ∷ copies) within =
      let here = All-head (IsWithin events) copy copies within in
      let rest = tagged copies (All-tail (IsWithin events) copy copies within) in
      record {
        same = ap₂ (λ setting those. tag setting copy ∷ those) (setting-same copy here) rest.same;
        late = All-cons (λ (copy : TaggedCopy). floor ≤ copy.moment)
            (tag (setting_at one events copy.place) copy) (tagged_copies one events copies)
            (setting-late copy here) rest.late;
      }
