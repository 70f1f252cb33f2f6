-- The moments of the copies of a watch never fall.
use Rattle.std.proofs.Common.{◌≡◌, ℕ, zero, suc, ◌<◌, ◌≤◌, Bool, true, false, cond, List, [], ◌∷◌, ◌++◌}
use Rattle.std.proofs.Common.{length, get_or, Some, max, map, refl, ap, ◌∙◌, subst, arith}
use Rattle.std.specs.List.{All}
use Rattle.std.proofs.lemmas.Bool.{le-leb}
use Rattle.std.proofs.lemmas.List.Elements.{All-cons, All-head, All-nil, All-tail}
use Rattle.nx_envelope.specs.Moment.{last_moment}
use Rattle.nx_fec.specs.air_files.AirFile.{Line, accept_station, accept_subject, elements, moment}
use Rattle.nx_fec.specs.air_files.AirFile.{refuse_station, refuse_subject}
use Rattle.nx_fec.specs.air_files.Channels.{channel_of, same_channel}
use Rattle.nx_fec.specs.declared.air_files.channel.Channel.{Channel}
use Rattle.nx_copies.specs.Events as fed
use Rattle.nx_copies.specs.Events.{Event, Setting, at_moment, command, element, elements_among}
use Rattle.nx_copies.specs.Events.{setting_after, setting_at, settings}
use Rattle.nx_copies.specs.copies.FoundCopies.{FoundCopy, TaggedCopy, tag, tagged_copies}
use Rattle.nx_receiver.specs.air_file_runs.Listen.{events_on}
use Rattle.nx_copies.proofs.lemmas.once.Rising.{Above, Rises}
use Rattle.nx_copies.proofs.lemmas.printing.Logged.{length-settings}
use Rattle.nx_watch.specs.Acting.{in_force, moments_said}
use Rattle.nx_watch.specs.private.LineRun.{MayAct, force_behind}

-- ---- what lines give

-- the moments of events never fall, from this one on
abbrev pub Rise : ℕ → List Event → Type 0
Rise m [] = Unit {0}
Rise m (at_moment n ∷ events) = (m ≤ n) × Rise n events
Rise m (element bit ∷ events) = Rise m events
Rise m (command c ∷ events) = Rise m events

rise-elements : (m : ℕ) (bits : List Bool) (rest : List Event) → Rise m rest
    → Rise m (fed.elements bits ++ rest)
rise-elements m [] rest h = h
rise-elements m (bit ∷ bits) rest h = rise-elements m bits rest h

-- what belongs to one channel alone, if it is this one
rise-if : (m : ℕ) (b : Bool) (events rest : List Event) → Rise m rest → Rise m (events ++ rest)
    → Rise m (cond b events [] ++ rest)
rise-if m true events rest h k = k
rise-if m false events rest h k = h

-- whether a line may act is told by the moment in force
acts-same : (first other : ℕ) (before those : List Line) (line : Line)
    → force_behind first before ≡ force_behind other those → MayAct first before line
    → MayAct other those line
acts-same first other before those (moment n) e h =
    (subst (λ (force : ℕ). force ≤ n) e h.0, h.1)
acts-same first other before those (elements mark bits) e h = h
acts-same first other before those (refuse_station mark letter) e h = h
acts-same first other before those (accept_station mark letter) e h = h
acts-same first other before those (refuse_subject mark letter) e h = h
acts-same first other before those (accept_subject mark letter) e h = h

-- each of these lines may act behind those before it
abbrev pub Act : ℕ → List Line → Type 0
Act first lines =
    (before after : List Line) (line : Line) → lines ≡ before ++ line ∷ after
    → MayAct first before line

acts-behind : (first next : ℕ) (head : Line) (lines : List Line)
    → ((before : List Line) → force_behind first (head ∷ before) ≡ force_behind next before)
    → Act first (head ∷ lines) → Act next lines
acts-behind first next head lines same act before after line e =
    acts-same first next (head ∷ before) before line (same before)
    (act (head ∷ before) after line (ap (λ those. head ∷ those) e))

force-next : (first n : ℕ) (before : List Line) → first ≤ n → n ≤ last_moment
    → force_behind first (moment n ∷ before) ≡ force_behind n before
force-next first n before low high =
    let rest = moments_said (map Some before) in
    let greater : max first n ≡ n = omega arith in
    ap (λ b. in_force first (cond b (n ∷ []) [] ++ rest)) (le-leb n last_moment high)
    ∙ ap (λ (force : ℕ). in_force force rest) greater

pub lines-rise : (channel : Channel) (first : ℕ) (lines : List Line) → Act first lines
    → Rise first (events_on channel lines)
lines-rise channel first [] act = tt
lines-rise channel first (moment n ∷ lines) act =
    let here = act [] lines (moment n) refl in (
      here.0,
      lines-rise channel n lines
          (acts-behind first n (moment n) lines
          (λ before. force-next first n before here.0 here.1) act),
    )
lines-rise channel first (elements mark bits ∷ lines) act =
    let rest = lines-rise channel first lines
    (acts-behind first first (elements mark bits) lines (λ before. refl) act) in
    rise-if first (same_channel (channel_of mark) channel) (map element bits)
    (events_on channel lines) rest (rise-elements first bits (events_on channel lines) rest)
lines-rise channel first (refuse_station mark letter ∷ lines) act =
    let rest = lines-rise channel first lines
    (acts-behind first first (refuse_station mark letter) lines (λ before. refl) act) in
    rise-if first (same_channel (channel_of mark) channel)
    (command (fed.refuse_station letter) ∷ []) (events_on channel lines) rest rest
lines-rise channel first (accept_station mark letter ∷ lines) act =
    let rest = lines-rise channel first lines
    (acts-behind first first (accept_station mark letter) lines (λ before. refl) act) in
    rise-if first (same_channel (channel_of mark) channel)
    (command (fed.accept_station letter) ∷ []) (events_on channel lines) rest rest
lines-rise channel first (refuse_subject mark letter ∷ lines) act =
    let rest = lines-rise channel first lines
    (acts-behind first first (refuse_subject mark letter) lines (λ before. refl) act) in
    rise-if first (same_channel (channel_of mark) channel)
    (command (fed.refuse_subject letter) ∷ []) (events_on channel lines) rest rest
lines-rise channel first (accept_subject mark letter ∷ lines) act =
    let rest = lines-rise channel first lines
    (acts-behind first first (accept_subject mark letter) lines (λ before. refl) act) in
    rise-if first (same_channel (channel_of mark) channel)
    (command (fed.accept_subject letter) ∷ []) (events_on channel lines) rest rest

-- ---- what is in force

-- the moment in force at an element, by the list of what is
abbrev moment_in : List Setting → ℕ → Setting → ℕ
moment_in xs place first = (get_or xs place first).moment

settings-low : (now first : Setting) (events : List Event) (place : ℕ) → Rise now.moment events
    → place < length (settings now events)
    → now.moment ≤ moment_in (settings now events) place first
unfolding settings
settings-low now first [] place rise lt = absurd (omega arith)
settings-low now first (at_moment n ∷ events) place rise lt =
    omega (
      arith,
      rise.0,
      settings-low (setting_after now (at_moment n)) first events place rise.1 lt,
    )
settings-low now first (element bit ∷ events) zero rise lt = omega arith
settings-low now first (element bit ∷ events) (suc place) rise lt =
    settings-low now first events place rise (omega arith)
settings-low now first (command c ∷ events) place rise lt =
    settings-low (setting_after now (command c)) first events place rise lt

settings-rise : (now first : Setting) (events : List Event) (one other : ℕ)
    → Rise now.moment events → one ≤ other → other < length (settings now events)
    → moment_in (settings now events) one first ≤ moment_in (settings now events) other first
unfolding settings
settings-rise now first [] one other rise le lt = absurd (omega arith)
settings-rise now first (at_moment n ∷ events) one other rise le lt =
    settings-rise (setting_after now (at_moment n)) first events one other rise.1 le lt
settings-rise now first (element bit ∷ events) zero zero rise le lt = omega arith
settings-rise now first (element bit ∷ events) zero (suc other) rise le lt =
    settings-low now first events other rise (omega arith)
settings-rise now first (element bit ∷ events) (suc one) zero rise le lt = absurd (omega arith)
settings-rise now first (element bit ∷ events) (suc one) (suc other) rise le lt =
    settings-rise now first events one other rise (omega arith) (omega arith)
settings-rise now first (command c ∷ events) one other rise le lt =
    settings-rise (setting_after now (command c)) first events one other rise le lt

-- ---- the copies

-- no copy has a moment before this one, or before that of one in front of it
abbrev pub Climbs : ℕ → List TaggedCopy → Type 0
Climbs m [] = Unit {0}
Climbs m (copy ∷ copies) = (m ≤ copy.moment) × Climbs copy.moment copies

pub climbs-front : (m : ℕ) (front back : List TaggedCopy) → Climbs m (front ++ back)
    → Climbs m front
climbs-front m [] back h = tt
climbs-front m (copy ∷ front) back h = (h.0, climbs-front copy.moment front back h.1)

-- a copy stands at an element
abbrev pub IsWithin : List Event → FoundCopy → Type 0
IsWithin events copy = copy.place < length (elements_among events)

module _ (first : Setting) (events : List Event) (rise : Rise first.moment events) where
  abbrev at : ℕ → ℕ
  at place = (setting_at first events place).moment

  within : (place : ℕ) → place < length (elements_among events)
      → place < length (settings first events)
  within place lt = omega (arith, lt, length-settings first events)

  later-all : (place : ℕ) (copies : List FoundCopy)
      → Above (λ (c : FoundCopy). c.place) place copies → All (IsWithin events) copies
      → All (λ copy. at place ≤ at copy.place) copies
  later-all place [] above all = All-nil (λ (copy : FoundCopy). at place ≤ at copy.place)
  later-all place (copy ∷ copies) above all =
      All-cons (λ (it : FoundCopy). at place ≤ at it.place) copy copies
      (settings-rise first first events place copy.place rise (omega (arith, above.0))
      (within copy.place (All-head (IsWithin events) copy copies all)))
      (later-all place copies above.1 (All-tail (IsWithin events) copy copies all))

  climb-from : (m : ℕ) (copies : List FoundCopy) → All (λ copy. m ≤ at copy.place) copies
      → Rises (λ (c : FoundCopy). c.place) copies → All (IsWithin events) copies
      → Climbs m (tagged_copies first events copies)
  unfolding tagged_copies tag
  climb-from m [] low rises all = tt
  climb-from m (copy ∷ copies) low rises all = (
    All-head (λ (it : FoundCopy). m ≤ at it.place) copy copies low,
    climb-from (at copy.place) copies
        (later-all copy.place copies rises.0 (All-tail (IsWithin events) copy copies all)) rises.1
        (All-tail (IsWithin events) copy copies all),
  )

  low-all : (copies : List FoundCopy) → All (IsWithin events) copies
      → All (λ copy. first.moment ≤ at copy.place) copies
  low-all [] all = All-nil (λ (copy : FoundCopy). first.moment ≤ at copy.place)
  low-all (copy ∷ copies) all =
      All-cons (λ (it : FoundCopy). first.moment ≤ at it.place) copy copies
      (settings-low first first events copy.place rise
      (within copy.place (All-head (IsWithin events) copy copies all)))
      (low-all copies (All-tail (IsWithin events) copy copies all))

  pub copies-climb : (copies : List FoundCopy) → Rises (λ (c : FoundCopy). c.place) copies
      → All (IsWithin events) copies → Climbs first.moment (tagged_copies first events copies)
  copies-climb copies rises all =
      climb-from first.moment copies (low-all copies all) rises all
