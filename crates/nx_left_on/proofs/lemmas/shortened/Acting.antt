-- The lines that act on a watch whose first moment comes behind all that it remembers, whatever
-- that is.
use Rattle.std.proofs.Common.{◌≡◌, ℕ, ◌<◌, ◌≤◌, ◌&&◌, nat_le, max, Bool, true, false, not, cond, List, [], ◌∷◌, ◌++◌}
use Rattle.std.proofs.Common.{Option, Some, None, take, option_to_list, refl, sym, ap, ap₂, ◌∙◌, subst, arith}
use Rattle.std.specs.List.{All}
use Rattle.std.proofs.lemmas.Bool.{le-leb, leb-true}
use Rattle.std.proofs.lemmas.List.Elements.{All-head}
use Rattle.nx_envelope.specs.Moment.{last_moment}
use Rattle.nx_fec.specs.air_files.AirFile.{Line, accept_station, accept_subject, elements, moment}
use Rattle.nx_fec.specs.air_files.AirFile.{refuse_station, refuse_subject}
use Rattle.nx_fec.specs.air_files.Channels.{channel_of, same_channel}
use Rattle.nx_fec.specs.declared.air_files.channel.Channel.{Channel}
use Rattle.nx_memory.specs.Selection.{is_vital}
use Rattle.nx_copies.specs.Events as fed
use Rattle.nx_copies.specs.Events.{Event, at_moment, command, element}
use Rattle.nx_receiver.specs.air_file_runs.Listen.{events_on}
use Rattle.nx_watch.specs.Acting.{acting_behind, acting_lines, acts, in_force, moment_said}
use Rattle.nx_watch.specs.Acting.{moments_behind, moments_said, with_start}
use Rattle.nx_watch.specs.declared.lines.line_effects.StartMoments.{StartMoments}

-- the first of these moments, if there is one, isn't before this one
abbrev pub AreLate : ℕ → List ℕ → Type 0
AreLate floor moments = All (λ n. floor ≤ n) (take 1 moments)

pub late-head : (floor n : ℕ) (moments : List ℕ) → AreLate floor (n ∷ moments) → floor ≤ n
late-head floor n moments late = All-head (λ (n : ℕ). floor ≤ n) n [] late

-- ---- no element comes before the first moment

-- nor is that before this one
abbrev pub Begun : ℕ → List Event → Type 0
Begun floor [] = Unit {0}
Begun floor (at_moment n ∷ events) = floor ≤ n
Begun floor (element bit ∷ events) = ⊥
Begun floor (command c ∷ events) = Begun floor events

begun-command : (floor : ℕ) (b : Bool) (c : fed.Command) (events : List Event)
    → Begun floor events → Begun floor (cond b (command c ∷ []) [] ++ events)
begun-command floor true c events h = h
begun-command floor false c events h = h

-- a line that acts in front, if it does
begun-if : (floor : ℕ) (channel : Channel) (b : Bool) (line : Line) (lines : List Line)
    → Begun floor (events_on channel lines) → Begun floor (events_on channel (line ∷ lines))
    → Begun floor (events_on channel (cond b (line ∷ []) [] ++ lines))
begun-if floor channel true line lines h k = k
begun-if floor channel false line lines h k = h

-- the first moment that is said acts where it is in range and not before the newest one
pub first-acts : (first n : ℕ) (lines : List (Option Line)) → first ≤ n → n ≤ last_moment
    → acting_behind first [] (Some (moment n) ∷ lines)
    ≡ moment n ∷ acting_behind first (n ∷ []) lines
first-acts first n lines low high =
    ap₂ (λ a b. cond (a && b) (moment n ∷ [])
    [] ++ acting_behind first ([] ++ cond a (n ∷ []) []) lines)
    (le-leb n last_moment high) (le-leb first n low)

pub said-first : (n : ℕ) (lines : List (Option Line)) → n ≤ last_moment
    → moments_said (Some (moment n) ∷ lines) ≡ n ∷ moments_said lines
said-first n lines high =
    ap (λ b. cond b (n ∷ []) [] ++ moments_said lines) (le-leb n last_moment high)

-- one that isn't in range has no effect
first-idle : (first n : ℕ) (lines : List (Option Line)) → nat_le n last_moment ≡ false
    → acting_behind first [] (Some (moment n) ∷ lines) ≡ acting_behind first [] lines
first-idle first n lines out =
    ap (λ a. cond (a && nat_le first n) (moment n ∷ [])
    [] ++ acting_behind first ([] ++ cond a (n ∷ []) []) lines) out

pub unsaid-first : (n : ℕ) (lines : List (Option Line)) → nat_le n last_moment ≡ false
    → moments_said (Some (moment n) ∷ lines) ≡ moments_said lines
unsaid-first n lines out = ap (λ b. cond b (n ∷ []) [] ++ moments_said lines) out

pub in-range : (n : ℕ) → nat_le n last_moment ≡ true → n ≤ last_moment
in-range n h = leb-true n last_moment h

-- Two watches start at one moment. What the one remembers is newer than what the other does, or as
-- new; and it is older than this moment.
module _ (now one other floor : ℕ) (less : other ≤ one) (below : one < floor) where
  abbrev pub first : StartMoments
  first = record { newest = one; started = now }

  abbrev pub second : StartMoments
  second = record { newest = other; started = now }

  pub force-same : (n : ℕ) (moments : List ℕ) → floor ≤ n
      → in_force other (n ∷ moments) ≡ in_force one (n ∷ moments)
  force-same n moments late =
      let same : max other n ≡ max one n = omega arith in
      ap (λ (m : ℕ). in_force m moments) same

  pub acts-same : (n : ℕ) (moments : List ℕ) (line : Option Line) → floor ≤ n
      → acts other (n ∷ moments) line ≡ acts one (n ∷ moments) line
  acts-same n moments None late = refl
  acts-same n moments (Some (moment m)) late =
      ap (λ (force : ℕ). nat_le m last_moment && nat_le force m) (force-same n moments late)
  acts-same n moments (Some (elements mark bits)) late = refl
  acts-same n moments (Some (refuse_station mark letter)) late = refl
  acts-same n moments (Some (accept_station mark letter)) late = refl
  acts-same n moments (Some (refuse_subject mark letter)) late = refl
  acts-same n moments (Some (accept_subject mark letter)) late = refl

  behind-same : (n : ℕ) (moments : List ℕ) (lines : List (Option Line)) → floor ≤ n
      → acting_behind other (n ∷ moments) lines ≡ acting_behind one (n ∷ moments) lines
  behind-same n moments [] late = refl
  behind-same n moments (line ∷ lines) late =
      ap₂ (λ b rest. cond b (option_to_list line) [] ++ rest) (acts-same n moments line late)
      (behind-same n (moments ++ moment_said line) lines late)

  -- the first moment that is said acts on both
  said-same : (n : ℕ) (lines : List (Option Line)) → floor ≤ n → n ≤ last_moment
      → acting_behind other [] (Some (moment n) ∷ lines)
      ≡ acting_behind one [] (Some (moment n) ∷ lines)
  said-same n lines late high =
      first-acts other n lines (omega arith) high
      ∙ ap (λ rest. moment n ∷ rest) (behind-same n [] lines late)
      ∙ sym (first-acts one n lines (omega arith) high)

  -- behind none
  pub none-same : (lines : List (Option Line)) → AreLate floor (moments_said lines)
      → acting_behind other [] lines ≡ acting_behind one [] lines
  none-same [] late = refl
  none-same (None ∷ lines) late = none-same lines late
  none-same (Some (moment n) ∷ lines) late =
      elim (nat_le n last_moment) as (λ b. nat_le n last_moment ≡ b
      → acting_behind other [] (Some (moment n) ∷ lines)
      ≡ acting_behind one [] (Some (moment n) ∷ lines)) [
        | true ↦ λ is.
            said-same n lines
            (late-head floor n (moments_said lines)
            (subst (AreLate floor) (said-first n lines (in-range n is)) late)) (in-range n is)
        | false ↦ λ is.
            first-idle other n lines is
            ∙ none-same lines (subst (AreLate floor) (unsaid-first n lines is) late)
            ∙ sym (first-idle one n lines is)
      ] refl
  none-same (Some (elements mark bits) ∷ lines) late =
      ap (λ l. elements mark bits ∷ l) (none-same lines late)
  none-same (Some (refuse_station mark letter) ∷ lines) late =
      ap (λ l. refuse_station mark letter ∷ l) (none-same lines late)
  none-same (Some (accept_station mark letter) ∷ lines) late =
      ap (λ l. accept_station mark letter ∷ l) (none-same lines late)
  none-same (Some (refuse_subject mark letter) ∷ lines) late =
      ap (λ l. cond (not (is_vital letter)) (refuse_subject mark letter ∷ []) [] ++ l)
      (none-same lines late)
  none-same (Some (accept_subject mark letter) ∷ lines) late =
      ap (λ l. accept_subject mark letter ∷ l) (none-same lines late)

  -- the moment that is set is one
  module _ (high : max one now ≤ last_moment) where
    sets-same : (mark : Option Channel) (bits : List Bool) (lines : List (Option Line))
        → AreLate floor (moments_behind first (Some (elements mark bits) ∷ lines))
        → floor ≤ max one now
    sets-same mark bits lines late =
        late-head floor (max one now) (moments_said (Some (elements mark bits) ∷ lines))
        (subst (AreLate floor)
        (said-first (max one now) (Some (elements mark bits) ∷ lines) high) late)

    -- the same lines, with the same one set
    pub starts-same : (lines : List (Option Line)) → AreLate floor (moments_behind first lines)
        → with_start second lines ≡ with_start first lines
    starts-same [] late = refl
    starts-same (None ∷ lines) late = ap (λ l. None ∷ l) (starts-same lines late)
    starts-same (Some (moment n) ∷ lines) late =
        elim (nat_le n last_moment) as (λ b. nat_le n last_moment ≡ b
        → AreLate floor (moments_said (Some (moment n) ∷ cond b lines (with_start first lines)))
        → Some (moment n) ∷ cond b lines (with_start second lines)
        ≡ Some (moment n) ∷ cond b lines (with_start first lines)) [
          | true ↦ λ is late. refl
          | false ↦ λ is late.
              ap (λ l. Some (moment n) ∷ l)
              (starts-same lines
              (subst (AreLate floor) (unsaid-first n (with_start first lines) is) late))
        ] refl late
    starts-same (Some (elements mark bits) ∷ lines) late =
        let floor_is = sets-same mark bits lines late in
        let same : max other now ≡ max one now = omega arith in
        ap (λ (m : ℕ). Some (moment m) ∷ Some (elements mark bits) ∷ lines) same
    starts-same (Some (refuse_station mark letter) ∷ lines) late =
        ap (λ l. Some (refuse_station mark letter) ∷ l) (starts-same lines late)
    starts-same (Some (accept_station mark letter) ∷ lines) late =
        ap (λ l. Some (accept_station mark letter) ∷ l) (starts-same lines late)
    starts-same (Some (refuse_subject mark letter) ∷ lines) late =
        ap (λ l. Some (refuse_subject mark letter) ∷ l) (starts-same lines late)
    starts-same (Some (accept_subject mark letter) ∷ lines) late =
        ap (λ l. Some (accept_subject mark letter) ∷ l) (starts-same lines late)

    pub acting-same : (lines : List (Option Line)) → AreLate floor (moments_behind first lines)
        → acting_lines second lines ≡ acting_lines first lines
    acting-same lines late =
        ap (acting_behind other []) (starts-same lines late)
        ∙ none-same (with_start first lines) late

    -- and what they give begins so
    pub lines-begun : (channel : Channel) (lines : List (Option Line))
        → AreLate floor (moments_behind first lines)
        → Begun floor (events_on channel (acting_lines first lines))
    lines-begun channel [] late = tt
    lines-begun channel (None ∷ lines) late = lines-begun channel lines late
    lines-begun channel (Some (moment n) ∷ lines) late =
        elim (nat_le n last_moment) as (λ b. nat_le n last_moment ≡ b
        → AreLate floor (moments_said (Some (moment n) ∷ cond b lines (with_start first lines)))
        → Begun floor (events_on channel
        (acting_behind one [] (Some (moment n) ∷ cond b lines (with_start first lines))))) [
          | true ↦ λ is late.
              let here = late-head floor n (moments_said lines)
              (subst (AreLate floor) (said-first n lines (in-range n is)) late) in
              subst (λ those. Begun floor (events_on channel those))
              (sym (first-acts one n lines (omega arith) (in-range n is))) here
          | false ↦ λ is late.
              subst (λ those. Begun floor (events_on channel those))
              (sym (first-idle one n (with_start first lines) is))
              (lines-begun channel lines
              (subst (AreLate floor) (unsaid-first n (with_start first lines) is) late))
        ] refl late
    lines-begun channel (Some (elements mark bits) ∷ lines) late =
        let n = max one now in
        let here = sets-same mark bits lines late in
        subst (λ those. Begun floor (events_on channel those))
        (sym (first-acts one n (Some (elements mark bits) ∷ lines) (omega arith) high)) here
    lines-begun channel (Some (refuse_station mark letter) ∷ lines) late =
        begun-command floor (same_channel (channel_of mark) channel) (fed.refuse_station letter)
        (events_on channel (acting_lines first lines)) (lines-begun channel lines late)
    lines-begun channel (Some (accept_station mark letter) ∷ lines) late =
        begun-command floor (same_channel (channel_of mark) channel) (fed.accept_station letter)
        (events_on channel (acting_lines first lines)) (lines-begun channel lines late)
    lines-begun channel (Some (refuse_subject mark letter) ∷ lines) late =
        let rest = lines-begun channel lines late in
        begun-if floor channel (not (is_vital letter)) (refuse_subject mark letter)
        (acting_lines first lines) rest
        (begun-command floor (same_channel (channel_of mark) channel) (fed.refuse_subject letter)
        (events_on channel (acting_lines first lines)) rest)
    lines-begun channel (Some (accept_subject mark letter) ∷ lines) late =
        begun-command floor (same_channel (channel_of mark) channel) (fed.accept_subject letter)
        (events_on channel (acting_lines first lines)) (lines-begun channel lines late)
