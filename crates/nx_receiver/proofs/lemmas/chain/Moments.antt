-- On no channel a moment of a run lies before the newest entry that was saved of it.
use Rattle.std.proofs.Common.{◌≡◌, inl, inr, ℕ, ◌≤◌, Bool, true, false, cond, List, [], ◌∷◌, ◌++◌}
use Rattle.std.proofs.Common.{length, get_or, Option, Some, None, refl, sym, subst, arith}
use Rattle.std.specs.List.{All}
use Rattle.std.specs.Prelude.{⊤, unwrap_or}
use Rattle.std.proofs.lemmas.Bool.{cases_lt}
use Rattle.std.proofs.lemmas.List.{get_or_past}
use Rattle.std.proofs.Math.Nat.{le-max_left, le-max_right}
use Rattle.std.proofs.lemmas.List.Elements.{All-append, All-cons, All-get_or, All-head, All-nil}
use Rattle.std.proofs.lemmas.List.Elements.{All-tail, All-weaker}
use Rattle.nx_memory.specs.Saved.{SavedStates, later_of}
use Rattle.nx_memory.specs.Memory.{newest_moment, newest_of}
use Rattle.nx_fec.specs.declared.air_files.channel.Channel.{Channel}
use Rattle.nx_fec.specs.declared.air_files.channel.Channel.TheVariants.{Zero, One, Two}
use Rattle.nx_fec.specs.air_files.AirFile.{Line, accept_station, accept_subject, elements, moment}
use Rattle.nx_fec.specs.air_files.AirFile.{refuse_station, refuse_subject}
use Rattle.nx_receiver.specs.air_file_runs.Chain.{GoesOn, Run, copies_in, events_in, start_in}
use Rattle.nx_copies.specs.Events.{Command, Event, Setting, at_moment, command, element}
use Rattle.nx_copies.specs.Events.{first_setting, setting_after, settings}
use Rattle.nx_copies.specs.copies.FoundCopies.{FoundCopy, TaggedCopy, tag, tagged_copies}
use Rattle.nx_receiver.specs.air_file_runs.Listen.{events_on, given_of, moment_after}
use Rattle.nx_receiver.specs.private.Taken.{AreTakenAfter, IsTakenAfter}
use Rattle.nx_receiver.proofs.lemmas.listening.Taken.{taken-each}
use Rattle.nx_copies.specs.Events as fed
use Rattle.nx_copies.specs.copies.Shares.{Starts, events_for, saved_of, starts_from}

-- from this moment on
abbrev IsFrom : ℕ → Event → Type 0
IsFrom m (at_moment n) = m ≤ n
IsFrom m (element bit) = ⊤
IsFrom m (command c) = ⊤

abbrev IsSetFrom : ℕ → Setting → Type 0
IsSetFrom m setting = m ≤ setting.moment

abbrev pub IsCopyFrom : ℕ → TaggedCopy → Type 0
IsCopyFrom m copy = m ≤ copy.moment

-- ---- what lines give

elements-from : (m : ℕ) (bits : List Bool) → All (IsFrom m) (fed.elements bits)
elements-from m [] = All-nil (IsFrom m)
elements-from m (bit ∷ bits) =
    All-cons (IsFrom m) (element bit) (fed.elements bits) tt (elements-from m bits)

one-from : (m : ℕ) (event : Event) → IsFrom m event → All (IsFrom m) (event ∷ [])
one-from m event h = All-cons (IsFrom m) event [] h (All-nil (IsFrom m))

-- what belongs to one channel alone, if it is this one
if-from : (m : ℕ) (b : Bool) (events : List Event) → All (IsFrom m) events
    → All (IsFrom m) (cond b events [])
if-from m true events h = h
if-from m false events h = All-nil (IsFrom m)

command-from : (m : ℕ) (b : Bool) (c : Command)
    → All (IsFrom m) (cond b (command c ∷ []) [])
command-from m b c = if-from m b (command c ∷ []) (one-from m (command c) tt)

line-from : (channel : Channel) (starts : Starts) (first : List Line) (line : Line)
    → starts.moment ≤ moment_after starts.moment first → IsTakenAfter starts first line
    → All (IsFrom starts.moment) (events_for channel (given_of line))
line-from channel starts first (moment n) low h =
    one-from starts.moment _ (omega (arith, low, h.0))
line-from channel starts first (elements mark bits) low h =
    if-from starts.moment _ _ (elements-from starts.moment bits)
line-from channel starts first (refuse_station mark letter) low h =
    command-from starts.moment _ (fed.refuse_station letter)
line-from channel starts first (accept_station mark letter) low h =
    command-from starts.moment _ (fed.accept_station letter)
line-from channel starts first (refuse_subject mark letter) low h =
    command-from starts.moment _ (fed.refuse_subject letter)
line-from channel starts first (accept_subject mark letter) low h =
    command-from starts.moment _ (fed.accept_subject letter)

-- the moment in force after more lines
pub after-more : (m : ℕ) (first lines : List Line)
    → moment_after m (first ++ lines) ≡ moment_after (moment_after m first) lines
after-more m [] lines = refl
after-more m (moment n ∷ first) lines = after-more n first lines
after-more m (elements mark bits ∷ first) lines = after-more m first lines
after-more m (refuse_station mark letter ∷ first) lines = after-more m first lines
after-more m (accept_station mark letter ∷ first) lines = after-more m first lines
after-more m (refuse_subject mark letter ∷ first) lines = after-more m first lines
after-more m (accept_subject mark letter ∷ first) lines = after-more m first lines

one-after : (starts : Starts) (first : List Line) (line : Line)
    → starts.moment ≤ moment_after starts.moment first → IsTakenAfter starts first line
    → starts.moment ≤ moment_after (moment_after starts.moment first) (line ∷ [])
one-after starts first (moment n) low h = omega (arith, low, h.0)
one-after starts first (elements mark bits) low h = low
one-after starts first (refuse_station mark letter) low h = low
one-after starts first (accept_station mark letter) low h = low
one-after starts first (refuse_subject mark letter) low h = low
one-after starts first (accept_subject mark letter) low h = low

lines-from : (channel : Channel) (starts : Starts) (first lines : List Line)
    → starts.moment ≤ moment_after starts.moment first → AreTakenAfter starts first lines
    → All (IsFrom starts.moment) (events_on channel lines)
unfolding AreTakenAfter
lines-from channel starts first [] low h = All-nil (IsFrom starts.moment)
lines-from channel starts first (line ∷ lines) low h =
    let next : starts.moment ≤ moment_after starts.moment (first ++ line ∷ []) =
    subst (λ m. starts.moment ≤ m) (sym (after-more starts.moment first (line ∷ [])))
    (one-after starts first line low h.0) in
    All-append (IsFrom starts.moment) (events_for channel (given_of line)) (events_on channel lines)
    (line-from channel starts first line low h.0)
    (lines-from channel starts (first ++ line ∷ []) lines next h.1)

-- ---- the copies in them

settings-from : (m : ℕ) (now : Setting) (events : List Event) → IsSetFrom m now
    → All (IsFrom m) events → All (IsSetFrom m) (settings now events)
unfolding settings
settings-from m now [] low all = All-nil (IsSetFrom m)
settings-from m now (at_moment n ∷ events) low all =
    settings-from m (setting_after now (at_moment n)) events
    (All-head (IsFrom m) (at_moment n) events all)
    (All-tail (IsFrom m) (at_moment n) events all)
settings-from m now (element bit ∷ events) low all =
    All-cons (IsSetFrom m) now (settings now events) low
    (settings-from m now events low (All-tail (IsFrom m) (element bit) events all))
settings-from m now (command c ∷ events) low all =
    settings-from m (setting_after now (command c)) events low
    (All-tail (IsFrom m) (command c) events all)

at-from : (m : ℕ) (xs : List Setting) (first : Setting) (place : ℕ) → IsSetFrom m first
    → All (IsSetFrom m) xs → IsSetFrom m (get_or xs place first)
at-from m xs first place low all =
    elim (cases_lt place (length xs)) [
      | inl within ↦ All-get_or (IsSetFrom m) xs place first within all
      | inr past ↦ subst (IsSetFrom m) (sym (get_or_past xs place first (omega (arith, past)))) low
    ]

tagged-from : (m : ℕ) (first : Setting) (events : List Event) (copies : List FoundCopy)
    → IsSetFrom m first → All (IsSetFrom m) (settings first events)
    → All (IsCopyFrom m) (tagged_copies first events copies)
unfolding tagged_copies tag
tagged-from m first events [] low all = All-nil (IsCopyFrom m)
tagged-from m first events (copy ∷ copies) low all =
    All-cons (IsCopyFrom m) _ _ (at-from m (settings first events) first copy.place low all)
    (tagged-from m first events copies low all)

-- ---- the moment at which all receivers of a run start

pub later-first : (one other : Option ℕ) → unwrap_or one 0 ≤ unwrap_or (later_of one other) 0
later-first None other = omega arith
later-first (Some m) None = omega arith
later-first (Some m) (Some n) = le-max_left m n

pub later-second : (one other : Option ℕ) → unwrap_or other 0 ≤ unwrap_or (later_of one other) 0
later-second None other = omega arith
later-second (Some m) None = omega arith
later-second (Some m) (Some n) = le-max_right m n

-- it isn't before the newest entry that was saved of any channel
pub newest-before : (saved : SavedStates) (channel : Channel)
    → newest_moment (saved_of saved channel).entries ≤ (starts_from saved).moment
newest-before saved Zero =
    later-first (newest_of saved.on_0.entries)
    (later_of (newest_of saved.on_1.entries) (newest_of saved.on_2.entries))
newest-before saved One =
    omega (
      arith,
      later-first (newest_of saved.on_1.entries) (newest_of saved.on_2.entries),
      later-second (newest_of saved.on_0.entries)
          (later_of (newest_of saved.on_1.entries) (newest_of saved.on_2.entries)),
    )
newest-before saved Two =
    omega (
      arith,
      later-second (newest_of saved.on_1.entries) (newest_of saved.on_2.entries),
      later-second (newest_of saved.on_0.entries)
          (later_of (newest_of saved.on_1.entries) (newest_of saved.on_2.entries)),
    )

-- no copy of a run on a channel is older than the newest entry that was saved of it
pub copies-from : (channel : Channel) (saved left : SavedStates) (run : Run)
    → GoesOn saved run left
    → All (IsCopyFrom (newest_moment (saved_of saved channel).entries)) (copies_in channel run)
copies-from channel saved left run g =
    let start = start_in channel run in
    let first = first_setting start in
    let events = events_in channel run in
    let from = newest_moment (saved_of saved channel).entries in
    let itself : start.moment ≤ start.moment = omega arith in
    let given = lines-from channel run.starts [] run.lines itself
    (taken-each run.starts run.lines g.heard.taken) in
    let all = tagged-from start.moment first events (run.found channel) itself
    (settings-from start.moment first events itself given) in
    let before : from ≤ start.moment =
    subst (λ (s : Starts). from ≤ s.moment) (sym g.begins) (newest-before saved channel) in
    All-weaker (IsCopyFrom start.moment) (IsCopyFrom from)
    (λ copy low. omega (arith, low, before)) (copies_in channel run) all
