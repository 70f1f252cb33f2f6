-- The receivers of a watch take lines, and their entries are kept.
use Rattle.std.proofs.Common.{◌≡◌, ℕ, ◌≤◌, Bool, true, false, cond, List, [], ◌∷◌, ◌++◌}
use Rattle.std.proofs.Common.{map, max, Option, Some, Result, Ok, Err, refl, sym, ◌∙◌, ap, subst, arith}
use Rattle.std.proofs.Common.{append-nil}
use Rattle.std.specs.Prelude.{MatchResult}
use Rattle.std.specs.List.{All, AllZip, concat}
use Rattle.std.proofs.lemmas.List.{map-append}
use Rattle.std.proofs.lemmas.List.Concat.{flat_map-append}
use Rattle.std.proofs.lemmas.List.Elements.{All-nil, All-cons, All-head, All-tail, All-append}
use Rattle.nx_envelope.specs.Moment.{last_moment}
use Rattle.nx_fec.specs.air_files.AirFile.{Line, moment, elements, refuse_station, accept_station}
use Rattle.nx_fec.specs.air_files.AirFile.{refuse_subject, accept_subject}
use Rattle.nx_fec.specs.air_files.Channels.{channel_of, same_channel}
use Rattle.nx_fec.specs.Transfers.{CountedDevice}
use Rattle.nx_fec.specs.declared.air_files.channel.Channel.{Channel}
use Rattle.nx_kept.specs.declared.disk.DiskFile.{Ghosts as TellsOfDisk}
use Rattle.nx_log.specs.Entries.{IsWholeEntry}
use Rattle.nx_log.specs.Logged.{IsLogged, IsLoggedAs}
use Rattle.nx_receiver.specs.Commands.{refuses_vital}
use Rattle.nx_copies.specs.Events as fed
use Rattle.nx_copies.specs.Events.{Command, Event, at_moment, command}
use Rattle.nx_receiver.specs.Moments.{Refuses}
use Rattle.nx_copies.specs.copies.FoundCopies.{TaggedCopy}
use Rattle.nx_receiver.specs.air_file_runs.Listen.{given_by, given_of}
use Rattle.nx_receiver.specs.ChannelReceiver.{IsReceiver, ReceiverKind}
use Rattle.nx_receiver.specs.Listener.{HearsBy, IsSpelled, ListeningOver, moment_in_force, starts_by, then_command, then_elements, then_moment}
use Rattle.nx_copies.specs.copies.Log.{IsEntry, IsLog, IsUpTo}
use Rattle.nx_copies.specs.copies.Shares.{Given, MarkedCopy, Starts, events_for, marked, share, to_one}
use Rattle.nx_receiver.specs.declared.fault.MomentFault.{MomentFault}
use Rattle.nx_receiver.proofs.lemmas.listening.Listener.{given_by-one, in_force-append as given-append, none-given}
use Rattle.nx_receiver.proofs.lemmas.listening.Moments.{elements-in_range, one-in_range}
use Rattle.nx_watch.proofs.lemmas.lines.Acting.{said-in}
use Rattle.nx_watch.proofs.lemmas.lines.Run.{in_force-append}
use Rattle.nx_watch.proofs.lemmas.lines.Starting.{moments_said-more}
use Rattle.nx_watch.proofs.lemmas.log.Loggable.{AreInRange, given-logged}
use Rattle.nx_watch.specs.Acting.{in_force, moment_said, moments_said}
use Rattle.nx_watch.specs.private.LineRun.{MayAct, force_behind}
use Rattle.nx_watch.specs.Watch.{PrintsLoggable}
use Rattle.nx_watch.specs.private.Keeping.{HasKept, KeepsWith}
use Rattle.nx_watch.specs.private.LoggingListener.{IsLineInRange, KeepsHeard, KeepsLines, LoggingOver, LoggingTo, TakesLines, logging_to}

-- the same, with another listener inside
abbrev pub with_listener : {D C : Type 0} → LoggingOver D C → ListeningOver C
    → LoggingOver D C
with_listener logging listener = record logging { listener = listener }

-- ---- moments in range

abbrev IsInRange : Event → Type 0
IsInRange = IsUpTo last_moment

share_is : (b : Bool) (events : List Event) → All IsInRange events
    → All IsInRange (cond b events [])
share_is true events h = h
share_is false events h = All-nil IsInRange

line_is : (channel : Channel) (line : Line) → IsLineInRange line
    → All IsInRange (events_for channel (given_of line))
line_is channel (moment n) h = one-in_range (at_moment n) h
line_is channel (elements mark bits) h =
    share_is (same_channel (channel_of mark) channel) _ (elements-in_range bits)
line_is channel (refuse_station mark letter) h =
    share_is (same_channel (channel_of mark) channel) _
    (one-in_range (command (fed.refuse_station letter)) tt)
line_is channel (accept_station mark letter) h =
    share_is (same_channel (channel_of mark) channel) _
    (one-in_range (command (fed.accept_station letter)) tt)
line_is channel (refuse_subject mark letter) h =
    share_is (same_channel (channel_of mark) channel) _
    (one-in_range (command (fed.refuse_subject letter)) tt)
line_is channel (accept_subject mark letter) h =
    share_is (same_channel (channel_of mark) channel) _
    (one-in_range (command (fed.accept_subject letter)) tt)

pub lines_are : (lines : List Line) → All IsLineInRange lines → AreInRange (given_by lines)
lines_are [] h channel = All-nil IsInRange
lines_are (line ∷ lines) h channel =
    All-append IsInRange (events_for channel (given_of line)) (share channel (given_by lines))
    (line_is channel line (All-head IsLineInRange line lines h))
    (lines_are lines (All-tail IsLineInRange line lines h) channel)

part_are : (given : List Given) (channel : Channel) (bits : List Bool) → AreInRange given
    → AreInRange (then_elements given channel bits)
part_are given channel bits h on =
    let last = to_one channel (fed.elements bits) in
    subst (All IsInRange) (sym (flat_map-append (events_for on) given (last ∷ [])))
    (All-append IsInRange (share on given) (share on (last ∷ [])) (h on)
    (All-append IsInRange (events_for on last) []
    (share_is (same_channel channel on) _ (elements-in_range bits)) (All-nil IsInRange)))

-- ---- the moment in force

behind-one : (first : ℕ) (lines : List Line) (line : Line)
    → force_behind first (lines ++ line ∷ [])
    ≡ in_force (force_behind first lines) (moment_said (Some line))
behind-one first lines line =
    ap (λ l. in_force first (moments_said l)) (map-append Some lines (line ∷ []))
    ∙ ap (in_force first) (moments_said-more (map Some lines) (Some line))
    ∙ in_force-append first (moments_said (map Some lines)) (moment_said (Some line))

-- a line that may act sets the moment in force of the receivers as it does that of the lines
given-one : (first : ℕ) (lines : List Line) (line : Line) → MayAct first lines line
    → moment_in_force (force_behind first lines) (given_of line ∷ [])
    ≡ in_force (force_behind first lines) (moment_said (Some line))
given-one first lines (moment n) may =
    let greater : max (force_behind first lines) n ≡ n = omega (arith, may.0) in
    sym (ap (in_force (force_behind first lines)) (said-in n may.1) ∙ greater)
given-one first lines (elements mark bits) may = refl
given-one first lines (refuse_station mark letter) may = refl
given-one first lines (accept_station mark letter) may = refl
given-one first lines (refuse_subject mark letter) may = refl
given-one first lines (accept_subject mark letter) may = refl

-- both are the same behind one more line that may act
force-one : (first : ℕ) (lines : List Line) (line : Line) → MayAct first lines line
    → moment_in_force first (given_by lines) ≡ force_behind first lines
    → moment_in_force first (given_by (lines ++ line ∷ []))
    ≡ force_behind first (lines ++ line ∷ [])
force-one first lines line may same =
    ap (moment_in_force first) (given_by-one lines line)
    ∙ given-append first (given_by lines) (given_of line ∷ [])
    ∙ ap (λ force. moment_in_force force (given_of line ∷ [])) same
    ∙ given-one first lines line may
    ∙ sym (behind-one first lines line)

-- the moment of a line that may act is in range
may-range : (first : ℕ) (lines : List Line) (line : Line) → MayAct first lines line
    → IsLineInRange line
may-range first lines (moment n) may = may.1
may-range first lines (elements mark bits) may = tt
may-range first lines (refuse_station mark letter) may = tt
may-range first lines (accept_station mark letter) may = tt
may-range first lines (refuse_subject mark letter) may = tt
may-range first lines (accept_subject mark letter) may = tt

-- ---- entries of copies

-- what is printed of what was given is logged, each with its bytes
spelled-as : {C : Type 0} {kind : ReceiverKind C} (laws : IsReceiver kind) (starts : Starts)
    (listener : ListeningOver C) (given : List Given) (copies : List MarkedCopy)
    (one : MarkedCopy) (bytes : List ℕ) → PrintsLoggable kind.printing
    → starts.moment ≤ last_moment → AreInRange given
    → HearsBy kind starts listener given (copies ++ one ∷ []) → IsEntry one bytes
    → IsLoggedAs one bytes
spelled-as laws starts listener given copies one bytes loggable first within heard entry = record {
  logged = last-is copies (given-logged laws.printing loggable starts given (copies ++ one ∷ [])
      first within heard.in_turn.each);
  entry = entry;
}
  where
    last-is : (copies : List MarkedCopy) → All IsLogged (copies ++ one ∷ []) → IsLogged one
    last-is [] h = All-head IsLogged one [] h
    last-is (x ∷ copies) h = last-is copies (All-tail IsLogged x (copies ++ one ∷ []) h)

pub zip-push : (copies : List MarkedCopy) (texts : List (List ℕ)) (one : MarkedCopy)
    (text : List ℕ) → AllZip IsLoggedAs copies texts → IsLoggedAs one text
    → AllZip IsLoggedAs (copies ++ one ∷ []) (texts ++ text ∷ [])
zip-push [] [] one text h is = (is, tt)
zip-push [] (other ∷ texts) one text h is = absurd h
zip-push (other ∷ copies) [] one text h is = absurd h
zip-push (other ∷ copies) (x ∷ texts) one text h is = (h.0, zip-push copies texts one text h.1 is)

pub zip-append : (copies more : List MarkedCopy) (texts others : List (List ℕ))
    → AllZip IsLoggedAs copies texts → AllZip IsLoggedAs more others
    → AllZip IsLoggedAs (copies ++ more) (texts ++ others)
zip-append [] more [] others h k = k
zip-append [] more (text ∷ texts) others h k = absurd h
zip-append (one ∷ copies) more [] others h k = absurd h
zip-append (one ∷ copies) more (text ∷ texts) others h k =
    (h.0, zip-append copies more texts others h.1 k)

each-entry : (copies : List MarkedCopy) (texts : List (List ℕ)) → AllZip IsLoggedAs copies texts
    → AllZip IsEntry copies texts
each-entry [] [] h = tt
each-entry [] (text ∷ texts) h = absurd h
each-entry (one ∷ copies) [] h = absurd h
each-entry (one ∷ copies) (text ∷ texts) h = (h.0.entry, each-entry copies texts h.1)

pub log-of : (copies : List MarkedCopy) (texts : List (List ℕ)) → AllZip IsLoggedAs copies texts
    → IsLog copies (concat texts)
log-of copies texts h = record { entries = texts; each = each-entry copies texts h; joined = refl }

-- one line more, which brings no copies
pub line-kept : {D C : Type 0} (kind : ReceiverKind C) (disk : TellsOfDisk D)
    (start old new : LoggingOver D C)
    (lines : List Line) (given : List ℕ) (line : Line)
    → new.keeper ≡ old.keeper → MayAct (starts_by kind start.listener).moment lines line
    → ((copies : List MarkedCopy)
    → HearsBy kind (starts_by kind start.listener) old.listener (given_by lines) copies
    → HearsBy kind (starts_by kind start.listener) new.listener
    (given_by lines ++ given_of line ∷ [])
    copies)
    → KeepsLines kind disk start old lines given → KeepsLines kind disk start new
    (lines ++ line ∷ []) given
line-kept kind disk start old new lines given line same may step s = record {
  loggable = s.loggable;
  first = s.first;
  in_range = All-append IsLineInRange lines (line ∷ []) s.in_range
      (All-cons IsLineInRange line []
      (may-range (starts_by kind start.listener).moment lines line may) (All-nil IsLineInRange));
  force = force-one (starts_by kind start.listener).moment lines line may s.force;
  copies = s.copies;
  heard = subst (λ g. HearsBy kind (starts_by kind start.listener) new.listener g s.copies)
      (sym (given_by-one lines line)) (step s.copies s.heard);
  texts = s.texts;
  each = s.each;
  kept = subst (λ k. HasKept disk start.keeper k s.texts given) (sym same) s.kept;
}

-- a line that gives a command may act, but for the refusal of a vital subject
command-acts : (line : Line) (channel : Channel) (given : Command)
    → given_of line ≡ to_one channel (command given ∷ []) → refuses_vital given ≡ false
    → (force : ℕ) (before : List Line) → MayAct force before line
command-acts (moment n) channel given e spared force before = absurd cc
command-acts (elements mark bits) channel given e spared force before = tt
command-acts (refuse_station mark letter) channel given e spared force before = tt
command-acts (accept_station mark letter) channel given e spared force before = tt
command-acts (refuse_subject mark letter) channel given e spared force before =
    let same : given ≡ fed.refuse_subject letter = cc in sym (ap refuses_vital same) ∙ spared
command-acts (accept_subject mark letter) channel given e spared force before = tt

-- a moment that was set, or refused
pub moment-answered : {D C : Type 0} (kind : ReceiverKind C) (disk : TellsOfDisk D)
    (start old : LoggingOver D C) (now : ListeningOver C) (lines : List Line) (given : List ℕ)
    (n : ℕ)
    (answer : Result (Unit {0}) MomentFault)
    → ((copies : List MarkedCopy)
    → HearsBy kind (starts_by kind start.listener) old.listener (given_by lines) copies
    → MatchResult answer
    (λ _. (moment_in_force (starts_by kind start.listener).moment (given_by lines) ≤ n)
    × (n ≤ last_moment)
    × HearsBy kind (starts_by kind start.listener) now (then_moment (given_by lines) n) copies)
    (λ fault. Refuses (moment_in_force (starts_by kind start.listener).moment (given_by lines)) n
    fault
    × (now ≡ old.listener)))
    → KeepsLines kind disk start old lines given
    → MatchResult answer (λ _. MayAct (starts_by kind start.listener).moment lines (moment n)
    × KeepsLines kind disk start (with_listener old now) (lines ++ moment n ∷ []) given)
    (λ fault. Refuses (force_behind (starts_by kind start.listener).moment lines) n fault
    × (with_listener old now ≡ old))
moment-answered kind disk start old now lines given n (Ok set) step s =
    let set = step s.copies s.heard in
    let may : MayAct (starts_by kind start.listener).moment lines (moment n) =
    (subst (λ force. force ≤ n) s.force set.0, set.1) in (
      may,
      line-kept kind disk start old (with_listener old now) lines given (moment n) refl may
          (λ copies heard. (step copies heard).2) s,
    )
moment-answered kind disk start old now lines given n (Err fault) step s =
    let refused = step s.copies s.heard in (
      subst (λ force. Refuses force n fault) s.force refused.0,
      ap (with_listener old) refused.1,
    )

module _ {D C W : Type 0} (kind : ReceiverKind C) (disk : TellsOfDisk D)
    (contents : W → Option (List ℕ)) where
  -- the same beside a writer
  pub next-line : (start : LoggingTo D C W) (old new : LoggingOver D C)
      (writer : CountedDevice W) (lines : List Line) (line : Line)
      → new.keeper ≡ old.keeper → MayAct (starts_by kind start.logging.listener).moment lines line
      → ((copies : List MarkedCopy)
      → HearsBy kind (starts_by kind start.logging.listener) old.listener (given_by lines) copies
      → HearsBy kind (starts_by kind start.logging.listener) new.listener
      (given_by lines ++ given_of line ∷ []) copies)
      → TakesLines kind disk contents start (logging_to old writer) lines
      → TakesLines kind disk contents start (logging_to new writer) (lines ++ line ∷ [])
  next-line start old new writer lines line same may step h =
      (h.0, line-kept kind disk start.logging old new lines h.0 line same may step h.1, h.2)

  -- the same of a line that gives a command, which was taken
  pub next-command : (start : LoggingTo D C W) (old new : LoggingOver D C)
      (writer : CountedDevice W) (lines : List Line) (line : Line) (channel : Channel)
      (given : Command) → given_of line ≡ to_one channel (command given ∷ [])
      → refuses_vital given ≡ false → new.keeper ≡ old.keeper
      → ((copies : List MarkedCopy)
      → HearsBy kind (starts_by kind start.logging.listener) old.listener (given_by lines) copies
      → HearsBy kind (starts_by kind start.logging.listener) new.listener
      (then_command (given_by lines) channel given) copies)
      → TakesLines kind disk contents start (logging_to old writer) lines
      → MayAct (force_behind (starts_by kind start.logging.listener).moment lines) [] line
      × TakesLines kind disk contents start (logging_to new writer) (lines ++ line ∷ [])
  next-command start old new writer lines line channel given gives spared kept step h = (
    command-acts line channel given gives spared _ [],
    next-line start old new writer lines line kept
        (command-acts line channel given gives spared _ lines)
        (λ copies heard. subst (λ one. HearsBy kind (starts_by kind start.logging.listener)
        new.listener
        (given_by lines ++ one ∷ []) copies) (sym gives) (step copies heard)) h,
  )

  -- a line of elements, of which nothing was heard yet
  pub none-yet : IsReceiver kind → (start : LoggingTo D C W) (now : LoggingOver D C)
      (writer : CountedDevice W) (lines : List Line) (channel : Channel)
      → TakesLines kind disk contents start (logging_to now writer) lines
      → KeepsHeard kind disk contents start.logging now start.writer writer
      (then_elements (given_by lines) channel [])
  none-yet laws start now writer lines channel h =
      let s = h.1 in record {
        copies = s.copies;
        heard = none-given laws (starts_by kind start.logging.listener) now.listener
            (given_by lines) channel s.copies s.heard;
        texts = s.texts;
        each = s.each;
        kept = (h.0, s.kept, h.2);
      }

  -- all of it was heard
  pub line-heard : (start : LoggingTo D C W) (old now : LoggingOver D C)
      (before writer : CountedDevice W) (lines : List Line) (mark : Option Channel)
      (channel : Channel) (bits : List Bool) → channel ≡ channel_of mark
      → TakesLines kind disk contents start (logging_to old before) lines
      → KeepsHeard kind disk contents start.logging now start.writer writer
      (then_elements (given_by lines) channel bits)
      → TakesLines kind disk contents start (logging_to now writer)
      (lines ++ elements mark bits ∷ [])
  line-heard start old now before writer lines mark channel bits is h k =
      let s = h.1 in
      let line = elements mark bits in (
        k.kept.0,
        record {
          loggable = s.loggable;
          first = s.first;
          in_range = All-append IsLineInRange lines (line ∷ []) s.in_range
              (All-cons IsLineInRange line [] tt (All-nil IsLineInRange));
          force = force-one (starts_by kind start.logging.listener).moment lines line tt s.force;
          copies = k.copies;
          heard = subst (λ g. HearsBy kind (starts_by kind start.logging.listener) now.listener g
              k.copies)
              (ap (λ (c : Channel). then_elements (given_by lines) c bits) is
              ∙ sym (given_by-one lines line)) k.heard;
          texts = k.texts;
          each = k.each;
          kept = k.kept.1;
        },
        k.kept.2,
      )

  -- more of it was heard, which brought no copy
  pub none-more : (start : LoggingOver D C) (old new : LoggingOver D C)
      (first writer : CountedDevice W)
      (given : List Given) (channel : Channel) (part more : List Bool) (next : List TaggedCopy)
      → new.keeper ≡ old.keeper → next ≡ []
      → ((copies : List MarkedCopy)
      → HearsBy kind (starts_by kind start.listener) old.listener (then_elements given channel part)
      copies
      → HearsBy kind (starts_by kind start.listener) new.listener
      (then_elements given channel (part ++ more)) (copies ++ map (marked channel) next))
      → KeepsHeard kind disk contents start old first writer (then_elements given channel part)
      → KeepsHeard kind disk contents start new first writer
      (then_elements given channel (part ++ more))
  none-more start old new first writer given channel part more next same none step h = record {
    copies = h.copies;
    heard = subst (HearsBy kind (starts_by kind start.listener) new.listener
        (then_elements given channel (part ++ more)))
        (ap (λ (l : List TaggedCopy). h.copies ++ map (marked channel) l) none
        ∙ append-nil h.copies) (step h.copies h.heard);
    texts = h.texts;
    each = h.each;
    kept = subst (λ k. KeepsWith disk contents start.keeper k first writer h.texts)
        (sym same) h.kept;
  }

  -- or brought one, whose entry was kept
  pub one-more : IsReceiver kind → (start : LoggingOver D C) (old new : LoggingOver D C)
      (first before writer : CountedDevice W)
      (given : List Given) (channel : Channel) (part more : List Bool) (next : List TaggedCopy)
      (entry : List ℕ) → PrintsLoggable kind.printing
      → (starts_by kind start.listener).moment ≤ last_moment → AreInRange given
      → IsSpelled channel true next entry
      → ((copies : List MarkedCopy)
      → HearsBy kind (starts_by kind start.listener) old.listener (then_elements given channel part)
      copies
      → HearsBy kind (starts_by kind start.listener) new.listener
      (then_elements given channel (part ++ more)) (copies ++ map (marked channel) next))
      → ((texts : List (List ℕ)) → IsWholeEntry entry
      → KeepsWith disk contents start.keeper old.keeper first before texts
      → KeepsWith disk contents start.keeper new.keeper first writer (texts ++ entry ∷ []))
      → KeepsHeard kind disk contents start old first before (then_elements given channel part)
      → KeepsHeard kind disk contents start new first writer
      (then_elements given channel (part ++ more))
  one-more laws start old new first before writer given channel part more next entry loggable range
      within spelled step keep h =
      let one = marked channel spelled.0 in
      let heard = subst (λ (l : List TaggedCopy). HearsBy kind (starts_by kind start.listener)
      new.listener
      (then_elements given channel (part ++ more)) (h.copies ++ map (marked channel) l)) spelled.1
      (step h.copies h.heard) in
      let is = spelled-as laws (starts_by kind start.listener) new.listener
      (then_elements given channel (part ++ more)) h.copies one entry loggable range
      (part_are given channel (part ++ more) within) heard spelled.2 in record {
        copies = h.copies ++ one ∷ [];
        heard = heard;
        texts = h.texts ++ entry ∷ [];
        each = zip-push h.copies h.texts one entry h.each is;
        kept = keep h.texts (one, is) h.kept;
      }

-- ---- the end

pub back-logged : (front back : List MarkedCopy) → All IsLogged (front ++ back) → All IsLogged back
back-logged [] back h = h
back-logged (one ∷ front) back h = back-logged front back (All-tail IsLogged one (front ++ back) h)

-- ---- what a call answers

-- a subject isn't vital whose refusal isn't refused
pub spared : (b : Bool) → (b ≡ true → false ≡ true) → b ≡ false
spared true h = sym (h refl)
spared false h = refl

pub none-spelled : (channel : Channel) (b : Bool) (next : List TaggedCopy) (bytes : List ℕ)
    → b ≡ false → IsSpelled channel b next bytes → next ≡ []
none-spelled channel false next bytes e h = h
none-spelled channel true next bytes e h = cc
