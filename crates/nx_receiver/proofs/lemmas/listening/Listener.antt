-- What a line does to a listener: how it stands after one more line, after some more elements, and
-- after the end.
use Rattle.std.proofs.Common.{◌≡◌, ◌||◌, ℕ, ◌+◌, ◌<◌, ◌≤◌, Bool, true, false, cond, List}
use Rattle.std.proofs.Common.{[], ◌∷◌, ◌++◌, map, Option, Some, None, length, take}
use Rattle.std.proofs.Common.{take-append-drop, drop, refl, sym, ap, ap₂, ◌∙◌, subst, append-nil}
use Rattle.std.proofs.Common.{append_assoc, arith, length-append}
use lib.Seq.{take-add}
use Rattle.std.proofs.Math.Bool.{or-true}
use Rattle.std.proofs.Math.Path.{fun_ext}
use Rattle.std.proofs.lemmas.List.{length-map, length-take-le, map-append}
use Rattle.std.proofs.lemmas.List.Concat.{flat_map-append}
use Rattle.std.proofs.lemmas.List.Folds.{list_any-append}
use Rattle.nx_fec.specs.Transfers.{count_of}
use Rattle.nx_fec.specs.air_files.AirFile.{Line, moment, elements, refuse_station, accept_station}
use Rattle.nx_fec.specs.air_files.AirFile.{refuse_subject, accept_subject}
use Rattle.nx_fec.specs.air_files.Channels.{channel_of, same_channel}
use Rattle.nx_fec.specs.declared.air_files.channel.Channel.{Channel}
use Rattle.nx_fec.specs.declared.air_files.channel.Channel.TheVariants.{Zero, One, Two}
use Rattle.nx_envelope.specs.Moment.{last_moment}
use Rattle.nx_copies.specs.Events.{Event, Setting, Start, element, first_setting}
use Rattle.nx_copies.specs.Events.{setting_after_all}
use Rattle.nx_copies.specs.Events as fed
use Rattle.nx_copies.specs.copies.InTurn.{HavePrintedBy, PrintsInTurnBy}
use Rattle.nx_receiver.specs.air_file_runs.Listen.{AreTaken, events_on, given_by, given_of}
use Rattle.nx_receiver.specs.air_file_runs.Listen.{has_moment}
use Rattle.nx_receiver.specs.air_file_runs.Listen.{is_moment_line, moment_after}
use Rattle.nx_receiver.specs.private.Taken.{AreTakenAfter, IsTakenAfter}
use Rattle.nx_receiver.proofs.lemmas.listening.Taken.{are-taken, taken-each}
use Rattle.nx_receiver.specs.Listener.{HearsBy, ListeningOver, text_by}
use Rattle.nx_receiver.specs.Listener.{elements_given, elements_in, moment_in_force, receiver_on}
use Rattle.nx_receiver.specs.Listener.{starts_by, then_command, then_elements}
use Rattle.nx_receiver.specs.Listener.{then_moment}
use Rattle.nx_receiver.specs.Listener.{with_receiver}
use Rattle.nx_receiver.specs.private.Listener.{BeginsListeningBy, BeginsLogBy, HearsTo}
use Rattle.nx_receiver.specs.private.Listener.{HearsLogBy, IsListeningBy, StandsFromBy}
use Rattle.nx_copies.specs.copies.Log.{IsLog, Printing}
use Rattle.nx_receiver.specs.ChannelReceiver.{AwaitsFinish, HandsOutNoneBeforeBy}
use Rattle.nx_receiver.specs.private.ChannelReceiver.{FinishesNextBy}
use Rattle.nx_receiver.specs.ChannelReceiver.{HearsUpToBy, IsReceiver, NothingAwaited}
use Rattle.nx_receiver.specs.ChannelReceiver.{ReceiverKind, TakesEventBy}
use Rattle.nx_receiver.specs.Receiver.{HeadsText, headed_list}
use Rattle.nx_receiver.proofs.lemmas.receiver.Feeds.{heard_then, printed_then}
use Rattle.std.specs.Prelude.{IfSome, Result, Ok, Err, OnOk}
use Rattle.std.proofs.lemmas.List.Elements.{All-nil, All-cons}
use Rattle.nx_copies.specs.copies.Shares.{Given, MarkedCopy, Starts, copies_on, events_for}
use Rattle.nx_copies.specs.copies.Shares.{marked}
use Rattle.nx_copies.specs.copies.Shares.{share, start_on, to_all, to_one}
use Rattle.nx_copies.specs.copies.FoundCopies.{TaggedCopy, headed_copy}
use Rattle.nx_copies.specs.declared.entry.EntryHead.{EntryHead}
use Rattle.nx_copies.proofs.lemmas.channels.Shares.{copies_on-append, copies_on-marked}
use Rattle.nx_copies.proofs.lemmas.channels.Shares.{copies_on-other}
use Rattle.nx_copies.proofs.lemmas.channels.Shares.{in_turn-more, in_turn-none, in_turn-other}
use Rattle.nx_copies.proofs.lemmas.channels.Shares.{same_channel-refl}
use Rattle.nx_copies.proofs.lemmas.channels.Shares.{share-one}
use Rattle.nx_copies.proofs.lemmas.printing.Log.{logs_join, no-log, some_log}
use Rattle.nx_receiver.proofs.lemmas.receiver.Events.{bits_of-more, force-append, force-more}

-- what one more line gives
pub given_by-one : (lines : List Line) (line : Line)
    → given_by (lines ++ line ∷ []) ≡ given_by lines ++ given_of line ∷ []
given_by-one lines line = map-append given_of lines (line ∷ [])

-- the elements of one more that is given
elements-one : (given : List Given) (one : Given)
    → elements_given (given ++ one ∷ []) ≡ elements_given given ++ elements_in one
elements-one given one =
    flat_map-append elements_in given (one ∷ [])
    ∙ ap (λ bits. elements_given given ++ bits) (append-nil (elements_in one))

elements-then : (given : List Given) (channel : Channel) (bits : List Bool)
    → elements_given (then_elements given channel bits) ≡ elements_given given ++ bits
unfolding fed.elements_among
elements-then given channel bits =
    elements-one given (to_one channel (fed.elements bits))
    ∙ ap (λ bs. elements_given given ++ bs) (bits_of-more [] bits)

-- what holds on the three channels holds on each
pub on-all : (P : Channel → Type 0) → P Zero → P One → P Two → (channel : Channel) → P channel
on-all P zero one two Zero = zero
on-all P zero one two One = one
on-all P zero one two Two = two

-- what holds on a channel and on each other one holds on each
on-each : (P : Channel → Type 0) (channel : Channel) → P channel
    → ((other : Channel) → same_channel channel other ≡ false → P other) → (other : Channel)
    → P other
on-each P Zero here others Zero = here
on-each P Zero here others One = others One refl
on-each P Zero here others Two = others Two refl
on-each P One here others Zero = others Zero refl
on-each P One here others One = here
on-each P One here others Two = others Two refl
on-each P Two here others Zero = others Zero refl
on-each P Two here others One = others One refl
on-each P Two here others Two = here

-- two listeners with the same receivers have the same on each channel
pub same-receivers : {R : Type 0} (old new : ListeningOver R) → old.on_0 ≡ new.on_0
    → old.on_1 ≡ new.on_1
    → old.on_2 ≡ new.on_2 → (channel : Channel)
    → receiver_on old channel ≡ receiver_on new channel
same-receivers {R} old new e f g Zero = e
same-receivers {R} old new e f g One = f
same-receivers {R} old new e f g Two = g

-- another receiver on a channel leaves those of the others, and all else
with-other : {R : Type 0} (listener : ListeningOver R) (channel other : Channel)
    (new : ListeningOver R)
    → new ≡ with_receiver listener channel (receiver_on new channel)
    → same_channel channel other ≡ false → receiver_on new other ≡ receiver_on listener other
with-other {R} listener Zero Zero new e h = cc
with-other {R} listener Zero One new e h = ap (λ (l : ListeningOver R). l.on_1) e
with-other {R} listener Zero Two new e h = ap (λ (l : ListeningOver R). l.on_2) e
with-other {R} listener One Zero new e h = ap (λ (l : ListeningOver R). l.on_0) e
with-other {R} listener One One new e h = cc
with-other {R} listener One Two new e h = ap (λ (l : ListeningOver R). l.on_2) e
with-other {R} listener Two Zero new e h = ap (λ (l : ListeningOver R). l.on_0) e
with-other {R} listener Two One new e h = ap (λ (l : ListeningOver R). l.on_1) e
with-other {R} listener Two Two new e h = cc

-- a listener of which only the receiver of a channel is another
pub record DiffersOn {R : Type 0} (channel : Channel) (old new : ListeningOver R) : Type 0 where
  pub others : (other : Channel) → same_channel channel other ≡ false
      → receiver_on new other ≡ receiver_on old other
  pub moment : new.has_moment ≡ old.has_moment
  pub elements : new.elements ≡ old.elements
  pub entries : new.entries ≡ old.entries

pub differs-on : {R : Type 0} (channel : Channel) (old new : ListeningOver R)
    → new ≡ with_receiver old channel (receiver_on new channel) → DiffersOn channel old new
differs-on {R} Zero old new e = record {
  others = λ other h. with-other old Zero other new e h;
  moment = ap (λ (l : ListeningOver R). l.has_moment) e;
  elements = ap (λ (l : ListeningOver R). l.elements) e;
  entries = ap (λ (l : ListeningOver R). l.entries) e;
}
differs-on {R} One old new e = record {
  others = λ other h. with-other old One other new e h;
  moment = ap (λ (l : ListeningOver R). l.has_moment) e;
  elements = ap (λ (l : ListeningOver R). l.elements) e;
  entries = ap (λ (l : ListeningOver R). l.entries) e;
}
differs-on {R} Two old new e = record {
  others = λ other h. with-other old Two other new e h;
  moment = ap (λ (l : ListeningOver R). l.has_moment) e;
  elements = ap (λ (l : ListeningOver R). l.elements) e;
  entries = ap (λ (l : ListeningOver R). l.entries) e;
}

one-after : (starts : Starts) (first lines : List Line) (line : Line)
    → AreTakenAfter starts first lines → IsTakenAfter starts (first ++ lines) line
    → AreTakenAfter starts first (lines ++ line ∷ [])
unfolding AreTakenAfter
one-after starts first [] line h k =
    (subst (λ l. IsTakenAfter starts l line) (append-nil first) k, tt)
one-after starts first (x ∷ xs) line h k = (
  h.0,
  one-after starts (first ++ x ∷ []) xs line h.1
      (subst (λ l. IsTakenAfter starts l line) (sym (append_assoc first (x ∷ []) xs)) k),
)

-- one more line is taken
pub taken-one : (starts : Starts) (lines : List Line) (line : Line) → AreTaken starts lines
    → IsTakenAfter starts lines line → AreTaken starts (lines ++ line ∷ [])
taken-one starts lines line h k =
    are-taken starts (lines ++ line ∷ []) h.in_range
    (one-after starts [] lines line (taken-each starts lines h) k)

or-none : (c d : Bool) → d ≡ false → (c || (d || false)) ≡ c
or-none true d e = refl
or-none false d e = ap (λ x. x || false) e

-- one more line is no moment, or is one
pub moment-other : (lines : List Line) (line : Line) (b : Bool) → b ≡ has_moment lines
    → is_moment_line line ≡ false → b ≡ has_moment (lines ++ line ∷ [])
moment-other lines line b h none =
    h ∙ sym (list_any-append is_moment_line lines (line ∷ [])
    ∙ or-none (has_moment lines) (is_moment_line line) none)

pub moment-one : (lines : List Line) (n : ℕ) → true ≡ has_moment (lines ++ moment n ∷ [])
moment-one lines n = sym (list_any-append is_moment_line lines (moment n ∷ [])
    ∙ or-true (has_moment lines))

-- elements or a command change no moment, whether they belong to a channel or not
elements-keep : (b : Bool) (setting : Setting) (bits : List Bool)
    → (setting_after_all setting (cond b (fed.elements bits) [])).moment ≡ setting.moment
unfolding setting_after_all
elements-keep true setting bits = ap (λ (s : Setting). s.moment) (force-more setting [] bits)
elements-keep false setting bits = refl

command-keeps : (b : Bool) (setting : Setting) (c : fed.Command)
    → (setting_after_all setting (cond b (fed.command c ∷ []) [])).moment ≡ setting.moment
unfolding setting_after_all
command-keeps true setting c = refl
command-keeps false setting c = refl

-- on each channel the moment in force is that after the lines
next-moment : (channel : Channel) (line : Line) (lines : List Line) (setting : Setting)
    → ((after : Setting)
    → (setting_after_all after (events_on channel lines)).moment
    ≡ moment_after after.moment lines)
    → (setting_after_all setting (events_for channel (given_of line))).moment ≡ setting.moment
    → (setting_after_all setting (events_on channel (line ∷ lines))).moment
    ≡ moment_after setting.moment lines
next-moment channel line lines setting rest keeps =
    ap (λ (s : Setting). s.moment)
    (force-append setting (events_for channel (given_of line)) (events_on channel lines))
    ∙ rest (setting_after_all setting (events_for channel (given_of line)))
    ∙ ap (λ n. moment_after n lines) keeps

pub moment-on : (channel : Channel) (setting : Setting) (lines : List Line)
    → (setting_after_all setting (events_on channel lines)).moment
    ≡ moment_after setting.moment lines
unfolding setting_after_all
moment-on channel setting [] = refl
moment-on channel setting (moment n ∷ lines) =
    moment-on channel (record setting { moment = n }) lines
moment-on channel setting (elements mark bits ∷ lines) =
    next-moment channel (elements mark bits) lines setting (λ after. moment-on channel after lines)
    (elements-keep (same_channel (channel_of mark) channel) setting bits)
moment-on channel setting (refuse_station mark letter ∷ lines) =
    next-moment channel (refuse_station mark letter) lines setting
    (λ after. moment-on channel after lines)
    (command-keeps (same_channel (channel_of mark) channel) setting (fed.refuse_station letter))
moment-on channel setting (accept_station mark letter ∷ lines) =
    next-moment channel (accept_station mark letter) lines setting
    (λ after. moment-on channel after lines)
    (command-keeps (same_channel (channel_of mark) channel) setting (fed.accept_station letter))
moment-on channel setting (refuse_subject mark letter ∷ lines) =
    next-moment channel (refuse_subject mark letter) lines setting
    (λ after. moment-on channel after lines)
    (command-keeps (same_channel (channel_of mark) channel) setting (fed.refuse_subject letter))
moment-on channel setting (accept_subject mark letter ∷ lines) =
    next-moment channel (accept_subject mark letter) lines setting
    (λ after. moment-on channel after lines)
    (command-keeps (same_channel (channel_of mark) channel) setting (fed.accept_subject letter))

-- the moment in force after what is given in two parts
pub in_force-append : (first : ℕ) (given more : List Given)
    → moment_in_force first (given ++ more) ≡ moment_in_force (moment_in_force first given) more
in_force-append first [] more = refl
in_force-append first (to_all n ∷ given) more = in_force-append n given more
in_force-append first (to_one channel events ∷ given) more = in_force-append first given more

-- that after lines is that after what they give
pub in_force-lines : (first : ℕ) (lines : List Line)
    → moment_in_force first (given_by lines) ≡ moment_after first lines
in_force-lines first [] = refl
in_force-lines first (moment n ∷ lines) = in_force-lines n lines
in_force-lines first (elements mark bits ∷ lines) = in_force-lines first lines
in_force-lines first (refuse_station mark letter ∷ lines) = in_force-lines first lines
in_force-lines first (accept_station mark letter ∷ lines) = in_force-lines first lines
in_force-lines first (refuse_subject mark letter ∷ lines) = in_force-lines first lines
in_force-lines first (accept_subject mark letter ∷ lines) = in_force-lines first lines

-- what is given sets the moment of a channel as it sets the one in force
abbrev pub SetsMoment : Given → Type 0
SetsMoment one =
    (channel : Channel) (setting : Setting)
    → (setting_after_all setting (events_for channel one)).moment
    ≡ moment_in_force setting.moment (one ∷ [])

pub moment-sets : (n : ℕ) → SetsMoment (to_all n)
unfolding setting_after_all
moment-sets n channel setting = refl

pub command-sets : (channel : Channel) (command : fed.Command)
    → SetsMoment (to_one channel (fed.command command ∷ []))
command-sets channel command on setting =
    command-keeps (same_channel channel on) setting command

elements-set : (channel : Channel) (bits : List Bool)
    → SetsMoment (to_one channel (fed.elements bits))
elements-set channel bits on setting = elements-keep (same_channel channel on) setting bits

-- a receiver has the moment in force after one more
moment-next : (first was now : Setting) (events more : List Event) (given : List Given)
    (one : Given) → was ≡ setting_after_all first events
    → now ≡ setting_after_all first (events ++ more)
    → was.moment ≡ moment_in_force first.moment given
    → (setting_after_all (setting_after_all first events) more).moment
    ≡ moment_in_force (setting_after_all first events).moment (one ∷ [])
    → now.moment ≡ moment_in_force first.moment (given ++ one ∷ [])
moment-next first was now events more given one e f same sets =
    ap (λ (s : Setting). s.moment) (f ∙ force-append first events more) ∙ sets
    ∙ ap (λ n. moment_in_force n (one ∷ [])) (ap (λ (s : Setting). s.moment) (sym e) ∙ same)
    ∙ sym (in_force-append first.moment given (one ∷ []))

-- what is printed of the share of each channel, by how its receiver stands
have-printed : {R : Type 0} {kind : ReceiverKind R} (laws : IsReceiver kind) (starts : Starts)
    (listener : ListeningOver R) (given : List Given)
    (copies : List MarkedCopy)
    → ((channel : Channel) → kind.stands (start_on starts channel)
    (receiver_on listener channel) (share channel given) (copies_on channel copies))
    → HavePrintedBy kind.printing starts given copies
have-printed {R} {kind} laws starts listener given copies stands channel =
    laws.prints (start_on starts channel) (receiver_on listener channel)
    (share channel given) (copies_on channel copies) (stands channel)

-- one more is given, which has no elements and brings no copies
pub hears-next : {R : Type 0} {kind : ReceiverKind R} (laws : IsReceiver kind) (starts : Starts)
    (old new : ListeningOver R) (given : List Given) (one : Given)
    (copies : List MarkedCopy) → HearsBy kind starts old given copies → elements_in one ≡ []
    → SetsMoment one → new.elements ≡ old.elements → new.entries ≡ old.entries
    → ((channel : Channel) (log : List TaggedCopy)
    → kind.stands (start_on starts channel) (receiver_on old channel) (share channel given)
    log
    → kind.stands (start_on starts channel) (receiver_on new channel)
    (share channel given ++ events_for channel one) log)
    → HearsBy kind starts new (given ++ one ∷ []) copies
hears-next {R} {kind} laws starts old new given one copies h none sets heard printed stands =
    let all = given ++ one ∷ [] in
    let next : (channel : Channel) → kind.stands (start_on starts channel)
    (receiver_on new channel) (share channel given ++ events_for channel one)
    (copies_on channel copies) =
    λ channel. stands channel (copies_on channel copies) (h.receivers channel) in
    let each : (channel : Channel) → kind.stands (start_on starts channel)
    (receiver_on new channel) (share channel all) (copies_on channel copies) =
    λ channel. subst (λ es. kind.stands (start_on starts channel) (receiver_on new channel) es
    (copies_on channel copies)) (sym (share-one channel given one)) (next channel) in
    let same : elements_given all ≡ elements_given given =
    elements-one given one ∙ ap (λ bits. elements_given given ++ bits) none
    ∙ append-nil (elements_given given) in
    record {
      receivers = each;
      moments = λ channel.
          let first = first_setting (start_on starts channel) in
          moment-next first _ _ (share channel given) (events_for channel one) given one
          (laws.in_force _ _ _ _ (h.receivers channel))
          (laws.in_force _ _ _ _ (next channel)) (h.moments channel)
          (sets channel (setting_after_all first (share channel given)));
      in_turn = subst (PrintsInTurnBy kind.printing starts all) (append-nil copies)
          (in_turn-more starts given one copies [] h.in_turn
          (subst (HavePrintedBy kind.printing starts all) (sym (append-nil copies))
          (have-printed laws starts new all copies each)));
      elements = heard ∙ h.elements ∙ ap (λ bits. count_of (length bits)) (sym same);
      entries = printed ∙ h.entries;
      few = subst (λ bits. length copies ≤ length bits) (sym same) h.few;
    }

own-events : (channel : Channel) (events : List Event)
    → events_for channel (to_one channel events) ≡ events
own-events channel events = ap (λ b. cond b events []) (same_channel-refl channel)

others-events : (channel other : Channel) (events : List Event)
    → same_channel channel other ≡ false → events_for other (to_one channel events) ≡ []
others-events channel other events h = ap (λ b. cond b events []) h

-- a command for a channel
pub commanded : {R : Type 0} {kind : ReceiverKind R} (laws : IsReceiver kind)
    (starts : Starts)
    (old new : ListeningOver R) (given : List Given)
    (copies : List MarkedCopy) (channel : Channel) (command : fed.Command)
    → HearsBy kind starts old given copies
    → new ≡ with_receiver old channel (receiver_on new channel)
    → TakesEventBy kind (receiver_on old channel) (receiver_on new channel)
    (fed.command command)
    → HearsBy kind starts new (then_command given channel command) copies
unfolding fed.elements_among
commanded {R} {kind} laws starts old new given copies channel command h only takes =
    let differs = differs-on channel old new only in
    let one = to_one channel (fed.command command ∷ []) in
    hears-next laws starts old new given one copies h refl (command-sets channel command)
    differs.elements differs.entries
    (on-each (λ on. (log : List TaggedCopy)
    → kind.stands (start_on starts on) (receiver_on old on) (share on given) log
    → kind.stands (start_on starts on) (receiver_on new on)
    (share on given ++ events_for on one) log) channel
    (λ log s. subst (λ es. kind.stands (start_on starts channel) (receiver_on new channel)
    (share channel given ++ es) log) (sym (own-events channel (fed.command command ∷ [])))
    (takes (start_on starts channel) (share channel given) log s))
    (λ on not log s.
    let none : share on given ++ events_for on one ≡ share on given =
    ap (λ es. share on given ++ es) (others-events channel on (fed.command command ∷ []) not)
    ∙ append-nil (share on given) in
    subst (λ es. kind.stands (start_on starts on) (receiver_on new on) es log) (sym none)
    (subst (λ r. kind.stands (start_on starts on) r (share on given) log)
    (sym (differs.others on not)) s)))

-- one more line is taken, as what it gives is
pub takes-line : {R : Type 0} {kind : ReceiverKind R} (starts : Starts)
    (old new : ListeningOver R) (lines : List Line) (line : Line) (bytes : List ℕ)
    → IsListeningBy kind starts old lines bytes → IsTakenAfter starts lines line
    → new.has_moment ≡ has_moment (lines ++ line ∷ [])
    → ((copies : List MarkedCopy) → HearsBy kind starts old (given_by lines) copies
    → HearsBy kind starts new (given_by lines ++ given_of line ∷ []) copies)
    → IsListeningBy kind starts new (lines ++ line ∷ []) bytes
takes-line {R} {kind} starts old new lines line bytes h taken said hears = record {
  taken = taken-one starts lines line h.taken taken;
  moment = said;
  hears = record {
    log = h.hears.log;
    hears = subst (λ given. HearsBy kind starts new given h.hears.log)
        (sym (given_by-one lines line)) (hears h.hears.log h.hears.hears);
    spelled = h.hears.spelled;
  };
}

-- a command for a channel, as a line says it
pub commanded-on : {R : Type 0} {kind : ReceiverKind R} (laws : IsReceiver kind)
    (starts : Starts) (old new : ListeningOver R) (lines : List Line) (line : Line)
    (channel : Channel) (command : fed.Command) (bytes : List ℕ)
    → IsListeningBy kind starts old lines bytes → IsTakenAfter starts lines line
    → given_of line ≡ to_one channel (fed.command command ∷ [])
    → is_moment_line line ≡ false → new ≡ with_receiver old channel (receiver_on new channel)
    → TakesEventBy kind (receiver_on old channel) (receiver_on new channel)
    (fed.command command)
    → IsListeningBy kind starts new (lines ++ line ∷ []) bytes
commanded-on {R} {kind} laws starts old new lines line channel command bytes h taken gives other
    only takes =
    takes-line starts old new lines line bytes h taken
    (moment-other lines line new.has_moment ((differs-on channel old new only).moment ∙ h.moment)
    other)
    (λ copies heard. subst (λ one. HearsBy kind starts new (given_by lines ++ one ∷ []) copies)
    (sym gives) (commanded laws starts old new (given_by lines) copies channel command heard only
    takes))

-- a moment for all channels
pub set-all : {R : Type 0} {kind : ReceiverKind R} (laws : IsReceiver kind)
    (starts : Starts)
    (old new : ListeningOver R) (given : List Given)
    (copies : List MarkedCopy) (n : ℕ) → HearsBy kind starts old given copies
    → new.elements ≡ old.elements → new.entries ≡ old.entries
    → ((channel : Channel) → TakesEventBy kind (receiver_on old channel)
    (receiver_on new channel) (fed.at_moment n))
    → HearsBy kind starts new (then_moment given n) copies
set-all {R} {kind} laws starts old new given copies n h heard printed takes =
    hears-next laws starts old new given (to_all n) copies h refl (moment-sets n) heard printed
    (λ channel log s. takes channel (start_on starts channel) (share channel given) log s)

-- Share of a channel, where elements of one are given last
share-own : (given : List Given) (channel : Channel) (bits : List Bool)
    → share channel (then_elements given channel bits) ≡ share channel given ++ fed.elements bits
share-own given channel bits =
    share-one channel given (to_one channel (fed.elements bits))
    ∙ ap (λ es. share channel given ++ es) (own-events channel (fed.elements bits))

share-others : (given : List Given) (channel other : Channel) (bits : List Bool)
    → same_channel channel other ≡ false
    → share other (then_elements given channel bits) ≡ share other given
share-others given channel other bits h =
    share-one other given (to_one channel (fed.elements bits))
    ∙ ap (λ es. share other given ++ es) (others-events channel other (fed.elements bits) h)
    ∙ append-nil (share other given)

share-grows : (given : List Given) (channel : Channel) (part more : List Bool)
    → share channel (then_elements given channel (part ++ more))
    ≡ share channel (then_elements given channel part) ++ fed.elements more
share-grows given channel part more =
    share-own given channel (part ++ more)
    ∙ ap (λ es. share channel given ++ es) (map-append element part more)
    ∙ sym (append_assoc (share channel given) (fed.elements part) (fed.elements more))
    ∙ ap (λ es. es ++ fed.elements more) (sym (share-own given channel part))

share-stays : (given : List Given) (channel other : Channel) (part more : List Bool)
    → same_channel channel other ≡ false
    → share other (then_elements given channel (part ++ more))
    ≡ share other (then_elements given channel part)
share-stays given channel other part more h =
    share-others given channel other (part ++ more) h
    ∙ sym (share-others given channel other part h)

-- the copies of a channel, where those of one come last
copies-own : (copies : List MarkedCopy) (channel : Channel) (more : List TaggedCopy)
    → copies_on channel (copies ++ map (marked channel) more) ≡ copies_on channel copies ++ more
copies-own copies channel more =
    copies_on-append channel copies (map (marked channel) more)
    ∙ ap (λ cs. copies_on channel copies ++ cs) (copies_on-marked channel more)

copies-others : (copies : List MarkedCopy) (channel other : Channel) (more : List TaggedCopy)
    → same_channel channel other ≡ false
    → copies_on other (copies ++ map (marked channel) more) ≡ copies_on other copies
copies-others copies channel other more h =
    copies_on-append other copies (map (marked channel) more)
    ∙ ap (λ cs. copies_on other copies ++ cs) (copies_on-other channel other more h)
    ∙ append-nil (copies_on other copies)

-- what holds of the shares and copies of each channel holds still, where it holds of those of the
-- channel that was given more elements
grows-on : (P : Channel → List Event → List TaggedCopy → Type 0) (given : List Given)
    (channel : Channel) (part more : List Bool) (copies : List MarkedCopy)
    (later : List TaggedCopy)
    → P channel (share channel (then_elements given channel part) ++ fed.elements more)
    (copies_on channel copies ++ later)
    → ((other : Channel) → same_channel channel other ≡ false
    → P other (share other (then_elements given channel part)) (copies_on other copies))
    → (other : Channel) → P other (share other (then_elements given channel (part ++ more)))
    (copies_on other (copies ++ map (marked channel) later))
grows-on P given channel part more copies later here others =
    on-each (λ other. P other (share other (then_elements given channel (part ++ more)))
    (copies_on other (copies ++ map (marked channel) later))) channel
    (subst (λ es. P channel es (copies_on channel (copies ++ map (marked channel) later)))
    (sym (share-grows given channel part more))
    (subst (λ cs. P channel
    (share channel (then_elements given channel part) ++ fed.elements more) cs)
    (sym (copies-own copies channel later)) here))
    (λ other not. subst (λ es. P other es
    (copies_on other (copies ++ map (marked channel) later)))
    (sym (share-stays given channel other part more not))
    (subst (λ cs. P other (share other (then_elements given channel part)) cs)
    (sym (copies-others copies channel other later not)) (others other not)))

-- elements change no moment, however many they are
in_force-elements : (first : ℕ) (given : List Given) (channel : Channel) (bits more : List Bool)
    → moment_in_force first (then_elements given channel bits)
    ≡ moment_in_force first (then_elements given channel more)
in_force-elements first given channel bits more =
    in_force-append first given (to_one channel (fed.elements bits) ∷ [])
    ∙ sym (in_force-append first given (to_one channel (fed.elements more) ∷ []))

pub counts-on : (old new m n all : ℕ) → old ≡ count_of m → new ≡ count_of (old + n) → all ≡ m + n
    → new ≡ count_of all
counts-on old new m n all h k e = omega arith

-- More elements of a channel were heard, and these copies were handed out with the last of them.
pub hears-more : {R : Type 0} {kind : ReceiverKind R} (laws : IsReceiver kind)
    (starts : Starts)
    (old new : ListeningOver R) (given : List Given) (channel : Channel)
    (part more : List Bool) (copies : List MarkedCopy) (next : List TaggedCopy)
    → HearsBy kind starts old (then_elements given channel part) copies
    → length next ≤ length more
    → ((start : Start) (events : List Event) (log : List TaggedCopy)
    → kind.stands start (receiver_on old channel) events log
    → kind.stands start (receiver_on new channel) (events ++ fed.elements more)
    (log ++ next))
    → ((other : Channel) → same_channel channel other ≡ false
    → receiver_on new other ≡ receiver_on old other)
    → new.elements ≡ count_of (old.elements + length more)
    → new.entries ≡ count_of (old.entries + length next)
    → HearsBy kind starts new (then_elements given channel (part ++ more))
    (copies ++ map (marked channel) next)
hears-more {R} {kind} laws starts old new given channel part more copies next h few stands others
    heard printed =
    let was = then_elements given channel part in
    let later = map (marked channel) next in
    let all : length (elements_given (then_elements given channel (part ++ more)))
    ≡ length (elements_given was) + length more =
    ap length (elements-then given channel (part ++ more) ∙ sym (append_assoc _ part more)
    ∙ ap (λ bits. bits ++ more) (sym (elements-then given channel part)))
    ∙ length-append (elements_given was) more in
    let longer : length (copies ++ later) ≡ length copies + length next =
    length-append copies later
    ∙ ap (λ n. length copies + n) (length-map next (marked channel)) in
    let each = grows-on
    (λ other es log. kind.stands (start_on starts other) (receiver_on new other) es log) given
    channel part more copies next
    (stands (start_on starts channel) (share channel was) (copies_on channel copies)
    (h.receivers channel))
    (λ other not. subst (λ r. kind.stands (start_on starts other) r (share other was)
    (copies_on other copies)) (sym (others other not)) (h.receivers other)) in
    let first = first_setting (start_on starts channel) in
    let own = stands (start_on starts channel) (share channel was) (copies_on channel copies)
    (h.receivers channel) in
    let kept : (other : Channel) → (kind.start_of (receiver_on new other)).moment
    ≡ (kind.start_of (receiver_on old other)).moment =
    on-each (λ other. (kind.start_of (receiver_on new other)).moment
    ≡ (kind.start_of (receiver_on old other)).moment) channel
    (ap (λ (s : Setting). s.moment) (laws.in_force _ _ _ _ own
    ∙ force-more first (share channel was) more
    ∙ sym (laws.in_force _ _ _ _ (h.receivers channel))))
    (λ other not. ap (λ (r : R). (kind.start_of r).moment) (others other not)) in
    record {
      receivers = each;
      moments = λ other. kept other ∙ h.moments other
          ∙ in_force-elements starts.moment given channel part (part ++ more);
      in_turn = in_turn-other starts given (to_one channel (fed.elements part))
          (to_one channel (fed.elements (part ++ more))) copies later h.in_turn
          (have-printed laws starts new _ (copies ++ later) each);
      elements = counts-on old.elements new.elements (length (elements_given was)) (length more) _
          h.elements heard all;
      entries = counts-on old.entries new.entries (length copies) (length next) _
          h.entries printed longer;
      few = omega (arith, all, longer, few, h.few);
    }

-- The receiver of the channel heard so many of these elements, and handed out these copies with the
-- last of them; and then the listener counted both.
pub heard-to : {R : Type 0} {kind : ReceiverKind R} (laws : IsReceiver kind)
    (starts : Starts)
    (old mid now : ListeningOver R) (given : List Given) (channel : Channel)
    (part bits : List Bool) (n m k : ℕ) (copies : List MarkedCopy) (next : List TaggedCopy)
    → HearsBy kind starts old (then_elements given channel part) copies
    → HearsTo kind channel old mid bits n next
    → mid ≡ with_receiver old channel (receiver_on mid channel) → now ≡ mid
    → n ≤ length bits → length next ≤ n
    → m ≡ count_of (now.elements + n) → k ≡ count_of (now.entries + length next)
    → HearsBy kind starts (record now { elements = m; entries = k })
    (then_elements given channel (part ++ take n bits)) (copies ++ map (marked channel) next)
heard-to {R} {kind} laws starts old mid now given channel part bits n m k copies next h hears only
    e within few
    counted printed =
    let new = record now { elements = m; entries = k } in
    let same = same-receivers mid new (sym (ap (λ (l : ListeningOver R). l.on_0) e))
    (sym (ap (λ (l : ListeningOver R). l.on_1) e)) (sym (ap (λ (l : ListeningOver R). l.on_2) e)) in
    let differs = differs-on channel old mid only in
    let many : length (take n bits) ≡ n = length-take-le n bits within in
    hears-more laws starts old new given channel part (take n bits) copies next h
    (omega (arith, many, few))
    (λ start events log s. subst (λ r. kind.stands start r
    (events ++ fed.elements (take n bits))
    (log ++ next)) (same channel) (hears.stands start events log s))
    (λ other not. sym (same other) ∙ differs.others other not)
    (counted ∙ ap₂ (λ a b. count_of (a + b))
    (ap (λ (l : ListeningOver R). l.elements) e ∙ differs.elements) (sym many))
    (printed ∙ ap (λ a. count_of (a + length next))
    (ap (λ (l : ListeningOver R). l.entries) e ∙ differs.entries))

-- nothing more is printed before the last of them
pub none-before : {R : Type 0} {kind : ReceiverKind R} (starts : Starts)
    (old mid : ListeningOver R) (given : List Given) (channel : Channel)
    (part bits : List Bool) (n : ℕ) (copies : List MarkedCopy) (next : List TaggedCopy)
    → HearsBy kind starts old (then_elements given channel part) copies
    → HearsTo kind channel old mid bits n next → (k : ℕ) → k < n
    → PrintsInTurnBy kind.printing starts (then_elements given channel (part ++ take k bits)) copies
none-before {R} {kind} starts old mid given channel part bits n copies next h hears k lt =
    let start = start_on starts channel in
    let was = share channel (then_elements given channel part) in
    let mine = copies_on channel copies in
    subst (PrintsInTurnBy kind.printing starts (then_elements given channel (part ++ take k bits)))
    (append-nil copies)
    (in_turn-other starts given (to_one channel (fed.elements part))
    (to_one channel (fed.elements (part ++ take k bits))) copies [] h.in_turn
    (grows-on (λ other es log. kind.printing.so_far (start_on starts other) es log) given channel
    part
    (take k bits) copies []
    (subst (kind.printing.so_far start (was ++ fed.elements (take k bits))) (sym (append-nil mine))
    (hears.first start was mine (h.receivers channel) k lt))
    (λ other not. h.in_turn.each other)))

-- So many elements of a channel were heard with which nothing is over: nothing is handed out.
pub hears-quiet : {R Over : Type 0} {kind : ReceiverKind R} (awaits : AwaitsFinish R Over)
    (channel : Channel) (old new : ListeningOver R) (bits : List Bool) (n : ℕ)
    (left : Option Over)
    → NothingAwaited kind awaits → left ≡ None
    → HearsUpToBy kind awaits (receiver_on old channel) (receiver_on new channel) (take n bits) left
    → HandsOutNoneBeforeBy kind (receiver_on old channel) bits n
    → HearsTo kind channel old new bits n []
hears-quiet {R} {Over} {kind} awaits channel old new bits n left none nothing hears before =
    record {
      stands = λ start history log s.
          let events = history ++ fed.elements (take n bits) in
          subst (λ l. kind.stands start (receiver_on new channel) events l)
          (sym (append-nil log))
          (none start (receiver_on new channel) events log
          (subst (λ over. awaits start (receiver_on new channel) events log over) nothing
          (hears start history log s)));
      first = before;
    }

-- What is over with so many elements was finished, and so many more were heard.
pub hears-then : {R Over : Type 0} {kind : ReceiverKind R} (awaits : AwaitsFinish R Over)
    (channel : Channel) (old mid new : ListeningOver R) (packed : List Bool) (from n m : ℕ)
    (left : Option Over) (over : Over) (copies : List TaggedCopy) → left ≡ Some over
    → HearsUpToBy kind awaits (receiver_on old channel) (receiver_on mid channel)
    (take n (drop from packed)) left
    → HandsOutNoneBeforeBy kind (receiver_on old channel) (drop from packed) n
    → FinishesNextBy kind awaits (receiver_on mid channel) (receiver_on new channel) over
    (drop (from + n) packed) m copies
    → HearsTo kind channel old new (drop from packed) (n + m) copies
hears-then {R} {Over} {kind} awaits channel old mid new packed from n m left over copies is hears
    before finishes =
    let due : (start : Start) (history : List Event) (log : List TaggedCopy)
    → kind.stands start (receiver_on old channel) history log
    → awaits start (receiver_on mid channel)
    (history ++ fed.elements (take n (drop from packed))) log (Some over) =
    λ start history log s. subst (λ o. awaits start (receiver_on mid channel)
    (history ++ fed.elements (take n (drop from packed))) log o) is (hears start history log s) in
    record {
      stands = λ start history log s.
          subst (λ events. kind.stands start (receiver_on new channel) events (log ++ copies))
          (heard_then history packed from n m)
          (finishes.stands start (history ++ fed.elements (take n (drop from packed))) log
          (due start history log s));
      first = λ start history log s. printed_then kind.printing start history log packed from n m
          (λ k lt. before start history log s k lt)
          (λ k lt. finishes.first start (history ++ fed.elements (take n (drop from packed))) log
          (due start history log s) k lt);
    }

-- only the receiver of the channel is another, after both
pub only-then : {R : Type 0} (channel : Channel) (old mid new : ListeningOver R)
    → mid ≡ with_receiver old channel (receiver_on mid channel)
    → new ≡ with_receiver mid channel (receiver_on new channel)
    → new ≡ with_receiver old channel (receiver_on new channel)
only-then {R} Zero old mid new e f = f ∙ ap (λ l. with_receiver l Zero new.on_0) e
only-then {R} One old mid new e f = f ∙ ap (λ l. with_receiver l One new.on_1) e
only-then {R} Two old mid new e f = f ∙ ap (λ l. with_receiver l Two new.on_2) e

-- what a listener counts changes no text
pub text-counted : {R : Type 0} (kind : ReceiverKind R) (mid now : ListeningOver R)
    (channel : Channel) (m k : ℕ) → now ≡ mid
    → text_by kind (record now { elements = m; entries = k }) channel ≡ text_by kind mid channel
text-counted {R} kind mid now channel m k e =
    sym (ap kind.text_of (same-receivers mid
    (record now { elements = m; entries = k }) (sym (ap (λ (l : ListeningOver R). l.on_0) e))
    (sym (ap (λ (l : ListeningOver R). l.on_1) e)) (sym (ap (λ (l : ListeningOver R). l.on_2) e))
    channel))

-- Such a head has its entry's bytes, whatever the channel, and none has none.
pub head-log : (channel : Channel) (head : Option EntryHead) (text : List ℕ)
    → IfSome head (λ head. HeadsText head text)
    → (bytes : List ℕ) × IsLog (map (marked channel) (headed_list head text)) bytes
head-log channel None text h = ([], no-log)
head-log channel (Some head) text h =
    some_log (marked channel (headed_copy head text true) ∷ [])
    (All-cons (λ (one : MarkedCopy). one.copy.moment ≤ last_moment)
    (marked channel (headed_copy head text true)) [] h.in_range
    (All-nil (λ (one : MarkedCopy). one.copy.moment ≤ last_moment)))

-- More was given, and these copies were printed, of which these bytes are the log.
pub logs-more : {R : Type 0} {kind : ReceiverKind R} (starts : Starts)
    (old new : ListeningOver R) (given more : List Given) (bytes next : List ℕ)
    (copies : List MarkedCopy) → IsLog copies next
    → (h : HearsLogBy kind starts old given bytes)
    → HearsBy kind starts new more (h.log ++ copies)
    → HearsLogBy kind starts new more (bytes ++ next)
logs-more starts old new given more bytes next copies spelled h hears = record {
  log = h.log ++ copies;
  hears = hears;
  spelled = logs_join h.log copies bytes next h.spelled spelled;
}

-- a log so far is that of the first copies of more
pub begins-more : {R : Type 0} {kind : ReceiverKind R} (laws : IsReceiver kind)
    (starts : Starts) (listener : ListeningOver R) (given : List Given) (channel : Channel)
    (part more : List Bool) (bytes : List ℕ)
    → HearsLogBy kind starts listener (then_elements given channel part) bytes
    → BeginsLogBy kind.printing starts (then_elements given channel (part ++ more)) bytes
begins-more {R} {kind} laws starts listener given channel part more bytes h =
    let start = start_on starts channel in
    let was = share channel (then_elements given channel part) in
    let all = laws.printing.some start (was ++ fed.elements more) in
    let on = laws.printing.stays start was (fed.elements more) (copies_on channel h.log) all.0
    (h.hears.in_turn.each channel) all.1 in
    record {
      first = h.log;
      rest = map (marked channel) on.0;
      printed = in_turn-other starts given (to_one channel (fed.elements part))
          (to_one channel (fed.elements (part ++ more))) h.log (map (marked channel) on.0)
          h.hears.in_turn
          (grows-on (λ other es log. kind.printing.so_far (start_on starts other) es log) given
          channel part more h.log on.0
          (subst (kind.printing.so_far start (was ++ fed.elements more)) on.1 all.1)
          (λ other not. h.hears.in_turn.each other));
      spelled = h.spelled;
    }

-- the elements before and after a place are all
pub whole-part : (part bits : List Bool) (n : ℕ)
    → (part ++ take n bits) ++ drop n bits ≡ part ++ bits
whole-part part bits n =
    append_assoc part (take n bits) (drop n bits)
    ∙ ap (λ bs. part ++ bs) (take-append-drop n bits)

-- the next of these elements, and all that are left
pub elements-next : (bits : List Bool) (at count : ℕ)
    → take at bits ++ take count (drop at bits) ≡ take (at + count) bits
elements-next bits at count = sym (take-add at count bits)

pub elements-rest : (bits : List Bool) (at : ℕ)
    → take at bits ++ drop at bits ≡ bits
elements-rest bits at = take-append-drop at bits

-- before the first element of a line
if-empty : (b : Bool) → cond b (fed.elements []) [] ≡ []
if-empty true = refl
if-empty false = refl

-- no elements of a channel change nothing
pub none-given : {R : Type 0} {kind : ReceiverKind R} (laws : IsReceiver kind)
    (starts : Starts)
    (listener : ListeningOver R) (given : List Given) (channel : Channel)
    (copies : List MarkedCopy) → HearsBy kind starts listener given copies
    → HearsBy kind starts listener (then_elements given channel []) copies
unfolding fed.elements_among
none-given {R} {kind} laws starts listener given channel copies h =
    hears-next laws starts listener listener given (to_one channel []) copies h refl
    (elements-set channel []) refl refl
    (λ other log s. subst (λ es. kind.stands (start_on starts other)
    (receiver_on listener other) es log)
    (sym (ap (λ es. share other given ++ es) (if-empty (same_channel channel other))
    ∙ append-nil (share other given))) s)

pub none-heard : {R : Type 0} {kind : ReceiverKind R} (laws : IsReceiver kind)
    (starts : Starts) (listener : ListeningOver R) (given : List Given)
    (channel : Channel) (bytes : List ℕ) → HearsLogBy kind starts listener given bytes
    → HearsLogBy kind starts listener (then_elements given channel []) bytes
none-heard laws starts listener given channel bytes h = record {
  log = h.log;
  hears = none-given laws starts listener given channel h.log h.hears;
  spelled = h.spelled;
}

-- with what a listener starts, by what its receivers have
starts-is : {R : Type 0} {kind : ReceiverKind R} (laws : IsReceiver kind) (starts : Starts)
    (listener : ListeningOver R)
    → ((channel : Channel) → kind.stands (start_on starts channel)
    (receiver_on listener channel) [] [])
    → ((channel : Channel) → (kind.start_of (receiver_on listener channel)).entries
    ≡ starts.entries channel)
    → starts_by kind listener ≡ starts
unfolding setting_after_all
starts-is {R} {kind} laws starts listener stands same =
    ap₂ (λ n es. record {
      moment = n;
      entries = es;
      refused =
          (starts_by kind listener).refused;
    })
    (ap (λ (s : Setting). s.moment) (laws.in_force _ _ _ _ (stands Zero))) (fun_ext same)
    ∙ ap (λ r. record { moment = starts.moment; entries = starts.entries; refused = r })
    (fun_ext (λ channel.
    ap (λ (s : Setting). s.refused) (laws.in_force _ _ _ _ (stands channel))))

-- a listener that was made has heard nothing
heard-nothing : {R : Type 0} {kind : ReceiverKind R} (laws : IsReceiver kind) (starts : Starts)
    (listener : ListeningOver R)
    → ((channel : Channel) → kind.stands (start_on starts channel)
    (receiver_on listener channel) [] [])
    → listener.elements ≡ 0 → listener.entries ≡ 0 → HearsBy kind starts listener [] []
unfolding setting_after_all
heard-nothing {R} {kind} laws starts listener stands elements' entries' = record {
  receivers = stands;
  moments = λ channel.
      ap (λ (s : Setting). s.moment) (laws.in_force _ _ _ _ (stands channel));
  in_turn = in_turn-none starts (have-printed laws starts listener [] [] stands);
  elements = elements';
  entries = entries';
  few = omega arith;
}

-- a listener of these receivers, which counted nothing and had no moment
abbrev pub made_of : {R : Type 0} → R → R → R → ListeningOver R
made_of on_0 on_1 on_2 = record {
  on_0 = on_0;
  on_1 = on_1;
  on_2 = on_2;
  has_moment = false;
  elements = 0;
  entries = 0;
}

-- it has heard nothing, and starts with this, where its receivers do
pub heard-first : {R : Type 0} {kind : ReceiverKind R} (laws : IsReceiver kind) (starts : Starts)
    (on_0 on_1 on_2 : R) → kind.stands (start_on starts Zero) on_0 [] []
    → kind.stands (start_on starts One) on_1 [] []
    → kind.stands (start_on starts Two) on_2 [] []
    → HearsBy kind starts (made_of on_0 on_1 on_2) [] []
heard-first {R} {kind} laws starts on_0 on_1 on_2 zero one two =
    heard-nothing laws starts (made_of on_0 on_1 on_2)
    (on-all (λ channel. kind.stands (start_on starts channel)
    (receiver_on (made_of on_0 on_1 on_2) channel) [] []) zero one two) refl refl

pub starts-first : {R : Type 0} {kind : ReceiverKind R} (laws : IsReceiver kind) (starts : Starts)
    (on_0 on_1 on_2 : R) → kind.stands (start_on starts Zero) on_0 [] []
    → kind.stands (start_on starts One) on_1 [] []
    → kind.stands (start_on starts Two) on_2 [] []
    → (kind.start_of on_0).entries ≡ starts.entries Zero
    → (kind.start_of on_1).entries ≡ starts.entries One
    → (kind.start_of on_2).entries ≡ starts.entries Two
    → starts_by kind (made_of on_0 on_1 on_2) ≡ starts
starts-first {R} {kind} laws starts on_0 on_1 on_2 zero one two same_0 same_1 same_2 =
    starts-is laws starts (made_of on_0 on_1 on_2)
    (on-all (λ channel. kind.stands (start_on starts channel)
    (receiver_on (made_of on_0 on_1 on_2) channel) [] []) zero one two)
    (on-all (λ channel. (kind.start_of (receiver_on (made_of on_0 on_1 on_2) channel)).entries
    ≡ starts.entries channel) same_0 same_1 same_2)

-- and took no line
pub took-nothing : {R : Type 0} {kind : ReceiverKind R} (starts : Starts)
    (listener : ListeningOver R) → starts.moment ≤ last_moment
    → HearsBy kind starts listener [] [] → listener.has_moment ≡ false
    → IsListeningBy kind starts listener [] []
unfolding AreTakenAfter
took-nothing starts listener within heard none = record {
  taken = are-taken starts [] within tt;
  moment = none;
  hears = record { log = []; hears = heard; spelled = no-log };
}

-- a listener that starts with what is saved took no line
pub begins-from : {R : Type 0} {kind : ReceiverKind R} (starts : Starts)
    (listener : ListeningOver R) → starts_by kind listener ≡ starts
    → starts.moment ≤ last_moment → HearsBy kind starts listener [] []
    → listener.has_moment ≡ false → StandsFromBy kind listener listener [] []
begins-from {R} {kind} starts listener start within heard none =
    subst (λ (from : Starts). IsListeningBy kind from listener [] []) (sym start)
    (took-nothing starts listener within heard none)

-- after the elements of a line, of the channel that it names
elements-of : (lines : List Line) (mark : Option Channel) (channel : Channel) (bits : List Bool)
    → channel ≡ channel_of mark
    → then_elements (given_by lines) channel bits ≡ given_by (lines ++ elements mark bits ∷ [])
elements-of lines mark channel bits e =
    ap (λ on. then_elements (given_by lines) on bits) e
    ∙ sym (given_by-one lines (elements mark bits))

pub heard-line : {R : Type 0} {kind : ReceiverKind R} (starts : Starts)
    (old new : ListeningOver R) (lines : List Line) (mark : Option Channel) (channel : Channel)
    (bits : List Bool) (bytes more : List ℕ) → channel ≡ channel_of mark
    → IsListeningBy kind starts old lines bytes → has_moment lines ≡ true
    → new.has_moment ≡ old.has_moment
    → HearsLogBy kind starts new (then_elements (given_by lines) channel bits) more
    → IsListeningBy kind starts new (lines ++ elements mark bits ∷ []) more
heard-line {R} {kind} starts old new lines mark channel bits bytes more e h some same heard =
    record {
      taken = taken-one starts lines (elements mark bits) h.taken some;
      moment = moment-other lines (elements mark bits) _ (same ∙ h.moment) refl;
      hears = subst (λ given. HearsLogBy kind starts new given more)
          (elements-of lines mark channel bits e) heard;
    }

pub begins-line : (printing : Printing) (starts : Starts) (lines : List Line)
    (mark : Option Channel) (channel : Channel) (bits : List Bool) (bytes : List ℕ)
    → channel ≡ channel_of mark → AreTaken starts lines → has_moment lines ≡ true
    → BeginsLogBy printing starts (then_elements (given_by lines) channel bits) bytes
    → BeginsListeningBy printing starts (lines ++ elements mark bits ∷ []) bytes
begins-line printing starts lines mark channel bits bytes e taken some h = record {
  taken = taken-one starts lines (elements mark bits) taken some;
  begun = subst (λ given. BeginsLogBy printing starts given bytes)
      (elements-of lines mark channel bits e) h;
}

pub none-left : {A : Type 0} (o : Option A) → ((x : A) → o ≡ Some x → ⊥) → o ≡ None
none-left None h = refl
none-left (Some x) h = absurd (h x refl)

-- what follows on Ok
pub on_ok-map : {A B : Type 0} {P Q : Type 0} (result : Result A B) → OnOk result P → (P → Q)
    → OnOk result Q
on_ok-map (Ok x) p f = f p
on_ok-map (Err x) p f = tt
