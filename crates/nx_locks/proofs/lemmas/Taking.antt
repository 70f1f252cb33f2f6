-- What a line does to a taker of lines.
use Rattle.std.proofs.Common.{◌≡◌, ℕ, ◌+◌, ◌^◌, ◌<◌, ◌≤◌, Result, Ok, Err, MatchResult, Bool, true, false}
use Rattle.std.proofs.Common.{List, [], ◌∷◌, ◌++◌, map, length, refl, sym, ap, ◌∙◌, subst, subst₂}
use Rattle.std.proofs.Common.{append-nil, arith}
use Rattle.std.specs.Prelude.{if◌then◌else◌, Option}
use Rattle.std.proofs.lemmas.List.{map-append}
use Rattle.nx_envelope.specs.Moment.{last_moment}
use Rattle.nx_fec.specs.air_files.AirFile.{Line, moment, elements, refuse_station, accept_station}
use Rattle.nx_fec.specs.air_files.AirFile.{refuse_subject, accept_subject}
use Rattle.nx_fec.specs.air_files.Channels.{channel_of, same_channel}
use Rattle.nx_fec.specs.declared.air_files.channel.Channel.{Channel}
use Rattle.nx_fec.specs.declared.air_files.channel.Channel.TheVariants.{Zero, One, Two}
use Rattle.nx_memory.specs.Selection.{is_vital}
use Rattle.nx_copies.specs.Events as events
use Rattle.nx_copies.specs.Events.{Command, Event, Setting, command, elements_among, element}
use Rattle.nx_copies.specs.Events.{first_setting, setting_after, setting_after_all, settings}
use Rattle.nx_receiver.specs.air_file_runs.Listen.{events_on, given_by, given_of, has_moment, moment_after}
use Rattle.nx_receiver.specs.private.Listener.{RefusesLine}
use Rattle.nx_receiver.specs.private.Taken.{AreTakenAfter, IsTakenAfter}
use Rattle.nx_receiver.proofs.lemmas.listening.Taken.{are-taken}
use Rattle.nx_copies.specs.copies.Shares.{all_at_zero, events_for, share, start_on, to_one}
use Rattle.nx_copies.proofs.lemmas.channels.Shares.{share-one}
use Rattle.nx_receiver.proofs.lemmas.chain.Moments.{after-more}
use Rattle.nx_receiver.proofs.lemmas.listening.Listener.{given_by-one, moment-on, moment-one, moment-other}
use Rattle.nx_receiver.proofs.lemmas.listening.Listener.{taken-one}
use Rattle.nx_copies.proofs.lemmas.printing.Logged.{bits_of-append, settings-append}
use Rattle.nx_locks.specs.Run.{elements_on_0, ending_of, moments_on_0}
use Rattle.nx_locks.specs.private.ReportWriter.{IsShowing}
use Rattle.nx_locks.specs.private.Showing.{HearsAll, Showing, ShowsSoFar}
use Rattle.nx_receiver.specs.declared.air_file_runs.listen_fault.LineRefusal.{LineRefusal}
use Rattle.nx_locks.specs.private.Taker.{TakerShows, Taking, all_at}

-- what a line gives to channel 0, and what is in force there after lines
abbrev gives : Line → List Event
gives line = events_for Zero (given_of line)

abbrev in_force : List Line → Setting
in_force lines =
    setting_after_all (first_setting (start_on all_at_zero Zero)) (events_on Zero lines)

abbrev moments_in : Setting → List Event → List ℕ
moments_in now events = map (λ (s : Setting). s.moment) (settings now events)

given-one : (lines : List Line) (line : Line)
    → events_on Zero (lines ++ line ∷ []) ≡ events_on Zero lines ++ gives line
given-one lines line =
    ap (share Zero) (given_by-one lines line) ∙ share-one Zero (given_by lines) (given_of line)

elements-one : (lines : List Line) (line : Line)
    → elements_on_0 (lines ++ line ∷ []) ≡ elements_on_0 lines ++ elements_among (gives line)
elements-one lines line =
    ap elements_among (given-one lines line) ∙ bits_of-append (events_on Zero lines) (gives line)

moments-one : (lines : List Line) (line : Line)
    → moments_on_0 (lines ++ line ∷ [])
    ≡ moments_on_0 lines ++ moments_in (in_force lines) (gives line)
moments-one lines line =
    let first = first_setting (start_on all_at_zero Zero) in
    ap (moments_in first) (given-one lines line)
    ∙ ap (map (λ (s : Setting). s.moment))
    (settings-append first (events_on Zero lines) (gives line))
    ∙ map-append (λ (s : Setting). s.moment) (settings first (events_on Zero lines))
    (settings (in_force lines) (gives line))

-- a line that has no elements of channel 0
other_line : (old new : Showing) (lines : List Line) (line : Line) (given : List ℕ)
    → IsShowing old lines given → IsTakenAfter all_at_zero lines line
    → elements_among (gives line) ≡ [] → moments_in (in_force lines) (gives line) ≡ []
    → new.has_moment ≡ has_moment (lines ++ line ∷ [])
    → new.taker.moment ≡ moment_after (ending_of lines) (line ∷ [])
    → ShowsSoFar new (elements_on_0 lines) (moments_on_0 lines) given
    → IsShowing new (lines ++ line ∷ []) given
other_line old new lines line given h taken none never said now shows = record {
  taken = taken-one all_at_zero lines line h.taken taken;
  has_moment = said;
  moment = now ∙ sym (after-more 0 lines (line ∷ []));
  shows = subst₂ (λ (x : List Bool) (y : List ℕ). ShowsSoFar new x y given)
      (sym (elements-one lines line ∙ ap (λ l. elements_on_0 lines ++ l) none
      ∙ append-nil (elements_on_0 lines)))
      (sym (moments-one lines line ∙ ap (λ l. moments_on_0 lines ++ l) never
      ∙ append-nil (moments_on_0 lines))) shows;
}

bits_of-elements : (bits : List Bool) → elements_among (events.elements bits) ≡ bits
unfolding elements_among
bits_of-elements [] = refl
bits_of-elements (bit ∷ bits) = ap (λ bs. bit ∷ bs) (bits_of-elements bits)

moments-elements : (now : Setting) (bits : List Bool)
    → moments_in now (events.elements bits) ≡ all_at now.moment bits
unfolding settings all_at
moments-elements now [] = refl
moments-elements now (bit ∷ bits) = ap (λ l. now.moment ∷ l) (moments-elements now bits)

-- what a line of elements gives to channel 0, whether it is of that channel or not
given-elements : (mark : Option Channel) (bits : List Bool) (b : Bool)
    → same_channel (channel_of mark) Zero ≡ b
    → gives (elements mark bits) ≡ if b then events.elements bits else []
given-elements mark bits b e = ap (λ (c : Bool). if c then events.elements bits else []) e

-- a line of elements of channel 0
pub element_line : (old new : Showing) (lines : List Line) (mark : Option Channel)
    (bits : List Bool) (given : List ℕ)
    → same_channel (channel_of mark) Zero ≡ true → IsShowing old lines given
    → has_moment lines ≡ true → HearsAll old new bits
    → length (elements_on_0 lines) + length bits < 2 ^ 64
    → IsShowing new (lines ++ elements mark bits ∷ []) (given ++ new.taker.shown)
element_line old new lines mark bits given zero h some heard few =
    let line = elements mark bits in
    let shows = heard.hears (elements_on_0 lines) (moments_on_0 lines) given h.shows few in
    let gives_bits = given-elements mark bits true zero in
    let times : moments_on_0 lines ++ all_at old.taker.moment bits
    ≡ moments_on_0 (lines ++ line ∷ []) =
    ap (λ m. moments_on_0 lines ++ all_at m bits)
    (h.moment ∙ sym (moment-on Zero (first_setting (start_on all_at_zero Zero)) lines))
    ∙ ap (λ l. moments_on_0 lines ++ l)
    (sym (ap (moments_in (in_force lines)) gives_bits ∙ moments-elements (in_force lines) bits))
    ∙ sym (moments-one lines line) in
    let all : elements_on_0 lines ++ bits ≡ elements_on_0 (lines ++ line ∷ []) =
    ap (λ l. elements_on_0 lines ++ l)
    (sym (ap elements_among gives_bits ∙ bits_of-elements bits))
    ∙ sym (elements-one lines line) in
    record {
      taken = taken-one all_at_zero lines line h.taken some;
      has_moment = moment-other lines line _ (heard.has_moment ∙ h.has_moment) refl;
      moment = heard.moment ∙ h.moment ∙ sym (after-more 0 lines (line ∷ []));
      shows = subst₂ (λ (x : List Bool) (y : List ℕ). ShowsSoFar new x y
          (given ++ new.taker.shown)) all times shows;
    }

-- a taker that has taken nothing
pub nothing_taken : (report_writer : Showing) → ShowsSoFar report_writer [] [] []
    → report_writer.taker.moment ≡ 0
    → report_writer.has_moment ≡ false → IsShowing report_writer [] []
unfolding AreTakenAfter elements_among settings
nothing_taken report_writer shows zero has = record {
  taken = are-taken all_at_zero [] (omega arith) tt;
  has_moment = has;
  moment = zero;
  shows = shows;
}

-- a moment
pub moment_line : (old : Showing) (taker : Taking) (lines : List Line) (n : ℕ) (given : List ℕ)
    → IsShowing old lines given → old.taker.moment ≤ n → n ≤ last_moment
    → taker ≡ record old.taker { moment = n }
    → IsShowing (record old { taker = taker; has_moment = true }) (lines ++ moment n ∷ []) given
unfolding elements_among settings
moment_line old taker lines n given h after within now =
    other_line old (record old { taker = taker; has_moment = true }) lines (moment n) given h
    (subst (λ m. m ≤ n) h.moment after, within) refl refl (moment-one lines n)
    (ap (λ (t : Taking). t.moment) now) (record {
      synchroniser = h.shows.synchroniser;
      taker = subst (λ (t : Taking). TakerShows t (elements_on_0 lines) (moments_on_0 lines) given)
          (sym now) (record {
            elements = h.shows.taker.elements;
            room = h.shows.taker.room;
            shows = h.shows.taker.shows;
          });
    })

-- elements of another channel change nothing
pub skipped_line : (now : Showing) (lines : List Line) (mark : Option Channel) (bits : List Bool)
    (given : List ℕ) → same_channel (channel_of mark) Zero ≡ false → IsShowing now lines given
    → has_moment lines ≡ true → IsShowing now (lines ++ elements mark bits ∷ []) given
unfolding elements_among settings
skipped_line now lines mark bits given other h some =
    let none = given-elements mark bits false other in
    other_line now now lines (elements mark bits) given h some (ap elements_among none)
    (ap (moments_in (in_force lines)) none)
    (moment-other lines (elements mark bits) _ h.has_moment refl) h.moment h.shows

-- a command changes nothing, on whichever channel
none_of_command : (channel : Channel) (c : Command)
    → elements_among (events_for Zero (to_one channel (command c ∷ []))) ≡ []
unfolding elements_among
none_of_command Zero c = refl
none_of_command One c = refl
none_of_command Two c = refl

never_of_command : (channel : Channel) (c : Command) (now : Setting)
    → moments_in now (events_for Zero (to_one channel (command c ∷ []))) ≡ []
unfolding settings
never_of_command Zero c now = refl
never_of_command One c now = refl
never_of_command Two c now = refl

pub refuse_station_line : (now : Showing) (lines : List Line) (mark : Option Channel) (letter : ℕ)
    (given : List ℕ) → IsShowing now lines given
    → IsShowing now (lines ++ refuse_station mark letter ∷ []) given
refuse_station_line now lines mark letter given h =
    other_line now now lines (refuse_station mark letter) given h tt
    (none_of_command (channel_of mark) (events.refuse_station letter))
    (never_of_command (channel_of mark) (events.refuse_station letter) (in_force lines))
    (moment-other lines (refuse_station mark letter) _ h.has_moment refl) h.moment h.shows

pub accept_station_line : (now : Showing) (lines : List Line) (mark : Option Channel) (letter : ℕ)
    (given : List ℕ) → IsShowing now lines given
    → IsShowing now (lines ++ accept_station mark letter ∷ []) given
accept_station_line now lines mark letter given h =
    other_line now now lines (accept_station mark letter) given h tt
    (none_of_command (channel_of mark) (events.accept_station letter))
    (never_of_command (channel_of mark) (events.accept_station letter) (in_force lines))
    (moment-other lines (accept_station mark letter) _ h.has_moment refl) h.moment h.shows

pub accept_subject_line : (now : Showing) (lines : List Line) (mark : Option Channel) (letter : ℕ)
    (given : List ℕ) → IsShowing now lines given
    → IsShowing now (lines ++ accept_subject mark letter ∷ []) given
accept_subject_line now lines mark letter given h =
    other_line now now lines (accept_subject mark letter) given h tt
    (none_of_command (channel_of mark) (events.accept_subject letter))
    (never_of_command (channel_of mark) (events.accept_subject letter) (in_force lines))
    (moment-other lines (accept_subject mark letter) _ h.has_moment refl) h.moment h.shows

pub refuse_subject_line : (now : Showing) (lines : List Line) (mark : Option Channel) (letter : ℕ)
    (given : List ℕ) → is_vital letter ≡ false → IsShowing now lines given
    → IsShowing now (lines ++ refuse_subject mark letter ∷ []) given
refuse_subject_line now lines mark letter given allowed h =
    other_line now now lines (refuse_subject mark letter) given h allowed
    (none_of_command (channel_of mark) (events.refuse_subject letter))
    (never_of_command (channel_of mark) (events.refuse_subject letter) (in_force lines))
    (moment-other lines (refuse_subject mark letter) _ h.has_moment refl) h.moment h.shows

-- what was shown before was cleared
pub cleared : (old : Showing) (taker : Taking) (lines : List Line) (given : List ℕ)
    → taker ≡ record old.taker { shown = [] } → IsShowing old lines given
    → IsShowing (record old { taker = taker }) lines given
cleared old taker lines given is h =
    subst (λ (t : Taking). IsShowing (record old { taker = t }) lines given) (sym is) (record {
      taken = h.taken;
      has_moment = h.has_moment;
      moment = h.moment;
      shows = record {
        synchroniser = h.shows.synchroniser;
        taker = record {
          elements = h.shows.taker.elements;
          room = h.shows.taker.room;
          shows = h.shows.taker.shows;
        };
      };
    })

-- nothing was shown
pub nothing_more : (now : Showing) (lines : List Line) (given : List ℕ) → now.taker.shown ≡ []
    → IsShowing now lines given → IsShowing now lines (given ++ now.taker.shown)
nothing_more now lines given none h =
    subst (IsShowing now lines) (sym (ap (λ l. given ++ l) none ∙ append-nil given)) h

-- the refusal of a subject is taken, or refused itself
pub subject_shown : (outcome : Result (Unit {0}) LineRefusal) (now : Showing) (lines : List Line)
    (mark : Option Channel) (byte letter : ℕ) (given : List ℕ) → letter ≡ byte
    → now.taker.shown ≡ [] → IsShowing now lines given
    → MatchResult outcome (λ _. is_vital letter ≡ false)
    (RefusesLine all_at_zero lines (refuse_subject mark letter))
    → MatchResult outcome
    (λ _. IsShowing now (lines ++ refuse_subject mark byte ∷ []) (given ++ now.taker.shown))
    (RefusesLine all_at_zero lines (refuse_subject mark byte))
subject_shown (Ok x) now lines mark byte letter given same none stood allowed =
    nothing_more now _ given none
    (refuse_subject_line now lines mark byte given (ap is_vital (sym same) ∙ allowed) stood)
subject_shown (Err why) now lines mark byte letter given same none stood refused =
    subst (λ (b : ℕ). RefusesLine all_at_zero lines (refuse_subject mark b) why) same refused

-- what a line shows was read
pub next_shown : (now : Showing) (lines : List Line) (line is : Line) (given shown : List ℕ)
    → line ≡ is → shown ≡ now.taker.shown
    → IsShowing now (lines ++ is ∷ []) (given ++ now.taker.shown)
    → IsShowing now (lines ++ line ∷ []) (given ++ shown)
next_shown now lines line is given shown same read h =
    subst (λ l. IsShowing now (lines ++ l ∷ []) (given ++ shown)) (sym same)
    (subst (λ b. IsShowing now (lines ++ is ∷ []) (given ++ b)) (sym read) h)
