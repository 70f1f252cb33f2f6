-- What the taking of a line by a listener answers, by what the line says.
use Rattle.std.proofs.Common.{◌≡◌, ℕ, List, [], ◌∷◌, ◌++◌, Option, Some, Result, Ok, Err}
use Rattle.std.proofs.Common.{Bool, IfOk, IsTrue, MatchResult, false, true, refl, sym, ap, ◌∙◌}
use Rattle.std.proofs.Common.{subst}
use Rattle.nx_fec.specs.air_files.AirFile.{Line, moment, elements, refuse_station, accept_station}
use Rattle.nx_fec.specs.air_files.AirFile.{refuse_subject, accept_subject}
use Rattle.nx_fec.specs.air_files.LineReading.{SaysLatest}
use Rattle.nx_fec.specs.air_files.LineRuns.{HasGiven, Waiting}
use Rattle.nx_fec.specs.private.LineRuns.{HasTaken}
use Rattle.nx_fec.specs.declared.air_files.line_reader.NextLine.TheVariants as next
use Rattle.nx_fec.specs.air_files.Lines.{elements_of}
use Rattle.nx_fec.specs.air_files.Channels.{channel_of}
use Rattle.nx_fec.specs.air_files.Scanner.{elements_kept, kind_kept, kind_of, line_with}
use Rattle.nx_fec.specs.declared.air_files.lines.LineKind.{LineKind}
use Rattle.nx_fec.specs.declared.air_files.lines.LineKind.TheVariants.{AcceptStation, AcceptSubject, Elements}
use Rattle.nx_fec.specs.declared.air_files.lines.LineKind.TheVariants.{Moment, RefuseStation, RefuseSubject}
use Rattle.nx_fec.specs.declared.air_files.channel.Channel.{Channel}
use Rattle.nx_receiver.specs.Commands.{refuses_vital}
use Rattle.nx_copies.specs.Events.{Command, command}
use Rattle.nx_copies.specs.Events as fed
use Rattle.nx_receiver.specs.air_file_runs.Listen.{given_by, given_of, is_moment_line}
use Rattle.nx_receiver.specs.ChannelReceiver.{IsReceiver, ReceiverKind, TakesEventBy}
use Rattle.nx_copies.specs.copies.Shares.{Given, Starts, to_one}
use Rattle.nx_receiver.specs.Listener.{ListeningOver}
use Rattle.nx_receiver.specs.private.Listener.{Listening}
use Rattle.nx_receiver.specs.private.Listener.{IsListening, IsListeningBy}
use Rattle.nx_receiver.specs.Listener.{receiver_on}
use Rattle.nx_receiver.specs.private.Listener.{content}
use Rattle.nx_receiver.specs.private.Listener.{RefusesLine, StandsFromBy}
use Rattle.nx_receiver.specs.private.PlainReceiver.{plain-receiver}
use Rattle.nx_receiver.specs.Listener.{starts_by, then_elements, with_receiver}
use Rattle.nx_receiver.specs.private.Taken.{IsTakenAfter}
use Rattle.nx_receiver.specs.private.Unlogged.{HasHeard, HasHeardGiven}
use Rattle.nx_receiver.specs.declared.air_file_runs.listen_fault.LineRefusal.{LineRefusal}
use Rattle.nx_receiver.specs.declared.air_file_runs.listen_fault.LineRefusal.TheVariants.{NoMoment}
use Rattle.nx_receiver.proofs.lemmas.listening.Listener.{commanded-on, heard-line, none-heard}

line-is : (line : Line) → line ≡ line_with (kind_of line) (elements_of line)
line-is (moment n) = refl
line-is (elements mark bits) = refl
line-is (refuse_station mark letter) = refl
line-is (accept_station mark letter) = refl
line-is (refuse_subject mark letter) = refl
line-is (accept_subject mark letter) = refl

-- the line is the one that its kind says
pub of-kind : (line : Line) (kind is : LineKind) → kind_of line ≡ kind → kind ≡ is
    → line ≡ line_with is (elements_of line)
of-kind line kind is e h = line-is line ∙ ap (λ k. line_with k (elements_of line)) (e ∙ h)

-- the line that a reader gave last, where it said this
pub last-kind : (latest : Option Line) (kind : LineKind) (line : Line)
    → SaysLatest latest (next.Line kind) → latest ≡ Some line → kind_of line ≡ kind
last-kind latest kind line says e =
    sym (subst (λ o. SaysLatest o (next.Line kind)) e says).1

pub last-line : (latest : Option Line) (kind : LineKind) (bits : List Bool) (line : Line)
    → SaysLatest latest (next.Line kind) → latest ≡ Some line → bits ≡ elements_kept latest
    → line ≡ line_with kind bits
last-line latest kind bits line says e same =
    of-kind line kind kind (last-kind latest kind line says e) refl
    ∙ ap (λ bits. line_with kind bits) (sym (same ∙ ap elements_kept e))

pub last-elements : (latest : Option Line) (kind : LineKind) (mark : Option Channel)
    (bits : List Bool) (line : Line) → SaysLatest latest (next.Line kind) → latest ≡ Some line
    → kind ≡ Elements mark → bits ≡ elements_kept latest → line ≡ elements mark bits
last-elements latest kind mark bits line says e is same =
    last-line latest kind bits line says e same ∙ ap (λ kind. line_with kind bits) is

-- what says so says so with any elements
pub kind-with : (kind : LineKind) (bits : List Bool) → kind_of (line_with kind bits) ≡ kind
kind-with (Moment n) bits = refl
kind-with (Elements mark) bits = refl
kind-with (RefuseStation mark letter) bits = refl
kind-with (AcceptStation mark letter) bits = refl
kind-with (RefuseSubject mark letter) bits = refl
kind-with (AcceptSubject mark letter) bits = refl

-- a line that sets something is taken, and prints nothing
pub taken-line : {R : Type 0} {kind : ReceiverKind R} (first before after : ListeningOver R)
    (old new : Option (List ℕ)) (batch : Waiting) (lines : List Line) (line : Line)
    → HasTaken (StandsFromBy kind) first before lines (HasGiven old new batch)
    → ((bytes : List ℕ) → IsListeningBy kind (starts_by kind first) before lines bytes
    → IsListeningBy kind (starts_by kind first) after (lines ++ line ∷ []) bytes)
    → HasTaken (StandsFromBy kind) first after (lines ++ line ∷ []) (HasGiven old new batch)
taken-line first before after old new batch lines line h takes =
    record { given = h.given; stood = takes h.given h.stood; here = h.here }

-- or it is refused, and changes nothing
pub refused-line : {R : Type 0} {kind : ReceiverKind R} (first before after : ListeningOver R)
    (lines : List Line) (line : Line) (why : LineRefusal) (holds : List ℕ → Type 0)
    → HasTaken (StandsFromBy kind) first before lines holds
    → ((bytes : List ℕ) → IsListeningBy kind (starts_by kind first) before lines bytes
    → RefusesLine (starts_by kind first) lines line why × (after ≡ before))
    → RefusesLine (starts_by kind first) lines line why
    × HasTaken (StandsFromBy kind) first after lines holds
refused-line {R} {kind} first before after lines line why holds h refuses =
    let refused = refuses h.given h.stood in (
      refused.0,
      subst (λ n. HasTaken (StandsFromBy kind) first n lines holds) (sym refused.1) h,
    )

-- a line for which nothing is given: there is a log
pub heard-same : (starts : Starts) (old new : Listening) (lines : List Line) (line is : Line)
    (result : Result (Unit {0}) LineRefusal) → line ≡ is
    → MatchResult result (λ _. HasHeard starts new (lines ++ is ∷ []))
    (λ why. RefusesLine starts lines is why × (new ≡ old))
    → MatchResult result (λ _. HasHeard starts new (lines ++ line ∷ []))
    (λ why. RefusesLine starts lines line why × (new ≡ old))
heard-same starts old new lines line is (Ok x) e h =
    subst (λ l. HasHeard starts new (lines ++ l ∷ [])) (sym e) h
heard-same starts old new lines line is (Err why) e h =
    (subst (λ l. RefusesLine starts lines l why) (sym e) h.0, h.1)

pub heard-as : (starts : Starts) (old new : Listening) (lines : List Line) (line : Line)
    (log : List ℕ) (result : Result (Unit {0}) LineRefusal)
    → MatchResult result (λ _. IsListening starts new (lines ++ line ∷ []) log)
    (λ why. RefusesLine starts lines line why × (new ≡ old))
    → MatchResult result (λ _. HasHeard starts new (lines ++ line ∷ []))
    (λ why. RefusesLine starts lines line why × (new ≡ old))
heard-as starts old new lines line log (Ok x) h = (log, h)
heard-as starts old new lines line log (Err why) h = h

-- where it is refused nothing changed
pub refused-heard : (starts : Starts) (old new : Listening) (lines : List Line) (line is : Line)
    (why : LineRefusal) → line ≡ is → HasHeard starts old lines
    → RefusesLine starts lines is why × (new ≡ old)
    → RefusesLine starts lines line why × HasHeard starts new lines
refused-heard starts old new lines line is why e h refused = (
  subst (λ (l : Line). RefusesLine starts lines l why) (sym e) refused.0,
  subst (λ (l : Listening). HasHeard starts l lines) (sym refused.1) h,
)

-- a line of elements is heard, or refused where there was no moment
pub heard-elements : (starts : Starts) (old new : Listening) (lines : List Line)
    (mark : Option Channel) (channel : Channel) (bits : List Bool) (log : List ℕ)
    (result : Result (Unit {0}) LineRefusal) → channel ≡ channel_of mark
    → IsListening starts old lines log
    → IfOk result (λ _. (starts : Starts) (given : List Given)
    → HasHeardGiven starts old (then_elements given channel [])
    → HasHeardGiven starts new (then_elements given channel bits))
    → MatchResult result (λ _. (old.has_moment ≡ true) × (new.has_moment ≡ old.has_moment))
    (λ why. (old.has_moment ≡ false) × (why ≡ NoMoment) × (new ≡ old))
    → MatchResult result (λ _. HasHeard starts new (lines ++ elements mark bits ∷ []))
    (λ why. RefusesLine starts lines (elements mark bits) why × (new ≡ old))
heard-elements starts old new lines mark channel bits log (Ok x) e h heard some =
    let more = heard starts (given_by lines)
    (log, none-heard (plain-receiver content) starts old (given_by lines) channel log h.hears) in (
      more.0,
      heard-line starts old new lines mark channel bits log more.0 e h (sym h.moment ∙ some.0)
          some.1 more.1,
    )
heard-elements starts old new lines mark channel bits log (Err why) e h heard none = (
  subst (RefusesLine starts lines (elements mark bits)) (sym none.1) (sym h.moment ∙ none.0),
  none.2,
)

-- a line gives the command that its kind says
pub kind-gives : (line : Line) (kind : LineKind) (channel : Channel) (given : Command)
    → kind_of line ≡ kind
    → given_of (line_with kind []) ≡ to_one channel (command given ∷ [])
    → given_of line ≡ to_one channel (command given ∷ [])
kind-gives (elements mark bits) kind channel given e gives =
    let none : to_one (channel_of mark) [] ≡ to_one channel (command given ∷ []) =
    subst (λ k. given_of (line_with k []) ≡ to_one channel (command given ∷ [])) (sym e) gives in cc
kind-gives (moment n) kind channel given e gives =
    ap (λ k. given_of (line_with k [])) e ∙ gives
kind-gives (refuse_station mark letter) kind channel given e gives =
    ap (λ k. given_of (line_with k [])) e ∙ gives
kind-gives (accept_station mark letter) kind channel given e gives =
    ap (λ k. given_of (line_with k [])) e ∙ gives
kind-gives (refuse_subject mark letter) kind channel given e gives =
    ap (λ k. given_of (line_with k [])) e ∙ gives
kind-gives (accept_subject mark letter) kind channel given e gives =
    ap (λ k. given_of (line_with k [])) e ∙ gives

-- a line that gives a command says no moment, and is taken but for the refusal of a vital subject
other-line : (line : Line) (channel : Channel) (given : Command)
    → given_of line ≡ to_one channel (command given ∷ []) → is_moment_line line ≡ false
other-line (moment n) channel given e = cc
other-line (elements mark bits) channel given e = refl
other-line (refuse_station mark letter) channel given e = refl
other-line (accept_station mark letter) channel given e = refl
other-line (refuse_subject mark letter) channel given e = refl
other-line (accept_subject mark letter) channel given e = refl

spared-line : (starts : Starts) (lines : List Line) (line : Line) (channel : Channel)
    (given : Command) → given_of line ≡ to_one channel (command given ∷ [])
    → refuses_vital given ≡ false → IsTakenAfter starts lines line
spared-line starts lines (moment n) channel given e spared = cc
spared-line starts lines (elements mark []) channel given e spared = cc
spared-line starts lines (elements mark (bit ∷ bits)) channel given e spared = cc
spared-line starts lines (refuse_station mark letter) channel given e spared = tt
spared-line starts lines (accept_station mark letter) channel given e spared = tt
spared-line starts lines (refuse_subject mark letter) channel given e spared =
    let same : fed.refuse_subject letter ≡ given = cc in ap refuses_vital same ∙ spared
spared-line starts lines (accept_subject mark letter) channel given e spared = tt

pub spared : (vital : Bool) → (IsTrue vital → IsTrue false) → vital ≡ false
spared false h = refl
spared true h = let bad = h refl in cc

pub command-taken : {R : Type 0} {kind : ReceiverKind R} (laws : IsReceiver kind)
    (starts : Starts) (old new : ListeningOver R) (lines : List Line) (line : Line)
    (channel : Channel) (given : Command) (bytes : List ℕ)
    → given_of line ≡ to_one channel (command given ∷ []) → refuses_vital given ≡ false
    → new ≡ with_receiver old channel (receiver_on new channel)
    → TakesEventBy kind (receiver_on old channel) (receiver_on new channel) (command given)
    → IsListeningBy kind starts old lines bytes
    → IsListeningBy kind starts new (lines ++ line ∷ []) bytes
command-taken laws starts old new lines line channel given bytes gives spared only takes h =
    commanded-on laws starts old new lines line channel given bytes h
    (spared-line starts lines line channel given gives spared) gives
    (other-line line channel given gives) only takes
