-- What contracts say of a receiver of a channel, of whatever kind: the layer contract of a listener
-- (this profile).
use Rattle.std.specs.Prelude.{◌≡◌, ℕ, ◌<◌, Bool, List, [], ◌∷◌, ◌++◌, Option, None, take}
use Rattle.nx_copies.specs.Events.{Event, Start, elements, first_setting, setting_after_all}
use Rattle.nx_copies.specs.copies.FoundCopies.{TaggedCopy}
use Rattle.nx_copies.specs.copies.Log.{IsPrinting, Printing}

-- What there is to say of a receiver of a kind. `printing` is what it prints. In `stands start
-- receiver events log` it stands after these events, which begin with this start, and handed out
-- this log. `start_of` is with what it starts where it has heard nothing yet, as what it holds
-- tells: the entries of its memory, the moment in force, and what is refused. `text_of` is the text
-- that it has: that of the entry which it handed out last, until it hears more.
pub record ReceiverKind (R : Type 0) : Type 1 where
  pub printing : Printing
  pub stands : Start → R → List Event → List TaggedCopy → Type 0
  pub start_of : R → Start
  pub text_of : R → List ℕ

-- a receiver stands after these events but for what is over with the last of them, which is yet to
-- be finished, where anything is
abbrev pub AwaitsFinish : Type 0 → Type 0 → Type 1
AwaitsFinish R Over = Start → R → List Event → List TaggedCopy → Option Over → Type 0

-- The laws of a kind. There is one log of what it prints. What a receiver handed out is what is
-- printed so far. What it tells to be in force is so.
pub record IsReceiver {R : Type 0} (kind : ReceiverKind R) : Type 0 where
  pub printing : IsPrinting kind.printing
  pub prints : (start : Start) (receiver : R) (events : List Event) (log : List TaggedCopy)
      → kind.stands start receiver events log → kind.printing.so_far start events log
  pub in_force : (start : Start) (receiver : R) (events : List Event) (log : List TaggedCopy)
      → kind.stands start receiver events log
      → first_setting (kind.start_of receiver) ≡ setting_after_all (first_setting start) events

-- whatever it was given before, a receiver takes this event, and hands out nothing
abbrev pub TakesEventBy : {R : Type 0} → ReceiverKind R → R → R → Event → Type 0
TakesEventBy kind old new event =
    (start : Start) (history : List Event) (log : List TaggedCopy)
    → kind.stands start old history log → kind.stands start new (history ++ event ∷ []) log

-- whatever it was given before, nothing more is printed before the last of the first `count` of
-- these elements
abbrev pub HandsOutNoneBeforeBy : {R : Type 0} → ReceiverKind R → R → List Bool → ℕ → Type 0
HandsOutNoneBeforeBy kind old bits count =
    (start : Start) (history : List Event) (log : List TaggedCopy)
    → kind.stands start old history log
    → (k : ℕ) → k < count → kind.printing.so_far start (history ++ elements (take k bits)) log

-- whatever it was given before, a receiver hears these elements, and awaits what is over with the
-- last of them
abbrev pub HearsUpToBy : {R Over : Type 0} → ReceiverKind R → AwaitsFinish R Over → R → R
    → List Bool → Option Over → Type 0
HearsUpToBy kind awaits old new bits over =
    (start : Start) (history : List Event) (log : List TaggedCopy)
    → kind.stands start old history log → awaits start new (history ++ elements bits) log over

-- where nothing is over, nothing is awaited
abbrev pub NothingAwaited : {R Over : Type 0} → ReceiverKind R → AwaitsFinish R Over → Type 0
NothingAwaited {R} kind awaits =
    (start : Start) (receiver : R) (history : List Event) (log : List TaggedCopy)
    → awaits start receiver history log None → kind.stands start receiver history log
