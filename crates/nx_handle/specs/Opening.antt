-- What opening a receiver answers, and setting its moment (this profile).
use Rattle.std.specs.Prelude.{if◌then◌else◌}
use Rattle.std.specs.Prelude.{◌≡◌, ◌≢◌, ℕ, nat_lt, Bool, true, false, List, [], ◌∷◌, length}
use Rattle.nx_envelope.specs.Moment.{last_moment}
use Rattle.nx_receiver.specs.Listener.{moment_in_force, then_moment}
use Rattle.nx_copies.specs.copies.Shares.{Given, MarkedCopy, Starts, all_at_zero, to_all}
use Rattle.nx_handle.specs.Life.{HasHeard}
use Rattle.nx_handle.specs.Places.{HaveRoom, KeepsRoom, all_closed}
use Rattle.nx_handle.specs.Status.{number_of}
use Rattle.nx_handle.specs.PlaceKinds.{PlaceKind}
use Rattle.nx_handle.specs.declared.status.Status.{Status}
use Rattle.nx_handle.specs.declared.status.Status.TheVariants as status

-- the status of opening a receiver, which is closed or isn't, at a moment
abbrev pub opening_status : Bool → ℕ → Status
opening_status false moment = status.AlreadyOpen
opening_status true moment = if nat_lt last_moment moment then status.MomentRange else status.Done

-- Opening a receiver at a moment: it has heard nothing but the moment, and starts with nothing. It
-- holds as many families a channel as there is room for. The status has its cause; where it isn't
-- done, the receiver stays as it was. Its channels stay, and so does the room for their families.
pub record AnswersOpening {P : Type 0} (kind : PlaceKind P) (moment : ℕ) (old new : List P)
    (answer : ℕ) : Type 0 where
  pub cause : answer ≡ number_of (opening_status (all_closed kind old) moment)
  pub done : answer ≡ 0 → (held : ℕ) → HaveRoom kind held old
      → HasHeard kind held all_at_zero new (to_all moment ∷ []) []
  pub refused : answer ≢ 0 → new ≡ old
  pub channels : length new ≡ length old
  pub rooms : KeepsRoom kind old new

-- the status of setting a moment, where this one is in force
abbrev pub moment_status : ℕ → ℕ → Status
moment_status last moment =
    if nat_lt last_moment moment then status.MomentRange
    else if nat_lt moment last then status.MomentBack
    else status.Done

-- Setting the moment of a receiver that hears and stands after what it was given. It then stands
-- after the moment too, which belongs to all channels; or the moment is refused, and it stays as it
-- was.
pub record SetsMoment {P : Type 0} (kind : PlaceKind P) (held moment : ℕ) (old new : List P)
    (answer : ℕ) (starts : Starts) (given : List Given) (copies : List MarkedCopy)
    : Type 0 where
  pub cause : answer ≡ number_of (moment_status (moment_in_force starts.moment given) moment)
  pub done : answer ≡ 0 → HasHeard kind held starts new (then_moment given moment) copies
  pub refused : answer ≢ 0 → new ≡ old
  pub channels : length new ≡ length old
  pub rooms : KeepsRoom kind old new

-- Setting the moment: of a receiver that hears, so; another is told to be closed, and stays as it
-- was.
abbrev pub AnswersMoment : {P : Type 0} → PlaceKind P → ℕ → List P → List P → ℕ → Bool → Type 0
AnswersMoment kind moment old new answer false =
    (answer ≡ number_of status.Closed) × (new ≡ old)
AnswersMoment kind moment old new answer true =
    (held : ℕ) (starts : Starts) (given : List Given) (copies : List MarkedCopy)
    → HasHeard kind held starts old given copies
    → SetsMoment kind held moment old new answer starts given copies
