-- What a call answers of a receiver that is kept in memory of its own: what it answers of places,
-- be they plain ones or such as take sendings together (this profile).
use Rattle.std.specs.Prelude.{◌≡◌, ◌⊎◌, Bool, true, List, [], ◌∷◌, Option, Some, None}
use Rattle.nx_handle.specs.PlaceKinds.{PlaceKind}
use Rattle.nx_handle.specs.Places.{all_closed}
use Rattle.nx_handle.specs.PlainPlaces.{plain_place}
use Rattle.nx_handle.specs.declared.plain_place.PlainPlace.{PlainPlace}
use Rattle.nx_handle.specs.declared.plain_place.PlainPlace.TheVariants.{Closed}
use Rattle.nx_c.specs.Families.{Combines, combines}
use Rattle.nx_c.specs.declared.receiver.open_receiver.OpenReceiver.{OpenReceiver}
use Rattle.nx_c.specs.declared.receiver.open_receiver.OpenReceiver.TheVariants.{Plain, Combining}

-- what a call answers of places of any kind, before it and after it
abbrev pub OfPlaces : Type 1
OfPlaces = (P : Type 0) → PlaceKind P → List P → List P → Type 0

-- it answers so of what a receiver has, which stays of its kind
abbrev pub AnswersIn : OfPlaces → OpenReceiver → OpenReceiver → Type 0
AnswersIn Answers (Plain old) (Plain new) = Answers PlainPlace plain_place old new
AnswersIn Answers (Plain old) (Combining new) = ⊥
AnswersIn Answers (Combining old) (Plain new) = ⊥
AnswersIn Answers (Combining old) (Combining new) = Answers Combines combines old new

-- all its places are closed
abbrev pub is_closed : OpenReceiver → Bool
is_closed (Plain places) = all_closed plain_place places
is_closed (Combining places) = all_closed combines places

-- the receiver has this in its memory, or it is closed, and has none
abbrev pub Keeps : OpenReceiver → Option OpenReceiver → Type 0
Keeps opened kept = (kept ≡ Some opened) ⊎ ((is_closed opened ≡ true) × (kept ≡ None))

-- the places of three channels of a closed receiver, which has no memory
abbrev pub three_closed : List PlainPlace
three_closed = Closed ∷ Closed ∷ Closed ∷ []

-- A call answers so of a receiver. One that has no memory is answered as one of closed places, and
-- stays so.
abbrev pub AnswersBy : OfPlaces → Option OpenReceiver → Option OpenReceiver → Type 0
AnswersBy Answers None new = Answers PlainPlace plain_place three_closed three_closed × (new ≡ None)
AnswersBy Answers (Some old) new =
    (after : OpenReceiver) × AnswersIn Answers old after × Keeps after new
