-- What a call says of a receiver, whichever places it has (this profile).
use Rattle.std.specs.Prelude.{◌≡◌, ℕ, true, List, length, map}
use Rattle.nx_handle.specs.CombiningPlaces.{combining_place}
use Rattle.nx_handle.specs.Opening.{AnswersMoment}
use Rattle.nx_handle.specs.PlaceKinds.{PlaceKind}
use Rattle.nx_handle.specs.Places.{KeepsRoom, all_closed, all_hear}
use Rattle.nx_handle.specs.PlainPlaces.{plain_place}
use Rattle.nx_handle.specs.Sendings.{AnswersSendings}
use Rattle.nx_live.specs.Places.{Places, Plain, Combining, families_of, vacant_of}

-- what is said of places, of whichever kind, before a call and after it
abbrev pub Said : Type 1
Said = (P : Type 0) → PlaceKind P → List P → List P → Type 0

-- The receiver keeps its kind of places, and this is said of them.
abbrev pub AnswersBy : Said → Places → Places → Type 0
AnswersBy said (Plain old) (Plain new) = said _ plain_place old new
AnswersBy said (Plain old) (Combining new) = ⊥
AnswersBy said (Combining old) (Plain new) = ⊥
AnswersBy said (Combining old) (Combining new) =
    said _ (combining_place families_of vacant_of) old new

-- Setting the moment is answered so. Its channels stay, and so does the room for their families.
pub record SetsMomentOf {P : Type 0} (kind : PlaceKind P) (moment : ℕ) (old new : List P)
    (answer : ℕ) : Type 0 where
  pub answers : AnswersMoment kind moment old new answer (all_hear kind old)
  pub channels : length new ≡ length old
  pub rooms : KeepsRoom kind old new

-- The receiver is closed at once, and prints nothing. Its channels stay, and so does the room for
-- their families.
pub record IsAbandoned {P : Type 0} (kind : PlaceKind P) (old new : List P) : Type 0 where
  pub shut : new ≡ map kind.shut old
  pub closed : all_closed kind new ≡ true
  pub channels : length new ≡ length old
  pub rooms : KeepsRoom kind old new

-- Asking from how many sendings an entry is put together: it is told, and the receiver stays as it
-- was.
pub record TellsSendingsOf {P : Type 0} (kind : PlaceKind P) (channel : ℕ) (old new : List P)
    (sendings answer : ℕ) : Type 0 where
  pub tells : AnswersSendings kind channel old sendings answer
  pub kept : new ≡ old
