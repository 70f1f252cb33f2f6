-- What opening answers that a receiver has which is kept in memory of its own (this profile).
use Rattle.std.specs.Prelude.{◌≡◌, ◌≢◌, ◌⊎◌, ◌<◌, ◌≤◌, ℕ, true, List, length}
use Rattle.std.specs.Prelude.{Option, Some, None, ⊤}
use Rattle.nx_combine.specs.Families.{most_families}
use Rattle.nx_handle.specs.Opening.{AnswersOpening, opening_status}
use Rattle.nx_handle.specs.PlaceKinds.{PlaceKind}
use Rattle.nx_handle.specs.Places.{HaveRoom, all_closed}
use Rattle.nx_handle.specs.PlainPlaces.{plain_place}
use Rattle.nx_handle.specs.Saving.{AnswersOpeningFrom}
use Rattle.nx_handle.specs.Status.{number_of}
use Rattle.nx_handle.specs.declared.plain_place.PlainPlace.{PlainPlace}
use Rattle.nx_handle.specs.declared.status.Status.TheVariants.{AlreadyOpen, Done, Memory, TooManyFamilies}
use Rattle.nx_receiver.specs.air_file_runs.State.{BeginsWith}
use Rattle.nx_c.specs.ByKind.{AnswersIn, OfPlaces, three_closed}
use Rattle.nx_c.specs.Families.{combines}
use Rattle.nx_c.specs.declared.receiver.open_receiver.OpenReceiver.{OpenReceiver}
use Rattle.nx_c.specs.declared.receiver.open_receiver.OpenReceiver.TheVariants.{Plain, Combining}

-- the places of a closed receiver of three channels, each with room for so many families
pub record AreReady {P : Type 0} (kind : PlaceKind P) (families : ℕ) (places : List P) : Type 0
  where
    pub three : length places ≡ 3
    pub closed : all_closed kind places ≡ true
    pub room : HaveRoom kind families places

-- a receiver is closed, and holds so many families on each channel: with none its places are plain
abbrev pub IsReady : ℕ → OpenReceiver → Type 0
IsReady families (Plain places) = (families ≡ 0) × AreReady plain_place families places
IsReady families (Combining places) = (families ≢ 0) × AreReady combines families places

-- A closed receiver with so many families was opened, and this was answered. Where it is done, what
-- is open now is kept.
pub record Opened (Answers : OfPlaces) (families : ℕ) (new : Option OpenReceiver) (answer : ℕ)
    : Type 0 where
  pub ready : OpenReceiver
  pub is_ready : IsReady families ready
  pub after : OpenReceiver
  pub answers : AnswersIn Answers ready after
  pub done : answer ≡ 0 → new ≡ Some after

-- There was no memory to open it, and nothing is open. What is refused of places that need none is
-- refused first; or it would be done, and it is told that memory lacks.
abbrev pub LacksMemory : OfPlaces → Type 0 → ℕ → Type 0
LacksMemory Answers would_be_done answer =
    ((answer ≢ 0) × Answers PlainPlace plain_place three_closed three_closed)
    ⊎ ((answer ≡ number_of Memory) × would_be_done)

-- Opening a closed receiver with so many families: more than 200 are refused. Where it isn't done,
-- the receiver stays closed.
pub record OpensNew (Answers : OfPlaces) (would_be_done : Type 0) (families : ℕ)
    (new : Option OpenReceiver) (answer : ℕ) : Type 0 where
  pub too_many : most_families < families → answer ≡ number_of TooManyFamilies
  pub few : families ≤ most_families
      → Opened Answers families new answer ⊎ LacksMemory Answers would_be_done answer
  pub refused : answer ≢ 0 → new ≡ None

-- one that is open stays as it was
abbrev pub OpensBy : OfPlaces → Type 0 → ℕ → Option OpenReceiver → Option OpenReceiver → ℕ → Type 0
OpensBy Answers would_be_done families (Some opened) new answer =
    (answer ≡ number_of AlreadyOpen) × (new ≡ Some opened)
OpensBy Answers would_be_done families None new answer =
    OpensNew Answers would_be_done families new answer

-- opening it at a moment
abbrev pub OpensAt : ℕ → ℕ → Option OpenReceiver → Option OpenReceiver → ℕ → Type 0
OpensAt moment families old new answer =
    OpensBy (λ P kind before after. AnswersOpening kind moment before after answer)
    (opening_status true moment ≡ Done) families old new answer

-- and from the state with which these bytes begin
abbrev pub OpensFromState : List ℕ → ℕ → Option OpenReceiver → Option OpenReceiver → ℕ → Type 0
OpensFromState bytes families old new answer =
    OpensBy (λ P kind before after. AnswersOpeningFrom kind bytes before after answer)
    (BeginsWith bytes (λ states more. ⊤)) families old new answer
