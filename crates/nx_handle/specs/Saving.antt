-- What saving a receiver answers, and opening one from what is saved (this profile).
use Rattle.std.specs.Prelude.{◌≡◌, ◌⊎◌, ◌||◌, ℕ, ◌+◌, ◌*◌, ◌≤◌, Bool, true, false, List, []}
use Rattle.std.specs.Prelude.{length, IsTrue}
use Rattle.std.specs.FinSet as set
use Rattle.nx_code.specs.Reading.{capitals}
use Rattle.nx_fec.specs.Transfers.{whole_input}
use Rattle.nx_fec.specs.air_files.Channels.{channel_number}
use Rattle.nx_fec.specs.declared.air_files.channel.Channel.{Channel}
use Rattle.nx_memory.specs.Memory.{most_entries}
use Rattle.nx_memory.specs.Saved.{AreSavedStates, SavedState, SavedStates, nothing_saved}
use Rattle.nx_memory.specs.Selection.{Refused}
use Rattle.nx_memory.specs.StateText.{longest_saved_line}
use Rattle.nx_copies.specs.copies.Shares.{Given, MarkedCopy, Starts, saved_of, share, start_on, starts_from}
use Rattle.nx_receiver.specs.air_file_runs.State.{BeginsWith, ExplainsState, state_bytes}
use Rattle.nx_receiver.specs.declared.air_file_runs.state_fault.StateFault.TheVariants as state
use Rattle.nx_handle.specs.Life.{HasHeard}
use Rattle.nx_handle.specs.Places.{HasChannel, HaveRoom, KeepsRoom, all_closed, all_hear}
use Rattle.nx_handle.specs.Status.{number_of}
use Rattle.nx_handle.specs.CallerRoom.{IsCopiedOut, Room, after_copying_out}
use Rattle.nx_handle.specs.PlaceKinds.{PlaceKind}
use Rattle.nx_handle.specs.declared.status.Status.{Status}
use Rattle.nx_handle.specs.declared.status.Status.TheVariants as status

-- The most bytes of the text of a state. Its first line, the heads of the channels and its last
-- line have 21; a letter that is refused has 5, an entry 17 at most.
abbrev pub longest_state : ℕ
longest_state = 21 + 3 * (capitals * 5 + capitals * 5 + most_entries * (longest_saved_line + 1))

-- The text spells what the receiver leaves of all channels that it has, whatever they were given;
-- and nothing of the others.
pub record Saves {P : Type 0} (kind : PlaceKind P) (places : List P) (text : List ℕ) : Type 0 where
  pub left : SavedStates
  pub sound : AreSavedStates left
  pub leaves : (held : ℕ) (starts : Starts) (given : List Given) (copies : List MarkedCopy)
      → HasHeard kind held starts places given copies → (channel : Channel)
      → HasChannel places channel
      → kind.leaves held (start_on starts channel) (share channel given) (saved_of left channel)
  pub others : (channel : Channel) → length places ≤ channel_number channel
      → saved_of left channel ≡ nothing_saved
  pub spelled : text ≡ state_bytes left
  pub fits : length text ≤ longest_state

-- Saving. The text is that of what the receiver leaves that hears, and the status says whether the
-- room held it. Another receiver is told to be closed.
abbrev pub SavesBy : {P : Type 0} → PlaceKind P → Bool → List P → List ℕ → ℕ → ℕ → Type 0
SavesBy kind false places text capacity answer =
    (answer ≡ number_of status.Closed) × (text ≡ [])
SavesBy kind true places text capacity answer =
    Saves kind places text
    × (answer ≡ number_of (after_copying_out (length text) capacity status.Done))

-- The receiver stays as it was, whatever the status.
pub record AnswersSaving {P : Type 0} (kind : PlaceKind P) (old new : List P) (state : Room)
    (answer : ℕ) : Type 0 where
  pub text : List ℕ
  pub copied : IsCopiedOut text state
  pub saves : SavesBy kind (all_hear kind old) old text (length state.old) answer
  pub unchanged : new ≡ old

-- a station or a subject with this letter is refused
abbrev pub RefusesLetter : Refused → ℕ → Type 0
RefusesLetter refused letter =
    IsTrue (set.contains refused.stations letter || set.contains refused.subjects letter)

-- no station and no subject is refused
abbrev pub RefusesNone : Refused → Type 0
RefusesNone refused = (letter : ℕ) → RefusesLetter refused letter → ⊥

-- nothing is saved of a channel: there is no entry, and nothing is refused
pub record HasNothing (saved : SavedState) : Type 0 where
  pub entries : saved.entries ≡ []
  pub selected : RefusesNone saved.refused

-- nothing is saved of channels behind the first so many
abbrev pub HasNoMore : ℕ → SavedStates → Type 0
HasNoMore count states =
    (channel : Channel) → count ≤ channel_number channel → HasNothing (saved_of states channel)

-- These bytes begin with no state, and the status says why.
abbrev pub RefusesText : List ℕ → Status → Type 0
RefusesText bytes why =
    ((line : ℕ) × ExplainsState whole_input bytes (state.StateLine line)
    × (why ≡ status.StateLine))
    ⊎ ((line : ℕ) × ExplainsState whole_input bytes (state.StateCut line)
    × (why ≡ status.StateCut))

-- These bytes begin with no state of so many channels, and the status says why: with none, or with
-- one that has more.
abbrev pub RefusesState : ℕ → List ℕ → Status → Type 0
RefusesState count bytes why =
    RefusesText bytes why
    ⊎ (BeginsWith bytes (λ states more. HasNoMore count states → ⊥) × (why ≡ status.NoChannel))

-- These bytes begin with a state that has nothing of a channel which the receiver doesn't have. The
-- receiver starts with it, has heard nothing, and holds as many families a channel as there is room
-- for. Or the status says why they don't, and the receiver stays as it was.
abbrev pub OpensFrom : {P : Type 0} → PlaceKind P → List ℕ → List P → List P → ℕ → Type 0
OpensFrom kind bytes old new answer =
    BeginsWith bytes (λ states more. (answer ≡ 0) × HasNoMore (length old) states
    × ((held : ℕ) → HaveRoom kind held old
    → HasHeard kind held (starts_from states) new [] []))
    ⊎ ((why : Status) × RefusesState (length old) bytes why × (answer ≡ number_of why)
    × (new ≡ old))

-- Opening a closed receiver from what is saved; one that is open stays as it was.
abbrev pub OpensFromBy : {P : Type 0} → PlaceKind P → Bool → List ℕ → List P → List P → ℕ
    → Type 0
OpensFromBy kind false bytes old new answer =
    (answer ≡ number_of status.AlreadyOpen) × (new ≡ old)
OpensFromBy kind true bytes old new answer = OpensFrom kind bytes old new answer

-- Its channels stay, and so does the room for their families.
pub record AnswersOpeningFrom {P : Type 0} (kind : PlaceKind P) (bytes : List ℕ)
    (old new : List P) (answer : ℕ) : Type 0 where
  pub opens : OpensFromBy kind (all_closed kind old) bytes old new answer
  pub channels : length new ≡ length old
  pub rooms : KeepsRoom kind old new
