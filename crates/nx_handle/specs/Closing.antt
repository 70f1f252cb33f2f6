-- What closing a receiver answers (this profile).
use Rattle.std.specs.Prelude.{◌≡◌, ◌≢◌, ◌⊎◌, ℕ, ◌≤◌, nat_lt, Bool, true, false, if◌then◌else◌, List, []}
use Rattle.std.specs.Prelude.{◌∷◌, length}
use Rattle.nx_copies.specs.copies.Log.{IsEntry}
use Rattle.nx_copies.specs.copies.Shares.{MarkedCopy}
use Rattle.nx_handle.specs.Hearing.{longest_entry}
use Rattle.nx_handle.specs.Life.{EndsWith}
use Rattle.nx_handle.specs.Places.{KeepsRoom, all_closed, all_hear}
use Rattle.nx_handle.specs.Status.{number_of}
use Rattle.nx_handle.specs.CallerRoom.{IsCopiedOut, Room}
use Rattle.nx_handle.specs.PlaceKinds.{PlaceKind}
use Rattle.nx_handle.specs.declared.status.Status.{Status}
use Rattle.nx_handle.specs.declared.status.Status.TheVariants as status

-- the status of closing a receiver, which is closed or isn't, with room for so many bytes, as many
-- as an entry can need
abbrev pub closing_status : Bool → ℕ → Status
closing_status true capacity = status.Closed
closing_status false capacity =
    if nat_lt capacity longest_entry then status.NoRoom else status.Done

-- One entry is handed out, and nothing more is heard. Whatever the ends print that are still to
-- come, the ends before this call print this copy, and then that.
pub record HandsOut {P : Type 0} (kind : PlaceKind P) (old new : List P) (text : List ℕ) : Type 0
  where
    pub copy : MarkedCopy
    pub entry : IsEntry copy text
    pub ended : all_hear kind new ≡ false
    pub is_open : all_closed kind new ≡ false
    pub behind : (left : List MarkedCopy) → EndsWith kind new left
        → EndsWith kind old (copy ∷ left)

-- The ends that were still to come print nothing: nothing is handed out, and the receiver is
-- closed.
pub record HasEnded {P : Type 0} (kind : PlaceKind P) (old new : List P) (text : List ℕ) : Type 0
  where
    pub none : EndsWith kind old []
    pub nothing : text ≡ []
    pub closed : all_closed kind new ≡ true

-- a call that closes an open receiver, and the bytes that it hands out
pub record Closes {P : Type 0} (kind : PlaceKind P) (old new : List P) (text : List ℕ) : Type 0
  where
    pub was_open : all_closed kind old ≡ false
    pub goes : HandsOut kind old new text ⊎ HasEnded kind old new text

-- Closing: the status has its cause. Where all is done, one entry is copied into the room, which
-- has room for it, or the receiver is closed. Else it stays as it was, and nothing is copied. Its
-- channels stay, and so does the room for their families.
pub record AnswersClosing {P : Type 0} (kind : PlaceKind P) (old new : List P) (log : Room)
    (answer : ℕ) : Type 0 where
  pub cause : answer ≡ number_of (closing_status (all_closed kind old) (length log.old))
  pub text : List ℕ
  pub copied : IsCopiedOut text log
  pub fits : length text ≤ length log.old
  pub done : answer ≡ 0 → Closes kind old new text
  pub refused : answer ≢ 0 → (new ≡ old) × (text ≡ [])
  pub channels : length new ≡ length old
  pub rooms : KeepsRoom kind old new
