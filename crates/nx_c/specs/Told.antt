-- What a call tells its caller, and what it puts into the caller's room (this profile).
use Rattle.std.specs.Prelude.{◌≡◌, ℕ, List, length, Result, Ok, Err}
use Rattle.nx_c.specs.declared.told.Place.{Place}
use Rattle.nx_c.specs.declared.told.Told.{Told}
use Rattle.nx_handle.specs.CallerRoom.{IsCopiedOut, Room, after_copying_out}
use Rattle.nx_handle.specs.Status.{number_of}
use Rattle.nx_handle.specs.declared.status.Status.{Status}
use Rattle.nx_handle.specs.declared.status.Status.TheVariants as status

-- what a call answers beside what it puts into rooms
pub record Answer : Type 0 where
  pub status : ℕ
  pub place : Place

abbrev pub answer : ℕ → Place → Answer
answer status place = record { status = status; place = place }

-- this status, at this line, this line of a message and this number
abbrev pub told_in : Status → ℕ → ℕ → ℕ → Told
told_in status line text_line at =
    record { status = status; place = record { line = line; text_line = text_line; at = at } }

abbrev pub told_at : Status → ℕ → ℕ → Told
told_at status line at = told_in status line 0 at

abbrev pub told : Status → Told
told status = told_at status 0 0

-- what a run tells that has a fault or none
abbrev pub ended_told : {N F : Type 0} → (F → Told) → Result N F → Told
ended_told told_of (Ok answer) = told status.Done
ended_told told_of (Err fault) = told_of fault

-- This was told, and this text was copied into the caller's room.
pub record IsTold (told : Told) (text : List ℕ) (r : Room) (a : Answer) : Type 0 where
  pub copied : IsCopiedOut text r
  pub place : a.place ≡ told.place
  pub status :
      a.status ≡ number_of (after_copying_out (length text) (length r.old) told.status)

-- A call over slices: a text and an outcome of which this holds were told so.
pub record Tells {N F : Type 0} (IsRun : List ℕ → Result N F → Type 0) (told_of : F → Told)
    (r : Room) (a : Answer) : Type 0 where
  pub text : List ℕ
  pub outcome : Result N F
  pub is_run : IsRun text outcome
  pub told : IsTold (ended_told told_of outcome) text r a
