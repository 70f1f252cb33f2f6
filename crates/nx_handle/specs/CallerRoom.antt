-- What a call copies into the caller's room (this profile).
use Rattle.std.specs.Prelude.{◌≡◌, ℕ, nat_lt, if◌then◌else◌, List, ◌++◌, length, take, drop, min}
use Rattle.nx_handle.specs.declared.status.Status.{Status}
use Rattle.nx_handle.specs.declared.status.Status.TheVariants as status

-- the caller's room for a text, before a call and after it, and what the call says of the text's
-- length
pub record Room : Type 0 where
  pub old : List ℕ
  pub new : List ℕ
  pub written : ℕ

abbrev pub room : List ℕ → List ℕ → ℕ → Room
room old new written = record { old = old; new = new; written = written }

-- The text was copied into the room, as much of it as there is room for, and what stood behind it in
-- the room stayed. Its bytes are counted, those too for which there was no room.
pub record IsCopiedOut (text : List ℕ) (r : Room) : Type 0 where
  pub copied : r.new
      ≡ take (min (length text) (length r.old)) text
      ++ drop (min (length text) (length r.old)) r.old
  pub counted : r.written ≡ length text

-- a status, where a text of so many bytes is copied into a room of so many: all is done, but for
-- the room
abbrev pub after_copying_out : ℕ → ℕ → Status → Status
after_copying_out count capacity status.Done =
    if nat_lt capacity count then status.NoRoom else status.Done
after_copying_out count capacity other = other
