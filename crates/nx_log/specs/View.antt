-- What is seen of an entry at the beginning of bytes.
use Rattle.std.specs.Prelude.{◌≡◌, ℕ, ◌≤◌, true, List, length, take}
use Rattle.nx_envelope.specs.Copies.{errors_of}
use Rattle.nx_log.specs.declared.entries.head.LoggedHead.{LoggedHead}
use Rattle.nx_log.specs.declared.entries.entry.EntryView.{EntryView}
use Rattle.nx_copies.specs.copies.Shares.{MarkedCopy, marked}
use Rattle.nx_log.specs.Logged.{IsLoggedAs}

-- the copy that a head and a text say, which was selected
abbrev pub copy_said : LoggedHead → List ℕ → MarkedCopy
copy_said head text = marked head.channel (record {
  identity = head.identity;
  how = head.how;
  text = text;
  moment = head.moment;
  selected = true;
})

-- The bytes begin with a logged entry, and this is it: so many bytes, what its head says, and its
-- text, whose asterisks and bytes the head counts.
pub record IsViewOf (bytes : List ℕ) (view : EntryView) : Type 0 where
  pub within : view.len ≤ length bytes
  pub entry : IsLoggedAs (copy_said view.head view.text.now) (take view.len bytes)
  pub errors : view.head.errors ≡ errors_of view.text.now
  pub characters : view.head.characters ≡ length view.text.now

-- some bytes begin with this entry
abbrev pub IsSeen : EntryView → Type 0
IsSeen view = (bytes : List ℕ) × IsViewOf bytes view
