-- Logged entries: what a log says, and what a receiver that goes on from it remembers (this
-- profile).
use Rattle.std.specs.Prelude.{◌≡◌, ℕ, ◌≤◌, ◌==◌, Bool, true, not, ◌&&◌, ◌||◌, IsTrue, List, length, map, filter}
use Rattle.std.specs.List.{All}
use Rattle.nx_code.specs.Lists.{last_of}
use Rattle.nx_code.specs.Reading.{asterisk, is_in_code}
use Rattle.nx_envelope.specs.Copies.{most_found}
use Rattle.nx_envelope.specs.Moment.{last_moment}
use Rattle.nx_fec.specs.declared.air_files.channel.Channel.{Channel}
use Rattle.nx_memory.specs.Memory.{most_entries}
use Rattle.nx_memory.specs.declared.memories.entry.MemoryEntry.{MemoryEntry}
use Rattle.nx_copies.specs.copies.FoundCopies.{TaggedCopy}
use Rattle.nx_copies.specs.copies.Log.{IsEntry, IsLog}
use Rattle.nx_copies.specs.copies.Printing.{entry_of, is_good, is_number_00}
use Rattle.nx_copies.specs.copies.Shares.{MarkedCopy, copies_on}

-- a byte of a text: a character of the code, which a newline is too, or the asterisk of a lost one
unfoldable pub is_text_byte : ℕ → Bool
is_text_byte byte = is_in_code byte || (byte == asterisk)

-- Logged entry: what one entry of a log says. It is a copy that was printed, so it was selected;
-- its moment is in range, and its text has at most 4,100 bytes, each a byte of a text.
pub record IsLogged (one : MarkedCopy) : Type 0 where
  pub in_range : one.copy.moment ≤ last_moment
  pub short : length one.copy.text ≤ most_found
  pub text : All (λ byte. IsTrue (is_text_byte byte)) one.copy.text
  pub selected : one.copy.selected ≡ true

-- these are the bytes of a logged entry
pub record IsLoggedAs (one : MarkedCopy) (bytes : List ℕ) : Type 0 where
  pub logged : IsLogged one
  pub entry : IsEntry one bytes

-- the bytes are the log of these logged entries
pub record IsLogOfLogged (entries : List MarkedCopy) (bytes : List ℕ) : Type 0 where
  pub logged : All IsLogged entries
  pub log : IsLog entries bytes

-- a good copy that isn't numbered 00: a memory keeps it, once it is printed
unfoldable pub is_memorable : TaggedCopy → Bool
is_memorable copy = is_good copy && not (is_number_00 copy)

-- the entries that a memory makes of printed copies, in order
unfoldable pub memory_entries : List TaggedCopy → List MemoryEntry
memory_entries copies = map entry_of (filter is_memorable copies)

-- what a log of these entries remembers of a channel: the last 200 of them
abbrev pub remembered_on : Channel → List MarkedCopy → List MemoryEntry
remembered_on channel entries = last_of most_entries (memory_entries (copies_on channel entries))
