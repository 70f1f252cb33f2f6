-- What a receiver is given, in order: moments, elements one by one, and commands of selection (this
-- profile). And what is in force when an element is heard.
use Rattle.std.specs.Prelude.{ℕ, Bool, if◌then◌else◌, List, [], ◌∷◌, slice_index_or, map}
use Rattle.std.specs.FinSet as set
use Rattle.nx_memory.specs.declared.memories.entry.MemoryEntry.{MemoryEntry}
use Rattle.nx_memory.specs.Selection.{Refused, is_vital}

-- a command of selection, for a letter by its byte, or for the whole of what is refused
pub data Command : Type 0 where
  refuse_station : ℕ → Command
  accept_station : ℕ → Command
  refuse_subject : ℕ → Command
  accept_subject : ℕ → Command
  select : Refused → Command

-- the moment from here on, in seconds since 1970-01-01 00:00:00 UTC; one element, true for B; or a
-- command
pub data Event : Type 0 where
  at_moment : ℕ → Event
  element : Bool → Event
  command : Command → Event

-- what is in force: the moment, and the stations and subjects that are refused
pub record Setting : Type 0 where
  pub moment : ℕ
  pub refused : Refused

-- what is refused after a command; a vital subject can't be refused (ITU-R M.540)
abbrev pub refused_after : Refused → Command → Refused
refused_after old (refuse_station letter) = record old { stations = set.insert old.stations letter }
refused_after old (accept_station letter) = record old { stations = set.remove old.stations letter }
refused_after old (refuse_subject letter) =
    if is_vital letter then old else record old { subjects = set.insert old.subjects letter }
refused_after old (accept_subject letter) = record old { subjects = set.remove old.subjects letter }
refused_after old (select other) = other

-- what is in force after an event
abbrev pub setting_after : Setting → Event → Setting
setting_after setting (at_moment n) = record setting { moment = n }
setting_after setting (element bit) = setting
setting_after setting (command c) = record setting { refused = refused_after setting.refused c }

-- the elements among the events, in order
unfoldable pub elements_among : List Event → List Bool
elements_among [] = []
elements_among (element bit ∷ events) = bit ∷ elements_among events
elements_among (event ∷ events) = elements_among events

-- what is in force at each element, in order, from what is in force at first
unfoldable pub settings : Setting → List Event → List Setting
settings setting [] = []
settings setting (element bit ∷ events) = setting ∷ settings setting events
settings setting (event ∷ events) = settings (setting_after setting event) events

-- what is in force after all events
unfoldable pub setting_after_all : Setting → List Event → Setting
setting_after_all setting [] = setting
setting_after_all setting (event ∷ events) = setting_after_all (setting_after setting event) events

-- what is in force at the element with this index
abbrev pub setting_at : Setting → List Event → ℕ → Setting
setting_at first events place = slice_index_or (settings first events) place first

-- with what a receiver starts: the entries of the memory that it was made with, oldest first, its
-- first moment, and what is refused at first
pub record Start : Type 0 where
  pub entries : List MemoryEntry
  pub moment : ℕ
  pub refused : Refused

-- what is in force at first
abbrev pub first_setting : Start → Setting
first_setting start = record { moment = start.moment; refused = start.refused }

-- nothing is refused: everything is selected
abbrev pub none_refused : Refused
none_refused = record { stations = set.empty; subjects = set.empty }

-- the start of a receiver that begins with nothing: an empty memory, moment 0, everything selected
abbrev pub at_zero : Start
at_zero = record { entries = []; moment = 0; refused = none_refused }

-- these elements, each an event
abbrev pub elements : List Bool → List Event
elements bits = map element bits
