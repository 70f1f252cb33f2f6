-- The log: what is printed of all that a receiver was given, and its bytes (this profile).
use Rattle.std.specs.Prelude.{◌≡◌, ℕ, ◌-◌, ◌≤◌, ◌==◌, Bool, true, if◌then◌else◌, List, [], ◌∷◌}
use Rattle.std.specs.Prelude.{◌++◌, length, codes, decimal, slice_get, unwrap_or, ⊤}
use Rattle.std.specs.List.{All, AllZip, concat}
use Rattle.std.specs.Option.{option_map}
use Rattle.nx_envelope.specs.Copies.{errors_of}
use Rattle.nx_envelope.specs.Identity.{identity_bytes}
use Rattle.nx_envelope.specs.Moment.{IsShownAs}
use Rattle.nx_code.specs.Reading.{newline}
use Rattle.nx_envelope.specs.declared.found.How.{How}
use Rattle.nx_envelope.specs.declared.found.How.TheVariants.{Full, Cut, Long}
use Rattle.nx_fec.specs.declared.air_files.channel.Channel.{Channel}
use Rattle.nx_fec.specs.declared.air_files.channel.Channel.TheVariants.{Zero, One, Two}
use Rattle.nx_sync.specs.Locks.{Lock, Now, IsNow}
use Rattle.nx_copies.specs.Events.{Event, Start, at_moment, command, element, elements_among}
use Rattle.nx_copies.specs.Events.{first_setting}
use Rattle.nx_copies.specs.copies.FoundCopies.{FoundCopy, ended_so_far, found_to_end, TaggedCopy}
use Rattle.nx_copies.specs.copies.FoundCopies.{tagged_copies}
use Rattle.nx_copies.specs.copies.Printing.{printed_copies}
use Rattle.nx_copies.specs.copies.Shares.{MarkedCopy}

-- how a copy ended, as it is printed
abbrev pub how_name : How → List ℕ
how_name Full = codes "full"
how_name Cut = codes "cut"
how_name Long = codes "long"

-- the mark of a channel behind an identity, which channel 0 doesn't have
abbrev pub channel_mark : Channel → List ℕ
channel_mark Zero = []
channel_mark One = codes "/1"
channel_mark Two = codes "/2"

-- The line that heads an entry: `[`, the identity, the mark of the channel, the civil time, how the
-- copy ended, its errors, `/`, its characters, `]` and a newline.
unfoldable pub entry_head : Channel → TaggedCopy → List ℕ → List ℕ
entry_head channel copy civil =
    codes "[" ++ identity_bytes copy.identity ++ channel_mark channel ++ (codes " " ++ civil)
    ++ (codes " " ++ how_name copy.how) ++ (codes " " ++ decimal (errors_of copy.text))
    ++ (codes "/" ++ decimal (length copy.text)) ++ codes "]\n"

-- the text is empty or ends with a newline
unfoldable pub is_of_lines : List ℕ → Bool
is_of_lines text =
    unwrap_or (option_map (λ b. b == newline) (slice_get text (length text - 1))) true

-- the newline that ends the last line of a text which doesn't end with one
unfoldable pub missing_newline : List ℕ → List ℕ
missing_newline text = if is_of_lines text then [] else newline ∷ []

-- The bytes are the entry of a copy, with the civil time of its moment: its head, the text, a
-- newline where the text isn't empty and doesn't end with one, and a newline.
pub record IsEntry (one : MarkedCopy) (bytes : List ℕ) : Type 0 where
  pub civil : List ℕ
  pub shown : IsShownAs one.copy.moment civil
  pub spelled : bytes ≡ entry_head one.channel one.copy civil
      ++ one.copy.text ++ missing_newline one.copy.text ++ newline ∷ []

-- the bytes are the log of these copies: their entries in order, and nothing between
pub record IsLog (copies : List MarkedCopy) (bytes : List ℕ) : Type 0 where
  pub entries : List (List ℕ)
  pub each : AllZip IsEntry copies entries
  pub joined : bytes ≡ concat entries

-- of the copies that were found, those that are printed
abbrev pub printed_of : Start → List Event → List FoundCopy → List TaggedCopy
printed_of start events copies =
    printed_copies start.entries (tagged_copies (first_setting start) events copies)

-- What is printed after these events of the copies that are `found` in their elements, by the locks
-- there: of those that have ended so far, or of all that are found to the end.
pub record Prints (found : List Bool → List Lock → Now → List FoundCopy) (start : Start)
    (events : List Event) (log : List TaggedCopy) : Type 0 where
  pub locks : List Lock
  pub now : Now
  pub stands : IsNow (elements_among events) locks now
  pub printed : log ≡ printed_of start events (found (elements_among events) locks now)

-- What is printed of the copies that have ended after these events.
abbrev pub HasPrinted : Start → List Event → List TaggedCopy → Type 0
HasPrinted start events log = Prints ended_so_far start events log

-- What is printed where these events are all: the end closes the copy that stands open.
abbrev pub PrintsToEnd : Start → List Event → List TaggedCopy → Type 0
PrintsToEnd start events log = Prints found_to_end start events log

-- What is printed of what a receiver is given, from its start on: of the copies that have ended
-- after these events, and of all copies where the events end.
pub record Printing : Type 1 where
  pub so_far : Start → List Event → List TaggedCopy → Type 0
  pub to_end : Start → List Event → List TaggedCopy → Type 0

-- each copy is judged alone
abbrev pub plain : Printing
plain = record { so_far = HasPrinted; to_end = PrintsToEnd }

-- an event that is a moment isn't past this one
abbrev pub IsUpTo : ℕ → Event → Type 0
IsUpTo last (at_moment n) = n ≤ last
IsUpTo last (element bit) = ⊤
IsUpTo last (command c) = ⊤

-- The laws of a printing. Of any events there is one log, so far and to the end. No event prints
-- nothing, and events without elements print nothing more. What is printed so far stays, whatever
-- comes later, and the end adds to it. What is printed has no moment past all that were given.
pub record IsPrinting (printing : Printing) : Type 0 where
  pub some : (start : Start) (events : List Event)
      → (log : List TaggedCopy) × printing.so_far start events log
  pub one : (start : Start) (events : List Event) (log other : List TaggedCopy)
      → printing.so_far start events log → printing.so_far start events other → log ≡ other
  pub some_to_end : (start : Start) (events : List Event)
      → (log : List TaggedCopy) × printing.to_end start events log
  pub one_to_end : (start : Start) (events : List Event) (log other : List TaggedCopy)
      → printing.to_end start events log → printing.to_end start events other → log ≡ other
  pub none : (start : Start) → printing.so_far start [] []
  pub no_elements : (start : Start) (events more : List Event) (log : List TaggedCopy)
      → printing.so_far start events log → elements_among more ≡ []
      → printing.so_far start (events ++ more) log
  pub stays : (start : Start) (events more : List Event) (log later : List TaggedCopy)
      → printing.so_far start events log → printing.so_far start (events ++ more) later
      → (rest : List TaggedCopy) × (later ≡ log ++ rest)
  pub stays_to_end : (start : Start) (events : List Event) (log whole : List TaggedCopy)
      → printing.so_far start events log → printing.to_end start events whole
      → (rest : List TaggedCopy) × (whole ≡ log ++ rest)
  pub up_to : (start : Start) (events : List Event) (log : List TaggedCopy) (last : ℕ)
      → start.moment ≤ last → All (IsUpTo last) events → printing.to_end start events log
      → All (λ (copy : TaggedCopy). copy.moment ≤ last) log
