-- A logged entry as a line of JSON (RFC 8259; its keys are this profile's).
use Rattle.std.specs.Prelude.{◌≡◌, ℕ, List, [], ◌∷◌, ◌++◌, codes, length, option_map, Option, None, Some}
use Rattle.serde_json.specs.Data.{Data, Members, boolean, member, no_members, number, object, string, unsigned}
use Rattle.serde_json.specs.Written.{compact_text}
use Rattle.nx_envelope.specs.Copies.{errors_of}
use Rattle.nx_envelope.specs.Identity.{identity_bytes}
use Rattle.nx_code.specs.Reading.{newline}
use Rattle.nx_envelope.specs.Moment.{IsShownAs}
use Rattle.nx_fec.specs.air_files.Channels.{channel_number}
use Rattle.nx_copies.specs.copies.Log.{how_name}
use Rattle.nx_copies.specs.copies.Printing.{is_good}
use Rattle.nx_copies.specs.copies.Shares.{MarkedCopy}
use Rattle.nx_log.specs.Times.{joined}
use Rattle.nx_log.specs.declared.writing.places.Places.{Places}

-- a number, and a letter as a text
abbrev pub count : ℕ → Data
count n = number (unsigned n)

abbrev pub letter : ℕ → Data
letter byte = string (byte ∷ [])

-- a member that is a number, where there is one
abbrev pub with_count : List ℕ → Option ℕ → Members → Members
with_count key None members = members
with_count key (Some n) members = member key (count n) members

-- the object that an entry is as JSON, with its places, where they are told, and the text of its
-- time
abbrev pub entry_data : MarkedCopy → Option Places → List ℕ → Data
entry_data one places time =
    object
    (member (codes "channel") (count (channel_number one.channel))
    (member (codes "characters") (count (length one.copy.text))
    (member (codes "end") (string (how_name one.copy.how))
    (member (codes "errors") (count (errors_of one.copy.text))
    (member (codes "good") (boolean (is_good one.copy))
    (member (codes "identity") (string (identity_bytes one.copy.identity))
    (member (codes "moment") (count one.copy.moment)
    (with_count (codes "next") (option_map (λ p. p.next) places)
    (member (codes "number") (count one.copy.identity.number)
    (with_count (codes "place") (option_map (λ p. p.place) places)
    (member (codes "station") (letter one.copy.identity.b1.byte)
    (member (codes "subject") (letter one.copy.identity.b2.byte)
    (member (codes "text") (string one.copy.text)
    (member (codes "time") (string time)
    no_members))))))))))))))

-- JSON line: the object of an entry with no space in it, and a newline. Its time is the civil time
-- of its moment as ISO 8601 writes it in UTC, with a `T` and a `Z`.
pub record IsPlacedLine (one : MarkedCopy) (places : Option Places) (line : List ℕ)
    : Type 0 where
  pub civil : List ℕ
  pub shown : IsShownAs one.copy.moment civil
  pub spelled : line
      ≡ compact_text (entry_data one places (joined civil ++ codes "Z")) ++ newline ∷ []

-- the same, where its places aren't told
abbrev pub IsJsonLine : MarkedCopy → List ℕ → Type 0
IsJsonLine one line = IsPlacedLine one None line
