-- What damages lines holds, and how it stands after them.
use Rattle.std.specs.Prelude.{◌≡◌, ℕ, ◌+◌, ◌-◌, ◌*◌, ◌%◌, ◌^◌, ◌<◌, ◌≤◌, ◌↔◌, Bool, IsTrue, List, Option, length, min}
use Rattle.std.specs.List.{flat_map}
use Rattle.nx_fec.specs.air_files.AirFile.{IsLine, Line, mark_bytes, spelling}
use Rattle.nx_fec.specs.air_files.Channels.{channel_of}
use Rattle.nx_fec.specs.air_files.Lines.{elements_on}
use Rattle.nx_fec.specs.air_files.Scanner.{kind_of}
use Rattle.nx_fec.specs.declared.air_files.lines.LineKind.{LineKind}
use Rattle.nx_fec.specs.declared.air_files.lines.LineKind.TheVariants.{Elements}
use Rattle.nx_fec.specs.declared.air_files.channel.Channel.{Channel}
use Rattle.nx_fec.specs.declared.air_files.channel.Channel.TheVariants.{Zero}
use Rattle.nx_fec.specs.air_files.LineRuns.{HasGiven, Waiting}
use Rattle.nx_station.specs.Damage.{Damage, damaged_file, inverted_count, inverts}
use Rattle.nx_station.specs.declared.damaging.DamageKind.{DamageKind}
use Rattle.nx_station.specs.declared.damaging.Named.{Named}

-- A taker: its kind; how many elements come before the words that may be damaged, and how many
-- before their end. Then the place of the next element among those of two words, and how many
-- elements were inverted.
pub record Damager : Type 0 where
  pub kind : DamageKind
  pub begin : ℕ
  pub end : ℕ
  pub phase : ℕ
  pub inverted : ℕ

-- it stands so before the element at this place
pub record IsAt (damage : Damage) (now : Damager) (place : ℕ) : Type 0 where
  pub kind : now.kind ≡ damage.kind
  pub begin : now.begin ≡ 7 * damage.from - place
  pub end : now.end ≡ 7 * (damage.from + damage.count) - place
  pub phase : now.phase ≡ place % 14

-- these bytes are the text of a line of an air file that says this
pub record IsText (kind : LineKind) (text : List ℕ) : Type 0 where
  pub line : Line
  pub good : IsLine line
  pub kind_is : kind ≡ kind_of line
  pub spelled : text ≡ spelling line

-- what a line says is that it has elements on channel 0, and so many bytes stand before its digits
pub record HasDigitsFrom (kind : LineKind) (start : ℕ) : Type 0 where
  pub mark : Option Channel
  pub elements : kind ≡ Elements mark
  pub belongs : channel_of mark ≡ Zero
  pub front : start ≡ 2 + length (mark_bytes mark)

-- one of the elements that are named: the first, or one that stands a multiple of the stride after
-- it, before the end
pub record IsAmong (named : Named) (i : ℕ) : Type 0 where
  pub from : named.first ≤ i
  pub before : i < named.end
  pub by_strides : (i - named.first) % named.stride ≡ 0

-- of these elements just those are inverted that are named
abbrev pub AreNamed : Damage → ℕ → Named → List Bool → Type 0
AreNamed damage place named bits =
    (i : ℕ) → i < length bits → IsTrue (inverts damage (place + i)) ↔ IsAmong named i

-- it stands so after these lines; its count goes up to the greatest number of 64 bits
pub record StandsAfter (damage : Damage) (now : Damager) (lines : List Line) : Type 0 where
  pub at : IsAt damage now (length (flat_map (elements_on Zero) lines))
  pub counted : now.inverted
      ≡ min (inverted_count damage 0 (flat_map (elements_on Zero) lines)) (2 ^ 64 - 1)

-- and gave them, damaged, to be written
pub record IsDamaging (damage : Damage) (now : Damager) (old new : Option (List ℕ))
    (batch : Waiting) (lines : List Line) : Type 0 where
  pub stands : StandsAfter damage now lines
  pub given : HasGiven old new batch (damaged_file damage lines)

-- it stands so before the first element, for a damage
abbrev pub first_for : Damage → Damager
first_for damage = record {
  kind = damage.kind;
  begin = 7 * damage.from;
  end = 7 * damage.from + 7 * damage.count;
  phase = 0;
  inverted = 0;
}
