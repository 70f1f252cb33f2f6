-- What damaging an air file on purpose does to it (this profile).
use Rattle.std.specs.Prelude.{◌≡◌, ℕ, ◌+◌, ◌-◌, ◌/◌, ◌%◌, ◌==◌, ◌&&◌, not, nat_lt, if◌then◌else◌, Bool, true, List, [], ◌∷◌, length, Result, Ok, Err}
use Rattle.std.specs.List.{flat_map}
use Rattle.std.specs.Io.KnownBytes.{Appends}
use Rattle.nx_code.specs.Word.{value_of, word_elements}
use Rattle.nx_fec.specs.air_files.AirFile.{Line, elements}
use Rattle.nx_fec.specs.air_files.Channels.{channel_of}
use Rattle.nx_fec.specs.Transfers.{Contents, Devices, Extent, Transfers, WroteSome, contents_of}
use Rattle.nx_fec.specs.Transfers.{line_by_line}
use Rattle.nx_fec.specs.air_files.LineRuns.{HasFaultAfter, HasReadFault, IsCutOnlyAtEnd}
use Rattle.nx_fec.specs.air_files.Lines.{StopsAt, air_limit, IsAirFile, elements_on, file_of}
use Rattle.nx_fec.specs.emissions.Emission.{is_dx_slot}
use Rattle.nx_fec.specs.declared.air_files.channel.Channel.{Channel}
use Rattle.nx_fec.specs.declared.air_files.channel.Channel.TheVariants.{Zero}
use Rattle.nx_fec.specs.declared.fault.LineFault.{LineFault}
use Rattle.nx_fec.specs.declared.fault.LineFault.TheVariants as file
use Rattle.nx_station.specs.declared.damaging.DamageKind.{DamageKind}
use Rattle.nx_station.specs.declared.damaging.DamageKind.TheVariants.{Dx, Rx, All}
use Rattle.nx_station.specs.declared.fault.DamageFault.{DamageFault}
use Rattle.nx_station.specs.declared.fault.DamageFault.TheVariants.{Read, AirTooLong, LineLong, LineCut, BadLine, Write}

-- which words are damaged: those of a kind, among so many from a first one on
pub record Damage : Type 0 where
  pub kind : DamageKind
  pub from : ℕ
  pub count : ℕ

-- whether a kind names a word, where word k stands in slot k
abbrev pub names : DamageKind → ℕ → Bool
names Dx word = is_dx_slot word
names Rx word = not (is_dx_slot word)
names All word = true

-- whether a word is damaged: it isn't before the first one, fewer than so many lie between, and its
-- kind is named
abbrev pub hits : Damage → ℕ → Bool
hits damage word =
    (not (nat_lt word damage.from) && nat_lt (word - damage.from) damage.count)
    && names damage.kind word

-- Whether the element at this place of all elements of channel 0 is inverted: it is the first of a
-- word that is damaged. Words stand one behind the other from the first element on.
abbrev pub inverts : Damage → ℕ → Bool
inverts damage place = (place % word_elements == 0) && hits damage (place / word_elements)

abbrev pub damaged_element : Damage → ℕ → Bool → Bool
damaged_element damage place element = if inverts damage place then not element else element

-- elements of channel 0 after the damage, and how many of them are inverted; the first stands at
-- this place of all
abbrev pub damaged_elements : Damage → ℕ → List Bool → List Bool
damaged_elements damage place [] = []
damaged_elements damage place (element ∷ more) =
    damaged_element damage place element ∷ damaged_elements damage (place + 1) more

abbrev pub inverted_count : Damage → ℕ → List Bool → ℕ
inverted_count damage place [] = 0
inverted_count damage place (element ∷ more) =
    value_of (inverts damage place) + inverted_count damage (place + 1) more

-- elements of a channel after the damage, which befalls channel 0 alone
abbrev pub damaged_on : Channel → Damage → ℕ → List Bool → List Bool
damaged_on Zero damage place bits = damaged_elements damage place bits
damaged_on _ damage place bits = bits

-- Lines after the damage: a line names what it named, and one that has no elements on channel 0 is
-- as it was. Places are counted over the elements of channel 0.
abbrev pub damaged_line : Damage → ℕ → Line → Line
damaged_line damage place (elements mark bits) =
    elements mark (damaged_on (channel_of mark) damage place bits)
damaged_line damage place line = line

abbrev pub damaged_lines : Damage → ℕ → List Line → List Line
damaged_lines damage place [] = []
damaged_lines damage place (line ∷ lines) =
    damaged_line damage place line
    ∷ damaged_lines damage (place + length (elements_on Zero line)) lines

-- the file that is written of lines
abbrev pub damaged_file : Damage → List Line → List ℕ
damaged_file damage lines = file_of (damaged_lines damage 0 lines)

-- what is written of an air file, and the count that is answered
pub record IsDamaged (damage : Damage) (limit : ℕ) (air written : List ℕ) (count : ℕ) : Type 0 where
  pub lines : List Line
  pub file : IsAirFile limit air lines
  pub whole : written ≡ damaged_file damage lines
  pub counted : count ≡ inverted_count damage 0 (flat_map (elements_on Zero) lines)

-- these lines were written, damaged
abbrev pub HasDamaged : Damage → Contents → List Line → Type 0
HasDamaged damage contents lines =
    Appends contents.before contents.after (damaged_file damage lines)

-- The air file has this fault, its first, and the whole lines before it were written, damaged. A
-- cut line comes only where the bytes of this extent are all.
abbrev pub StopsFor : Extent → Damage → List ℕ → Contents → LineFault → Type 0
StopsFor extent damage air contents why =
    IsCutOnlyAtEnd extent.at_end why × HasFaultAfter (HasDamaged damage contents) air why

-- What a fault says of bytes of this extent of the air file. A failed read comes behind whole lines
-- and the beginning of one more, and leaves what follows; a fault of the file is its first. The
-- whole lines before either were written, damaged. After a failed write the first bytes were
-- written of some of the whole lines, damaged, from the first line on.
abbrev pub ExplainsDamaging : Extent → Damage → List ℕ → Contents → DamageFault → Type 0
ExplainsDamaging extent damage air contents Read =
    HasReadFault extent (HasDamaged damage contents) air
ExplainsDamaging extent damage air contents AirTooLong =
    StopsFor extent damage air contents file.TooLong
ExplainsDamaging extent damage air contents (LineLong line) =
    StopsFor extent damage air contents (file.LineLong line)
ExplainsDamaging extent damage air contents (LineCut line) =
    StopsFor extent damage air contents (file.LineCut line)
ExplainsDamaging extent damage air contents (BadLine line) =
    StopsFor extent damage air contents (file.BadLine line)
ExplainsDamaging extent damage air contents (Write written) = StopsAt air (λ lines rest more.
    WroteSome contents.before contents.after (damaged_file damage lines) written)

-- what damaging answers to bytes of this extent of an air file: the count of the elements that it
-- inverted, or a fault
abbrev pub AnswersDamaging : Extent → Damage → List ℕ → Contents → Result ℕ DamageFault → Type 0
AnswersDamaging extent damage air contents (Ok count) =
    extent.at_end × (text : List ℕ) × IsDamaged damage air_limit air text count
    × Appends contents.before contents.after text
AnswersDamaging extent damage air contents (Err fault) =
    ExplainsDamaging extent damage air contents fault

-- A run that damages: it answers so to the bytes that it read, and to the whole file, however it
-- came; and it writes the whole lines that it read before each further read.
abbrev pub Damages : {R W : Type 0} → Damage → Devices R W → Result ℕ DamageFault → Type 0
Damages damage d outcome = Transfers (line_by_line Read (λ written. Write written)) d outcome
    (λ extent air. AnswersDamaging extent damage air (contents_of d) outcome)
