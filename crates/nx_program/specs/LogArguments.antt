-- What the options of `navtex log` ask for, as clap reads them (this profile).
use Rattle.std.specs.Prelude.{◌≡◌, ◌⊎◌, ◌∷◌, ◌+◌, ◌++◌, ◌<◌, ◌≤◌, ⊤, ℕ, Bool, List, [], Option, Some, None, codes, true, false, unwrap_or}
use Rattle.std.specs.FinSet as set
use Rattle.std.specs.Option.{option_map_or}
use Rattle.std.specs.Ordering.{nat_cmp}
use Rattle.std.specs.Str.{bytes_eq}
use Rattle.clap.specs.Words.{App, Row, Rule, Text, first_of, new_app, new_rule, with_rule}
use Rattle.clap.specs.declared.builder.action.ArgAction.TheVariants.{SetTrue}
use Rattle.nx_code.specs.Reading.{digit_zero, newline}
use Rattle.nx_fec.specs.air_files.Channels.{channel_number}
use Rattle.nx_fec.specs.declared.air_files.channel.Channel.{Channel}
use Rattle.nx_log.specs.Places.{SaysPlace}
use Rattle.nx_log.specs.Query.{AreLetters, IsSetOf}
use Rattle.nx_log.specs.Times.{IsSince, IsUntil}
use Rattle.nx_log.specs.declared.damage.Damaged.{Damaged}
use Rattle.nx_log.specs.declared.damage.Damaged.TheVariants as damage
use Rattle.nx_log.specs.declared.writing.form.Form.{Form}
use Rattle.nx_log.specs.declared.writing.form.Form.TheVariants as form
use Rattle.nx_log.specs.declared.queries.query.Query.{Query}
use Rattle.nx_program.specs.declared.log_arguments.Clash.{Clash}
use Rattle.nx_program.specs.declared.log_arguments.Clash.TheVariants.{FromWithoutKept, JsonAndKeep, KeptAndSalvage, SinceBehindUntil}
use Rattle.nx_program.specs.declared.log_arguments.LogOption.{LogOption}
use Rattle.nx_program.specs.declared.log_arguments.ReadAs.{ReadAs}
use Rattle.nx_program.specs.declared.log_arguments.ReadAs.TheVariants.{Kept as AsKept, Log as AsLog}
use Rattle.nx_program.specs.declared.log_arguments.LogOption.TheVariants.{Channel as OfChannel, From}
use Rattle.nx_program.specs.declared.log_arguments.LogOption.TheVariants.{Since, Station, Subject}
use Rattle.nx_program.specs.declared.log_arguments.LogOption.TheVariants.{Until}

-- the name of an option that has a value
abbrev pub option_name : LogOption → Text
option_name Station = codes "station"
option_name Subject = codes "subject"
option_name OfChannel = codes "channel"
option_name Since = codes "since"
option_name Until = codes "until"
option_name From = codes "from"

-- what a TIME has to be
abbrev pub time_wanted : Text
time_wanted =
    codes "TIME is 2025-01-01 or '2025-01-01 00:40', in UTC, or seconds since 1970, not of 4 or 8 digits: $(date -ud '12 hours ago' +%s)"

-- what help calls its value
abbrev pub value_name : LogOption → Text
value_name Station = codes "LETTERS"
value_name Subject = codes "LETTERS"
value_name OfChannel = codes "N"
value_name Since = codes "TIME"
value_name Until = codes "TIME"
value_name From = codes "N"

-- what its value has to be
abbrev pub value_wanted : LogOption → Text
value_wanted Station = codes "LETTERS are one letter A to Z or more, as AE, with nothing between them"
value_wanted Subject = codes "LETTERS are one letter A to Z or more, as AE, with nothing between them"
value_wanted OfChannel = codes "N is 0, 1 or 2"
value_wanted Since = time_wanted
value_wanted Until = time_wanted
value_wanted From = codes "N is digits, at most 9223372036854775807"

-- an option with a value, which is any text to clap; it may be left out, and is given at most once
abbrev pub option_rule : LogOption → Rule
option_rule option =
    record (new_rule (option_name option)) { long = Some (option_name option); value_names = 1 }

-- a flag of this name, which may be left out, and is given at most once
abbrev pub flag_rule : Text → Rule
flag_rule name = record (new_rule name) { long = Some name; action = Some SetTrue }

-- a command that takes the options of a query, of a form and of how a log is read, in the order in
-- which help lists them
abbrev pub log_tree : Text → App
log_tree name =
    let with_station = with_rule (new_app name) (option_rule Station) in
    let with_subject = with_rule with_station (option_rule Subject) in
    let with_channel = with_rule with_subject (option_rule OfChannel) in
    let with_since = with_rule with_channel (option_rule Since) in
    let with_until = with_rule with_since (option_rule Until) in
    let with_good = with_rule with_until (flag_rule (codes "good")) in
    let with_last = with_rule with_good (flag_rule (codes "last")) in
    let with_json = with_rule with_last (flag_rule (codes "json")) in
    let with_keep = with_rule with_json (flag_rule (codes "keep")) in
    let with_kept = with_rule with_keep (flag_rule (codes "kept")) in
    let with_from = with_rule with_kept (option_rule From) in
    with_rule with_from (flag_rule (codes "salvage"))

-- the text names these letters and no others
abbrev pub NamesLetters : Text → set.FinSet nat_cmp → Type 0
NamesLetters text letters = AreLetters text × IsSetOf text letters

-- the text names this channel: it is its number, one digit
abbrev pub NamesChannel : Text → Channel → Type 0
NamesChannel text channel = text ≡ (digit_zero + channel_number channel) ∷ []

-- an option that was not given asks for nothing, and one that was given for what its text names
abbrev pub Asks : {T : Type 0} → (Text → T → Type 0) → Option Text → Option T → Type 0
Asks Means None None = ⊤
Asks Means (Some text) (Some value) = Means text value
Asks Means given asked = ⊥

-- the text that an option was given, if any
abbrev pub given_to : LogOption → List Row → Option Text
given_to option values = first_of (option_name option) values

-- whether the flag of this name was given, for which clap notes the text `true`
abbrev pub has_flag : Text → List Row → Bool
has_flag name values =
    option_map_or (λ text. bytes_eq text (codes "true")) (first_of name values) false

-- a query that asks for all entries
abbrev pub all_entries : Query
all_entries = record {
  stations = None;
  subjects = None;
  channel = None;
  since = None;
  until = None;
  good = false;
  last = false;
}

-- The options ask for this query: for all that they name, and for nothing else.
pub record IsQuery (values : List Row) (query : Query) : Type 0 where
  pub stations : Asks NamesLetters (given_to Station values) query.stations
  pub subjects : Asks NamesLetters (given_to Subject values) query.subjects
  pub channel : Asks NamesChannel (given_to OfChannel values) query.channel
  pub since : Asks IsSince (given_to Since values) query.since
  pub until : Asks IsUntil (given_to Until values) query.until
  pub good : query.good ≡ has_flag (codes "good") values
  pub last : query.last ≡ has_flag (codes "last") values

-- the first of two moments, where both are named, isn't later than the last
abbrev pub InOrder : Option ℕ → Option ℕ → Type 0
InOrder (Some first) (Some last) = first ≤ last
InOrder first last = ⊤

-- the query could admit an entry by its moment
abbrev pub IsInOrder : Query → Type 0
IsInOrder query = InOrder query.since query.until

-- the form that they ask for, of which one needs `json`, and one `keep`; there is none for both
abbrev pub form_of : Bool → Bool → Option Form
form_of false false = Some form.Log
form_of true false = Some form.Json
form_of false true = Some form.Kept
form_of true true = None

abbrev pub form_asked : List Row → Option Form
form_asked values = form_of (has_flag (codes "json") values) (has_flag (codes "keep") values)

abbrev pub IsForm : List Row → Form → Type 0
IsForm values form = form_asked values ≡ Some form

-- what they ask to do with bytes that are not of a log
abbrev pub damaged_of : Bool → Damaged
damaged_of true = damage.PassedOver
damaged_of false = damage.Refused

-- as what the input is read, by the flags `kept` and `salvage` and the place that `from` says: as a
-- kept log, behind so many bytes; or as a log, where none is said
abbrev pub reading_of : Bool → Bool → Option ℕ → Option ReadAs
reading_of true false from = Some (AsKept (unwrap_or from 0))
reading_of true true from = None
reading_of false salvage None = Some (AsLog (damaged_of salvage))
reading_of false salvage (Some place) = None

pub record IsReading (values : List Row) (reading : ReadAs) : Type 0 where
  pub from : Option ℕ
  pub said : Asks SaysPlace (given_to From values) from
  pub asked : reading_of (has_flag (codes "kept") values) (has_flag (codes "salvage") values) from
      ≡ Some reading

-- as the value of this option, the text names nothing
abbrev pub NamesNothing : LogOption → Text → Type 0
NamesNothing Station text = (letters : set.FinSet nat_cmp) → ¬ NamesLetters text letters
NamesNothing Subject text = (letters : set.FinSet nat_cmp) → ¬ NamesLetters text letters
NamesNothing OfChannel text = (channel : Channel) → ¬ NamesChannel text channel
NamesNothing Since text = (moment : ℕ) → ¬ IsSince text moment
NamesNothing Until text = (moment : ℕ) → ¬ IsUntil text moment
NamesNothing From text = (place : ℕ) → ¬ SaysPlace text place

-- the option was given a text that names nothing
pub record IsUnfit (values : List Row) (option : LogOption) (text : Text) : Type 0 where
  pub given : given_to option values ≡ Some text
  pub nothing : NamesNothing option text

-- the text that reports it, as clap reports a wrong value: three lines, with an empty one between
-- two of them; the second says what is wanted
abbrev pub value_report : LogOption → Text → Text
value_report option text =
    codes "error: invalid value '" ++ text ++ codes "' for '--" ++ option_name option ++ codes " <"
    ++ value_name option ++ codes ">'" ++ newline ∷ newline ∷ codes "  tip: " ++ value_wanted option
    ++ newline ∷ newline ∷ codes "For more information, try '--help'." ++ newline ∷ []

-- an option was given a text that names nothing, and this is its report
pub record IsReportedValue (values : List Row) (report : Text) : Type 0 where
  pub option : LogOption
  pub text : Text
  pub unfit : IsUnfit values option text
  pub told : report ≡ value_report option text

-- entries are asked for since a moment, and until one before it
pub record IsSinceBehindUntil (values : List Row) : Type 0 where
  pub first : ℕ
  pub since : Asks IsSince (given_to Since values) (Some first)
  pub last : ℕ
  pub until : Asks IsUntil (given_to Until values) (Some last)
  pub behind : last < first

-- two options that exclude each other were given, or one without that which it needs
abbrev pub HasClash : List Row → Clash → Type 0
HasClash values JsonAndKeep =
    (has_flag (codes "json") values ≡ true) × (has_flag (codes "keep") values ≡ true)
HasClash values KeptAndSalvage =
    (has_flag (codes "kept") values ≡ true) × (has_flag (codes "salvage") values ≡ true)
HasClash values FromWithoutKept = (has_flag (codes "kept") values ≡ false)
    × ((text : Text) × (given_to From values ≡ Some text))
HasClash values SinceBehindUntil = IsSinceBehindUntil values

-- what is wrong
abbrev pub clash_told : Clash → Text
clash_told JsonAndKeep = codes "error: the argument '--json' cannot be used with '--keep'"
clash_told KeptAndSalvage = codes "error: the argument '--kept' cannot be used with '--salvage'"
clash_told FromWithoutKept = codes "error: the argument '--from <N>' needs '--kept'"
clash_told SinceBehindUntil =
    codes "error: the time of '--since <TIME>' is later than that of '--until <TIME>'"

-- the text that reports it, as clap reports one
abbrev pub clash_report : Clash → Text
clash_report clash =
    clash_told clash ++ newline ∷ newline ∷ codes "For more information, try '--help'."
    ++ newline ∷ []

-- they were given, and this is their report
pub record IsReportedClash (values : List Row) (report : Text) : Type 0 where
  pub clash : Clash
  pub given : HasClash values clash
  pub told : report ≡ clash_report clash

-- the options ask for nothing, as this report says
abbrev pub IsReported : List Row → Text → Type 0
IsReported values report = IsReportedValue values report ⊎ IsReportedClash values report
