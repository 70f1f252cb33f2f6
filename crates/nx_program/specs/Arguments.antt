-- What the arguments of the command line name, by clap's own reading of them (this profile).
use Rattle.std.specs.Prelude.{◌≡◌, ◌≢◌, ◌⊎◌, ◌<◌, ◌≤◌, ◌∷◌, ◌++◌, ◌^◌, ⊤, ℕ, List, [], Some, codes}
use Rattle.std.specs.Prelude.{fold, if◌then◌else◌}
use Rattle.std.specs.Prelude.{Bool, true, false}
use Rattle.std.specs.Str.{bytes_eq}
use Rattle.std.specs.Str.Parse.{IsNumeral, digits_value, without_leading_plus}
use Rattle.clap.specs.Words.{App, IsAmong, Row, Rule, Text, fault_of, first_of, new_app}
use Rattle.clap.specs.Words.{new_rule, one_of, subcommand_of, with_rule, with_subcommand}
use Rattle.clap.specs.Simple.{on_top}
use Rattle.clap.specs.declared.builder.value_parser.ValueParser.TheVariants as parser
use Rattle.clap.specs.declared.error.kind.ErrorKind.{ErrorKind}
use Rattle.clap.specs.declared.error.kind.ErrorKind.TheVariants.{DisplayHelp, DisplayVersion}
use Rattle.nx_code.specs.Reading.{newline}
use Rattle.nx_envelope.specs.Moment.{last_moment}
use Rattle.nx_envelope.specs.declared.letter.Letter.{Letter}
use Rattle.nx_log.specs.declared.writing.form.Form.{Form}
use Rattle.nx_log.specs.declared.queries.query.Query.{Query}
use Rattle.nx_program.specs.LogArguments.{IsForm, IsInOrder, IsQuery, IsReading, IsReported}
use Rattle.nx_program.specs.LogArguments.{flag_rule, has_flag}
use Rattle.nx_program.specs.LogArguments.{log_tree}
use Rattle.nx_program.specs.declared.log_arguments.ReadAs.{ReadAs}
use Rattle.nx_program.specs.declared.arguments.Call.{Call}
use Rattle.nx_program.specs.declared.arguments.Call.TheVariants.{Check, Code, Decode, Encode, Listen}
use Rattle.nx_program.specs.declared.arguments.Call.TheVariants.{Log, Show}
use Rattle.nx_program.specs.declared.arguments.Call.TheVariants.{Damage, Locks, Resume, Save, Send}
use Rattle.nx_program.specs.declared.arguments.Call.TheVariants.{Slots, Watch}
use Rattle.nx_program.specs.declared.arguments.Sendings.{Sendings}
use Rattle.nx_program.specs.declared.arguments.Sendings.TheVariants.{Alone, Together}
use Rattle.nx_station.specs.declared.damaging.DamageKind.{DamageKind}
use Rattle.nx_station.specs.declared.damaging.DamageKind.TheVariants.{Dx, Rx, All}

-- what asks for the help of a command whose name may stand first here, or else of the program: also
-- where `help` stands there, which is no command
abbrev pub help_words : List Text → List Text
help_words [] = codes "--help" ∷ []
help_words (command ∷ rest) =
    if bytes_eq command (codes "help") then codes "--help" ∷ []
    else command ∷ codes "--help" ∷ []

-- The arguments as they are read, of which the first is the program's name: `help` and a command's
-- name is that name and `--help`, whatever stands behind, and `help` alone or twice is `--help`.
abbrev pub as_read : List Text → List Text
as_read (program ∷ word ∷ rest) =
    if bytes_eq word (codes "help") then program ∷ help_words rest else program ∷ word ∷ rest
as_read arguments = arguments

-- the name of the command of a call
abbrev pub command_name : Call → Text
command_name Decode = codes "decode"
command_name Encode = codes "encode"
command_name Code = codes "code"
command_name Show = codes "show"
command_name Check = codes "check"
command_name (Listen sendings) = codes "listen"
command_name (Watch sendings name moment) = codes "watch"
command_name Resume = codes "resume"
command_name Save = codes "save"
command_name Locks = codes "locks"
command_name (Send station moment) = codes "send"
command_name (Slots station moment) = codes "slots"
command_name (Damage kind from count) = codes "damage"
command_name (Log query form reading) = codes "log"

-- the name of a kind of damage on the command line
abbrev pub kind_name : DamageKind → Text
kind_name Dx = codes "dx"
kind_name Rx = codes "rx"
kind_name All = codes "all"

-- a command that takes no value
abbrev pub plain_tree : Text → App
plain_tree name = new_app name

-- a command that takes the flag `combine`
abbrev pub sendings_tree : Text → App
sendings_tree name = with_rule (new_app name) (flag_rule (codes "combine"))

-- a value of this name, which is any text and must be given
abbrev pub text_rule : Text → Rule
text_rule name = record (new_rule name) { required = true }

-- a value of this name, which is a whole number up to the most and must be given
abbrev pub number_rule : Text → ℕ → Rule
number_rule name most =
    record (new_rule name) { required = true; parser = Some (parser.Unsigned 0 most) }

-- a command that takes a station and a moment, each of which is any text to clap
abbrev pub slot_tree : Text → App
slot_tree name =
    let with_station = with_rule (new_app name) (text_rule (codes "STATION")) in
    with_rule with_station (text_rule (codes "MOMENT"))

-- a command that takes the flag `combine`, a file and a moment, each of which is any text to clap
abbrev pub file_tree : Text → App
file_tree name =
    let with_file = with_rule (sendings_tree name) (text_rule (codes "FILE")) in
    with_rule with_file (text_rule (codes "MOMENT"))

-- the greatest number of 32 bits
abbrev pub greatest_of_32_bits : ℕ
greatest_of_32_bits = 4294967295

-- a command that takes a kind of damage, the first word and a count of words, each of 32 bits
abbrev pub damage_tree : Text → App
damage_tree name =
    let with_kind = with_rule (new_app name) (text_rule (codes "KIND")) in
    let with_first = with_rule with_kind (number_rule (codes "FROM") greatest_of_32_bits) in
    with_rule with_first (number_rule (codes "COUNT") greatest_of_32_bits)

-- the program without its commands: one of them must be given, unless the version is asked for, and
-- clap's own command `help` is none
abbrev pub bare_tree : App
bare_tree = on_top (λ s. record s {
  disable_help_subcommand = true;
  subcommand_required = true;
  has_version = true;
}) (new_app (codes "navtex"))

-- What a command takes, and the call that it makes of it. It takes nothing; or how sendings are
-- taken; or a station and a moment; or how sendings are taken, a file and a moment; or a kind of
-- damage and two numbers; or the options of a query, of a form and of how a log is read.
pub data Maker : Type 0 where
  plain : Call → Maker
  by_sendings : (Sendings → Call) → Maker
  slot : (Letter → ℕ → Call) → Maker
  on_file : (Sendings → Text → ℕ → Call) → Maker
  range : (DamageKind → ℕ → ℕ → Call) → Maker
  options : (Query → Form → ReadAs → Call) → Maker

-- the command tree of a command of this name
abbrev pub tree_of : Text → Maker → App
tree_of name (plain call) = plain_tree name
tree_of name (by_sendings make) = sendings_tree name
tree_of name (slot make) = slot_tree name
tree_of name (on_file make) = file_tree name
tree_of name (range make) = damage_tree name
tree_of name (options make) = log_tree name

-- a row of the table of commands: the name of a command, what it takes, and the call that it makes
-- of it
abbrev pub CommandRow : Type 0
CommandRow = Text × Maker

-- the commands of the program, in the order in which help lists them
abbrev pub command_rows : List CommandRow
command_rows =
    (codes "listen", by_sendings Listen) ∷ (codes "watch", on_file Watch)
    ∷ (codes "log", options Log) ∷ (codes "send", slot Send)
    ∷ (codes "resume", plain Resume) ∷ (codes "save", plain Save)
    ∷ (codes "locks", plain Locks) ∷ (codes "slots", slot Slots)
    ∷ (codes "check", plain Check) ∷ (codes "damage", range Damage)
    ∷ (codes "decode", plain Decode) ∷ (codes "encode", plain Encode) ∷ (codes "show", plain Show)
    ∷ (codes "code", plain Code) ∷ []

-- the command tree of the program
abbrev pub navtex : App
navtex =
    fold (λ (tree : App) (row : CommandRow). with_subcommand tree (tree_of row.0 row.1).top)
    bare_tree command_rows

-- the value of STATION is this letter alone
abbrev pub IsStation : List Row → Letter → Type 0
IsStation values station = first_of (codes "STATION") values ≡ Some (station.byte ∷ [])

-- the value of FILE is this name, which is any text
abbrev pub IsFile : List Row → Text → Type 0
IsFile values name = first_of (codes "FILE") values ≡ Some name

-- the value of KIND names this kind of damage
abbrev pub IsKind : List Row → DamageKind → Type 0
IsKind values kind = first_of (codes "KIND") values ≡ Some (kind_name kind)

-- the value of this name is this number, below 2 ^ 64: one decimal digit or more, before which a
-- plus may stand
pub record IsNumber (name : Text) (values : List Row) (number : ℕ) : Type 0 where
  pub text : Text
  pub given : one_of name values ≡ Some text
  pub numeral : IsNumeral 10 (without_leading_plus text)
  pub value : number ≡ digits_value 10 (without_leading_plus text)
  pub fits : number < 2 ^ 64

-- the text says this moment in whole seconds since 1970, up to the last one: one decimal digit or
-- more, before which a plus may stand
pub record SaysMoment (text : Text) (moment : ℕ) : Type 0 where
  pub numeral : IsNumeral 10 (without_leading_plus text)
  pub value : moment ≡ digits_value 10 (without_leading_plus text)
  pub in_range : moment ≤ last_moment

-- the value of MOMENT says this moment
pub record IsMoment (values : List Row) (moment : ℕ) : Type 0 where
  pub text : Text
  pub given : first_of (codes "MOMENT") values ≡ Some text
  pub said : SaysMoment text moment

-- the values are this station and this moment
abbrev pub HasStationAndMoment : List Row → Letter → ℕ → Type 0
HasStationAndMoment values station moment = IsStation values station × IsMoment values moment

-- how sendings are taken, by the flag that asks to take them together
abbrev pub sendings_of : Bool → Sendings
sendings_of true = Together
sendings_of false = Alone

-- the values ask to take sendings so
abbrev pub AsksSendings : List Row → Sendings → Type 0
AsksSendings values sendings = sendings_of (has_flag (codes "combine") values) ≡ sendings

-- the values are those that the call has; of a call that has none, nothing is said
abbrev pub HasValues : Call → List Row → Type 0
HasValues (Listen sendings) values = AsksSendings values sendings
HasValues (Send station moment) values = HasStationAndMoment values station moment
HasValues (Slots station moment) values = HasStationAndMoment values station moment
HasValues (Watch sendings name moment) values =
    AsksSendings values sendings × IsFile values name × IsMoment values moment
HasValues (Damage kind from count) values =
    IsKind values kind × IsNumber (codes "FROM") values from
    × IsNumber (codes "COUNT") values count
HasValues (Log query form reading) values =
    IsQuery values query × IsInOrder query × IsForm values form × IsReading values reading
HasValues _ values = ⊤

-- the arguments, of which the first is the program's name, name the call: clap finds no fault in
-- them and enters the call's command with the call's values
pub record Names (arguments : List Text) (call : Call) : Type 0 where
  pub taken : fault_of navtex arguments ≡ []
  pub values : List Row
  pub command : subcommand_of navtex arguments ≡ Some (command_name call, values)
  pub given : HasValues call values

-- clap answers the arguments with help
abbrev pub AsksForHelp : List Text → Type 0
AsksForHelp arguments = IsAmong DisplayHelp (fault_of navtex arguments)

-- clap answers the arguments with the version
abbrev pub AsksForVersion : List Text → Type 0
AsksForVersion arguments = IsAmong DisplayVersion (fault_of navtex arguments)

-- an answer of this kind is neither help nor the version
abbrev pub IsRefusal : ErrorKind → Type 0
IsRefusal kind = (kind ≢ DisplayHelp) × (kind ≢ DisplayVersion)

-- clap refuses the arguments
abbrev pub IsRefusedByClap : List Text → Type 0
IsRefusedByClap arguments =
    (kind : ErrorKind) × IsRefusal kind × IsAmong kind (fault_of navtex arguments)

-- clap takes the arguments, which enter a command that wants a station, and STATION is not one
-- letter A to Z
pub record LacksStation (arguments : List Text) : Type 0 where
  pub taken : fault_of navtex arguments ≡ []
  pub values : List Row
  pub entered : (subcommand_of navtex arguments ≡ Some (codes "send", values))
      ⊎ (subcommand_of navtex arguments ≡ Some (codes "slots", values))
  pub no_letter : (letter : Letter) → ¬ IsStation values letter

-- clap takes the arguments, which enter the command `damage`, and KIND is none of its kinds
pub record LacksKind (arguments : List Text) : Type 0 where
  pub taken : fault_of navtex arguments ≡ []
  pub values : List Row
  pub entered : subcommand_of navtex arguments ≡ Some (codes "damage", values)
  pub no_kind : (kind : DamageKind) → ¬ IsKind values kind

-- clap takes the arguments, which enter the command `log`, and an option was given a text that
-- names nothing, or two options exclude each other, as this report says
pub record LacksValue (arguments : List Text) (report : Text) : Type 0 where
  pub taken : fault_of navtex arguments ≡ []
  pub values : List Row
  pub entered : subcommand_of navtex arguments ≡ Some (codes "log", values)
  pub reported : IsReported values report

-- the name of a command that takes a moment
abbrev pub TakesMoment : Text → Type 0
TakesMoment name = (name ≡ codes "send") ⊎ ((name ≡ codes "slots") ⊎ (name ≡ codes "watch"))

-- the text that reports a MOMENT that says none, as clap reports a wrong value: what is wanted, and
-- what gives the moment now
abbrev pub moment_report : Text → Text
moment_report text =
    codes "error: invalid value '" ++ text ++ codes "' for '<MOMENT>'" ++ newline ∷ newline
    ∷ codes "  tip: MOMENT is whole seconds since 1970-01-01 00:00:00 UTC, 0 to 32503679999;"
    ++ codes " $(date +%s) gives now" ++ newline ∷ newline
    ∷ codes "For more information, try '--help'." ++ newline ∷ []

-- MOMENT was given a text that says no moment, and this is its report
pub record IsReportedMoment (values : List Row) (report : Text) : Type 0 where
  pub text : Text
  pub given : first_of (codes "MOMENT") values ≡ Some text
  pub no_moment : (moment : ℕ) → ¬ SaysMoment text moment
  pub told : report ≡ moment_report text

-- clap takes the arguments, which enter a command that takes a moment, and MOMENT says none, as
-- this report says
pub record LacksMoment (arguments : List Text) (report : Text) : Type 0 where
  pub taken : fault_of navtex arguments ≡ []
  pub name : Text
  pub values : List Row
  pub entered : subcommand_of navtex arguments ≡ Some (name, values)
  pub takes : TakesMoment name
  pub reported : IsReportedMoment values report

-- a text that was given as a value says nothing, as this report says: an option's, or MOMENT; or
-- options exclude each other
abbrev pub HasUnfitValue : List Text → Text → Type 0
HasUnfitValue arguments report = LacksValue arguments report ⊎ LacksMoment arguments report

-- the arguments are refused, by clap, for their station, for their kind of damage, for the value of
-- an option or of MOMENT, or for options that exclude each other
abbrev pub IsRefused : List Text → Type 0
IsRefused arguments =
    IsRefusedByClap arguments
    ⊎ (LacksStation arguments
    ⊎ (LacksKind arguments ⊎ ((report : Text) × HasUnfitValue arguments report)))
