-- How the program reads its arguments by clap: the command that it builds, and what it makes of
-- clap's answer (this profile).
use Rattle.std.specs.Prelude.{◌≡◌, ◌≢◌, ◌⊎◌, ⊤, ℕ, List, Option, Some, Result, Ok, Err, false, fold}
use Rattle.std.specs.Prelude.{alloc_error, codes, string_bytes}
use Rattle.clap.specs.Words.{App, Row, Rule, Text, app_of, first_of, kind_of, with_rule}
use Rattle.clap.specs.Words.{with_subcommand}
use Rattle.clap.specs.declared.builder.command.Command.{Command}
use Rattle.clap.specs.declared.builder.command.Command.TheViews.{out-Command}
use Rattle.clap.specs.declared.error.Error.{Error}
use Rattle.clap.specs.declared.error.kind.ErrorKind.TheVariants.{DisplayHelp, DisplayVersion}
use Rattle.clap.specs.declared.error.kind.ErrorKind.TheVariants.{OutOfMemory}
use Rattle.nx_program.specs.Arguments.{AsksForHelp, AsksForVersion, IsRefusal, IsRefusedByClap}
use Rattle.nx_envelope.specs.declared.letter.Letter.{Letter}
use Rattle.nx_fec.specs.Transfers.{CountedDevice}
use Rattle.nx_fec.specs.declared.fault.RunFault.TheVariants as run
use Rattle.nx_station.specs.declared.damaging.DamageKind.{DamageKind}
use Rattle.nx_program.specs.declared.arguments.Call.{Call}
use Rattle.nx_program.specs.declared.arguments.Call.TheVariants as call
use Rattle.nx_program.specs.Arguments.{HasUnfitValue, IsFile, IsKind, IsMoment, IsNumber}
use Rattle.nx_program.specs.Arguments.{IsReportedMoment, IsStation, LacksKind, LacksStation}
use Rattle.nx_program.specs.LogArguments.{log_tree}
use Rattle.nx_program.specs.Program.{Tells, WritesText, version_text}
use Rattle.nx_program.specs.Arguments.{SaysMoment, damage_tree, file_tree, plain_tree}
use Rattle.nx_program.specs.Arguments.{sendings_tree, slot_tree}
use Rattle.nx_program.specs.declared.commands.Row.{Row as TableRow}
use Rattle.nx_program.specs.declared.commands.Takes.{Takes}
use Rattle.nx_program.specs.declared.commands.Takes.TheVariants.{File, Nothing, Query, Range, Sendings, Slot}
use Rattle.nx_program.specs.declared.arguments.ArgumentsFault.{ArgumentsFault}
use Rattle.nx_program.specs.declared.arguments.ArgumentsFault.TheVariants.{Help, Kind, Memory, Refused}
use Rattle.nx_program.specs.declared.arguments.ArgumentsFault.TheVariants.{Station}
use Rattle.nx_program.specs.declared.arguments.ArgumentsFault.TheVariants.{Value, Version}
use Rattle.nx_program.specs.declared.fault.CallFault.{CallFault}
use Rattle.nx_program.specs.declared.fault.CallFault.TheVariants.{Run}
use Rattle.nx_program.specs.declared.fault.Fault.{Fault}
use Rattle.nx_program.specs.declared.fault.Fault.TheVariants as fault

-- the command is built as this tree says
pub record IsBuiltAs (app : App) (command : Command) : Type 0 where
  pub tree : app_of command ≡ app
  pub local : (out-Command command).has_globals ≡ false

-- the new command is built as the old one is, whatever the tree
pub record IsReadAs (old new : Command) : Type 0 where
  pub tree : app_of new ≡ app_of old
  pub local : (out-Command new).has_globals ≡ (out-Command old).has_globals

-- the command tree of a command that takes this
abbrev pub taking_tree : Takes → Text → App
taking_tree Nothing name = plain_tree name
taking_tree Sendings name = sendings_tree name
taking_tree Slot name = slot_tree name
taking_tree File name = file_tree name
taking_tree Range name = damage_tree name
taking_tree Query name = log_tree name

-- the command tree of a row of the program's own table
abbrev pub row_tree : TableRow → App
row_tree row = taking_tree row.takes row.name.now

-- the new command is built as the old one is, with a value of this rule behind its values
abbrev pub AddsRule : Rule → Command → Command → Type 0
AddsRule rule old new = (app : App) → IsBuiltAs app old → IsBuiltAs (with_rule app rule) new

-- the command tree with the commands of these rows
abbrev pub with_rows : App → List TableRow → App
with_rows = fold (λ (tree : App) (row : TableRow). with_subcommand tree (row_tree row).top)

-- why the arguments name no call
abbrev pub ExplainsArguments : List Text → ArgumentsFault → Type 0
ExplainsArguments arguments (Help answer) = AsksForHelp arguments
ExplainsArguments arguments Version = AsksForVersion arguments
ExplainsArguments arguments (Refused answer) = IsRefusedByClap arguments
ExplainsArguments arguments Station = LacksStation arguments
ExplainsArguments arguments Kind = LacksKind arguments
ExplainsArguments arguments (Value report) = HasUnfitValue arguments (string_bytes report)
ExplainsArguments arguments (Memory want) = ⊤

-- an answer of clap is help, the version, want of memory, or a refusal
abbrev pub IsSortedAs : Error → ArgumentsFault → Type 0
IsSortedAs error (Help answer) = (answer ≡ error) × (kind_of error ≡ DisplayHelp)
IsSortedAs error Version = kind_of error ≡ DisplayVersion
IsSortedAs error (Refused answer) =
    (answer ≡ error) × IsRefusal (kind_of error) × (kind_of error ≢ OutOfMemory)
IsSortedAs error Station = ⊥
IsSortedAs error Kind = ⊥
IsSortedAs error (Value report) = ⊥
IsSortedAs error (Memory want) = kind_of error ≡ OutOfMemory

-- the values are not both a station and a moment
abbrev pub LacksSlot : List Row → Type 0
LacksSlot rows = (s : Letter) (m : ℕ) → IsStation rows s → IsMoment rows m → ⊥

-- the values are not both a file and a moment
abbrev pub LacksWatch : List Row → Type 0
LacksWatch rows = (n : Text) (m : ℕ) → IsFile rows n → IsMoment rows m → ⊥

-- the text of MOMENT, if one was given, says a moment
abbrev pub HasFitMoment : List Row → Type 0
HasFitMoment rows = (text : Text) → first_of (codes "MOMENT") rows ≡ Some text
    → (moment : ℕ) × SaysMoment text moment

-- the text of MOMENT was given, and says none
pub record HasUnfitMoment (rows : List Row) (text : Text) : Type 0 where
  pub given : first_of (codes "MOMENT") rows ≡ Some text
  pub no_moment : (moment : ℕ) → ¬ SaysMoment text moment

-- why values make no call of a command that takes a moment: MOMENT says none, which the report
-- tells; or it does, and STATION is no letter; or memory ran out
abbrev pub ExplainsMoment : List Row → ArgumentsFault → Type 0
ExplainsMoment rows (Value report) = IsReportedMoment rows (string_bytes report)
ExplainsMoment rows Station = HasFitMoment rows
ExplainsMoment rows (Memory want) = ⊤
ExplainsMoment rows _ = ⊥

-- the values are not all of a kind of damage, the first word and a count of words
abbrev pub LacksRange : List Row → Type 0
LacksRange rows =
    (k : DamageKind) (f c : ℕ) → IsKind rows k → IsNumber (codes "FROM") rows f
    → IsNumber (codes "COUNT") rows c → ⊥

-- help or the version was asked for, and its text written, whole or as far as the outcome says
abbrev pub GivesAsked : {W : Type 0} → List Text → (W → Option (List ℕ)) → CountedDevice W
    → CountedDevice W → Result (Unit {0}) CallFault → Type 0
GivesAsked arguments contents old new outcome =
    (AsksForHelp arguments
    × Tells (λ why. Run why) (WritesText (λ text. ⊤) contents old new) outcome)
    ⊎ (AsksForVersion arguments
    × Tells (λ why. Run why) (WritesText (λ text. text ≡ version_text) contents old new) outcome)

-- how the program ends where its arguments name no call, by what it did on its output
abbrev pub EndsUncalled : {W : Type 0} → List Text → (W → Option (List ℕ)) → CountedDevice W
    → CountedDevice W → Result (Unit {0}) Fault → Type 0
EndsUncalled arguments contents old new (Ok done) = GivesAsked arguments contents old new (Ok done)
EndsUncalled arguments contents old new (Err (fault.Arguments answer)) =
    IsRefusedByClap arguments × (new ≡ old)
EndsUncalled arguments contents old new (Err fault.NoText) = ⊥
EndsUncalled arguments contents old new (Err fault.Station) =
    LacksStation arguments × (new ≡ old)
EndsUncalled arguments contents old new (Err fault.Kind) = LacksKind arguments × (new ≡ old)
EndsUncalled arguments contents old new (Err (fault.Value report)) =
    HasUnfitValue arguments (string_bytes report) × (new ≡ old)
EndsUncalled arguments contents old new (Err (fault.Watch name why)) = ⊥
EndsUncalled arguments contents old new (Err (fault.Call why)) =
    GivesAsked arguments contents old new (Err why)
    ⊎ ((new ≡ old) × (why ≡ Run (run.Memory alloc_error)))

-- the outcome of a call, as the program tells it
abbrev pub told_of_call : Result (Unit {0}) CallFault → Result (Unit {0}) Fault
told_of_call (Ok done) = Ok tt
told_of_call (Err why) = Err (fault.Call why)

-- the call is neither a watch nor a run over a log
abbrev pub IsOnStreams : Call → Type 0
IsOnStreams (call.Watch sendings name moment) = ⊥
IsOnStreams (call.Log query form damaged) = ⊥
IsOnStreams _ = ⊤
