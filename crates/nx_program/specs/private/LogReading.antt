-- How the program reads the options of `log` (this profile).
use Rattle.std.specs.Prelude.{◌≡◌, ◌≤◌, ⊤, List, Some, string_bytes}
use Rattle.nx_log.specs.LogRun.{most_read}
use Rattle.nx_program.specs.declared.log_arguments.ReadAs.{ReadAs}
use Rattle.nx_program.specs.declared.log_arguments.ReadAs.TheVariants.{Kept as AsKept, Log as AsLog}
use Rattle.clap.specs.Words.{Row, Text}
use Rattle.nx_program.specs.LogArguments.{IsReported, IsUnfit, given_to}
use Rattle.nx_program.specs.declared.log_arguments.LogOption.{LogOption}
use Rattle.nx_program.specs.declared.arguments.ArgumentsFault.{ArgumentsFault}
use Rattle.nx_program.specs.declared.arguments.ArgumentsFault.TheVariants.{Memory, Value}

-- the option was given a text that means nothing
abbrev pub IsWrong : {T : Type 0} → (Text → T → Type 0) → List Row → LogOption → LogOption → Type 0
IsWrong {T} Means values option wrong =
    (wrong ≡ option)
    × ((text : Text) × (given_to option values ≡ Some text) × ((value : T) → ¬ Means text value))

-- an option that was given a text that names nothing
abbrev pub IsUnfitAs : List Row → LogOption → Type 0
IsUnfitAs values option = (text : Text) × IsUnfit values option text

-- why the options ask for nothing: one of them was given a text that names nothing, or two exclude
-- each other, which the report tells; or memory ran out
abbrev pub ExplainsOptions : List Row → ArgumentsFault → Type 0
ExplainsOptions values (Value report) = IsReported values (string_bytes report)
ExplainsOptions values (Memory want) = ⊤
ExplainsOptions values _ = ⊥

-- no more bytes stand before a kept log than are read
abbrev pub IsReadable : ReadAs → Type 0
IsReadable (AsLog damaged) = ⊤
IsReadable (AsKept from) = from ≤ most_read
