-- The arguments of the command line, as `clap` takes them and as they name a call.
pub mod Arguments
pub mod BuiltTree
pub mod CallValues
pub mod CommandTable
pub mod CommandsTaken
pub mod FaultKinds
pub mod GivenValues
pub mod NumbersGiven
pub mod OneCall
pub mod RowsKept
pub mod TextsGiven
pub mod ValuesRead
