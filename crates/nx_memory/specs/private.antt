pub mod LetterFlags
pub mod RefusedCode
pub mod RingAndTable
pub mod StateReading
