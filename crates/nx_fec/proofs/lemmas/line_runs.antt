-- Runs over lines, step by step.
pub mod ElementsRead
pub mod LineReading
pub mod LineRun
pub mod LinesRead
