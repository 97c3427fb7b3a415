-- The modules of this folder.
pub mod Grammar
pub mod Places
pub mod Resuming
pub mod Contents
pub mod Scanning
pub mod Reading
pub mod Columns
pub mod LabelColumns
pub mod Verbs
pub mod Adding
pub mod RoundTrip
pub mod Writing
pub mod Faults
pub mod Found
pub mod AnswerText
pub mod Stored
pub mod StationText
