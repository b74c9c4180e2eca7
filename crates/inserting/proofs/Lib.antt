pub mod ValueRight
pub mod ValueKnown
pub mod SubjectValue
pub mod PartsInserted
pub mod WalkSteps
pub mod WalkInserts
pub mod TableGood
pub mod AddWays
