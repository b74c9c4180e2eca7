pub mod DecodedTruth
pub mod RowTruths
pub mod FormedRows
pub mod ListedTruth
pub mod TableTaken
pub mod ListWays
pub mod FaultWays
