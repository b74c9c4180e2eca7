pub mod SheetFacts
pub mod ReadMeans
pub mod SameReading
pub mod CountedSheet
pub mod BlankSheet
pub mod CountWays
pub mod FollowWays
pub mod ReadWays
