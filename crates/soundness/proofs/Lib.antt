pub mod EntryWays
pub mod SoundWays
mod ZeroParts
