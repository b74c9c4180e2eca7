pub mod PlaceWays
pub mod InsertWays
pub mod PutWays
pub mod CollectWays
pub mod ResultingWays
