pub mod RunInOrder
pub mod RunFromRaw
pub mod ReadAlike
