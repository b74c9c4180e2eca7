pub mod Value
pub mod Walk
pub mod Needs
