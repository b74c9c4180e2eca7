pub mod Facts
pub mod State
pub mod Least
pub mod Record
pub mod Needs
