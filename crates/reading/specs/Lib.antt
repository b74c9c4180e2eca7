pub mod Sheet
pub mod Blanks
pub mod Read
pub mod ReadExactly
pub mod Needs
