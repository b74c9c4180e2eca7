pub mod WriteBack
pub mod WrittenRow
pub mod Needs
