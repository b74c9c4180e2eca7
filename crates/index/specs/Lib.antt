pub mod Entries
pub mod Needs
pub mod StoreEntry
