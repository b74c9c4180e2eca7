pub mod AskingComputes
pub mod CheckingComputes
pub mod Proved
