pub mod Finished
pub mod Finish
pub mod Settles
pub mod Paths
pub mod Questions
pub mod Insert
pub mod Inserted
