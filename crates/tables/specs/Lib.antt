pub mod Kinds
pub mod Rows
pub mod Decoding
pub mod TableFault
pub mod Listed
pub mod Faults
