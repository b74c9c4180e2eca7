pub mod Limits
pub mod Equations
pub mod Resulting
pub mod IsResulting
pub mod RawOpened
pub mod OpenRaw
pub mod OpensResulting
pub mod OnPaper
