pub mod JoinsAlike
pub mod BothAccepted
