pub mod Leaves
pub mod Verdict
pub mod VerdictSays
pub mod Needs
