pub mod Best
pub mod Example
pub mod ExampleSays
pub mod LargestGap
pub mod CountBound
pub mod ExampleAnswers
pub mod Needs
