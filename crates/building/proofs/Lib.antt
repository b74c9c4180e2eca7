pub mod CallWays
