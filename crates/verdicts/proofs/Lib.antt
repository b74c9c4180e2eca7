pub mod DescentLaws
pub mod LeavesLaws
pub mod ReachedExact
pub mod LeavesMean
pub mod VerdictMeans
pub mod VerdictWays
