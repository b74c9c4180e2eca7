pub mod AnswersTo
pub mod SameStores
pub mod SmallerLimits
pub mod Beyond
pub mod MixedCalls
