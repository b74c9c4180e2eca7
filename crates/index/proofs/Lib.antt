pub mod ChainLaws
pub mod IndexLaws
pub mod StoreIndex
