pub mod FieldSets
pub mod LowerParts
