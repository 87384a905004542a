pub mod Search
pub mod CellsLeft
pub mod LiveStep
pub mod LeafingList
