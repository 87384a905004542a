pub mod Mend
pub mod PartedTree
pub mod Puts
pub mod Way
