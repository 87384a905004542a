pub mod Reads
pub mod Inner
pub mod Laws
