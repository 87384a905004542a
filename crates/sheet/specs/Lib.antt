pub mod Bytes
pub mod Sheet
pub mod WellFormed
pub mod Inner
pub mod Laws
