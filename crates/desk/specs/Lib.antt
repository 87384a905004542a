pub mod Talked
pub mod Inner
pub mod Laws
