pub mod Area
pub mod Child
pub mod Parting
pub mod Laws
pub mod Inner
