pub mod Charted
pub mod Inner
pub mod Laws
