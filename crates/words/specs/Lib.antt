pub mod Parts
pub mod Layout
pub mod Words
pub mod Laws
pub mod Inner
