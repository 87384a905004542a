pub mod Entry
pub mod WorkedOut
pub mod Inner
pub mod Laws
