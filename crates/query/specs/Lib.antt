pub mod Opened
pub mod Hits
pub mod Queried
pub mod Inner
pub mod Laws
