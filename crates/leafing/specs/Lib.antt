pub mod NextLive
pub mod Leafing
pub mod Leafed
pub mod Through
pub mod Inner
pub mod Laws
