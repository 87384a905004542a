pub mod Metres
pub mod TrackLine
pub mod TrackRead
pub mod Inner
pub mod Laws
