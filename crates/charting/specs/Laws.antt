pub mod TrackText
pub mod NeverAPoint
pub mod TextPasses
pub mod Charted
