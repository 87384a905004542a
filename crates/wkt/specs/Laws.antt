pub mod Metres
pub mod PointPut
pub mod LinePut
pub mod TrackLine
pub mod NoPoint
pub mod TrackRead
pub mod TrackFound
pub mod TrackExamples
