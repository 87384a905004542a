pub mod PointPut
pub mod LinePut
pub mod TrackFound
