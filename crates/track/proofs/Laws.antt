pub mod Cut
pub mod Decides
pub mod Small
pub mod TracksHold
pub mod DefaultCell
