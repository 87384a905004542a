pub mod Cut
pub mod Decides
pub mod HullRange
pub mod Small
