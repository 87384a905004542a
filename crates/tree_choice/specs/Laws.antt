pub mod Area
pub mod Child
pub mod Marks
