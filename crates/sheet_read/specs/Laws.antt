pub mod ThereAndBack
pub mod Filling
pub mod ReadingSteps
