pub mod ReadingSteps
pub mod Filling
