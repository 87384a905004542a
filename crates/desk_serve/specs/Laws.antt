pub mod Answered
pub mod WrittenAs
pub mod LineSteps
pub mod Lining
pub mod Asking
pub mod Serving
