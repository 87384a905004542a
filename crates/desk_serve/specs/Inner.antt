pub mod Asking
pub mod Serving
