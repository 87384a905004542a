pub mod Talking
pub mod Turning
pub mod Running
pub mod Begun
